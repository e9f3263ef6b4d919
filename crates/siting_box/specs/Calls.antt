-- What each call of a box asks, answers and leaves.
use Rattle.std.specs.Prelude.{◌≡◌, ℕ, ◌+◌, ◌*◌, ◌<◌, Bool, false, cond, ◌&&◌, List, [], ◌∷◌, ◌++◌, map, length, take, drop, is_some, is_ok, Some, None, Ok, Err, Option, Result, ◌==◌, nat_le, nat_lt}
use Rattle.heights.specs.Meaning.{Storage}
use Rattle.counters.specs.Calls.{View}
use Rattle.grid.specs.declared.Higher.{Higher}
use Rattle.grid.specs.declared.Place.{Place}
use Rattle.grid.specs.declared.Plan.{Plan}
use Rattle.grid.specs.declared.CellRecord.{CellRecord}
use Rattle.grid.specs.Nearest.{Nearest}
use Rattle.grid.specs.Sizes.{lawful_sizes}
use Rattle.grid.specs.Window.{count_at, window_size, share_of, share_at}
use Rattle.sweep.specs.Sweeping.{places_needed, Swept}
use Rattle.alteration.specs.Altering.{Altered}
use Rattle.siting_box.specs.declared.denial.Denial.{Denial}
use Rattle.siting_box.specs.declared.denial.Denial.TheVariants.{NoPlan, Sizes, TooFewRecords, Outside, StoredLength, Unread, NoRowLeft, TooFewPlaces, NotSwept, RowsLeft}
use Rattle.siting_box.specs.declared.told.Told.{Told}
use Rattle.pairs.specs.Totals.{cells_and_pairs}
use Rattle.siting_box.specs.Contents.{Contents, plan_terrain, radius_of, is_swept, all_swept, count_on, total_on, Counted}
use Rattle.siting_box.specs.Stored.{read_first}
use Rattle.siting_box.specs.Fresh.{fresh}

-- 1: does the box hold a plan
abbrev pub holds_plan : {X : Type 0} → Contents X → Bool
holds_plan b = is_some b.plan

-- 4: is the cell in the plan
abbrev pub has_cell : Option Plan → (x y : ℕ) → Bool
has_cell None x y = false
has_cell (Some p) x y = nat_lt x p.width && nat_lt y p.rows

-- the plan that has a place, or why there is none: by question 1 or 4
abbrev pub plan_with : {C : Type 0} → Option Plan → Place → Result Plan (Denial C)
plan_with None at = Err NoPlan
plan_with (Some p) at = cond (has_cell (Some p) at.x at.y) (Ok p) (Err Outside)

-- what open asks: 2 the sizes, 3 the records fitted, 5 the number of bytes, 6 that each stored height reads
abbrev pub open_questions : {X C : Type 0} → Storage X C → Contents X → (width rows radius : ℕ) → List ℕ → List (ℕ × Bool)
open_questions k b width rows radius bytes =
    (2, lawful_sizes width rows radius)
    ∷ ((3, nat_le (width * rows) (length b.records))
    ∷ ((5, (length bytes == width * rows * k.wide))
    ∷ ((6, is_ok (read_first k bytes (width * rows))) ∷ [])))

-- what an accepted open leaves: the plan with no row swept, the heights read with counts 0, and the records beyond as they were
pub record Opened {X C : Type 0} (k : Storage X C) (width rows radius : ℕ) (bytes : List ℕ) (before after : Contents X) : Type 0 where
  pub heights : List X
  pub read : read_first k bytes (width * rows) ≡ Ok heights
  pub plan : after.plan ≡ Some (record { width = width; rows = rows; radius = radius; swept = 0 })
  pub records : after.records ≡ map fresh heights ++ drop (width * rows) before.records

-- a denial by question 6 carries a cause and a cell, of which something is said; others carry nothing
abbrev pub Carries : {C : Type 0} → (C → (x y : ℕ) → Type 0) → Denial C → Type 0
Carries P NoPlan = Unit {0}
Carries P Sizes = Unit {0}
Carries P TooFewRecords = Unit {0}
Carries P Outside = Unit {0}
Carries P StoredLength = Unit {0}
Carries P (Unread cause at) = P cause at.x at.y
Carries P NoRowLeft = Unit {0}
Carries P TooFewPlaces = Unit {0}
Carries P NotSwept = Unit {0}
Carries P RowsLeft = Unit {0}

-- the cause and the cell of the first stored height that does not read
abbrev pub FirstUnread : {X C : Type 0} → Storage X C → (width rows : ℕ) → List ℕ → C → (x y : ℕ) → Type 0
FirstUnread k width rows bytes cause x y = (x < width) × (read_first k bytes (width * rows) ≡ Err (y * width + x, cause))

-- what open leaves: a denied open changes nothing
abbrev pub OpenLeaves : {X C : Type 0} → Storage X C → (width rows radius : ℕ) → List ℕ → (before after : Contents X) → Result Unit (Denial C) → Type 0
OpenLeaves k width rows radius bytes before after (Ok answer) = Opened k width rows radius bytes before after
OpenLeaves k width rows radius bytes before after (Err denial) = (after ≡ before) × Carries (FirstUnread k width rows bytes) denial

-- what alter asks: 1 the plan, 4 the cell, 5 the number of bytes, 6 that the stored height reads
abbrev pub alter_questions : {X C : Type 0} → Storage X C → Contents X → (x y : ℕ) → List ℕ → List (ℕ × Bool)
alter_questions k b x y bytes =
    (1, holds_plan b) ∷ ((4, has_cell b.plan x y) ∷ ((5, (length bytes == k.wide)) ∷ ((6, is_ok (k.reads bytes)) ∷ [])))

-- what an accepted alter leaves: the plan as it was, its cells as the alteration of the one cell leaves them, and the records
-- beyond as they were
pub record AlteredPlan {X C : Type 0} (k : Storage X C) (le : X → X → Bool) (x y : ℕ) (bytes : List ℕ) (before after : Contents X) : Type 0 where
  pub plan : Plan
  pub plan_is : before.plan ≡ Some plan
  pub plan_after : after.plan ≡ Some plan
  pub height : X
  pub read : k.reads bytes ≡ Ok height
  pub cells : List (CellRecord X)
  pub records_after : after.records ≡ cells ++ drop (plan.width * plan.rows) before.records
  pub altered : Altered le plan.width plan.rows plan.radius plan.swept x y height (take (plan.width * plan.rows) before.records) cells

-- the cause of the one stored height, and the cell that was to be altered
abbrev pub CellUnread : {X C : Type 0} → Storage X C → (x y : ℕ) → List ℕ → C → (x' y' : ℕ) → Type 0
CellUnread k x y bytes cause x' y' = (k.reads bytes ≡ Err cause) × (x' ≡ x) × (y' ≡ y)

-- what alter leaves: a denied alter changes nothing
abbrev pub AlterLeaves : {X C : Type 0} → Storage X C → (X → X → Bool) → (x y : ℕ) → List ℕ → (before after : Contents X) → Result Unit (Denial C) → Type 0
AlterLeaves k le x y bytes before after (Ok answer) = AlteredPlan k le x y bytes before after
AlterLeaves k le x y bytes before after (Err denial) = (after ≡ before) × Carries (CellUnread k x y bytes) denial

-- 7: is a row left
abbrev pub row_left : Option Plan → Bool
row_left None = false
row_left (Some p) = nat_lt p.swept p.rows

-- 8: has the counter places for the largest window that the plan can have
abbrev pub has_places : Option Plan → ℕ → Bool
has_places None places = false
has_places (Some p) places = nat_le (places_needed p.width p.rows p.radius) places

-- what sweep asks: 1 the plan, 7 the row, 8 the counter's places
abbrev pub sweep_questions : {X : Type 0} → Contents X → ℕ → List (ℕ × Bool)
sweep_questions b places = (1, holds_plan b) ∷ ((7, row_left b.plan) ∷ ((8, has_places b.plan places) ∷ []))

-- a plan with one row more swept
abbrev pub with_row : Plan → Plan
with_row p = record { width = p.width; rows = p.rows; radius = p.radius; swept = p.swept + 1 }

-- what an accepted sweep leaves: the plan with one row more swept, its cells as the sweep of that row leaves them, and the
-- records beyond as they were
pub record SweptPlan {X : Type 0} (le : X → X → Bool) (before after : Contents X) (old new : View X) (mileage : ℕ) : Type 0 where
  pub plan : Plan
  pub plan_is : before.plan ≡ Some plan
  pub plan_after : after.plan ≡ Some (with_row plan)
  pub cells : List (CellRecord X)
  pub records_after : after.records ≡ cells ++ drop (plan.width * plan.rows) before.records
  pub row : Swept le (plan_terrain (Some plan) before.records) plan.radius plan.swept (take (plan.width * plan.rows) before.records) cells old new mileage

-- what sweep leaves: a denied sweep changes nothing
abbrev pub SweepLeaves : {X C : Type 0} → (X → X → Bool) → (before after : Contents X) → (old new : View X) → Result ℕ (Denial C) → Type 0
SweepLeaves le before after old new (Ok mileage) = SweptPlan le before after old new mileage
SweepLeaves le before after old new (Err denial) = (after ≡ before) × (new ≡ old)

-- what tell asks: 1 the plan, 4 the cell, 9 that its row is swept
abbrev pub tell_questions : {X : Type 0} → Contents X → (x y : ℕ) → List (ℕ × Bool)
tell_questions b x y = (1, holds_plan b) ∷ ((4, has_cell b.plan x y) ∷ ((9, is_swept b.plan y) ∷ []))

-- what tell answers: the count on record, which is the defined one in a box whose counts are, and the cells of the window
pub record TellsCount {X : Type 0} (le : X → X → Bool) (b : Contents X) (p : Place) (told : Told) : Type 0 where
  pub on_record : count_on b p ≡ Some told.count
  pub defined : Counted le b → told.count ≡ count_at le (plan_terrain b.plan b.records) (radius_of b.plan) p
  pub cells : told.cells ≡ window_size (plan_terrain b.plan b.records) (radius_of b.plan) p

-- what an accepted tell answers
abbrev pub TellAnswer : {X C : Type 0} → (X → X → Bool) → Contents X → (x y : ℕ) → Result Told (Denial C) → Type 0
TellAnswer le b x y (Ok told) = TellsCount le b (record { x = x; y = y }) told
TellAnswer le b x y (Err denial) = Unit {0}

-- what share asks: what tell asks
abbrev pub share_questions : {X : Type 0} → Contents X → (x y : ℕ) → List (ℕ × Bool)
share_questions b x y = tell_questions b x y

-- what share answers: the share of the count on record, which is that of the defined count in a box whose counts are
pub record TellsShare {X : Type 0} (le : X → X → Bool) (b : Contents X) (p : Place) (share : ℕ) : Type 0 where
  pub count : ℕ
  pub on_record : count_on b p ≡ Some count
  pub share_is : share ≡ share_of count (radius_of b.plan)
  pub defined : Counted le b → share ≡ share_at le (plan_terrain b.plan b.records) (radius_of b.plan) p

-- what an accepted share answers
abbrev pub ShareAnswer : {X C : Type 0} → (X → X → Bool) → Contents X → (x y : ℕ) → Result ℕ (Denial C) → Type 0
ShareAnswer le b x y (Ok share) = TellsShare le b (record { x = x; y = y }) share
ShareAnswer le b x y (Err denial) = Unit {0}

-- what nearest asks: 1 the plan, 4 the cell
abbrev pub nearest_questions : {X : Type 0} → Contents X → (x y : ℕ) → List (ℕ × Bool)
nearest_questions b x y = (1, holds_plan b) ∷ ((4, has_cell b.plan x y) ∷ [])

-- what an accepted nearest answers
abbrev pub NearestAnswer : {X C : Type 0} → (X → X → Bool) → Contents X → (x y : ℕ) → Result (Option Higher) (Denial C) → Type 0
NearestAnswer le b x y (Ok found) = Nearest le (plan_terrain b.plan b.records) (record { x = x; y = y }) found
NearestAnswer le b x y (Err denial) = Unit {0}

-- what total asks: 1 the plan, 10 that all rows are swept
abbrev pub total_questions : {X : Type 0} → Contents X → List (ℕ × Bool)
total_questions b = (1, holds_plan b) ∷ ((10, all_swept b.plan) ∷ [])

-- what total answers: the sum of the counts on record, which in a box whose counts are the defined ones is the number of cells,
-- plus the pairs in reach, plus the level pairs in reach
pub record TellsTotal {X : Type 0} (le : X → X → Bool) (b : Contents X) (total : ℕ) : Type 0 where
  pub on_record : total ≡ total_on b
  pub defined : Counted le b → total ≡ cells_and_pairs le (plan_terrain b.plan b.records) (radius_of b.plan)

-- what an accepted total answers
abbrev pub TotalAnswer : {X C : Type 0} → (X → X → Bool) → Contents X → Result ℕ (Denial C) → Type 0
TotalAnswer le b (Ok total) = TellsTotal le b total
TotalAnswer le b (Err denial) = Unit {0}
