-- The calls keep this: every count in a swept row is the defined one, and every other count of the plan is 0.
use Rattle.std.proofs.Common.{◌≡◌, ℕ, zero, suc, ◌+◌, ◌*◌, ◌<◌, ◌≤◌, Bool, true, false, cond, eqb, ltb, ◌⊎◌, List, [], ◌∷◌, ◌++◌, map, length, get_or, take, drop, Some, Ok, Err, Result, sym, refl, ap, ◌∙◌, subst, inl, inr, mul-le-mul_right, add-mul, arith, length-append, length-take}
use lib.ListN.{length-map}
use lib.Seq.{take-append_seam}
use Rattle.std.proofs.lemmas.Nat.{mul-add-lt}
use Rattle.std.proofs.lemmas.List.{get_or_append_left, get_or-take, get_or-map}
use Rattle.std.proofs.lemmas.Bool.Decides.{nat_tests}
use Rattle.std.specs.Option.{option_map}
use Rattle.std.specs.List.{slice_get}
use Rattle.heights.specs.Meaning.{Storage}
use Rattle.counters.specs.Calls.{View}
use Rattle.grid.specs.declared.Plan.{Plan}
use Rattle.grid.specs.declared.Place.{Place}
use Rattle.grid.specs.declared.CellRecord.{CellRecord}
use Rattle.grid.specs.Terrain.{Terrain, Inside, reading_index, heights_of}
use Rattle.grid.specs.Window.{count_at}
use Rattle.sweep.specs.Sweeping.{terrain_of, Swept}
use Rattle.alteration.specs.Altering.{Altered}
use Rattle.siting_box.specs.Contents.{Contents, contents, fits_in, well_fitted, plan_terrain, Counted}
use Rattle.siting_box.specs.Stored.{stored_at, read_more, read_first}
use Rattle.siting_box.specs.Fresh.{fresh}
use Rattle.siting_box.specs.declared.denial.Denial.{Denial}
use Rattle.siting_box.specs.Calls.{Opened, OpenLeaves, AlteredPlan, AlterLeaves, SweptPlan, SweepLeaves, with_row}
use Rattle.siting_box.proofs.Plans.{fitting, there, same_some}

-- ---- open

-- so many heights were read
more_read : {X C : Type 0} (i : ℕ) (r : Result (List X) (ℕ × C)) (s : Result X C) (hs : List X) → ((gs : List X) → r ≡ Ok gs → length gs ≡ i) → read_more r i s ≡ Ok hs → length hs ≡ suc i
more_read i (Err e) s hs f e' = cc
more_read i (Ok gs) (Err c) hs f e = cc
more_read i (Ok gs) (Ok h) hs f e =
    let same : gs ++ (h ∷ []) ≡ hs = cc in
    omega (arith, ap length same, length-append gs (h ∷ []), f gs refl)

pub length_read : {X C : Type 0} (k : Storage X C) (bytes : List ℕ) (n : ℕ) (hs : List X) → read_first k bytes n ≡ Ok hs → length hs ≡ n
length_read k bytes zero hs e = let same : [] ≡ hs = cc in omega (arith, ap length same)
length_read k bytes (suc n) hs e = more_read n (read_first k bytes n) (stored_at k bytes n) hs (λ gs f. length_read k bytes n gs f) e

-- a record of a list and more, by its index in the list
front_record : {X : Type 0} (xs ys : List X) (i : ℕ) → i < length xs → (x : X) × (slice_get (xs ++ ys) i ≡ Some x) × ((d : X) → get_or xs i d ≡ x)
front_record xs ys i h =
    let found = there (xs ++ ys) i (omega (arith, length-append xs ys)) in
    (found.0, found.1, λ d. sym (get_or_append_left xs ys d i h) ∙ found.2 d)

opened_counts : {X : Type 0} (le : X → X → Bool) (p : Plan) (hs : List X) (rest : List (CellRecord X)) → p.swept ≡ 0 → length hs ≡ p.width * p.rows → Counted le (contents (Some p) (map fresh hs ++ rest))
opened_counts {X} le p hs rest none long q inside =
    let i = reading_index p.width q in
    let lt : i < length hs = omega (arith, mul-add-lt q.y p.width q.x p.rows inside.1 inside.0) in
    let same_length : length (map (fresh {X = X}) hs) ≡ length hs = length-map _ _ in
    let found = front_record (map fresh hs) rest i (omega arith) in
    let at = there hs i lt in
    let zero-count : found.0.count ≡ 0 = ap (λ (c : CellRecord X). c.count) (sym (found.2 found.0) ∙ get_or-map fresh hs i at.0 found.0 lt) in
    let test : ltb q.y p.swept ≡ false = grind (arith, nat_tests) in
    ap (option_map (λ (c : CellRecord X). c.count)) found.1
    ∙ ap Some zero-count
    ∙ sym (ap (λ b. Some (cond b (count_at le (plan_terrain (Some p) (map fresh hs ++ rest)) p.radius q) 0)) test)

-- after an accepted open no row is swept and every count is 0
pub counted_opened : {X C : Type 0} (le : X → X → Bool) (k : Storage X C) (width rows radius : ℕ) (bytes : List ℕ) (before after : Contents X) → Opened k width rows radius bytes before after → Counted le after
counted_opened {X} le k width rows radius bytes before after o =
    let p : Plan = record { width = width; rows = rows; radius = radius; swept = 0 } in
    let same : contents (Some p) (map fresh o.heights ++ drop (width * rows) before.records) ≡ after = ap (λ q. contents q (map fresh o.heights ++ drop (width * rows) before.records)) (sym o.plan) ∙ ap (contents after.plan) (sym o.records) in
    subst (Counted le) same (opened_counts le p o.heights (drop (width * rows) before.records) refl (length_read k bytes (width * rows) o.heights o.read))

-- ---- sweep

module _ {X : Type 0} (le : X → X → Bool) (p : Plan) (old after : List (CellRecord X)) (v w : View X) (mileage : ℕ) (fit : fits_in p (length old) ≡ true) (s : Swept le (plan_terrain (Some p) old) p.radius p.swept (take (p.width * p.rows) old) after v w mileage) where
  long : length after ≡ p.width * p.rows
  long = s.length_is ∙ length-take (p.width * p.rows) old ∙ omega (arith, (fitting p (length old) fit).recorded)

  -- the heights stand
  same_terrain : plan_terrain (Some (with_row p)) (after ++ drop (p.width * p.rows) old) ≡ plan_terrain (Some p) old
  same_terrain =
      let of-heights : List X → Terrain X = λ hs. record { width = p.width; rows = p.rows; heights = hs } in
      let front : take (p.width * p.rows) (after ++ drop (p.width * p.rows) old) ≡ after = ap (λ m. take m (after ++ drop (p.width * p.rows) old)) (sym long) ∙ take-append_seam after (drop (p.width * p.rows) old) in
      ap of-heights (ap heights_of front ∙ s.heights)

  -- a record of another row is as before
  other_row : (q : Place) → Inside (plan_terrain (Some p) old) q → (q.y ≡ p.swept → ⊥) → (d : CellRecord X) → get_or after (reading_index p.width q) d ≡ get_or old (reading_index p.width q) d
  other_row q inside other d =
      let below : reading_index p.width q < p.width * p.rows = mul-add-lt q.y p.width q.x p.rows inside.1 inside.0 in
      s.others (reading_index p.width q) d (beside q.y p.swept (ltb q.y p.swept) p.width q.x refl inside.0 other) ∙ get_or-take (p.width * p.rows) old (reading_index p.width q) d below
    where
      beside : (y m : ℕ) (b : Bool) (width x : ℕ) → ltb y m ≡ b → x < width → (y ≡ m → ⊥) → (y * width + x < m * width) ⊎ ((m + 1) * width ≤ y * width + x)
      beside y m true width x e h other =
          let lt : y + 1 ≤ m = grind (arith, nat_tests) in
          inl (omega (arith, mul-le-mul_right width lt, add-mul y 1 width))
      beside y m false width x e h other =
          let ge : m ≤ y = grind (arith, nat_tests) in
          let gt : m + 1 ≤ y = omega (arith, other) in
          inr (omega (arith, mul-le-mul_right width gt))

  -- the count of a cell of another row after the sweep
  count_beside : (q : Place) → Inside (plan_terrain (Some p) old) q → Counted le (contents (Some p) old) → (c : CellRecord X) → ((d : CellRecord X) → get_or after (reading_index p.width q) d ≡ c) → (q.y ≡ p.swept → ⊥)
      → c.count ≡ cond (ltb q.y (p.swept + 1)) (count_at le (plan_terrain (Some p) old) p.radius q) 0
  count_beside q inside counted c c-is other =
      let i = reading_index p.width q in
      let N = count_at le (plan_terrain (Some p) old) p.radius q in
      let below : i < p.width * p.rows = mul-add-lt q.y p.width q.x p.rows inside.1 inside.0 in
      let found = there old i (omega (arith, (fitting p (length old) fit).recorded)) in
      let same : c ≡ found.0 = sym (c-is c) ∙ other_row q inside other c ∙ found.2 c in
      let was : Some found.0.count ≡ Some (cond (ltb q.y p.swept) N 0) = sym (ap (option_map (λ (r : CellRecord X). r.count)) found.1) ∙ counted q inside in
      let tests : ltb q.y p.swept ≡ ltb q.y (p.swept + 1) = later q.y p.swept (ltb q.y p.swept) refl other in
      ap (λ (r : CellRecord X). r.count) same ∙ same_some _ _ was ∙ ap (λ b. cond b N 0) tests
    where
      later : (y m : ℕ) (b : Bool) → ltb y m ≡ b → (y ≡ m → ⊥) → ltb y m ≡ ltb y (m + 1)
      later y m true e other = e ∙ sym (let t : ltb y (m + 1) ≡ true = grind (arith, nat_tests) in t)
      later y m false e other =
          let ge : m ≤ y = grind (arith, nat_tests) in
          let gt : m < y = omega (arith, other) in
          e ∙ sym (let t : ltb y (m + 1) ≡ false = grind (arith, nat_tests) in t)

  -- the count of a cell of the swept row after the sweep
  count_in_row : (q : Place) → Inside (plan_terrain (Some p) old) q → (c : CellRecord X) → ((d : CellRecord X) → get_or after (reading_index p.width q) d ≡ c) → q.y ≡ p.swept
      → c.count ≡ cond (ltb q.y (p.swept + 1)) (count_at le (plan_terrain (Some p) old) p.radius q) 0
  count_in_row q inside c c-is here =
      let N : Place → ℕ = count_at le (plan_terrain (Some p) old) p.radius in
      let place : ℕ → Place = λ y. record { x = q.x; y = y } in
      let index : reading_index p.width q ≡ p.swept * p.width + q.x = ap (λ y. y * p.width + q.x) here in
      let counted : (get_or after (p.swept * p.width + q.x) c).count ≡ N (place p.swept) = s.counts q.x c inside.0 in
      let at : get_or after (p.swept * p.width + q.x) c ≡ c = ap (λ j. get_or after j c) (sym index) ∙ c-is c in
      let test : ltb q.y (p.swept + 1) ≡ true = grind (arith, nat_tests) in
      sym (ap (λ (r : CellRecord X). r.count) at) ∙ counted ∙ ap (λ y. N (place y)) (sym here) ∙ sym (ap (λ b. cond b (N q) 0) test)

  count_after : (q : Place) → Inside (plan_terrain (Some p) old) q → Counted le (contents (Some p) old) → (c : CellRecord X) → ((d : CellRecord X) → get_or after (reading_index p.width q) d ≡ c) → (b : Bool) → eqb q.y p.swept ≡ b
      → c.count ≡ cond (ltb q.y (p.swept + 1)) (count_at le (plan_terrain (Some p) old) p.radius q) 0
  count_after q inside counted c c-is true e = count_in_row q inside c c-is (let h : q.y ≡ p.swept = grind (arith, nat_tests) in h)
  count_after q inside counted c c-is false e = count_beside q inside counted c c-is (λ same. let z : eqb q.y p.swept ≡ true = grind (arith, nat_tests) in let y : ◌≡◌ {A = ℕ} 0 1 = cc in omega arith)

  swept_counts : Counted le (contents (Some p) old) → Counted le (contents (Some (with_row p)) (after ++ drop (p.width * p.rows) old))
  swept_counts counted q inside =
      let i = reading_index p.width q in
      let below : i < length after = omega (arith, long, mul-add-lt q.y p.width q.x p.rows inside.1 inside.0) in
      let found = front_record after (drop (p.width * p.rows) old) i below in
      let is = count_after q inside counted found.0 found.2 (eqb q.y p.swept) refl in
      ap (option_map (λ (r : CellRecord X). r.count)) found.1
      ∙ ap Some is
      ∙ ap (λ t. Some (cond (ltb q.y (p.swept + 1)) (count_at le t p.radius q) 0)) (sym same_terrain)

-- an accepted sweep keeps the counts the defined ones
pub counted_swept : {X : Type 0} (le : X → X → Bool) (before after : Contents X) (v w : View X) (mileage : ℕ) → (s : SweptPlan le before after v w mileage) → fits_in s.plan (length before.records) ≡ true → Counted le before → Counted le after
counted_swept le before after v w mileage s fit counted =
    let p = s.plan in
    let was : contents (Some p) before.records ≡ before = ap (λ q. contents q before.records) (sym s.plan_is) in
    let is : contents (Some (with_row p)) (s.cells ++ drop (p.width * p.rows) before.records) ≡ after = ap (λ q. contents q (s.cells ++ drop (p.width * p.rows) before.records)) (sym s.plan_after) ∙ ap (contents after.plan) (sym s.records_after) in
    subst (Counted le) is (swept_counts le p before.records s.cells v w mileage fit s.row (subst (Counted le) (sym was) counted))

-- ---- alter

module _ {X : Type 0} (le : X → X → Bool) (p : Plan) (old after : List (CellRecord X)) (x y : ℕ) (height : X) (fit : fits_in p (length old) ≡ true) (s : Altered le p.width p.rows p.radius p.swept x y height (take (p.width * p.rows) old) after) where
  all_there : length after ≡ p.width * p.rows
  all_there = s.length_is ∙ length-take (p.width * p.rows) old ∙ omega (arith, (fitting p (length old) fit).recorded)

  -- the grid after the alteration
  terrain_after : plan_terrain (Some p) (after ++ drop (p.width * p.rows) old) ≡ terrain_of p.width p.rows after
  terrain_after =
      let of-heights : List X → Terrain X = λ hs. record { width = p.width; rows = p.rows; heights = hs } in
      let front : take (p.width * p.rows) (after ++ drop (p.width * p.rows) old) ≡ after = ap (λ m. take m (after ++ drop (p.width * p.rows) old)) (sym all_there) ∙ take-append_seam after (drop (p.width * p.rows) old) in
      ap of-heights (ap heights_of front)

  -- the count of a cell after the alteration, by whether its row is swept
  mended_on_record : (q : Place) (b : Bool) → ltb q.y p.swept ≡ b → Inside (plan_terrain (Some p) old) q → (c c' : CellRecord X) → ((d : CellRecord X) → get_or (take (p.width * p.rows) old) (reading_index p.width q) d ≡ c) → ((d : CellRecord X) → get_or after (reading_index p.width q) d ≡ c')
      → c.count ≡ cond b (count_at le (plan_terrain (Some p) old) p.radius q) 0 → c'.count ≡ cond b (count_at le (terrain_of p.width p.rows after) p.radius q) 0
  mended_on_record q true e inside c c' is is' was =
      let lt : q.y < p.swept = grind (arith, nat_tests) in
      let count : CellRecord X → ℕ = λ r. r.count in
      sym (ap count (is' c)) ∙ s.counts q.x q.y c inside.0 lt (ap count (is c) ∙ was)
  mended_on_record q false e inside c c' is is' was =
      let ge : p.swept ≤ q.y = grind (arith, nat_tests) in
      let count : CellRecord X → ℕ = λ r. r.count in
      sym (ap count (is' c)) ∙ s.unswept (reading_index p.width q) c (omega (arith, mul-le-mul_right p.width ge)) ∙ ap count (is c) ∙ was

  altered_counts : Counted le (contents (Some p) old) → Counted le (contents (Some p) (after ++ drop (p.width * p.rows) old))
  altered_counts counted q inside =
      let i = reading_index p.width q in
      let below : i < p.width * p.rows = mul-add-lt q.y p.width q.x p.rows inside.1 inside.0 in
      let found = there old i (omega (arith, (fitting p (length old) fit).recorded)) in
      let found' = front_record after (drop (p.width * p.rows) old) i (omega (arith, all_there)) in
      let was : Some found.0.count ≡ Some (cond (ltb q.y p.swept) (count_at le (plan_terrain (Some p) old) p.radius q) 0) = sym (ap (option_map (λ (r : CellRecord X). r.count)) found.1) ∙ counted q inside in
      let is = mended_on_record q (ltb q.y p.swept) refl inside found.0 found'.0 (λ d. get_or-take (p.width * p.rows) old i d below ∙ found.2 d) found'.2 (same_some _ _ was) in
      ap (option_map (λ (r : CellRecord X). r.count)) found'.1
      ∙ ap Some is
      ∙ ap (λ t. Some (cond (ltb q.y p.swept) (count_at le t p.radius q) 0)) (sym terrain_after)

-- an accepted alter keeps the counts the defined ones
counted_altered : {X C : Type 0} (k : Storage X C) (le : X → X → Bool) (x y : ℕ) (bytes : List ℕ) (before after : Contents X) → (s : AlteredPlan k le x y bytes before after) → fits_in s.plan (length before.records) ≡ true → Counted le before → Counted le after
counted_altered k le x y bytes before after s fit counted =
    let p = s.plan in
    let was : contents (Some p) before.records ≡ before = ap (λ q. contents q before.records) (sym s.plan_is) in
    let is : contents (Some p) (s.cells ++ drop (p.width * p.rows) before.records) ≡ after = ap (λ q. contents q (s.cells ++ drop (p.width * p.rows) before.records)) (sym s.plan_after) ∙ ap (contents after.plan) (sym s.records_after) in
    subst (Counted le) is (altered_counts le p before.records s.cells x y s.height fit s.altered (subst (Counted le) (sym was) counted))

-- ---- all of them

-- alter keeps the counts the defined ones, accepted or not
pub alter_keeps : {X C : Type 0} (k : Storage X C) (le : X → X → Bool) (x y : ℕ) (bytes : List ℕ) (before after : Contents X) (r : Result Unit (Denial C)) → AlterLeaves k le x y bytes before after r → well_fitted before.plan (length before.records) ≡ true → Counted le before → Counted le after
alter_keeps k le x y bytes before after (Ok done) s fit counted =
    counted_altered k le x y bytes before after s (subst (λ o. well_fitted o (length before.records) ≡ true) s.plan_is fit) counted
alter_keeps k le x y bytes before after (Err denial) leaves fit counted = subst (Counted le) (sym leaves.0) counted

-- open keeps the counts the defined ones, accepted or not
pub open_keeps : {X C : Type 0} (le : X → X → Bool) (k : Storage X C) (width rows radius : ℕ) (bytes : List ℕ) (before after : Contents X) (r : Result Unit (Denial C)) → OpenLeaves k width rows radius bytes before after r → Counted le before → Counted le after
open_keeps le k width rows radius bytes before after (Ok done) leaves counted = counted_opened le k width rows radius bytes before after leaves
open_keeps le k width rows radius bytes before after (Err denial) leaves counted = subst (Counted le) (sym leaves.0) counted

-- so does sweep, of a box whose plan fits
pub sweep_keeps : {X C : Type 0} (le : X → X → Bool) (before after : Contents X) (v w : View X) (r : Result ℕ (Denial C)) → SweepLeaves le before after v w r → well_fitted before.plan (length before.records) ≡ true → Counted le before → Counted le after
sweep_keeps le before after v w (Ok mileage) s fit counted =
    counted_swept le before after v w mileage s (subst (λ o. well_fitted o (length before.records) ≡ true) s.plan_is fit) counted
sweep_keeps le before after v w (Err denial) leaves fit counted = subst (Counted le) (sym leaves.0) counted
