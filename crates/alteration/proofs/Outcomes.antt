-- What is left by an alteration, from what its steps leave.
use Rattle.std.proofs.Common.{◌≡◌, ℕ, ◌+◌, ◌-◌, ◌*◌, ◌<◌, ◌≤◌, min, Bool, true, false, ◌&&◌, leb, List, length, get_or, set, sym, refl, ap, ◌∙◌, subst, ⊎_elim, arith}
use Rattle.std.proofs.lemmas.List.{length-map, length-set, map-set, get_or-set_other}
use Rattle.std.proofs.lemmas.Bool.{cases_eq, cases_lt, cases_Bool, both_ways, and_parts, and_from}
use Rattle.std.proofs.Math.Bool.{and_comm}
use Rattle.std.proofs.lemmas.Bool.Decides.{nat_tests}
use Rattle.std.proofs.lemmas.Nat.{mul-le}
use Rattle.heights.specs.Tally.{tally}
use Rattle.grid.specs.declared.Place.{Place}
use Rattle.grid.specs.declared.Plan.{Plan}
use Rattle.grid.specs.declared.CellRecord.{CellRecord}
use Rattle.grid.specs.Terrain.{Terrain, heights_of}
use Rattle.grid.specs.Window.{near, reaches, count_at}
use Rattle.sweep.specs.Sweeping.{terrain_of}
use Rattle.sweep.proofs.Cells.{index_inside, height_of_record, heights_length, count_of}
use Rattle.sweep.proofs.Windows.{near_yes}
use Rattle.alteration.specs.declared.part.Part.{Part}
use Rattle.alteration.specs.Altering.{CountedAt, Altered}
use Rattle.alteration.specs.Mending.{Mended, not_above}
use Rattle.alteration.specs.Parts.{Alterable, part_around, indices_of}
use Rattle.alteration.proofs.Counting.{same_cell, changed, own_height, count_near, count_far, count_anew, count_le}
use Rattle.alteration.proofs.Mendings.{InRows, mended_right, count_kept, row_below}

-- cells reach one another
pub reaches_swap : (r x y a b : ℕ) → reaches r (record { x = x; y = y }) (record { x = a; y = b }) ≡ reaches r (record { x = a; y = b }) (record { x = x; y = y })
reaches_swap r x y a b =
    ap (λ t. t && near r y b) (and_comm (leb x (a + r)) (leb a (x + r))) ∙ ap (λ t. near r a x && t) (and_comm (leb y (b + r)) (leb b (y + r)))

-- a cell in reach
pub reaches_yes : (r x y a b : ℕ) → x - r ≤ a → a < x + r + 1 → y - r ≤ b → b < y + r + 1 → reaches r (record { x = x; y = y }) (record { x = a; y = b }) ≡ true
reaches_yes r x y a b p q u v = and_from (near r x a) (near r y b) (near_yes r x a p q) (near_yes r y b u v)

-- how far away a cell in reach is
pub near_parts : (r x a : ℕ) → near r x a ≡ true → (x - r ≤ a) × (a < x + r + 1)
near_parts r x a e = (grind (arith, nat_tests), grind (arith, nat_tests))

-- the part around a place lies in the grid
pub around_lawful : (fitted : ℕ) (plan : Plan) (at : Place) (part : Part) (bottom : ℕ) → Alterable fitted plan at → part ≡ part_around plan at → bottom ≤ part.bottom
    → (part.left ≤ part.right) × (part.right ≤ part.width) × (part.width ≤ 1024) × (bottom ≤ 1024)
around_lawful fitted plan at part bottom ok e low =
    let left = ap (λ (p : Part). p.left) e in
    let right = ap (λ (p : Part). p.right) e in
    let width = ap (λ (p : Part). p.width) e in
    let end = ap (λ (p : Part). p.bottom) e in
    (omega (arith, ok.column), omega arith, omega (arith, ok.wide), omega (arith, ok.deep))

-- the cells of the part around a place have records
pub around_fitted : (fitted : ℕ) (plan : Plan) (at : Place) (part : Part) (bottom : ℕ) → Alterable fitted plan at → part ≡ part_around plan at → bottom ≤ part.bottom → bottom * part.width ≤ fitted
around_fitted fitted plan at part bottom ok e low =
    let end = ap (λ (p : Part). p.bottom) e in
    let under : bottom ≤ plan.rows = omega arith in
    subst (λ (p : Part). bottom * p.width ≤ fitted) (sym e) (omega (arith, mul-le bottom plan.width plan.rows plan.width under (omega arith), ok.whole))

-- the part that is mended is the one around the place, without the rows that are not swept
pub mended_around : {X : Type 0} {le : X → X → Bool} {old new : X} {before after : List (CellRecord X)} (plan : Plan) (at : Place) (part : Part) (bottom : ℕ) → part ≡ part_around plan at → bottom ≡ min part.bottom plan.swept
    → Mended le old new (InRows part bottom) before after → Mended le old new (InRows (part_around plan at) (min (part_around plan at).bottom plan.swept)) before after
mended_around {le = le} {old = old} {new = new} {before = before} {after = after} plan at part bottom e f m =
    subst (λ (p : Part). Mended le old new (InRows p (min p.bottom plan.swept)) before after) e (subst (λ b. Mended le old new (InRows part b) before after) f m)

-- the count that is written is that of the part around the place
pub counted_around : (test : ℕ → Bool) (plan : Plan) (at : Place) (part : Part) (count n : ℕ) → part ≡ part_around plan at → count ≡ n → n ≡ tally test (indices_of part) → count ≡ tally test (indices_of (part_around plan at))
counted_around test plan at part count n e f h = f ∙ (h ∙ ap (λ p. tally test (indices_of p)) e)

-- the records before and after the altered cell's own count was taken anew, if its row is swept
pub record Recounted {X : Type 0} (le : X → X → Bool) (plan : Plan) (at : Place) (height : X) (before after : List (CellRecord X)) : Type 0 where
  pub heights : heights_of after ≡ heights_of before
  pub counted : at.y < plan.swept → (d : CellRecord X) → (get_or after (at.y * plan.width + at.x) d).count ≡ tally (not_above le before height) (indices_of (part_around plan at))
  pub kept : plan.swept ≤ at.y → (d : CellRecord X) → get_or after (at.y * plan.width + at.x) d ≡ get_or before (at.y * plan.width + at.x) d
  pub others : (i : ℕ) (d : CellRecord X) → (i ≡ at.y * plan.width + at.x → ⊥) → get_or after i d ≡ get_or before i d

-- first is read where the old height is, and read where the new one is written
module _ {X : Type 0} (le : X → X → Bool) (plan : Plan) (at : Place) (height : X) (before during after : List (CellRecord X)) (first read : CellRecord X)
    (ok : Alterable (length before) plan at)
    (m : Mended le (get_or before (at.y * plan.width + at.x) first).height height (InRows (part_around plan at) (min (part_around plan at).bottom plan.swept)) before during)
    (again : Recounted le plan at height (set during (at.y * plan.width + at.x) (record { height = height; count = (get_or during (at.y * plan.width + at.x) read).count })) after) where
  abbrev w : ℕ
  w = plan.width

  abbrev index : ℕ
  index = at.y * plan.width + at.x

  abbrev old : X
  old = (get_or before index first).height

  abbrev t : Terrain X
  t = terrain_of plan.width plan.rows before

  inside : index < length before
  inside = index_inside plan.width plan.rows at.x at.y (length before) ok.whole ok.column ok.row

  inside_heights : index < length (heights_of before)
  inside_heights = omega (arith, inside, length-map before (λ c. c.height))

  counts : (i : ℕ) (d : CellRecord X) → (get_or (set during index (record { height = height; count = (get_or during index read).count })) i d).count ≡ (get_or during i d).count
  counts = count_kept during index height read (omega (arith, inside, heights_length before during m.heights))

  -- no cell of the part is in a row that is not swept
  not_swept : (i : ℕ) → plan.swept * w ≤ i → InRows (part_around plan at) (min (part_around plan at).bottom plan.swept) i → ⊥
  not_swept i p s =
      let under : s.row < plan.swept = omega (arith, s.rows.1) in
      let narrow : s.column < w = omega (arith, s.columns.1) in
      omega (arith, row_below s.row plan.swept w under, s.index)

  -- no cell of the part is out of reach
  not_reached : (a b : ℕ) → a < w → reaches plan.radius (record { x = at.x; y = at.y }) (record { x = a; y = b }) ≡ false → InRows (part_around plan at) (min (part_around plan at).bottom plan.swept) (b * w + a) → ⊥
  not_reached a b ina out s =
      let narrow : s.column < w = omega (arith, s.columns.1) in
      let e = same_cell w a b s.column s.row ina narrow s.index in
      both_ways _ out (reaches_yes plan.radius at.x at.y a b (omega (arith, e.0, s.columns.0)) (omega (arith, e.0, s.columns.1)) (omega (arith, e.1, s.rows.0)) (omega (arith, e.1, s.rows.1)))

  -- the altered cell is not out of reach
  not_own : (a b : ℕ) → a < w → reaches plan.radius (record { x = at.x; y = at.y }) (record { x = a; y = b }) ≡ false → b * w + a ≡ index → ⊥
  not_own a b ina out q =
      let e = same_cell w a b at.x at.y ina ok.column q in
      both_ways _ out (reaches_yes plan.radius at.x at.y a b (omega (arith, e.0)) (omega (arith, e.0)) (omega (arith, e.1)) (omega (arith, e.1)))

  written_heights : set (heights_of during) index height ≡ set (heights_of before) index height
  written_heights = ap (λ hs. set hs index height) m.heights

  after_heights : heights_of after ≡ set (heights_of before) index height
  after_heights = again.heights ∙ (map-set (λ c. c.height) during index _ ∙ written_heights)

  after_terrain : terrain_of plan.width plan.rows after ≡ changed t index height
  after_terrain = ap (λ hs. record { width = plan.width; rows = plan.rows; heights = hs }) after_heights

  other_record : (i : ℕ) (d : CellRecord X) → (i ≡ index → ⊥) → get_or after i d ≡ get_or during i d
  other_record i d ne = again.others i d ne ∙ get_or-set_other during index i _ d ne

  keeps_unswept : (i : ℕ) (d : CellRecord X) → plan.swept * w ≤ i → (get_or after i d).count ≡ (get_or before i d).count
  keeps_unswept i d p =
      ⊎_elim
      (λ (q : i ≡ index).
      let low : plan.swept ≤ at.y = ⊎_elim (λ (u : at.y < plan.swept). absurd (omega (arith, row_below at.y plan.swept w u, ok.column))) (λ (v : plan.swept ≤ at.y). v) (cases_lt at.y plan.swept) in
      ap (λ k. (get_or after k d).count) q
      ∙ (count_of (again.kept low d)
      ∙ (counts index d
      ∙ (ap (λ k. (get_or during k d).count) (sym q) ∙ count_of (m.others i d (not_swept i p))))))
      (λ (ne : i ≡ index → ⊥). count_of (other_record i d ne ∙ m.others i d (not_swept i p)))
      (cases_eq i index)

  keeps_beyond : (a b : ℕ) (d : CellRecord X) → a < w → b < plan.rows → reaches plan.radius (record { x = at.x; y = at.y }) (record { x = a; y = b }) ≡ false → get_or after (b * w + a) d ≡ get_or before (b * w + a) d
  keeps_beyond a b d ina inb out = other_record (b * w + a) d (not_own a b ina out) ∙ m.others (b * w + a) d (not_reached a b ina out)

  -- the altered cell's own count
  own_count : (d : CellRecord X) → at.y < plan.swept → (get_or after index d).count ≡ count_at le (changed t index height) plan.radius (record { x = at.x; y = at.y })
  own_count d low =
      let long : length (set (heights_of before) index height) ≡ plan.width * plan.rows = length-set (heights_of before) index height ∙ (length-map before (λ c. c.height) ∙ ok.whole) in
      again.counted low d
      ∙ (ap (λ hs. tally (λ i. le (get_or hs i height) height) (indices_of (part_around plan at))) (map-set (λ c. c.height) during index _ ∙ written_heights)
      ∙ sym (count_anew le (changed t index height) plan.radius at.x at.y height ok.column ok.row long (own_height le t plan.radius at.x at.y old height ok.column inside_heights)))

  -- so it is in the grid as it is then
  own_counted : (d : CellRecord X) → at.y < plan.swept → CountedAt le plan.width plan.rows plan.radius after at.x at.y d
  own_counted d low =
      let goal : Terrain X → Type 0 = λ u. (get_or after index d).count ≡ count_at le u plan.radius (record { x = at.x; y = at.y }) in
      subst goal (sym after_terrain) (own_count d low)

  -- the count of another cell of a swept row
  other_count : (a b : ℕ) (d : CellRecord X) → a < w → b < plan.swept → (b * w + a ≡ index → ⊥) → CountedAt le plan.width plan.rows plan.radius before a b d
      → (get_or after (b * w + a) d).count ≡ count_at le (changed t index height) plan.radius (record { x = a; y = b })
  other_count a b d ina low ne right =
      let r = plan.radius in
      let x = at.x in
      let y = at.y in
      let inb : b < plan.rows = omega (arith, ok.swept_few) in
      let lt = index_inside plan.width plan.rows a b (length before) ok.whole ina inb in
      let h = (get_or before (b * w + a) d).height in
      let own = height_of_record plan.width plan.rows before a b d ina lt in
      let was = height_of_record plan.width plan.rows before x y first ok.column inside in
      let apart : (a ≡ x) × (b ≡ y) → ⊥ = (λ e. ne (ap (λ k. k * w + a) e.1 ∙ ap (λ k. y * w + k) e.0)) in
      ⊎_elim
      (λ (reached : reaches r (record { x = x; y = y }) (record { x = a; y = b }) ≡ true).
      let parts = and_parts (near r x a) (near r y b) reached in
      let columns = near_parts r x a parts.0 in
      let rows = near_parts r y b parts.1 in
      let s : InRows (part_around plan at) (min (part_around plan at).bottom plan.swept) (b * w + a) = record { column = a; row = b; columns = (columns.0, omega (arith, columns.1)); rows = (rows.0, omega (arith, rows.1, ok.swept_few)); index = refl } in
      let few = count_le le t r (record { x = a; y = b }) ok.wide ok.deep in
      let change = count_near le t r x y old height a b h ok.column ok.row inside_heights was ina apart own (sym (reaches_swap r x y a b) ∙ reached) in
      count_of (other_record (b * w + a) d ne ∙ m.inside (b * w + a) d s)
      ∙ mended_right (le height h) (le old h) (get_or before (b * w + a) d).count (count_at le (changed t index height) r (record { x = a; y = b })) (omega (arith, few, right)) (omega (arith, change, right)))
      (λ (out : reaches r (record { x = x; y = y }) (record { x = a; y = b }) ≡ false).
      count_of (keeps_beyond a b d ina inb out)
      ∙ (right ∙ sym (count_far le t r x y old height a b h ok.column ok.row inside_heights was ina apart own (sym (reaches_swap r x y a b) ∙ out))))
      (cases_Bool (reaches r (record { x = x; y = y }) (record { x = a; y = b })))

  -- each count of a swept row that was right is so again
  right_again : (a b : ℕ) (d : CellRecord X) → a < w → b < plan.swept → CountedAt le plan.width plan.rows plan.radius before a b d → CountedAt le plan.width plan.rows plan.radius after a b d
  right_again a b d ina low right =
      let goal : Terrain X → Type 0 = λ u. (get_or after (b * w + a) d).count ≡ count_at le u plan.radius (record { x = a; y = b }) in
      subst goal (sym after_terrain)
      (⊎_elim
      (λ (q : b * w + a ≡ index).
      let e = same_cell w a b at.x at.y ina ok.column q in
      let own = own_count d (omega (arith, e.1)) in
      ap (λ k. (get_or after k d).count) q ∙ (own ∙ (ap (λ k. count_at le (changed t index height) plan.radius (record { x = k; y = at.y })) (sym e.0) ∙ ap (λ k. count_at le (changed t index height) plan.radius (record { x = a; y = k })) (sym e.1))))
      (λ (ne : b * w + a ≡ index → ⊥). other_count a b d ina low ne right)
      (cases_eq (b * w + a) index))

  pub altered : Altered le plan.width plan.rows plan.radius plan.swept at.x at.y height before after
  altered = record {
    heights = after_heights;
    length_is = sym (length-map after (λ c. c.height)) ∙ (ap length after_heights ∙ (length-set (heights_of before) index height ∙ length-map before (λ c. c.height)));
    unswept = keeps_unswept;
    own = own_counted;
    counts = right_again;
    beyond = keeps_beyond;
  }
