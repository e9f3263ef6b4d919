-- The cells of a grid whose heights are all there, and the records that hold them.
use Rattle.std.proofs.Common.{◌≡◌, ℕ, ◌+◌, ◌*◌, ◌<◌, cond, List, [], ◌∷◌, map, length, get_or, set, Some, None, sym, ap, ◌∙◌, arith}
use Rattle.std.specs.Option.{option_to_list}
use Rattle.std.specs.List.{slice_get}
use Rattle.std.proofs.lemmas.Nat.{mul-add-lt}
use Rattle.std.proofs.lemmas.List.{length-map, map-set, set-get_or, get_or-map, get_or-set_same, get_or-set_other}
use Rattle.std.proofs.lemmas.Option.{slice_get-get_or}
use Rattle.std.proofs.lemmas.Bool.{lt-ltb}
use Rattle.grid.specs.declared.CellRecord.{CellRecord}
use Rattle.grid.specs.Terrain.{Terrain, heights_of, height_at}
use Rattle.sweep.specs.Sweeping.{terrain_of}
use Rattle.sweep.specs.Walk.{band_top, band_rows, walked_row, walked_place}

-- the index of a cell is one of a record
pub index_inside : (width rows x y fitted : ℕ) → fitted ≡ width * rows → x < width → y < rows → y * width + x < fitted
index_inside width rows x y fitted whole inx iny = omega (arith, whole, mul-add-lt y width x rows iny inx)

-- the height at a cell is that of its record
pub height_of_record : {X : Type 0} (width rows : ℕ) (records : List (CellRecord X)) (x y : ℕ) (d : CellRecord X) → x < width → y * width + x < length records
    → height_at (terrain_of width rows records) (record { x = x; y = y }) ≡ Some (get_or records (y * width + x) d).height
height_of_record width rows records x y d inx lt =
    ap (λ b. cond b (slice_get (heights_of records) (y * width + x)) None) (lt-ltb x width inx)
    ∙ (slice_get-get_or (heights_of records) (y * width + x) d.height (omega (arith, lt, length-map records (λ c. c.height)))
    ∙ ap Some (get_or-map (λ c. c.height) records (y * width + x) d d.height lt))

-- records with equal heights hold the same grid
pub same_terrain : {X : Type 0} (width rows : ℕ) (before after : List (CellRecord X)) → heights_of after ≡ heights_of before → terrain_of width rows after ≡ terrain_of width rows before
same_terrain width rows before after e = ap (λ hs. record { width = width; rows = rows; heights = hs }) e

-- another count leaves the heights
pub heights_kept : {X : Type 0} (records : List (CellRecord X)) (i n : ℕ) (d : CellRecord X) → i < length records
    → heights_of (set records i (record { height = (get_or records i d).height; count = n })) ≡ heights_of records
heights_kept {X} records i n d lt =
    let f : CellRecord X → X = λ c. c.height in
    let k : CellRecord X = record { height = (get_or records i d).height; count = n } in
    map-set f records i k ∙ (ap (λ x. set (map f records) i x) (sym (get_or-map f records i d d.height lt)) ∙ set-get_or (map f records) i d.height)

-- what it leaves to record a count at an index
pub record Recorded {X : Type 0} (i n : ℕ) (before after : List (CellRecord X)) : Type 0 where
  -- every height is as before
  pub heights : heights_of after ≡ heights_of before
  -- the count is there
  pub count : (d : CellRecord X) → (get_or after i d).count ≡ n
  -- all other records are as before
  pub others : (j : ℕ) (d : CellRecord X) → (j ≡ i → ⊥) → get_or after j d ≡ get_or before j d

-- equal records have equal counts
pub count_of : {X : Type 0} {a b : CellRecord X} → a ≡ b → a.count ≡ b.count
count_of {X} e = ap (λ (c : CellRecord X). c.count) e

-- a count is recorded
pub recorded : {X : Type 0} (records : List (CellRecord X)) (i n : ℕ) (d : CellRecord X) → i < length records
    → Recorded i n records (set records i (record { height = (get_or records i d).height; count = n }))
recorded records i n d lt = record {
  heights = heights_kept records i n d lt;
  count = λ e. count_of (get_or-set_same records i _ e lt);
  others = λ j e apart. get_or-set_other records i j _ e apart;
}

-- records with equal heights are equally many
pub heights_length : {X : Type 0} (before after : List (CellRecord X)) → heights_of after ≡ heights_of before → length after ≡ length before
heights_length before after e = sym (length-map after (λ c. c.height)) ∙ (ap length e ∙ length-map before (λ c. c.height))

-- the height of the j-th cell walked of a column, as a list of one
abbrev pub walked_cell : {X : Type 0} → Terrain X → (r y x j : ℕ) → List X
walked_cell t r y x j = option_to_list (height_at t (walked_place t r y x j))

-- it is the height at the cell's row
pub walked_height : {X : Type 0} (t : Terrain X) (r y x j z : ℕ) (h : X) → z ≡ walked_row (band_top r y) (band_rows t.rows r y) x j → height_at t (record { x = x; y = z }) ≡ Some h
    → walked_cell t r y x j ≡ h ∷ []
walked_height t r y x j z h e f = ap (λ b. option_to_list (height_at t (record { x = x; y = b }))) (sym e) ∙ ap option_to_list f
