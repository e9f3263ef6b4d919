-- The roughness of a grid with all its heights, as sums over the pairs of cells one above the other and side by side.
use Rattle.std.proofs.Common.{◌≡◌, ℕ, zero, suc, ◌+◌, ◌-◌, ◌*◌, ◌<◌, Bool, true, cond, List, [], ◌∷◌, length, get_or, Some, None, Option, sym, refl, ap, ◌∙◌, mul_comm, arith}
use Rattle.std.specs.List.{slice_get}
use Rattle.std.proofs.lemmas.Nat.{mul-add-lt}
use Rattle.std.proofs.lemmas.Option.{slice_get_past}
use Rattle.std.proofs.lemmas.Bool.{lt-ltb, le-ltb}
use Rattle.heights.specs.Order.{Preorder, level}
use Rattle.counters.specs.Held.{has_level}
use Rattle.counters.specs.Calls.{finger_steps}
use Rattle.counters.proofs.Preorders.{level_self}
use Rattle.grid.specs.Terrain.{Terrain, height_at}
use Rattle.sweep.proofs.Defaults.{height_or, height_is}
use Rattle.sweep.proofs.Totals.{total, total_ext, total_add, total_swap}
use Rattle.grid.specs.Alike.{AllHeights}
use Rattle.ceiling.specs.Roughness.{climb, climbs_from, roughness}
use Rattle.ceiling.proofs.Limit.{down, across}
use Rattle.ceiling.proofs.Sums.{sum_cells, total_but_last}
use Rattle.ceiling.proofs.Travel.{later}

-- a list has each of its heights
pub has_own : {X : Type 0} {le : X → X → Bool} → Preorder le → (xs : List X) (i : ℕ) (d : X) → i < length xs → has_level le xs (get_or xs i d) ≡ true
has_own o [] i d lt = absurd (omega arith)
has_own {le = le} o (x ∷ xs) zero d lt = rw (level_self o x)
has_own {le = le} o (x ∷ xs) (suc i) d lt = later (level le x (get_or xs i d)) (has_level le xs (get_or xs i d)) (has_own o xs i d (omega arith))

climb_beyond : {X : Type 0} (le : X → X → Bool) (hs : List X) (a : Option X) → climb le hs a None ≡ 0
climb_beyond le hs None = refl
climb_beyond le hs (Some a) = refl

-- the climb to a place beyond the edge
climb_none : {X : Type 0} (le : X → X → Bool) (hs : List X) (a b : Option X) → b ≡ None → climb le hs a b ≡ 0
climb_none le hs a b e = ap (climb le hs a) e ∙ climb_beyond le hs a

-- the climb between heights that are there
climb_some : {X : Type 0} (le : X → X → Bool) (hs : List X) (a b : Option X) (x y : X) → a ≡ Some x → b ≡ Some y → climb le hs a b ≡ finger_steps le hs x y
climb_some le hs a b x y e f = ap (λ o. climb le hs o b) e ∙ ap (λ o. climb le hs (Some x) o) f

module _ {X : Type 0} (le : X → X → Bool) (d : X) (t : Terrain X) (all : AllHeights t) where
  -- the climbs in the east and in the south
  abbrev east : ℕ → ℕ → ℕ
  east x y = climb le t.heights (height_at t (record { x = x; y = y })) (height_at t (record { x = x + 1; y = y }))

  abbrev south : ℕ → ℕ → ℕ
  south x y = climb le t.heights (height_at t (record { x = x; y = y })) (height_at t (record { x = x; y = y + 1 }))

  -- a row's climbs in the east
  east_row : (y : ℕ) → y < t.rows → total (λ x. east x y) 0 t.width ≡ total (λ x. across le t.heights (height_or d t) x y) 0 (t.width - 1)
  east_row y iny =
      total_but_last (λ x. east x y) (λ x. across le t.heights (height_or d t) x y) t.width
      (λ x l. climb_some le t.heights (height_at t (record { x = x; y = y })) (height_at t (record { x = x + 1; y = y })) (height_or d t x y) (height_or d t (x + 1) y) (height_is d t all x y (omega arith) iny) (height_is d t all (x + 1) y l iny))
      (λ x e. climb_none le t.heights (height_at t (record { x = x; y = y })) (height_at t (record { x = x + 1; y = y }))
      (ap (λ b. cond b (slice_get t.heights (y * t.width + (x + 1))) None) (le-ltb (x + 1) t.width (omega arith))))

  -- below the last row there is no height
  below_none : (x y : ℕ) → x < t.width → y + 1 ≡ t.rows → height_at t (record { x = x; y = y + 1 }) ≡ None
  below_none x y inx e =
      let size : (y + 1) * t.width ≡ length t.heights = ap (λ k. k * t.width) e ∙ (mul_comm t.rows t.width ∙ sym all) in
      ap (λ b. cond b (slice_get t.heights ((y + 1) * t.width + x)) None) (lt-ltb x t.width inx) ∙ slice_get_past t.heights ((y + 1) * t.width + x) (omega (arith, size))

  -- a column's climbs in the south
  south_column : (x : ℕ) → x < t.width → total (λ y. south x y) 0 t.rows ≡ total (λ y. down le t.heights (height_or d t) x y) 0 (t.rows - 1)
  south_column x inx =
      total_but_last (λ y. south x y) (λ y. down le t.heights (height_or d t) x y) t.rows
      (λ y l. climb_some le t.heights (height_at t (record { x = x; y = y })) (height_at t (record { x = x; y = y + 1 })) (height_or d t x y) (height_or d t x (y + 1)) (height_is d t all x y inx (omega arith)) (height_is d t all x (y + 1) inx l))
      (λ y e. climb_none le t.heights (height_at t (record { x = x; y = y })) (height_at t (record { x = x; y = y + 1 })) (below_none x y inx e))

  -- the roughness: the pairs one above the other and the pairs side by side
  pub roughness_is : roughness le t ≡ total (λ x. total (λ y. down le t.heights (height_or d t) x y) 0 (t.rows - 1)) 0 t.width + total (λ x. total (λ y. across le t.heights (height_or d t) x y) 0 t.rows) 0 (t.width - 1)
  roughness_is =
      let w = t.width in
      let h = t.rows in
      let e0 = sum_cells (climbs_from le t) w h in
      let e1 = total_ext (λ y. total (λ x. east x y + south x y) 0 w) (λ y. total (λ x. east x y) 0 w + total (λ x. south x y) 0 w) 0 h (λ y p q. total_add (λ x. east x y) (λ x. south x y) 0 w) in
      let e2 = total_add (λ y. total (λ x. east x y) 0 w) (λ y. total (λ x. south x y) 0 w) 0 h in
      let e3 = total_ext (λ y. total (λ x. east x y) 0 w) (λ y. total (λ x. across le t.heights (height_or d t) x y) 0 (w - 1)) 0 h (λ y p q. east_row y (omega arith)) in
      let e4 = total_swap (λ y x. across le t.heights (height_or d t) x y) 0 h 0 (w - 1) in
      let e5 = total_swap (λ y x. south x y) 0 h 0 w in
      let e6 = total_ext (λ x. total (λ y. south x y) 0 h) (λ x. total (λ y. down le t.heights (height_or d t) x y) 0 (h - 1)) 0 w (λ x p q. south_column x (omega arith)) in
      omega (arith, e0, e1, e2, e3, e4, e5, e6)

  -- the heights of the cells are among the grid's
  pub cell_seen : Preorder le → (x y : ℕ) → x < t.width → y < t.rows → has_level le t.heights (height_or d t x y) ≡ true
  cell_seen o x y inx iny = has_own o t.heights (y * t.width + x) d (omega (arith, all, mul-add-lt y t.width x t.rows iny inx))
