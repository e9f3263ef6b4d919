-- What grids that are alike have in common: the counts, the nearest higher cells, and the totals.
use Rattle.std.proofs.Common.{◌≡◌, ℕ, ◌≤◌, Bool, true, false, cond, not, ◌&&◌, List, [], ◌∷◌, is_some, Some, None, sum_by, Option, sym, refl, ap, ◌∙◌, arith}
use Rattle.std.specs.List.{AllByRecursion as All}
use Rattle.std.proofs.ByRecursion.{All-weaker}
use Rattle.std.proofs.lemmas.Bool.{both_ways}
use Rattle.heights.specs.Tally.{tally}
use Rattle.grid.specs.declared.Place.{Place}
use Rattle.grid.specs.declared.Higher.{Higher}
use Rattle.grid.specs.Terrain.{Terrain, Inside, cells, reading_index, height_at}
use Rattle.grid.specs.Window.{reaches, is_not_higher, window_size, count_at, share_of}
use Rattle.grid.specs.Nearest.{is_higher, NearestHigher}
use Rattle.pairs.specs.Pairs.{cell_pairs, are_level, level_pairs, total_count}
use Rattle.pairs.proofs.Sums.{sum_same, all_pairs}
use Rattle.pairs.proofs.Grids.{all_cells, height_there}
use Rattle.grid.specs.Alike.{Alike}
use Rattle.agreement.specs.Ranking.{CountsAgree, NearestAgree, TotalsAgree}
use Rattle.agreement.proofs.Places.{same_index}

-- tests that agree on a list count alike
tally_same : {X : Type 0} (f g : X → Bool) (xs : List X) → All (λ x. f x ≡ g x) xs → tally f xs ≡ tally g xs
tally_same f g [] e = refl
tally_same f g (x ∷ xs) e = let bit : Bool → ℕ = λ b. cond b 1 0 in omega (arith, ap bit e.0, tally_same f g xs e.1)

-- grids of the same size have the same cells
cells_same : (w w' r r' : ℕ) → w ≡ w' → r ≡ r' → cells w r ≡ cells w' r'
cells_same w w' r r' ew er = ap (λ n. cells n r) ew ∙ ap (λ n. cells w' n) er

-- the same for the pairs of cells
pairs_same : (w w' r r' : ℕ) → w ≡ w' → r ≡ r' → cell_pairs w r ≡ cell_pairs w' r'
pairs_same w w' r r' ew er = ap (λ n. cell_pairs n r) ew ∙ ap (λ n. cell_pairs w' n) er

-- heights that are there and compare alike are strictly higher alike
higher_same : {X Y : Type 0} (le : X → X → Bool) (le' : Y → Y → Bool) (a b : Option X) (a' b' : Option Y)
    → is_some a ≡ true → is_some b ≡ true → is_some a' ≡ true → is_some b' ≡ true
    → is_not_higher le a b ≡ is_not_higher le' a' b' → is_higher le a b ≡ is_higher le' a' b'
higher_same le le' None b a' b' ha hb ha' hb' e = absurd (both_ways false refl ha)
higher_same le le' (Some a) None a' b' ha hb ha' hb' e = absurd (both_ways false refl hb)
higher_same le le' (Some a) (Some b) None b' ha hb ha' hb' e = absurd (both_ways false refl ha')
higher_same le le' (Some a) (Some b) (Some a') None ha hb ha' hb' e = absurd (both_ways false refl hb')
higher_same le le' (Some a) (Some b) (Some a') (Some b') ha hb ha' hb' e = ap not e

-- a place inside one grid is inside the other
pub inside_same : {X Y : Type 0} {le : X → X → Bool} {le' : Y → Y → Bool} (t : Terrain X) (t' : Terrain Y) → Alike le le' t t' → (p : Place) → Inside t p → Inside t' p
inside_same t t' a p inside = (omega (arith, a.width, inside.0), omega (arith, a.rows, inside.1))

-- the same the other way round
pub inside_back : {X Y : Type 0} {le : X → X → Bool} {le' : Y → Y → Bool} (t : Terrain X) (t' : Terrain Y) → Alike le le' t t' → (p : Place) → Inside t' p → Inside t p
inside_back t t' a p inside = (omega (arith, a.width, inside.0), omega (arith, a.rows, inside.1))

-- a cell is strictly higher than another in both grids or in neither
higher_alike : {X Y : Type 0} (le : X → X → Bool) (le' : Y → Y → Bool) (t : Terrain X) (t' : Terrain Y) → Alike le le' t t' → (q p : Place) → Inside t q → Inside t p
    → is_higher le (height_at t q) (height_at t p) ≡ is_higher le' (height_at t' q) (height_at t' p)
higher_alike le le' t t' a q p inq inp =
    let inq' = inside_same t t' a q inq in
    let inp' = inside_same t t' a p inp in
    higher_same le le' (height_at t q) (height_at t p) (height_at t' q) (height_at t' p)
    (height_there t a.all q inq.0 inq.1) (height_there t a.all p inp.0 inp.1)
    (height_there t' a.all' q inq'.0 inq'.1) (height_there t' a.all' p inp'.0 inp'.1)
    (a.compare q p inq inp)

-- the windows of a place are as large
window_same : {X Y : Type 0} {le : X → X → Bool} {le' : Y → Y → Bool} (t : Terrain X) (t' : Terrain Y) → Alike le le' t t' → (r : ℕ) (p : Place) → window_size t r p ≡ window_size t' r p
window_same t t' a r p = ap (tally (reaches r p)) (cells_same t.width t'.width t.rows t'.rows a.width a.rows)

-- the counts of a cell are the same
count_same : {X Y : Type 0} (le : X → X → Bool) (le' : Y → Y → Bool) (t : Terrain X) (t' : Terrain Y) → Alike le le' t t' → (r : ℕ) (p : Place) → Inside t p → count_at le t r p ≡ count_at le' t' r p
count_same le le' t t' a r p inside =
    let one : Place → Bool = λ q. reaches r p q && is_not_higher le (height_at t q) (height_at t p) in
    let two : Place → Bool = λ q. reaches r p q && is_not_higher le' (height_at t' q) (height_at t' p) in
    tally_same one two (cells t.width t.rows)
    (all_cells (λ q. one q ≡ two q) t.width t.rows
    (λ x y left low. let q : Place = record { x = x; y = y } in ap (λ b. reaches r p q && b) (a.compare q p (left, low) inside)))
    ∙ ap (tally two) (cells_same t.width t'.width t.rows t'.rows a.width a.rows)

-- the law of the windows
pub counts_agree : {X Y : Type 0} (le : X → X → Bool) (le' : Y → Y → Bool) → CountsAgree le le'
counts_agree le le' t t' a r p inside =
    let count = count_same le le' t t' a r p inside in
    record { same_size = window_same t t' a r p; same_count = count; same_share = ap (λ n. share_of n r) count }

-- equal places at equal distances
found_same : (f g : Higher) → f.place ≡ g.place → f.distance ≡ g.distance → f ≡ g
found_same f g ep ed =
    let at : Place → Higher = λ p. record { place = p; distance = f.distance } in
    let far : ℕ → Higher = λ n. record { place = g.place; distance = n } in
    ap at ep ∙ ap far ed

-- two nearest higher cells are the same one
found_agree : {X Y : Type 0} (le : X → X → Bool) (le' : Y → Y → Bool) (t : Terrain X) (t' : Terrain Y) → Alike le le' t t' → (p : Place) → Inside t p
    → (f g : Higher) → NearestHigher le t p f → NearestHigher le' t' p g → f ≡ g
found_agree le le' t t' a p inside f g nf ng =
    let inf' = inside_same t t' a f.place nf.inside in
    let ing = inside_back t t' a g.place ng.inside in
    let hf' = sym (higher_alike le le' t t' a f.place p nf.inside inside) ∙ nf.higher in
    let hg = higher_alike le le' t t' a g.place p ing inside ∙ ng.higher in
    let to = nf.nearest g.place ing hg in
    let back = ng.nearest f.place inf' hf' in
    let df = nf.distance_is in
    let dg = ng.distance_is in
    let far : f.distance ≡ g.distance = omega (arith, to, back, df, dg) in
    let early = nf.first g.place ing hg (sym dg ∙ sym far) in
    let late : reading_index t'.width g.place ≤ reading_index t'.width f.place = ng.first f.place inf' hf' (sym df ∙ far) in
    let at_g : reading_index t.width g.place ≡ reading_index t'.width g.place = ap (λ w. reading_index w g.place) a.width in
    let at_f : reading_index t.width f.place ≡ reading_index t'.width f.place = ap (λ w. reading_index w f.place) a.width in
    let index : reading_index t.width f.place ≡ reading_index t.width g.place = omega (arith, early, late, at_g, at_f) in
    found_same f g (same_index t.width f.place g.place nf.inside.0 ing.0 index) far

-- the law of the nearest higher cell
pub nearest_agree : {X Y : Type 0} (le : X → X → Bool) (le' : Y → Y → Bool) → NearestAgree le le'
nearest_agree le le' t t' a p inside None None n n' = refl
nearest_agree le le' t t' a p inside None (Some g) n n' =
    let ing = inside_back t t' a g.place n'.inside in
    absurd (both_ways _ (n g.place ing) (higher_alike le le' t t' a g.place p ing inside ∙ n'.higher))
nearest_agree le le' t t' a p inside (Some f) None n n' =
    absurd (both_ways _ (n' f.place (inside_same t t' a f.place n.inside)) (sym (higher_alike le le' t t' a f.place p n.inside inside) ∙ n.higher))
nearest_agree le le' t t' a p inside (Some f) (Some g) n n' = ap Some (found_agree le le' t t' a p inside f g n n')

-- the sums of the counts are the same
total_same : {X Y : Type 0} (le : X → X → Bool) (le' : Y → Y → Bool) (t : Terrain X) (t' : Terrain Y) → Alike le le' t t' → (r : ℕ) → total_count le t r ≡ total_count le' t' r
total_same le le' t t' a r =
    sum_same (count_at le t r) (count_at le' t' r) (cells t.width t.rows)
    (all_cells (λ q. count_at le t r q ≡ count_at le' t' r q) t.width t.rows
    (λ x y left low. count_same le le' t t' a r (record { x = x; y = y }) (left, low)))
    ∙ ap (sum_by (count_at le' t' r)) (cells_same t.width t'.width t.rows t'.rows a.width a.rows)

-- the level pairs are as many
level_same : {X Y : Type 0} (le : X → X → Bool) (le' : Y → Y → Bool) (t : Terrain X) (t' : Terrain Y) → Alike le le' t t' → (r : ℕ) → level_pairs le t r ≡ level_pairs le' t' r
level_same le le' t t' a r =
    let one : Place × Place → Bool = λ pair. reaches r pair.0 pair.1 && are_level le (height_at t pair.0) (height_at t pair.1) in
    let two : Place × Place → Bool = λ pair. reaches r pair.0 pair.1 && are_level le' (height_at t' pair.0) (height_at t' pair.1) in
    tally_same one two (cell_pairs t.width t.rows)
    (All-weaker (λ (pair : Place × Place). Inside t pair.0 × Inside t pair.1) (λ pair. one pair ≡ two pair)
    (λ pair in'. let up = a.compare pair.0 pair.1 in'.0 in'.1 in
    let down = a.compare pair.1 pair.0 in'.1 in'.0 in cc)
    (cell_pairs t.width t.rows)
    (all_pairs (Inside t) (cells t.width t.rows) (all_cells (Inside t) t.width t.rows (λ x y left low. (left, low)))))
    ∙ ap (tally two) (pairs_same t.width t'.width t.rows t'.rows a.width a.rows)

-- the law of the totals
pub totals_agree : {X Y : Type 0} (le : X → X → Bool) (le' : Y → Y → Bool) → TotalsAgree le le'
totals_agree le le' t t' a r = record { same_total = total_same le le' t t' a r; same_level = level_same le le' t t' a r }
