-- The steps of a finger list depend on nothing but on how the heights compare.
use Rattle.std.proofs.Common.{◌≡◌, ℕ, ◌+◌, ◌-◌, min, Bool, true, false, cond, List, [], ◌∷◌, ◌++◌, map, sym, refl, ap, ◌∙◌, arith}
use Rattle.std.specs.List.{range_with_len, flat_map}
use Rattle.std.proofs.lemmas.List.{map-append}
use Rattle.heights.specs.Order.{level}
use Rattle.counters.specs.Held.{has_level, distinct, between}
use Rattle.counters.specs.Calls.{Call, put, take, ask}
use Rattle.sweep.specs.Walk.{walked_row, taken_before, put_before}
use Rattle.ceiling.proofs.Steps.{less_one, steps_along}
use Rattle.ceiling.proofs.Walks.{walk, walks, turn_of, row_of}

-- a call with the image of its height
abbrev call_image : {Y X : Type 0} → (Y → X) → Call Y → Call X
call_image f (put h) = put (f h)
call_image f (take h) = take (f h)
call_image f (ask h) = ask (f h)

-- what compares as its images do
abbrev along : {Y X : Type 0} → (Y → X) → (X → X → Bool) → Y → Y → Bool
along f le a b = le (f a) (f b)

has_image : {Y X : Type 0} (f : Y → X) (le : X → X → Bool) (xs : List Y) (y : Y) → has_level le (map f xs) (f y) ≡ has_level (along f le) xs y
has_image f le [] y = refl
has_image f le (x ∷ xs) y = ap (λ t. cond (level le (f x) (f y)) true t) (has_image f le xs y)

distinct_image : {Y X : Type 0} (f : Y → X) (le : X → X → Bool) (p : X → Bool) (xs : List Y) → distinct le p (map f xs) ≡ distinct (along f le) (λ y. p (f y)) xs
distinct_image f le p [] = refl
distinct_image f le p (x ∷ xs) =
    let g : Bool → ℕ = λ t. cond t 0 (cond (p (f x)) 1 0) in
    omega (arith, ap g (has_image f le xs x), distinct_image f le p xs)

less_image_step : {Y X : Type 0} (f : Y → X) (x : Y) (xs ys : List Y) (zs : List X) (b : Bool) → zs ≡ map f ys → cond b (map f xs) (f x ∷ zs) ≡ map f (cond b xs (x ∷ ys))
less_image_step f x xs ys zs true e = refl
less_image_step f x xs ys zs false e = ap (λ t. f x ∷ t) e

less_image : {Y X : Type 0} (f : Y → X) (le : X → X → Bool) (h : Y) (xs : List Y) → less_one le (f h) (map f xs) ≡ map f (less_one (along f le) h xs)
less_image f le h [] = refl
less_image f le h (x ∷ xs) = less_image_step f x xs (less_one (along f le) h xs) (less_one le (f h) (map f xs)) (level le (f x) (f h)) (less_image f le h xs)

-- the steps along the images of calls
steps_image : {Y X : Type 0} (f : Y → X) (le : X → X → Bool) (p t a : Y) (xs : List Y) (calls : List (Call Y))
    → steps_along le (f p) (f t) (f a) (map f xs) (map (call_image f) calls) ≡ steps_along (along f le) p t a xs calls
steps_image f le p t a xs [] = refl
steps_image f le p t a xs (put h ∷ calls) = omega (arith, distinct_image f le (between le (f p) (f h)) xs, steps_image f le h t a (h ∷ xs) calls)
steps_image f le p t a xs (take h ∷ calls) =
    let e = ap (λ l. steps_along le (f p) (f h) (f a) l (map (call_image f) calls)) (less_image f le h xs) in
    omega (arith, distinct_image f le (between le (f t) (f h)) xs, e, steps_image f le p h a (less_one (along f le) h xs) calls)
steps_image f le p t a xs (ask h ∷ calls) = omega (arith, distinct_image f le (between le (f a) (f h)) xs, steps_image f le p t h xs calls)

map_map : {A B C : Type 0} (g : B → C) (f : A → B) (xs : List A) → map g (map f xs) ≡ map (λ x. g (f x)) xs
map_map g f [] = refl
map_map g f (x ∷ xs) = ap (λ l. g (f x) ∷ l) (map_map g f xs)

map_joined : {A B C : Type 0} (g : B → C) (f : A → List B) (k : A → List C) → ((a : A) → map g (f a) ≡ k a) → (xs : List A) → map g (flat_map f xs) ≡ flat_map k xs
map_joined g f k e [] = refl
map_joined g f k e (x ∷ xs) = map-append g (f x) (flat_map f xs) ∙ (ap (λ l. l ++ map g (flat_map f xs)) (e x) ∙ ap (λ l. k x ++ l) (map_joined g f k e xs))

puts_image : {Y X : Type 0} (f : Y → X) (xs : List Y) → map (call_image f) (map put xs) ≡ map put (map f xs)
puts_image f [] = refl
puts_image f (x ∷ xs) = ap (λ l. put (f x) ∷ l) (puts_image f xs)

takes_image : {Y X : Type 0} (f : Y → X) (xs : List Y) → map (call_image f) (map take xs) ≡ map take (map f xs)
takes_image f [] = refl
takes_image f (x ∷ xs) = ap (λ l. take (f x) ∷ l) (takes_image f xs)

-- a cell as a pair of its column and its row
abbrev cell : ℕ → ℕ → ℕ × ℕ
cell x y = (x, y)

-- the height at a cell
abbrev height_of : {X : Type 0} → (ℕ → ℕ → X) → ℕ × ℕ → X
height_of at c = at c.0 c.1

module _ {X : Type 0} (at : ℕ → ℕ → X) (w r top n y : ℕ) where
  walks_image : (a b : ℕ) → map (height_of at) (walks cell top n a b) ≡ walks at top n a b
  walks_image a b = map_joined (height_of at) (walk cell top n) (walk at top n) (λ x. map_map (height_of at) (λ j. cell x (walked_row top n x j)) (range_with_len 0 n)) (range_with_len a (b - a))

  turn_image : (x : ℕ) → map (call_image (height_of at)) (turn_of cell w r top n y x) ≡ turn_of at w r top n y x
  turn_image x =
      let f : Call (ℕ × ℕ) → Call X = call_image (height_of at) in
      let a = walks cell top n (taken_before r x) (x - r) in
      let b = walks cell top n (put_before w r x) (min w (x + r + 1)) in
      let e1 = map-append f (map take a) (map put b ++ (ask (cell x y) ∷ [])) in
      let e2 = map-append f (map put b) (ask (cell x y) ∷ []) in
      let e3 : map f (map take a) ≡ map take (walks at top n (taken_before r x) (x - r)) = takes_image (height_of at) a ∙ ap (map take) (walks_image (taken_before r x) (x - r)) in
      let e4 : map f (map put b) ≡ map put (walks at top n (put_before w r x) (min w (x + r + 1))) = puts_image (height_of at) b ∙ ap (map put) (walks_image (put_before w r x) (min w (x + r + 1))) in
      e1 ∙ (ap (λ l. l ++ map f (map put b ++ (ask (cell x y) ∷ []))) e3 ∙ ap (λ l. map take (walks at top n (taken_before r x) (x - r)) ++ l) (e2 ∙ ap (λ l. l ++ (ask (at x y) ∷ [])) e4))

  -- the calls of a row are the images of those of its cells
  row_image : map (call_image (height_of at)) (row_of cell w r top n y) ≡ row_of at w r top n y
  row_image = map_joined (call_image (height_of at)) (turn_of cell w r top n y) (turn_of at w r top n y) turn_image (range_with_len 0 w)

-- a row takes equal steps over cells that compare alike
pub equal_row_steps : {X Y : Type 0} (le : X → X → Bool) (le' : Y → Y → Bool) (at : ℕ → ℕ → X) (at' : ℕ → ℕ → Y) (w r top n y : ℕ)
    → ((a b c d : ℕ) → le (at a b) (at c d) ≡ le' (at' a b) (at' c d))
    → steps_along le (at 0 top) (at 0 top) (at 0 y) [] (row_of at w r top n y) ≡ steps_along le' (at' 0 top) (at' 0 top) (at' 0 y) [] (row_of at' w r top n y)
equal_row_steps {X} {Y} le le' at at' w r top n y e =
    let f : ℕ × ℕ → X = height_of at in
    let g : ℕ × ℕ → Y = height_of at' in
    let same : along f le ≡ along g le' = λ i c d. e c.0 c.1 d.0 d.1 i in
    let calls = row_of cell w r top n y in
    let s1 = ap (steps_along le (at 0 top) (at 0 top) (at 0 y) []) (row_image at w r top n y) in
    let s2 = ap (steps_along le' (at' 0 top) (at' 0 top) (at' 0 y) []) (row_image at' w r top n y) in
    let t1 = steps_image f le (cell 0 top) (cell 0 top) (cell 0 y) [] calls in
    let t2 = steps_image g le' (cell 0 top) (cell 0 top) (cell 0 y) [] calls in
    sym s1 ∙ (t1 ∙ (ap (λ l. steps_along l (cell 0 top) (cell 0 top) (cell 0 y) [] calls) same ∙ (sym t2 ∙ s2)))
