-- The ways of a finger list's fingers: its steps along calls are at most those of three fingers that count over all heights.
use Rattle.std.proofs.Common.{◌≡◌, ℕ, zero, suc, ◌+◌, ◌<◌, ◌≤◌, Bool, true, false, cond, not, ◌&&◌, List, [], ◌∷◌, ◌++◌, map, sym, refl, ap, ◌∙◌, arith}
use Rattle.std.specs.List.{range_with_len, flat_map, AllByRecursion as All}
use Rattle.std.proofs.ByRecursion.{All-append}
use Rattle.std.proofs.lemmas.Bool.{false≢true}
use Rattle.heights.specs.Order.{Preorder, level}
use Rattle.counters.specs.Held.{has_level, distinct, between}
use Rattle.counters.specs.Calls.{Call, put, take, ask, finger_steps}
use Rattle.counters.proofs.Preorders.{other_way, level_parts, blind_from, blind_between}
use Rattle.counters.proofs.Classes.{Within, distinct_within, blind_has_level}
use Rattle.ceiling.proofs.Steps.{less_one, steps_along}

-- ---- the steps of a finger

between_turned : (ab ba xa xb : Bool) → (ab ≡ false → ba ≡ true) → (ab ≡ true → ba ≡ true → xa ≡ xb) → cond ab (not xa && xb) (not xb && xa) ≡ cond ba (not xb && xa) (not xa && xb)
between_turned true true true xb t s = let e = s refl refl in rw (← e)
between_turned true true false xb t s = let e = s refl refl in rw (← e)
between_turned true false xa xb t s = refl
between_turned false true xa xb t s = refl
between_turned false false xa xb t s = absurd (false≢true (t refl))

-- a finger steps as often back as forth
pub steps_back : {X : Type 0} {le : X → X → Bool} → Preorder le → (all : List X) (a b : X) → finger_steps le all a b ≡ finger_steps le all b a
steps_back {X} {le = le} o all a b =
    let e : between le a b ≡ between le b a = (λ i x. between_turned (le a b) (le b a) (le x a) (le x b) (other_way o a b) (λ p q. blind_from o x a b p q) i) in
    ap (λ (p : X → Bool). distinct le p all) e

none_left : (b : Bool) → ◌≡◌ {A = ℕ} (cond b 0 0) 0
none_left true = refl
none_left false = refl

distinct_none : {X : Type 0} (le : X → X → Bool) (xs : List X) → distinct le (λ _. false) xs ≡ 0
distinct_none le [] = refl
distinct_none le (x ∷ xs) = omega (arith, none_left (has_level le xs x), distinct_none le xs)

between_none : (a b : Bool) → cond a (not b && b) (not b && b) ≡ false
between_none true true = refl
between_none true false = refl
between_none false true = refl
between_none false false = refl

-- a finger that stays makes no step
pub steps_none : {X : Type 0} (le : X → X → Bool) (all : List X) (a : X) → finger_steps le all a a ≡ 0
steps_none {X} le all a =
    let e : between le a a ≡ (λ _. false) = (λ i x. between_none (le a a) (le x a) i) in
    ap (λ (p : X → Bool). distinct le p all) e ∙ distinct_none le all

-- ---- the heights that calls are given

-- the heights put
abbrev pub puts_of : {X : Type 0} → List (Call X) → List X
puts_of [] = []
puts_of (put h ∷ calls) = h ∷ puts_of calls
puts_of (take h ∷ calls) = puts_of calls
puts_of (ask h ∷ calls) = puts_of calls

-- the heights taken
abbrev pub takes_of : {X : Type 0} → List (Call X) → List X
takes_of [] = []
takes_of (put h ∷ calls) = takes_of calls
takes_of (take h ∷ calls) = h ∷ takes_of calls
takes_of (ask h ∷ calls) = takes_of calls

-- the heights asked
abbrev pub asks_of : {X : Type 0} → List (Call X) → List X
asks_of [] = []
asks_of (put h ∷ calls) = asks_of calls
asks_of (take h ∷ calls) = asks_of calls
asks_of (ask h ∷ calls) = h ∷ asks_of calls

pub puts_append : {X : Type 0} (us vs : List (Call X)) → puts_of (us ++ vs) ≡ puts_of us ++ puts_of vs
puts_append [] vs = refl
puts_append (put h ∷ us) vs = ap (λ l. h ∷ l) (puts_append us vs)
puts_append (take h ∷ us) vs = puts_append us vs
puts_append (ask h ∷ us) vs = puts_append us vs

pub takes_append : {X : Type 0} (us vs : List (Call X)) → takes_of (us ++ vs) ≡ takes_of us ++ takes_of vs
takes_append [] vs = refl
takes_append (put h ∷ us) vs = takes_append us vs
takes_append (take h ∷ us) vs = ap (λ l. h ∷ l) (takes_append us vs)
takes_append (ask h ∷ us) vs = takes_append us vs

pub asks_append : {X : Type 0} (us vs : List (Call X)) → asks_of (us ++ vs) ≡ asks_of us ++ asks_of vs
asks_append [] vs = refl
asks_append (put h ∷ us) vs = asks_append us vs
asks_append (take h ∷ us) vs = asks_append us vs
asks_append (ask h ∷ us) vs = ap (λ l. h ∷ l) (asks_append us vs)

pub puts_put : {X : Type 0} (hs : List X) → puts_of (map put hs) ≡ hs
puts_put [] = refl
puts_put (h ∷ hs) = ap (λ l. h ∷ l) (puts_put hs)

pub puts_take : {X : Type 0} (hs : List X) → puts_of (map take hs) ≡ []
puts_take [] = refl
puts_take (h ∷ hs) = puts_take hs

pub takes_put : {X : Type 0} (hs : List X) → takes_of (map put hs) ≡ []
takes_put [] = refl
takes_put (h ∷ hs) = takes_put hs

pub takes_take : {X : Type 0} (hs : List X) → takes_of (map take hs) ≡ hs
takes_take [] = refl
takes_take (h ∷ hs) = ap (λ l. h ∷ l) (takes_take hs)

pub asks_put : {X : Type 0} (hs : List X) → asks_of (map put hs) ≡ []
asks_put [] = refl
asks_put (h ∷ hs) = asks_put hs

pub asks_take : {X : Type 0} (hs : List X) → asks_of (map take hs) ≡ []
asks_take [] = refl
asks_take (h ∷ hs) = asks_take hs

-- ---- the way of a finger

-- the way of a finger from p along heights, counted over all heights
abbrev pub travel : {X : Type 0} → (X → X → Bool) → List X → X → List X → ℕ
travel le all p [] = 0
travel le all p (h ∷ hs) = finger_steps le all p h + travel le all h hs

-- each height of a list is level with one of all heights
abbrev pub Among : {X : Type 0} → (X → X → Bool) → List X → List X → Type 0
Among le all hs = All (λ h. has_level le all h ≡ true) hs

-- what a list has, it has with another height before it
pub later : (a b : Bool) → b ≡ true → cond a true b ≡ true
later true b e = refl
later false b e = e

either_more : (a b c : Bool) → (b ≡ true → c ≡ true) → cond a true b ≡ true → cond a true c ≡ true
either_more true b c f t = refl
either_more false b c f t = f t

less_within_step : {X : Type 0} (le : X → X → Bool) (h x z : X) (xs : List X) (b : Bool) → (has_level le (less_one le h xs) z ≡ true → has_level le xs z ≡ true)
    → has_level le (cond b xs (x ∷ less_one le h xs)) z ≡ true → has_level le (x ∷ xs) z ≡ true
less_within_step le h x z xs true i t = later (level le x z) (has_level le xs z) t
less_within_step le h x z xs false i t = either_more (level le x z) (has_level le (less_one le h xs) z) (has_level le xs z) i t

less_within : {X : Type 0} (le : X → X → Bool) (h : X) (xs : List X) → Within le (less_one le h xs) xs
less_within le h [] = λ z t. t
less_within le h (x ∷ xs) = λ z t. less_within_step le h x z xs (level le x h) (less_within le h xs z) t

cons_step : {X : Type 0} {le : X → X → Bool} → Preorder le → (h z : X) (xs all : List X) → has_level le all h ≡ true → Within le xs all → (b : Bool) → level le h z ≡ b
    → cond b true (has_level le xs z) ≡ true → has_level le all z ≡ true
cons_step {le = le} o h z xs all here f true e t = let u = level_parts le h z e in sym (blind_has_level o all h z u.0 u.1) ∙ here
cons_step {le = le} o h z xs all here f false e t = f z t

cons_within : {X : Type 0} {le : X → X → Bool} → Preorder le → (h : X) (xs all : List X) → has_level le all h ≡ true → Within le xs all → Within le (h ∷ xs) all
cons_within {le = le} o h xs all here f = λ z t. cons_step o h z xs all here f (level le h z) refl t

-- a finger steps no more often over fewer heights
steps_within : {X : Type 0} {le : X → X → Bool} → Preorder le → (xs all : List X) (a b : X) → Within le xs all → finger_steps le xs a b ≤ finger_steps le all a b
steps_within {le = le} o xs all a b f = distinct_within o (between le a b) (blind_between o a b) xs all f

-- the steps along calls are at most the ways of the three fingers
pub steps_le_travel : {X : Type 0} {le : X → X → Bool} → Preorder le → (all : List X) (p t a : X) (xs : List X) (calls : List (Call X)) → Within le xs all → Among le all (puts_of calls)
    → steps_along le p t a xs calls ≤ travel le all p (puts_of calls) + travel le all t (takes_of calls) + travel le all a (asks_of calls)
steps_le_travel o all p t a xs [] f g = omega arith
steps_le_travel {le = le} o all p t a xs (put h ∷ calls) f g =
    omega (arith, steps_within o xs all p h f, steps_le_travel o all h t a (h ∷ xs) calls (cons_within o h xs all g.0 f) g.1)
steps_le_travel {le = le} o all p t a xs (take h ∷ calls) f g =
    omega (arith, steps_within o xs all t h f, steps_le_travel o all p h a (less_one le h xs) calls (λ z e. f z (less_within le h xs z e)) g)
steps_le_travel o all p t a xs (ask h ∷ calls) f g = omega (arith, steps_within o xs all a h f, steps_le_travel o all p t h xs calls f g)

-- nothing is within any heights
pub nothing_within : {X : Type 0} (le : X → X → Bool) (all : List X) → Within le [] all
nothing_within le all z t = absurd (false≢true t)

-- what holds at each number of a range holds of what it is mapped to
pub all_counting : {X : Type 0} (P : X → Type 0) (f : ℕ → X) (a n : ℕ) → ((i : ℕ) → a ≤ i → i < a + n → P (f i)) → All P (map f (range_with_len a n))
all_counting P f a zero e = tt
all_counting P f a (suc n) e = (e a (omega arith) (omega arith), all_counting P f (a + 1) n (λ i p q. e i (omega arith) (omega arith)))

-- what holds of each list of a range holds of what is joined of them
pub all_joined : {X : Type 0} (P : X → Type 0) (f : ℕ → List X) (a n : ℕ) → ((i : ℕ) → a ≤ i → i < a + n → All P (f i)) → All P (flat_map f (range_with_len a n))
all_joined P f a zero e = tt
all_joined P f a (suc n) e = All-append P (f a) (flat_map f (range_with_len (a + 1) n)) (e a (omega arith) (omega arith)) (all_joined P f (a + 1) n (λ i p q. e i (omega arith) (omega arith)))
