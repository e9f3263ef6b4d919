-- The distinct heights between two heights, as entries between two links.
use Rattle.std.proofs.Common.{◌≡◌, ℕ, zero, suc, ◌+◌, ◌-◌, ◌<◌, ◌≤◌, Bool, true, false, cond, not, ◌&&◌, List, [], ◌∷◌, ◌++◌, length, get_or, replicate, sym, refl, ap, ◌∙◌, subst, ⊎_elim, arith}
use Rattle.std.proofs.lemmas.List.{get_or_default}
use Rattle.std.proofs.lemmas.List.Sums.{sum_by-cons}
use Rattle.std.proofs.lemmas.Bool.{cases_Bool, both_ways, and_parts, false_from_ne_true}
use Rattle.finger_list.specs.declared.entry.Entry.{Entry}
use Rattle.finger_list.specs.declared.walk.Way.{Way}
use Rattle.finger_list.specs.Entries.{in_use, height_at, heights, held_in, Positive}
use Rattle.finger_list.specs.Linking.{not_past, InOrder, StandsAt}
use Rattle.finger_list.specs.Walking.{NotOver, NotUnder, part, one, many, weighs, Climbed, Descended, Moved}
use Rattle.counters.specs.Held.{tally, has_level, distinct, above, up_to}
use Rattle.heights.specs.Order.{Preorder, level}
use Rattle.counters.proofs.Preorders.{reflexive, other_way, level_self}
use Rattle.counters.proofs.Tallies.{tally_always}
use Rattle.finger_list.proofs.Weights.{weighs_nothing, weighs_same, length_used, at_used}
use Rattle.finger_list.proofs.Chains.{np_at, np_end}

-- a tally of a height that stands several times before others
pub tally_many : {X : Type 0} (t : X → Bool) (x : X) (n : ℕ) (ys : List X) → tally t (replicate n x ++ ys) ≡ cond (t x) n 0 + tally t ys
tally_many {X} t x zero ys =
    let z : (b : Bool) → ◌≡◌ {A = ℕ} (cond b 0 0) 0 = λ b. elim b as (λ v. ◌≡◌ {A = ℕ} (cond v 0 0) 0) [ true ↦ refl | false ↦ refl ] in
    omega (arith, z (t x))
tally_many {X} t x (suc n) ys =
    let f : (b : Bool) → ◌≡◌ {A = ℕ} (cond b 1 0 + cond b n 0) (cond b (suc n) 0)
    = λ b. elim b as (λ v. ◌≡◌ {A = ℕ} (cond v 1 0 + cond v n 0) (cond v (suc n) 0)) [ true ↦ omega arith | false ↦ omega arith ] in
    omega (arith, tally_many t x n ys, f (t x))

-- a tally of the heights is what the entries weigh by their numbers
pub tally_heights : {X : Type 0} (t : X → Bool) (us : List (Entry X)) → tally t (heights us) ≡ weighs t many us
tally_heights t [] = refl
tally_heights t (e ∷ es) =
    omega (arith, tally_many t e.height e.number (heights es), tally_heights t es, sum_by-cons (part t many) e es)

-- as many heights are held as the numbers add up to
pub length_held : {X : Type 0} (es : List (Entry X)) (used : ℕ) → length (held_in es used) ≡ weighs (λ _. true) many (in_use es used)
length_held es used = sym (tally_always (held_in es used)) ∙ tally_heights (λ _. true) (in_use es used)

-- heights of which none is level with h before others of which none is
any_no : {X : Type 0} (le : X → X → Bool) (h x : X) (n : ℕ) (ys : List X)
    → level le x h ≡ false → has_level le ys h ≡ false → has_level le (replicate n x ++ ys) h ≡ false
any_no le h x zero ys off rest = rest
any_no le h x (suc n) ys off rest =
    ap (λ t. cond t true (has_level le (replicate n x ++ ys) h)) off ∙ any_no le h x n ys off rest

-- a height level with h is before others
any_yes : {X : Type 0} (le : X → X → Bool) (h x : X) (n : ℕ) (ys : List X) → level le x h ≡ true → has_level le (replicate (suc n) x ++ ys) h ≡ true
any_yes le h x n ys q = ap (λ t. cond t true (has_level le (replicate n x ++ ys) h)) q

-- entries of which none is level with h stand for no height that is
pub none_level : {X : Type 0} (le : X → X → Bool) (h : X) (us : List (Entry X))
    → ((k : ℕ) (d : Entry X) → k < length us → level le (get_or us k d).height h ≡ false) → has_level le (heights us) h ≡ false
none_level le h [] f = refl
none_level le h (e ∷ es) f =
    any_no le h e.height e.number (heights es) (f 0 e (omega arith)) (none_level le h es (λ k d l. f (suc k) d (omega arith)))

-- a height that stands several times before others that are not level counts once
distinct_many : {X : Type 0} {le : X → X → Bool} (o : Preorder le) (t : X → Bool) (x : X) (n : ℕ) (ys : List X)
    → has_level le ys x ≡ false → distinct le t (replicate (suc n) x ++ ys) ≡ cond (t x) 1 0 + distinct le t ys
distinct_many {le = le} o t x zero ys off =
    let f : Bool → ℕ = λ b. cond b 0 (cond (t x) 1 0) + distinct le t ys in ap f off
distinct_many {le = le} o t x (suc n) ys off =
    let f : Bool → ℕ = λ b. cond b 0 (cond (t x) 1 0) in
    omega (arith, ap f (any_yes le x x n ys (level_self o x)), distinct_many o t x n ys off)

-- the different heights are the entries
pub distinct_heights : {X : Type 0} {le : X → X → Bool} (o : Preorder le) (t : X → Bool) (us : List (Entry X))
    → ((i j : ℕ) (d : Entry X) → i < j → j < length us → level le (get_or us j d).height (get_or us i d).height ≡ false)
    → ((i : ℕ) (d : Entry X) → i < length us → 0 < (get_or us i d).number)
    → distinct le t (heights us) ≡ weighs t one us
distinct_heights {le = le} o t [] off pos = refl
distinct_heights {X} {le} o t (e ∷ es) off pos =
    let none : has_level le (heights es) e.height ≡ false = none_level le e.height es (λ k d l. off 0 (suc k) d (omega arith) (omega arith)) in
    let n : e.number ≡ suc (e.number - 1) = omega (arith, pos 0 e (omega arith)) in
    let eq : distinct le t (heights (e ∷ es)) ≡ cond (t e.height) 1 0 + distinct le t (heights es)
    = ap (λ m. distinct le t (replicate m e.height ++ heights es)) n ∙ distinct_many o t e.height (e.number - 1) (heights es) none in
    omega (
      arith,
      eq,
      sum_by-cons (part t one) e es,
      distinct_heights o t es (λ i j d l₁ l₂. off (suc i) (suc j) d (omega arith) (omega arith)) (λ i d l. pos (suc i) d (omega arith)),
    )

-- above p and not above q
abbrev pub within : {X : Type 0} → (X → X → Bool) → X → X → X → Bool
within le p q x = above le p x && le x q

-- the entries that are not above q are those not above p and those between
pub within_splits : {X : Type 0} {le : X → X → Bool} (o : Preorder le)
    (p q : X) → le p q ≡ true → (w : Entry X → ℕ) (us : List (Entry X))
    → weighs (λ x. le x q) w us ≡ weighs (λ x. le x p) w us + weighs (within le p q) w us
within_splits {le = le} o p q pq w [] = refl
within_splits {X} {le} o p q pq w (e ∷ es) =
    let h = e.height in
    let one' : part (λ x. le x q) w e ≡ part (λ x. le x p) w e + part (within le p q) w e
    = ⊎_elim
    (λ (y : le h p ≡ true).
    let f : Bool → ℕ = λ b. cond b (w e) 0 in
    let g : Bool → ℕ = λ b. cond (not b && le h q) (w e) 0 in
    omega (arith, ap f y, ap g y, ap f (o.transitive h p q y pq)))
    (λ (y : le h p ≡ false).
    let f : Bool → ℕ = λ b. cond b (w e) 0 in
    let g : Bool → ℕ = λ b. cond (not b && le h q) (w e) 0 in
    omega (arith, ap f y, ap g y))
    (cases_Bool (le h p)) in
    omega (
      arith,
      one',
      sum_by-cons (part (λ x. le x q) w) e es,
      sum_by-cons (part (λ x. le x p) w) e es,
      sum_by-cons (part (within le p q) w) e es,
      within_splits o p q pq w es,
    )

-- the entries that are not higher than p weigh as much as those not past where it stands
pub at_weighs : {X : Type 0} (le : X → X → Bool) (es : List (Entry X)) (used : ℕ) (p : X) (i : ℕ) → used ≤ length es - 1 → StandsAt le es used p i
    → (w : Entry X → ℕ) (d : Entry X) → weighs (λ x. le x p) w (in_use es used) ≡ weighs (not_past le (height_at es d) i) w (in_use es used)
at_weighs {X} le es used p i room at w d =
    let n = length_used es used room in
    weighs_same (λ x. le x p) (not_past le (height_at es d) i) w (in_use es used)
    (λ k d' l.
    let e : get_or (in_use es used) k d' ≡ get_or es (1 + k) d = at_used es used k d' (omega arith) ∙ get_or_default es (1 + k) d' d (omega arith) in
    ap (λ (x : Entry X). le x.height p) e ∙ at d (1 + k) (omega arith) (omega arith) ∙ sym (ap (λ (x : Entry X). not_past le (height_at es d) i x.height) e))

-- where p stands is not higher than what p is not higher than
pub at_under : {X : Type 0} {le : X → X → Bool} (o : Preorder le)
    (es : List (Entry X)) (used : ℕ) (p h : X) (i : ℕ) → i ≤ used → StandsAt le es used p i → le p h ≡ true → NotOver le es i h
at_under {le = le} o es used p h i low at ph d nz =
    o.transitive _ p h (at d i (omega arith) low ∙ np_at le (height_at es d) i _ nz ∙ reflexive o _) ph

-- past where p stands all is higher than what is lower than p
pub at_over : {X : Type 0} {le : X → X → Bool} (o : Preorder le)
    (es : List (Entry X)) (used : ℕ) (p h : X) (i : ℕ) → StandsAt le es used p i → le p h ≡ false → NotUnder le es used i h
at_over {le = le} o es used p h i at ph d j h₁ h₂ off =
    false_from_ne_true _ (λ q. both_ways _ (at d j h₁ h₂ ∙ off) (o.transitive _ h p q (other_way o p h ph)))

-- the different held heights are the used entries
pub distinct_held : {X : Type 0} {le : X → X → Bool} (o : Preorder le) (t : X → Bool) (es : List (Entry X)) (used : ℕ)
    → used ≤ length es - 1 → InOrder le es used → Positive es used → distinct le t (held_in es used) ≡ weighs t one (in_use es used)
distinct_held {X} {le} o t es used room s pos =
    let n = length_used es used room in
    distinct_heights o t (in_use es used)
    (λ i j d l₁ l₂.
    let ei = at_used es used i d (omega arith) in
    let ej = at_used es used j d (omega arith) in
    ap (λ (x : Entry X). level le x.height (get_or (in_use es used) i d).height) ej
    ∙ ap (λ (x : Entry X). level le (get_or es (1 + j) d).height x.height) ei
    ∙ false_from_ne_true _ (λ q.
    let b = and_parts (le (height_at es d (1 + j)) (height_at es d (1 + i))) (le (height_at es d (1 + i)) (height_at es d (1 + j))) q in
    let z : 1 + j ≡ 1 + i = (s d).apart (1 + j) (1 + i) (omega arith) (omega arith) (omega arith) (omega arith) b.0 b.1 in
    omega arith))
    (λ i d l. subst (λ (x : Entry X). 0 < x.number) (sym (at_used es used i d (omega arith))) (pos (1 + i) d (omega arith) (omega arith)))

-- a walk up from where p stands to where h stands has the steps of a finger
pub moved_up : {X : Type 0} {le : X → X → Bool} (o : Preorder le)
    (es : List (Entry X)) (used : ℕ) (p h : X) (i : ℕ) (r : Way) (d : Entry X) → used ≤ length es - 1 → InOrder le es used → Positive es used
    → StandsAt le es used p i → le p h ≡ true → Climbed le es used i h r → Moved le es used p h r
moved_up {X} {le} o es used p h i r d room s pos at ph w =
    let us = in_use es used in
    record {
      at = w.1;
      steps =
          let f : Bool → ℕ = λ b. distinct le (λ x. cond b (within le p h x) (within le h p x)) (held_in es used) in
          omega (
            arith,
            ap f ph,
            distinct_held o (within le p h) es used room s pos,
            within_splits o p h ph one us,
            w.0.ranks d,
            at_weighs le es used p i room at one d,
            at_weighs le es used h r.link room w.1 one d,
          );
      up = λ _. omega (
        arith,
        tally_heights (λ x. le x h) us,
        tally_heights (λ x. le x p) us,
        w.0.counts d,
        at_weighs le es used p i room at many d,
        at_weighs le es used h r.link room w.1 many d,
      );
      down = λ q. absurd (both_ways _ q ph);
    }

-- a walk down from where p stands to where h stands has the steps of a finger
pub moved_down : {X : Type 0} {le : X → X → Bool} (o : Preorder le)
    (es : List (Entry X)) (used : ℕ) (p h : X) (i : ℕ) (r : Way) (d : Entry X) → used ≤ length es - 1 → InOrder le es used → Positive es used
    → StandsAt le es used p i → le p h ≡ false → Descended le es used i h r → Moved le es used p h r
moved_down {X} {le} o es used p h i r d room s pos at ph w =
    let us = in_use es used in
    record {
      at = w.1;
      steps =
          let f : Bool → ℕ = λ b. distinct le (λ x. cond b (within le p h x) (within le h p x)) (held_in es used) in
          omega (
            arith,
            ap f ph,
            distinct_held o (within le h p) es used room s pos,
            within_splits o h p (other_way o p h ph) one us,
            w.0.ranks d,
            at_weighs le es used p i room at one d,
            at_weighs le es used h r.link room w.1 one d,
          );
      up = λ q. absurd (both_ways _ ph q);
      down = λ _. omega (
        arith,
        tally_heights (λ x. le x h) us,
        tally_heights (λ x. le x p) us,
        w.0.counts d,
        at_weighs le es used p i room at many d,
        at_weighs le es used h r.link room w.1 many d,
      );
    }

-- a walk up from the end passes all heights that are not higher
pub passed_all : {X : Type 0} (le : X → X → Bool) (es : List (Entry X)) (used : ℕ) (h : X) (r : Way) (d : Entry X) → used ≤ length es - 1
    → Climbed le es used 0 h r → up_to le (held_in es used) h ≡ r.passed
passed_all le es used h r d room w =
    let us = in_use es used in
    let none : weighs (not_past le (height_at es d) 0) many us ≡ 0
    = weighs_same (not_past le (height_at es d) 0) (λ _. false) many us (λ k e l. np_end le (height_at es d) 0 (get_or us k e).height refl) ∙ weighs_nothing many us in
    omega (arith, none, tally_heights (λ x. le x h) us, w.0.counts d, at_weighs le es used h r.link room w.1 many d)
