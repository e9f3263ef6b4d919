-- Calls carried out one after another, and changes that a counter will not refuse.
use Rattle.std.proofs.Common.{◌≡◌, ℕ, ◌+◌, ◌-◌, ◌<◌, ◌≤◌, Bool, List, [], ◌∷◌, ◌++◌, map, length, Ok, Err, Result, sym, refl, ap, ◌∙◌, subst, arith, length-append}
use Rattle.std.specs.List.{range_with_len, flat_map}
use Rattle.std.proofs.lemmas.List.{map-append, append_assoc}
use Rattle.heights.specs.Order.{Preorder}
use Rattle.counters.specs.declared.counter.Refusal.{Refusal}
use Rattle.counters.specs.Held.{Same}
use Rattle.counters.specs.Calls.{Call, put, take, View, Put, Take, Ran, still, next}
use Rattle.counters.proofs.Tallies.{tally_append, same_refl, same_length, held_level}
use Rattle.sweep.specs.declared.column.Change.{Change}
use Rattle.sweep.specs.declared.column.Change.TheVariants.{Put as puts, Take as takes}
use Rattle.sweep.specs.Inner.{call_of, Ready}
use Rattle.sweep.proofs.Lists.{joined_split, joined_next}

-- one run after another
pub ran_then : {X : Type 0} {le : X → X → Bool} {v u w : View X} {calls more : List (Call X)} → Ran le v calls u → Ran le u more w → Ran le v (calls ++ more) w
ran_then still q = q
ran_then (next steps d r) q = next steps d (ran_then r q)

-- a run keeps the places
pub ran_places : {X : Type 0} {le : X → X → Bool} {v w : View X} {calls : List (Call X)} → Ran le v calls w → w.places ≡ v.places
ran_places still = refl
ran_places (next steps d r) = ran_places r ∙ d.places

-- a put for which there is a place is carried out
pub put_ran : {X : Type 0} {le : X → X → Bool} {v w : View X} {h : X} (r : Result ℕ Refusal) → Put le v h r w → length v.held + 1 ≤ v.places → Ran le v (put h ∷ []) w
put_ran (Ok steps) d l = next steps d.1 still
put_ran (Err refusal) d l = absurd (omega (arith, d.0))

-- a take of a height that is held is carried out
pub take_ran : {X : Type 0} {le : X → X → Bool} {v w : View X} {h : X} → Preorder le → (rest : List X) → Same le v.held (h ∷ rest) → (r : Result ℕ Refusal) → Take le v h r w → Ran le v (take h ∷ []) w
take_ran o rest s (Ok steps) d = next steps d.1 still
take_ran {v = v} {h = h} o rest s (Err refusal) d = absurd (omega (arith, d.0, held_level o v.held rest h s))

-- the change of one height that is not refused is carried out: a put
pub one_put : {X : Type 0} {le : X → X → Bool} {v w : View X} (h : X) (c : Change) → c ≡ puts → Ready le v c (h ∷ []) → (r : Result ℕ Refusal) → Put le v h r w → Ran le v (call_of c h ∷ []) w
one_put {le = le} {v = v} {w = w} h c e f r d =
    subst (λ k. Ran le v (call_of k h ∷ []) w) (sym e) (put_ran r d (subst (λ k. Ready le v k (h ∷ [])) e f))

-- the change of one height that is not refused is carried out: a take
pub one_take : {X : Type 0} {le : X → X → Bool} {v w : View X} → Preorder le → (h : X) (c : Change) → c ≡ takes → Ready le v c (h ∷ []) → (r : Result ℕ Refusal) → Take le v h r w → Ran le v (call_of c h ∷ []) w
one_take {le = le} {v = v} {w = w} o h c e f r d =
    let g = subst (λ k. Ready le v k (h ∷ [])) e f in
    subst (λ k. Ran le v (call_of k h ∷ []) w) (sym e) (take_ran o g.0 g.1 r d)

-- what is held after puts
pub ran_puts : {X : Type 0} {le : X → X → Bool} {v w : View X} (hs : List X) → Ran le v (map (call_of puts) hs) w → Same le w.held (hs ++ v.held)
ran_puts {le = le} {v = v} [] still = same_refl le v.held
ran_puts {le = le} {v = v} (h ∷ hs) (next {u = u} steps d r) =
    let i = ran_puts hs r in
    record { tallies = λ p b. omega (arith, i.tallies p b, d.held.tallies p b, tally_append p hs u.held, tally_append p hs v.held) }

-- what is held after takes
pub ran_takes : {X : Type 0} {le : X → X → Bool} {v w : View X} (hs : List X) → Ran le v (map (call_of takes) hs) w → Same le v.held (hs ++ w.held)
ran_takes {le = le} {v = v} [] still = same_refl le v.held
ran_takes {le = le} {v = v} {w = w} (h ∷ hs) (next {u = u} steps d r) =
    let i = ran_takes hs r in
    record { tallies = λ p b. omega (arith, i.tallies p b, d.held.tallies p b) }

-- the front of changes that are not refused
pub ready_front : {X : Type 0} (le : X → X → Bool) (v : View X) (c : Change) (hs ks : List X) → Ready le v c (hs ++ ks) → Ready le v c hs
ready_front le v puts hs ks f = omega (arith, f, length-append hs ks)
ready_front le v takes hs ks f = (ks ++ f.0, subst (λ l. Same le v.held l) (append_assoc hs ks f.0) f.1)

-- what is left of changes that are not refused, once the front is carried out
pub ready_after : {X : Type 0} {le : X → X → Bool} {v w : View X} (c : Change) (hs ks : List X) → Ran le v (map (call_of c) hs) w → Ready le v c (hs ++ ks) → Ready le w c ks
ready_after {le = le} {v = v} {w = w} puts hs ks r f =
    omega (arith, f, length-append hs ks, length-append hs v.held, same_length le w.held (hs ++ v.held) (ran_puts hs r), ran_places r)
ready_after {v = v} {w = w} takes hs ks r f =
    let s = ran_takes hs r in
    (f.0, record { tallies = λ p b. omega (arith, s.tallies p b, f.1.tallies p b, tally_append p hs w.held, tally_append p (hs ++ ks) f.0, tally_append p hs ks, tally_append p ks f.0) })

-- the changes of the lists at n numbers from a on were carried out
abbrev pub Changed : {X : Type 0} → (X → X → Bool) → Change → (ℕ → List X) → (a n : ℕ) → (v w : View X) → Type 0
Changed le c f a n v w = Ran le v (map (call_of c) (flat_map f (range_with_len a n))) w

-- with those of one list more
pub changed_more : {X : Type 0} {le : X → X → Bool} {v u w : View X} (c : Change) (f : ℕ → List X) (a n m x : ℕ) (hs : List X) → x ≡ a + n → m ≡ n + 1 → f x ≡ hs
    → Changed le c f a n v u → Ran le u (map (call_of c) hs) w → Changed le c f a m v w
changed_more {le = le} {v = v} {w = w} c f a n m x hs at more e r q =
    let calls : map (call_of c) (flat_map f (range_with_len a m)) ≡ map (call_of c) (flat_map f (range_with_len a n)) ++ map (call_of c) hs =
    ap (map (call_of c)) (joined_next f a n m x at more ∙ ap (λ l. flat_map f (range_with_len a n) ++ l) e) ∙ map-append (call_of c) (flat_map f (range_with_len a n)) hs in
    subst (λ o. Ran le v o w) (sym calls) (ran_then r q)

-- the next of these changes is not refused
pub ready_next : {X : Type 0} {le : X → X → Bool} {v w : View X} (c : Change) (f : ℕ → List X) (a n all x : ℕ) (hs : List X) → x ≡ a + n → n < all → f x ≡ hs
    → Changed le c f a n v w → Ready le v c (flat_map f (range_with_len a all)) → Ready le w c hs
ready_next {le = le} {v = v} {w = w} c f a n all x hs at more e r s =
    let parts : all ≡ (n + 1) + (all - (n + 1)) = omega arith in
    let s1 = subst (λ l. Ready le v c l) (ap (λ k. flat_map f (range_with_len a k)) parts ∙ joined_split f a (n + 1) (all - (n + 1))) s in
    let s2 = ready_front le v c (flat_map f (range_with_len a (n + 1))) (flat_map f (range_with_len (a + (n + 1)) (all - (n + 1)))) s1 in
    let s3 = subst (λ l. Ready le v c l) (joined_next f a n (n + 1) x at refl) s2 in
    subst (λ l. Ready le w c l) e (ready_after c (flat_map f (range_with_len a n)) (f x) r s3)
