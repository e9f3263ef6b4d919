-- One height less among the used entries.
use Rattle.std.proofs.Common.{◌≡◌, ℕ, suc, ◌+◌, ◌-◌, ◌<◌, ◌≤◌, Bool, true, false, cond, List, length, get_or, take, drop, set, sym, refl, ap, ◌∙◌, subst, arith}
use Rattle.std.specs.List.{remove}
use Rattle.std.proofs.lemmas.List.{length-take-le, get_or-take, get_or_default}
use Rattle.std.proofs.lemmas.List.Elements.{All-append, All-take, All-drop}
use Rattle.std.proofs.lemmas.List.Quantifiers.{all_pairs_remove}
use Rattle.std.proofs.lemmas.List.Sums.{sum_by-set, sum_by-remove}
use Rattle.heights.specs.Order.{Preorder}
use Rattle.counters.proofs.Preorders.{level_parts}
use Rattle.shift_array.specs.declared.entry.Entry.{Entry}
use Rattle.shift_array.specs.Entries.{Positive}
use Rattle.shift_array.specs.Places.{Stands}
use Rattle.shift_array.specs.Changes.{Shrunk}
use Rattle.shift_array.proofs.Weights.{weight, number, tally_heights}
use Rattle.shift_array.proofs.Spread.{steps_fewer, steps_last}
use Rattle.shift_array.proofs.Growth.{numbered, used_numbered, positive_numbered, climbing_numbered}

one_fewer : (b : Bool) (n : ℕ) → 0 < n → cond b n 0 ≡ cond b 1 0 + cond b (n - 1) 0
one_fewer b n pos = elim b as (λ v. cond v n 0 ≡ cond v 1 0 + cond v (n - 1) 0) [ true ↦ omega arith | false ↦ refl ]

-- one of several level heights less: the entry's number falls by one
pub shrunk_number : {X : Type 0} {le : X → X → Bool} → Preorder le → (us : List (Entry X)) (at : ℕ) (d : Entry X) (h : X)
    → Stands le h us at → 1 < (get_or us at d).number → Shrunk le us (set us at (numbered (get_or us at d) ((get_or us at d).number - 1))) h 0
shrunk_number {X} {le = le} o us at d h s many =
    let lt = s.inside in
    let x = get_or us at d in
    let vs : List (Entry X) = set us at (numbered x (x.number - 1)) in
    let two = level_parts le x.height h (s.here d) in
    record {
      held = record {
        tallies = λ p b.
            let f : Bool → ℕ = λ v. cond v 1 0 in
            omega (
              arith,
              sum_by-set (weight p) us at (numbered x (x.number - 1)) d lt,
              ap f (b x.height h two.0 two.1),
              one_fewer (p x.height) x.number (omega arith),
              tally_heights p vs,
              tally_heights p us,
            );
      };
      positive = positive_numbered us at (x.number - 1) x (omega arith);
      climbing = climbing_numbered le us at (x.number - 1) d lt;
      few = omega arith;
      exact = λ pos cl. steps_fewer o h us at d s many cl;
    }

-- the same of the used entries, as the write leaves them
pub take_level : {X : Type 0} {le : X → X → Bool} → Preorder le → (es : List (Entry X)) (used at : ℕ) (d e r : Entry X) (h : X) → at < used → Stands le h (take used es) at
    → 1 < (get_or es at r).number
    → Shrunk le (take used es) (take used (set es at (record { height = (get_or es at d).height; number = (get_or es at e).number - 1 }))) h 0
take_level {X} {le = le} o es used at d e r h lt s many =
    let us = take used es in
    let read : (y : Entry X) → (get_or us at d).number ≡ (get_or es at y).number
    = λ y. ap number (get_or_default us at d y s.inside ∙ get_or-take used es at y lt) in
    subst (λ vs. Shrunk le us vs h 0) (sym (used_numbered es used at ((get_or es at e).number - 1) d lt))
    (subst (λ m. Shrunk le us (set us at (numbered (get_or us at d) (m - 1))) h 0) (read e) (shrunk_number o us at d h s (omega (arith, read r))))

positive_removed : {X : Type 0} (us : List (Entry X)) (at : ℕ) → Positive us → Positive (remove us at)
positive_removed {X} us at pos =
    let P : Entry X → Type 0 = λ e. 0 < e.number in
    All-append P (take at us) (drop (suc at) us) (All-take P at us pos) (All-drop P (suc at) us pos)

-- the last of its level less: its entry goes
pub shrunk_entry : {X : Type 0} {le : X → X → Bool} → Preorder le → (us : List (Entry X)) (at : ℕ) (d : Entry X) (h : X)
    → Stands le h us at → (get_or us at d).number ≡ 1 → Shrunk le us (remove us at) h (length us - 1 - at)
shrunk_entry {X} {le = le} o us at d h s last =
    let lt = s.inside in
    let x = get_or us at d in
    let two = level_parts le x.height h (s.here d) in
    record {
      held = record {
        tallies = λ p b.
            let f : Bool → ℕ = λ v. cond v 1 0 in
            let one : weight p x ≡ cond (p x.height) 1 0 = ap (λ k. cond (p x.height) k 0) last in
            omega (
              arith,
              one,
              ap f (b x.height h two.0 two.1),
              sum_by-remove (weight p) us at d lt,
              tally_heights p (remove us at),
              tally_heights p us,
            );
      };
      positive = positive_removed us at;
      climbing = all_pairs_remove (λ a b. le b.height a.height ≡ false) us at lt;
      few = omega arith;
      exact = λ pos cl. steps_last o h us at d s last pos cl;
    }

-- the same of the used entries, as the removal leaves them
pub take_entry : {X : Type 0} {le : X → X → Bool} → Preorder le → (es vs : List (Entry X)) (used at : ℕ) (e : Entry X) (h : X) → used ≤ length es → at < used
    → Stands le h (take used es) at → Positive (take used es) → (get_or es at e).number ≤ 1
    → vs ≡ remove (take used es) at → Shrunk le (take used es) vs h (used - 1 - at)
take_entry {le = le} o es vs used at e h in' lt s pos last eq =
    let us = take used es in
    let n : (get_or us at e).number ≡ (get_or es at e).number = ap number (get_or-take used es at e lt) in
    subst (λ ws. Shrunk le us ws h (used - 1 - at)) (sym eq)
    (subst (λ n. Shrunk le us (remove us at) h (n - 1 - at)) (length-take-le used es in')
    (shrunk_entry o us at e h s (omega (arith, pos at e s.inside))))
