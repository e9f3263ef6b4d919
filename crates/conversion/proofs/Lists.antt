-- Lists of converted calls, one call after another.
use Rattle.std.proofs.Common.{◌≡◌, ℕ, zero, suc, List, [], ◌∷◌, Some, refl, ap, subst, arith}
use Rattle.std.specs.List.{slice_get}
use Rattle.runs.specs.declared.call.Call.{Call}
use Rattle.conversion.specs.Calls.{ConvertedCall, ConvertedCalls}

-- no calls are no calls converted
pub converted_none : ConvertedCalls [] []
converted_none = record { long = refl; each = λ i c c' is is'. let never : ◌≡◌ {A = ℕ} 0 1 = cc in absurd (let none : ⊥ = omega arith in none) }

-- the calls at each place, where there is one more call in front
each_more :
    (c c' : Call) (calls calls' : List Call)
    → ConvertedCall c c'
    → ConvertedCalls calls calls'
    → (i : ℕ) (d d' : Call)
    → slice_get (c ∷ calls) i ≡ Some d
    → slice_get (c' ∷ calls') i ≡ Some d'
    → ConvertedCall d d'
each_more c c' calls calls' first rest zero d d' is is' =
    let same : c ≡ d = cc in
    let same' : c' ≡ d' = cc in
    subst (λ (x : Call). ConvertedCall x d') same (subst (λ (x : Call). ConvertedCall c x) same' first)
each_more c c' calls calls' first rest (suc i) d d' is is' = rest.each i d d' is is'

-- one more call in front of converted calls
pub converted_more : (c c' : Call) (calls calls' : List Call) → ConvertedCall c c' → ConvertedCalls calls calls' → ConvertedCalls (c ∷ calls) (c' ∷ calls')
converted_more c c' calls calls' first rest = record { long = ap suc rest.long; each = each_more c c' calls calls' first rest }
