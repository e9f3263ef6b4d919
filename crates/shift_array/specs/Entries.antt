-- What entries stand for, and when they are in order.
use Rattle.std.specs.Prelude.{◌≡◌, ◌<◌, Bool, false, List, [], ◌∷◌, ◌++◌, replicate}
use Rattle.std.specs.List.{All, AllPairs}
use Rattle.shift_array.specs.declared.entry.Entry.{Entry}

-- the heights that entries stand for: each height as often as its number says
abbrev pub heights : {X : Type 0} → List (Entry X) → List X
heights [] = []
heights (e ∷ es) = replicate e.number e.height ++ heights es

-- no number is 0
abbrev pub Positive : {X : Type 0} → List (Entry X) → Type 0
Positive es = All (λ e. 0 < e.number) es

-- each height is higher than those before it
abbrev pub Climbing : {X : Type 0} → (X → X → Bool) → List (Entry X) → Type 0
Climbing le es = AllPairs (λ a b. le b.height a.height ≡ false) es
