-- One height more or less among the used entries.
use Rattle.std.specs.Prelude.{◌≡◌, ℕ, ◌≤◌, Bool, List, ◌∷◌, length, take, Some, None, Option}
use Rattle.counters.specs.Held.{Same, level_with}
use Rattle.counters.specs.Calls.{shift_steps, put, take as taking}
use Rattle.shift_array.specs.declared.change.Change.{Change}
use Rattle.shift_array.specs.declared.entry.Entry.{Entry}
use Rattle.shift_array.specs.Entries.{heights, Positive, Climbing}

-- the entries vs stand for the heights of us and h besides; so many entries moved
pub record Grown {X : Type 0} (le : X → X → Bool) (us vs : List (Entry X)) (h : X) (steps : ℕ) : Type 0 where
  pub held : Same le (heights vs) (h ∷ heights us)
  pub positive : Positive us → Positive vs
  pub climbing : Climbing le us → Climbing le vs
  pub few : steps ≤ length us
  pub exact : Positive us → Climbing le us → steps ≡ shift_steps le (heights us) (put h)

-- the entries us stand for the heights of vs and h besides; so many entries moved
pub record Shrunk {X : Type 0} (le : X → X → Bool) (us vs : List (Entry X)) (h : X) (steps : ℕ) : Type 0 where
  pub held : Same le (heights us) (h ∷ heights vs)
  pub positive : Positive us → Positive vs
  pub climbing : Climbing le us → Climbing le vs
  pub few : steps ≤ length us
  pub exact : Positive us → Climbing le us → steps ≡ shift_steps le (heights us) (taking h)

-- one height level with h is removed from the used entries; or, if they climb, there is none, and nothing changes
abbrev pub Removed : {X : Type 0} → (X → X → Bool) → (before after : List (Entry X)) → ℕ → X → Option Change → Type 0
Removed le before after used h (Some change) = (change.used ≤ used) × Shrunk le (take used before) (take change.used after) h change.steps
Removed le before after used h None = (after ≡ before) × (Climbing le (take used before) → level_with le (heights (take used before)) h ≡ 0)
