-- Where a height stands or belongs among entries.
use Rattle.std.specs.Prelude.{◌≡◌, ℕ, ◌<◌, ◌≤◌, Bool, true, false, List, length, Ok, Err, Result, slice_index_or}
use Rattle.heights.specs.Order.{level}
use Rattle.shift_array.specs.declared.entry.Entry.{Entry}

-- the first n entries are lower than h
abbrev pub Lower : {X : Type 0} → (X → X → Bool) → X → List (Entry X) → ℕ → Type 0
Lower {X} le h es n = (k : ℕ) (d : Entry X) → k < n → le h (slice_index_or es k d).height ≡ false

-- the entry at a place is level with h, and those before it are lower
pub record Stands {X : Type 0} (le : X → X → Bool) (h : X) (es : List (Entry X)) (at : ℕ) : Type 0 where
  pub inside : at < length es
  pub lower : Lower le h es at
  pub here : (d : Entry X) → level le (slice_index_or es at d).height h ≡ true

-- the entries before a place are lower than h, and the one at it, if there is one, is higher
pub record Belongs {X : Type 0} (le : X → X → Bool) (h : X) (es : List (Entry X)) (at : ℕ) : Type 0 where
  pub within : at ≤ length es
  pub lower : Lower le h es at
  pub higher : (d : Entry X) → at < length es → le (slice_index_or es at d).height h ≡ false

-- where h stands, or else where it belongs
abbrev pub Placed : {X : Type 0} → (X → X → Bool) → X → List (Entry X) → Result ℕ ℕ → Type 0
Placed le h es (Ok at) = Stands le h es at
Placed le h es (Err at) = Belongs le h es at
