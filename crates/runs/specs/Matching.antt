-- When two lists of calls match, each of them over a height kind of its own.
use Rattle.std.specs.Prelude.{◌≡◌, ℕ, ◌<◌, Bool, true, List, length, is_ok, Some, Ok}
use Rattle.std.specs.List.{slice_get}
use Rattle.heights.specs.Meaning.{Storage}
use Rattle.siting_box.specs.Stored.{stored_at}
use Rattle.runs.specs.declared.call.Call.{Call}
use Rattle.runs.specs.Calling.{sweeps, form, brought, brings, right}

-- two calls are partners: they agree in name and numbers, their bytes are as many as they should be in both or in neither, and
-- where they are, the stored heights at the same index read in both or in neither
pub record Partners {X C Y D : Type 0} (k : Storage X C) (k' : Storage Y D) (c c' : Call) : Type 0 where
  pub forms : form c ≡ form c'
  pub lengths : right k c ≡ right k' c'
  pub readings : right k c ≡ true → (i : ℕ) → i < brings (form c) → is_ok (stored_at k (brought c) i) ≡ is_ok (stored_at k' (brought c') i)

-- two heights are partners: they are read at the same index of two calls at the same place of two lists, from bytes that are as
-- many as they should be
pub record ReadAt {X C Y D : Type 0} (k : Storage X C) (k' : Storage Y D) (calls calls' : List Call) (height : X) (height' : Y) : Type 0 where
  pub place : ℕ
  pub index : ℕ
  pub call : Call
  pub call' : Call
  pub call_is : slice_get calls place ≡ Some call
  pub call_is' : slice_get calls' place ≡ Some call'
  pub long : right k call ≡ true
  pub within : index < brings (form call)
  pub read : stored_at k (brought call) index ≡ Ok height
  pub read' : stored_at k' (brought call') index ≡ Ok height'

-- two lists of calls match: they are equally long, calls at the same place are partners, and any two heights that are read in the
-- one list compare as their partners in the other do
pub record Matched {X C Y D : Type 0} (k : Storage X C) (k' : Storage Y D) (le : X → X → Bool) (le' : Y → Y → Bool) (calls calls' : List Call) : Type 0 where
  pub long : length calls ≡ length calls'
  pub partners : (i : ℕ) (c c' : Call) → slice_get calls i ≡ Some c → slice_get calls' i ≡ Some c' → Partners k k' c c'
  pub order : (a b : X) (a' b' : Y) → ReadAt k k' calls calls' a a' → ReadAt k k' calls calls' b b' → le a b ≡ le' a' b'

-- sweeps at the same place of two lists get counters with equally many places; one number of places for each call is given, and
-- those of other calls do not matter
abbrev pub EqualPlaces : List Call → (places places' : List ℕ) → Type 0
EqualPlaces calls places places' = (i : ℕ) (c : Call) → slice_get calls i ≡ Some c → form c ≡ sweeps → slice_get places i ≡ slice_get places' i
