-- Calls in whole metres, and the same calls in binary32 numbers.
use Rattle.std.specs.Prelude.{◌≡◌, ℕ, List, length, ℤ, Some, int_le}
use Rattle.std.specs.List.{slice_get}
use Rattle.heights.specs.Meaning.{Storage}
use Rattle.heights.specs.Whole.{whole_reads}
use Rattle.heights.specs.Float.{float_reads, float_not_higher}
use Rattle.heights.specs.declared.whole.NoCause.{NoCause}
use Rattle.heights.specs.declared.finite.FloatCause.{FloatCause}
use Rattle.heights.specs.declared.float.FloatBits.{FloatBits}
use Rattle.runs.specs.declared.call.Call.{Call}
use Rattle.runs.specs.Calling.{form, brought}
use Rattle.runs.specs.Matching.{Matched}
use Rattle.conversion.specs.Metres.{IsMetres}
use Rattle.conversion.specs.Converting.{Converted}

-- how kind W stores its heights
abbrev pub whole_storage : Storage ℤ NoCause
whole_storage = record { wide = 2; reads = whole_reads }

-- how kind F stores its heights
abbrev pub float_storage : Storage FloatBits FloatCause
float_storage = record { wide = 4; reads = float_reads }

-- the second call is the first with its stored heights converted
pub record ConvertedCall (c c' : Call) : Type 0 where
  pub forms : form c ≡ form c'
  pub bytes : Converted (brought c) (brought c')

-- the second list has the converted calls of the first, each at its place
pub record ConvertedCalls (calls calls' : List Call) : Type 0 where
  pub long : length calls ≡ length calls'
  pub each : (i : ℕ) (c c' : Call) → slice_get calls i ≡ Some c → slice_get calls' i ≡ Some c' → ConvertedCall c c'

-- the law that whole metres compare as their binary32 numbers do
abbrev pub SameOrder : Type 0
SameOrder = (a b : ℤ) (p q : ℕ) → IsMetres p a → IsMetres q b → int_le a b ≡ float_not_higher (record { bits = p }) (record { bits = q })

-- the law that calls in whole metres match the converted calls
abbrev pub ConvertedMatch : Type 0
ConvertedMatch = (calls calls' : List Call) → ConvertedCalls calls calls' → Matched whole_storage float_storage int_le float_not_higher calls calls'
