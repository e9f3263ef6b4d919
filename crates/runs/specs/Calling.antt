-- What a call says: its name and numbers, and the stored heights that it brings.
use Rattle.std.specs.Prelude.{ℕ, ◌*◌, Bool, List, [], length, ◌==◌}
use Rattle.heights.specs.Meaning.{Storage}
use Rattle.runs.specs.declared.call.Call.{Call}
use Rattle.runs.specs.declared.call.Call.TheVariants.{Open, Alter, Sweep, Tell, Share, Nearest, Total}

-- the name of a call and its numbers
pub data Form : Type 0 where
  opens : (width rows radius : ℕ) → Form
  alters : (x y : ℕ) → Form
  sweeps : Form
  tells : (x y : ℕ) → Form
  shares : (x y : ℕ) → Form
  nears : (x y : ℕ) → Form
  totals : Form

-- those of a call
abbrev pub form : Call → Form
form (Open width rows radius bytes) = opens width rows radius
form (Alter x y bytes) = alters x y
form Sweep = sweeps
form (Tell x y) = tells x y
form (Share x y) = shares x y
form (Nearest x y) = nears x y
form Total = totals

-- the bytes that a call brings
abbrev pub brought : Call → List ℕ
brought (Open width rows radius bytes) = bytes.now
brought (Alter x y bytes) = bytes.now
brought Sweep = []
brought (Tell x y) = []
brought (Share x y) = []
brought (Nearest x y) = []
brought Total = []

-- how many stored heights a call is to bring: one for each cell of an opened plan, and one for an altered cell
abbrev pub brings : Form → ℕ
brings (opens width rows radius) = width * rows
brings (alters x y) = 1
brings sweeps = 0
brings (tells x y) = 0
brings (shares x y) = 0
brings (nears x y) = 0
brings totals = 0

-- the bytes of a call are as many as its stored heights take
abbrev pub right : {X C : Type 0} → Storage X C → Call → Bool
right k c = length (brought c) == brings (form c) * k.wide
