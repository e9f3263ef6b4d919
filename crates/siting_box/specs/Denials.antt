-- Each call asks its questions in rising order of their numbers; the first that is answered no denies the call.
use Rattle.std.specs.Prelude.{ℕ, Bool, cond, List, [], ◌∷◌, Some, None, Ok, Err, Option, Result}
use Rattle.siting_box.specs.declared.denial.Denial.{Denial}
use Rattle.siting_box.specs.declared.denial.Denial.TheVariants.{NoPlan, Sizes, TooFewRecords, Outside, StoredLength, Unread, NoRowLeft, TooFewPlaces, NotSwept, RowsLeft}
use Rattle.heights.specs.declared.layer.Layer.{Layer}
use Rattle.heights.specs.declared.layer.Layer.TheVariants.{Reader, Kind, Counter, Box}

-- the number of the question that was answered no
abbrev pub number : {C : Type 0} → Denial C → ℕ
number NoPlan = 1
number Sizes = 2
number TooFewRecords = 3
number Outside = 4
number StoredLength = 5
number (Unread cause at) = 6
number NoRowLeft = 7
number TooFewPlaces = 8
number NotSwept = 9
number RowsLeft = 10

-- the layer that asked it
abbrev pub layer : {C : Type 0} → Denial C → Layer
layer NoPlan = Box
layer Sizes = Box
layer TooFewRecords = Box
layer Outside = Box
layer StoredLength = Reader
layer (Unread cause at) = Kind
layer NoRowLeft = Box
layer TooFewPlaces = Counter
layer NotSwept = Box
layer RowsLeft = Box

-- the number by which a call was denied, if it was
abbrev pub denied_by : {A C : Type 0} → Result A (Denial C) → Option ℕ
denied_by (Ok answer) = None
denied_by (Err denial) = Some (number denial)

-- the number of the first question that is answered no; a question is its number and its answer
abbrev pub first_no : List (ℕ × Bool) → Option ℕ
first_no [] = None
first_no (question ∷ questions) = cond question.1 (first_no questions) (Some question.0)
