-- A side keeps what it was lent, call after call.
use Rattle.std.proofs.Common.{refl, ◌∙◌}
use Rattle.two_boxes.specs.declared.comparing.Side.{Side}
use Rattle.two_boxes.specs.Sides.{SameLoans}

-- before the first call
pub loans_begun : {H C : Type 0} {s : Side H C} → SameLoans s s
loans_begun = record { calls = refl; siting = refl; records = refl; counters = refl; answers = refl; counted = refl; room = refl }

-- and after one more
pub loans_more : {H C : Type 0} {s t u : Side H C} → SameLoans s t → SameLoans t u → SameLoans s u
loans_more a b =
    record { calls = b.calls ∙ a.calls; siting = b.siting ∙ a.siting; records = b.records ∙ a.records; counters = b.counters ∙ a.counters; answers = b.answers ∙ a.answers; counted = b.counted ∙ a.counted; room = b.room ∙ a.room }
