-- What one side of a comparison keeps while its calls come.
use Rattle.std.specs.Prelude.{◌≡◌, length}
use Rattle.two_boxes.specs.declared.comparing.Side.{Side}

-- the calls are the same, and the box, its records, the counters and the memory for answers are those that were lent
pub record SameLoans {H C : Type 0} (old new : Side H C) : Type 0 where
  pub calls : new.calls.now ≡ old.calls.now
  pub siting : new.siting.ghost_name ≡ old.siting.ghost_name
  pub records : new.siting.now.records.ghost_name ≡ old.siting.now.records.ghost_name
  pub counters : new.counters.ghost_name ≡ old.counters.ghost_name
  pub answers : new.answers.ghost_name ≡ old.answers.ghost_name
  pub counted : length new.counters.now ≡ length old.counters.now
  pub room : length new.answers.now ≡ length old.answers.now
