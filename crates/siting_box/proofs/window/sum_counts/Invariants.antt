use Rattle.std.proofs.Common.{◌≡◌, ◌*◌, ◌≤◌, map, take, sum}
use Rattle.siting_box.proofs.window.sum_counts.Given as goal

abbrev pub invariant-loop-record : goal.invariant-loop-record
invariant-loop-record g l = (l.sum ≡ sum (map (λ c. c.count) (take l.record-index l.records))) × (l.sum ≤ l.record-index * 4294967295)
