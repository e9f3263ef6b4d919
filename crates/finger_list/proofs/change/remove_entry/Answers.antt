use Rattle.std.proofs.Common.{arith}
use Rattle.finger_list.proofs.Unlinking.{entry_gone, relocated_none, unlinked_half}
use Rattle.finger_list.proofs.change.remove_entry.Goals as goal

pub relocate-requires-clause-half : goal.relocate-requires-clause-half
relocate-requires-clause-half g c = unlinked_half c.args.entries.now c.unlink.new.entries c.args.used c.args.at c.requires.linked (omega arith) (omega arith) c.unlink.ensures

pub returns-then-at-used : goal.returns-then-at-used
returns-then-at-used g c =
    entry_gone g.met.H.Height.ordered c.args.entries.now c.unlink.new.entries c.relocate.new.entries c.args.used c.args.at c.requires.linked (omega arith) (omega arith)
    c.unlink.ensures c.relocate.ensures

pub returns-else-at-used : goal.returns-else-at-used
returns-else-at-used g c =
    entry_gone g.met.H.Height.ordered c.args.entries.now c.unlink.new.entries c.unlink.new.entries c.args.used c.args.at c.requires.linked (omega arith) (omega arith)
    c.unlink.ensures
    (relocated_none c.unlink.new.entries c.args.used c.args.at
    (unlinked_half c.args.entries.now c.unlink.new.entries c.args.used c.args.at c.requires.linked (omega arith) (omega arith) c.unlink.ensures) (omega arith))
