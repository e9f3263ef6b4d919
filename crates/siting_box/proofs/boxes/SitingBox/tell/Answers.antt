use Rattle.std.proofs.Common.{length, arith, rules}
use Rattle.siting_box.proofs.Plans.{held, tells_count}
use Rattle.siting_box.proofs.boxes.SitingBox.tell.Goals as goal

pub overflow_add-record : goal.overflow_add-record
overflow_add-record g c =
    let below = (held c.args.self.now.plan (length c.args.self.now.records.now) c.args.at c.in_ok-plan.plan c.in_ok-plan.ensures c.args.self.now.fitted).recorded in
    search rules

pub bounds-self-at : goal.bounds-self-at
bounds-self-at g c = (held c.args.self.now.plan (length c.args.self.now.records.now) c.args.at c.in_ok-plan.plan c.in_ok-plan.ensures c.args.self.now.fitted).recorded

pub offset_bounds-self-at : goal.offset_bounds-self-at
offset_bounds-self-at g c =
    let below = (held c.args.self.now.plan (length c.args.self.now.records.now) c.args.at c.in_ok-plan.plan c.in_ok-plan.ensures c.args.self.now.fitted).recorded in
    search rules

pub returns-clause-answer : goal.returns-clause-answer
returns-clause-answer g c =
    let here = held c.args.self.now.plan (length c.args.self.now.records.now) c.args.at c.in_ok-plan.plan c.in_ok-plan.ensures c.args.self.now.fitted in
    tells_count g.H.Height.not_higher c.args.self.now.plan c.in_ok-plan.plan c.args.self.now.records.now c.args.at _ c.index-self-at.result here (omega arith) (cc (c.extent-columns.ensures.exact, c.extent-rows.ensures.exact))
