use Rattle.std.proofs.Common.{◌∙◌, ◌^◌, Bool, rules, tests, arith}
use Rattle.std.specs.List.{prefix_len}
use Rattle.std.proofs.lemmas.Iterator.{YieldsList-from_slice, YieldsList-from_map}
use Rattle.std.proofs.lemmas.Iterator.Consumers.{YieldsList-at, sum_by_from_yields_List, fits_by_from_yields_list}
use Rattle.std.proofs.lemmas.Iterator.Search.{YieldsList-from_take_while}
use Rattle.std.proofs.lemmas.List.Sums.{prefix_len_stops}
use Rattle.shift_array.specs.declared.entry.Entry.{Entry}
use Rattle.shift_array.proofs.Weights.{number, front, front_le, front_tally}
use Rattle.shift_array.proofs.Ordered.{higher_from}
use Rattle.shift_array.proofs.count.count_up_to.Goals as goal

pub sum-requires-clause-fits : goal.sum-requires-clause-fits
sum-requires-clause-fits g c =
    let p : g.row.H.Denot → Bool = λ a. g.H.Height.not_higher a c.args.height in
    let es = c.args.entries.now in
    fits_by_from_yields_list number (front p es) c.map.result (2 ^ 32)
    (YieldsList-from_map _ number
    (YieldsList-at c.map.ensures.source
    (YieldsList-from_take_while _ (λ (e : Entry g.row.H.Denot). p e.height)
    (YieldsList-at c.take_while.ensures.source (YieldsList-from_slice es (cc)))
    c.take_while.ensures.closure c.take_while.ensures.done (λ x b q k. search (rules, tests))))
    c.map.ensures.closure (λ x r q k. search (rules, tests)))
    (omega (arith, c.requires, front_le p es))

pub returns : goal.returns
returns g c =
    let p : g.row.H.Denot → Bool = λ a. g.H.Height.not_higher a c.args.height in
    let es = c.args.entries.now in
    λ climb.
    sum_by_from_yields_List number (front p es) c.map.result c.sum.result c.sum.ensures.ran
    (YieldsList-from_map _ number
    (YieldsList-at c.map.ensures.source
    (YieldsList-from_take_while _ (λ (e : Entry g.row.H.Denot). p e.height)
    (YieldsList-at c.take_while.ensures.source (YieldsList-from_slice es (cc)))
    c.take_while.ensures.closure c.take_while.ensures.done (λ x b q k. search (rules, tests))))
    c.map.ensures.closure (λ x r q k. search (rules, tests)))
    ∙ front_tally p es
    (λ k d l1 l2. higher_from g.met.H.Height.ordered es (prefix_len (λ (e : Entry g.row.H.Denot). p e.height) es) c.args.height climb d
    (λ l. prefix_len_stops (λ (e : Entry g.row.H.Denot). p e.height) es d l) k l1 l2)
