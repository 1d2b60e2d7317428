use Rattle.std.proofs.Common.{sym, ap, ◌∙◌, rules}
use Rattle.wi_arguments.specs.Assignment.{value_if_known}
use Rattle.wi_arguments.proofs.Walking.{takes_one, takes_last, takes_none}
use Rattle.wi_arguments.proofs.lookup.Lookup.hand_over.Goals as goal

pub returns-then-is_break-clause-taken : goal.returns-then-is_break-clause-taken
returns-then-is_break-clause-taken g c =
    takes_last g.T.TakesCells.after g.met.T.TakesCells.passes_empty (g.Self.Lookup.known_cell c.args.self.now) c.args.area c.args.taker.now c.take.new.self c.args.from _ _ c.in-Known.value.now c.next_value.result c.next_value.ensures.next c.next_value.ensures.value
    (search rules) (ap value_if_known c.in-Known.is) c.take.ensures.taken (c.take.ensures.broken (sym c.is_break.ensures ∙ c.if-is_break.true))

pub returns-else-is_break-clause-taken : goal.returns-else-is_break-clause-taken
returns-else-is_break-clause-taken g c =
    takes_one g.T.TakesCells.after g.met.T.TakesCells.passes_empty (g.Self.Lookup.known_cell c.args.self.now) c.args.area c.args.taker.now c.take.new.self c.args.from _ c.last.result _ c.in-Known.value.now c.next_value.result _ c.next_value.ensures.next c.next_value.ensures.value
    (search rules) (ap value_if_known c.in-Known.is) c.take.ensures.taken c.last.ensures (search rules) (search rules)

pub returns-in-None-clause-taken : goal.returns-in-None-clause-taken
returns-in-None-clause-taken g c =
    takes_none g.T.TakesCells.after g.met.T.TakesCells.passes_empty (g.Self.Lookup.known_cell c.args.self.now) c.args.area c.args.taker.now c.args.from c.next_value.result c.next_value.ensures.next c.in-None.is
