use Rattle.wi_engine.proofs.Words.{◌∙◌, None, Some, sym}
use Rattle.wi_engine.proofs.known.HandOver.{further, replaced_ahead, replaced_last, replaced_on, stands}
use Rattle.wi_engine.proofs.known.KnownLookup.hand_over.Goals as goal

pub hand_stored-requires-clause-ahead : goal.hand_stored-requires-clause-ahead
hand_stored-requires-clause-ahead g c = (replaced_ahead c.args.area c.args.from c.in-Some.replacement.now.at c.replacements.result.now c.in-Some.ensures.cell).1

pub hand_stored-requires-clause-stands : goal.hand_stored-requires-clause-stands
hand_stored-requires-clause-stands g c =
    let k = c.args.self.now in
    stands k.store.now.sheet c.replacements.result.now k.world.now c.args.area c.args.from (Some c.in-Some.replacement.now.at) c.replacements.ensures.order c.replacements.ensures.value c.in-Some.ensures.cell

pub returns-then-is_break-clause-taken : goal.returns-then-is_break-clause-taken
returns-then-is_break-clause-taken g c =
    let k = c.args.self.now in
    let x = c.in-Some.replacement.now in
    replaced_last g.T.TakesCells.after g.met.T.TakesCells.passes_empty k.store.now.sheet k.world.now c.replacements.result.now k.found.now c.args.area c.args.from c.replacements.ensures.order c.replacements.ensures.value x.at x.value c.in-Some.ensures.cell c.in-Some.ensures.value
    c.args.taker.now c.hand_stored.new.taker c.take.new.self c.in_ok-hand_stored-in-Some.ensures.taken c.take.ensures.taken (c.take.ensures.broken (sym c.is_break.ensures ∙ c.if-is_break.true))

pub hand_stored-requires-in-None-clause-stands : goal.hand_stored-requires-in-None-clause-stands
hand_stored-requires-in-None-clause-stands g c =
    let k = c.args.self.now in
    stands k.store.now.sheet c.replacements.result.now k.world.now c.args.area c.args.from None c.replacements.ensures.order c.replacements.ensures.value c.in-None.ensures.cell

pub returns-else-is_break-clause-taken : goal.returns-else-is_break-clause-taken
returns-else-is_break-clause-taken g c =
    let k = c.args.self.now in
    let x = c.in-Some.replacement.now in
    replaced_on g.T.TakesCells.after g.met.T.TakesCells.passes_empty k.store.now.sheet k.world.now c.replacements.result.now k.found.now c.args.area c.args.from c.replacements.ensures.order c.replacements.ensures.value x.at c.last.result x.value c.successor.result c.in-Some.ensures.cell c.in-Some.ensures.value
    c.args.taker.now c.hand_stored.new.taker c.take.new.self c.in_ok-hand_stored-in-Some.ensures.taken c.take.ensures.taken c.last.ensures c.successor.ensures.some c.successor.ensures.none

pub returns-else-is_break-clause-further : goal.returns-else-is_break-clause-further
returns-else-is_break-clause-further g c = further c.args.area c.args.from c.in-Some.replacement.now.at c.last.result c.replacements.result.now c.successor.result c.in-Some.ensures.cell c.last.ensures c.successor.ensures.some
