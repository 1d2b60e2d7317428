use Rattle.wi_engine.proofs.Words.{ap, ◌∙◌, sym, value_if_known, Content, Option, known_in, found_value}
use Rattle.wi_engine.proofs.known.HandOver.{handed_enough, handed_to_end, handed_to_limit, inside_here, missing_here, one_more}
use Rattle.wi_engine.proofs.known.Known.hand_stored.Goals as goal

pub returns-then-is_reached-clause-taken : goal.returns-then-is_reached-clause-taken
returns-then-is_reached-clause-taken g c =
    let k = c.args.self.now in
    handed_to_limit g.T.TakesCells.after g.met.T.TakesCells.passes_empty k.store.now.sheet k.world.now k.found.now c.args.area c.args.from c.args.replaced.now c.requires.stands c.args.taker.now c.loop-at.taker c.in-Some.at c.in-Some.content.now c.loop-at.at-iterator c.next.new.self
    c.cells_stand_in_order.ensures c.loop-at.invariant c.in-Some.ensures.steps (c.is_reached.ensures.reached c.if-is_reached.true)

pub returns-then-is_break-clause-taken : goal.returns-then-is_break-clause-taken
returns-then-is_break-clause-taken g c =
    let k = c.args.self.now in
    handed_enough g.T.TakesCells.after g.met.T.TakesCells.passes_empty k.store.now.sheet k.world.now k.found.now c.args.area c.args.from c.args.replaced.now c.requires.stands c.args.taker.now c.loop-at.taker c.take.new.self c.in-Some.at c.in-Some.content.now c.known.result c.in-Known.value.now
    c.loop-at.at-iterator c.next.new.self c.cells_stand_in_order.ensures c.loop-at.invariant c.in-Some.ensures.steps (c.is_reached.ensures.before c.if-is_reached.false)
    (c.known.ensures ∙ ap (λ (o : Option Content). known_in o (found_value k.found.now c.in-Some.at)) c.content_ref.ensures) (ap value_if_known c.in-Known.is) c.take.ensures.taken (c.take.ensures.broken (sym c.is_break.ensures ∙ c.if-is_break.true))

pub loop-at-preserved : goal.loop-at-preserved
loop-at-preserved g c =
    let k = c.args.self.now in
    one_more g.T.TakesCells.after g.met.T.TakesCells.passes_empty k.store.now.sheet k.world.now k.found.now c.args.area c.args.from c.args.replaced.now c.requires.stands c.args.taker.now c.loop-at.taker c.take.new.self c.in-Some.at c.in-Some.content.now c.known.result c.in-Known.value.now
    c.loop-at.at-iterator c.next.new.self c.cells_stand_in_order.ensures c.loop-at.invariant c.in-Some.ensures.steps (c.is_reached.ensures.before c.if-is_reached.false)
    (c.known.ensures ∙ ap (λ (o : Option Content). known_in o (found_value k.found.now c.in-Some.at)) c.content_ref.ensures) (ap value_if_known c.in-Known.is) c.take.ensures.taken

pub returns-in-Missing-clause-missing : goal.returns-in-Missing-clause-missing
returns-in-Missing-clause-missing g c =
    let k = c.args.self.now in
    missing_here g.T.TakesCells.after g.met.T.TakesCells.passes_empty k.store.now.sheet k.world.now k.found.now c.args.area c.args.from c.args.replaced.now c.requires.stands c.args.taker.now c.loop-at.taker c.in-Some.at c.in-Some.content.now c.known.result
    c.loop-at.at-iterator c.next.new.self c.cells_stand_in_order.ensures c.loop-at.invariant c.in-Some.ensures.steps (c.is_reached.ensures.before c.if-is_reached.false)
    (c.known.ensures ∙ ap (λ (o : Option Content). known_in o (found_value k.found.now c.in-Some.at)) c.content_ref.ensures) (ap value_if_known c.in-Missing.is)

pub returns-in-Missing-clause-inside : goal.returns-in-Missing-clause-inside
returns-in-Missing-clause-inside g c =
    let k = c.args.self.now in
    inside_here g.T.TakesCells.after g.met.T.TakesCells.passes_empty k.store.now.sheet k.world.now k.found.now c.args.area c.args.from c.args.replaced.now c.args.taker.now c.loop-at.taker c.in-Some.at c.in-Some.content.now c.loop-at.at-iterator c.next.new.self
    c.cells_stand_in_order.ensures c.loop-at.invariant c.in-Some.ensures.steps

pub returns-clause-taken : goal.returns-clause-taken
returns-clause-taken g c =
    let k = c.args.self.now in
    handed_to_end g.T.TakesCells.after g.met.T.TakesCells.passes_empty k.store.now.sheet k.world.now k.found.now c.args.area c.args.from c.args.replaced.now c.requires.stands c.args.taker.now c.loop-at.taker c.loop-at.at-iterator
    c.cells_stand_in_order.ensures c.loop-at.invariant c.in-None.ensures.steps.0
