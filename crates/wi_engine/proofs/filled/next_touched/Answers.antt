use Rattle.wi_engine.proofs.filled.FirstTouched.{are_sought, touched_inside, touched_seen, untouched_before}
use Rattle.wi_engine.proofs.filled.next_touched.Goals as goal

pub returns-clause-inside : goal.returns-clause-inside
returns-clause-inside c =
    let sought = are_sought c.args.store.now.sheet c.replacements.result.now c.args.world.now c.args.area c.args.from c.next_content.result c.next_replaced-replaced.result c.cells_stand_in_order.ensures c.replacements.ensures.order c.replacements.ensures.value
    c.next_content.ensures.cell c.next_content.ensures.content c.next_replaced-replaced.ensures.cell c.next_replaced-replaced.ensures.value in
    touched_inside c.args.store.now.sheet c.args.world.now c.args.area c.args.from _ _ sought c.earlier.result c.earlier.ensures

pub returns-clause-seen : goal.returns-clause-seen
returns-clause-seen c =
    let sought = are_sought c.args.store.now.sheet c.replacements.result.now c.args.world.now c.args.area c.args.from c.next_content.result c.next_replaced-replaced.result c.cells_stand_in_order.ensures c.replacements.ensures.order c.replacements.ensures.value
    c.next_content.ensures.cell c.next_content.ensures.content c.next_replaced-replaced.ensures.cell c.next_replaced-replaced.ensures.value in
    touched_seen c.args.store.now.sheet c.args.world.now c.args.area c.args.from _ _ sought c.earlier.result c.earlier.ensures

pub returns-clause-nothing_before : goal.returns-clause-nothing_before
returns-clause-nothing_before c =
    let sought = are_sought c.args.store.now.sheet c.replacements.result.now c.args.world.now c.args.area c.args.from c.next_content.result c.next_replaced-replaced.result c.cells_stand_in_order.ensures c.replacements.ensures.order c.replacements.ensures.value
    c.next_content.ensures.cell c.next_content.ensures.content c.next_replaced-replaced.ensures.cell c.next_replaced-replaced.ensures.value in
    untouched_before c.args.store.now.sheet c.args.world.now c.args.area c.args.from _ _ sought c.earlier.result c.earlier.ensures
