use Rattle.wi_engine.proofs.known.FirstEqual.{told}
use Rattle.wi_engine.proofs.known.KnownLookup.first_equal.Goals as goal

pub returns-in-None : goal.returns-in-None
returns-in-None c =
    let k = c.args.self.now in
    told k.store.now.sheet c.replacements.result.now k.world.now k.found.now c.args.area c.first.result c.args.sought.now c.in-Number.number c.in_ok-first.first c.cells_stand_in_order.ensures c.replacements.ensures.order c.replacements.ensures.value c.first.ensures c.in-None.ensures.cell
    c.in-Number.is c.in_ok-first.ensures
