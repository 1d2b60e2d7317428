use Rattle.wi_graph.proofs.Words.{◌≡◌, sym, None, nat_cmp}
use Rattle.std.specs.BTreeMap.{get}
use Rattle.wi_graph.proofs.StripSteps.{park_new}
use Rattle.wi_graph.proofs.stripping.park.Goals as goal

pub returns : goal.returns
returns c =
    let none : get nat_cmp c.args.waiting.now c.args.read ≡ None = sym c.in_default.ensures.value in
    park_new c.args.waiting.now c.get_mut.follows.lender-at-none c.insert.new.self c.args.read c.args.cell c.in_ok-cells.cells c.get_mut.follows.holds-at-none none c.in_ok-cells.ensures.items c.in_ok-insert.ensures.updates.0
