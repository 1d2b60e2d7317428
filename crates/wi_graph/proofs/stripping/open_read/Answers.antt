use Rattle.wi_graph.proofs.Words.{ap, sym, on_ok_weaker}
use Rattle.std.specs.Option.{is_some}
use Rattle.wi_graph.proofs.StripSteps.{kept_at}
use Rattle.wi_graph.proofs.stripping.open_read.Goals as goal

pub returns-in-Some-clause-kept : goal.returns-in-Some-clause-kept
returns-in-Some-clause-kept c =
    let new = c.first_read.new.areas in
    let put = (c.get_mut.follows.holds new).3 (ap is_some (sym c.in-Some.ensures.value)) in
    on_ok_weaker c.first_read.result (λ k. kept_at c.args.rest.now c.args.areas.now (c.get_mut.follows.lender new) c.args.cell c.in-Some.areas.now new (sym c.in-Some.ensures.value) put.0 k) c.first_read.ensures.kept
