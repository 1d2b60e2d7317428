use Rattle.wi_propagate.proofs.Words.{◌≡◌, None, rules, areas_in, content_of}
use Rattle.wi_propagate.proofs.Editing.{edges_without}
use Rattle.wi_propagate.proofs.one_cell.is_without_formulas.Goals as goal

pub returns : goal.returns
returns c = λ r es edges.
    let stood : areas_in (content_of c.args.store.now.sheet c.index-changes-0.result.0) ≡ None = search rules in
    edges_without es c.args.store.now.sheet c.args.changes.now c.index-changes-0.result (search rules) c.index-changes-0.is (c.brings_formula.ensures c.if-brings_formula.false) stood edges
