use Rattle.wi_engine.proofs.Words.{◌≡◌, ◌∙◌, [], Some, Nothing, ap, seen_as}
use Rattle.wi_engine.proofs.stack.take_one_cell.Goals as goal

pub returns-clause-frame : goal.returns-clause-frame
returns-clause-frame c =
    let scans : c.replace-2.new.dest.items ≡ [] = ap (λ v. v.items) c.replace-2.ensures.after ∙ c.new.ensures.items in
    λ i. seen_as (c.replace-3.ensures.after i) c.args.formula.now (c.replace.ensures.after i) (Some (c.args.at, c.new-2.ensures.items i)) Nothing (scans i)
