use Rattle.wi_propagate.proofs.Words.{◌∙◌}
use Rattle.wi_propagate.proofs.GenerationSteps.{space_made, there_more}
use Rattle.wi_propagate.proofs.generations.reserve.Goals as goal

pub loop-cell-preserved : goal.loop-cell-preserved
loop-cell-preserved c =
    let old = c.loop-cell.generations.entries in
    let new = c.put_new.new.self.entries in
    let made = space_made old new c.cell-item.result c.in_ok-put_new.ensures.entries in
    record {
      stay = λ q h. made.stay q (c.loop-cell.invariant.stay q h);
      same = λ q. made.same q ∙ c.loop-cell.invariant.same q;
      there = there_more old new c.args.cells.now c.loop-cell.cell-index c.cell-item.result c.loop-cell-test.true c.cell-item.is made c.loop-cell.invariant.there;
    }
