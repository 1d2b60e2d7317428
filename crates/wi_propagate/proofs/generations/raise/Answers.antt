use Rattle.wi_propagate.proofs.Words.{HasGeneration, sym, has_at}
use Rattle.wi_propagate.proofs.GenerationSteps.{replaced, raised_more, still_there}
use Rattle.wi_propagate.proofs.generations.raise.Goals as goal

pub loop-cell-preserved : goal.loop-cell-preserved
loop-cell-preserved c =
    let a = c.cell-item.result in
    let old = c.loop-cell.generations.entries in
    let new = c.replace.new.self.entries in
    let there : HasGeneration old a = c.loop-cell.invariant.there a (c.requires a (has_at c.args.cells.now c.loop-cell.cell-index a a c.loop-cell-test.true (sym c.cell-item.is))) in
    let u = replaced old new a c.args.edit there c.replace.ensures.entries in
    record {
      raised = raised_more old new c.args.generations.now.entries c.args.cells.now c.loop-cell.cell-index a c.args.edit c.loop-cell-test.true c.cell-item.is u c.loop-cell.invariant.raised;
      there = λ q h. still_there old new a c.args.edit u q (c.loop-cell.invariant.there q h);
    }
