use Rattle.wi_propagate.proofs.Words.{◌∙◌, ℕ, max, ap, HasGeneration, sym, has_at}
use Rattle.wi_propagate.proofs.GenerationSteps.{replaced, still_there}
use Rattle.wi_propagate.proofs.FlushingSteps.{lifted_more}
use Rattle.wi_propagate.proofs.late_stamps.lift_all.Goals as goal

pub loop-cell-preserved : goal.loop-cell-preserved
loop-cell-preserved c =
    let a = c.cell-item.result in
    let old = c.loop-cell.numbers.entries in
    let new = c.replace.new.self.entries in
    let there : HasGeneration old a = c.loop-cell.invariant.there a (c.requires a (has_at c.args.cells.now c.loop-cell.cell-index a a c.loop-cell-test.true (sym c.cell-item.is))) in
    let u = replaced old new a c.greater-lifted.result there c.replace.ensures.entries in
    record {
      lifted = lifted_more old new c.args.numbers.now.entries c.args.cells.now c.loop-cell.cell-index a c.args.number c.greater-lifted.result c.loop-cell-test.true c.cell-item.is (c.greater-lifted.ensures ∙ ap (λ (n : ℕ). max n c.args.number) c.number_at.ensures) u c.loop-cell.invariant.lifted;
      there = λ q h. still_there old new a c.greater-lifted.result u q (c.loop-cell.invariant.there q h);
    }
