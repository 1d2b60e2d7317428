use Rattle.wi_ranges.proofs.Words.{◌<◌, ◌∙◌, ℕ, sym, ap, subst, rows, block, blocks_in}
use Rattle.wi_ranges.proofs.CutLemmas.{row_around}
use Rattle.wi_ranges.proofs.block.Block.around.Goals as goal

pub returns-then-last_row-row-clause-blocks : goal.returns-then-last_row-row-clause-blocks
returns-then-last_row-row-clause-blocks c =
    let p = c.args.pair.now in
    let row = c.row-row.ensures.value in
    ap (λ (r : ℕ). blocks_in p (block 0 r)) row ∙ row_around p (sym c.last_row.ensures.value ∙ c.if-last_row-row.true ∙ row) (subst (λ (r : ℕ). r < rows) row c.row-row.ensures.within)
