use Rattle.wi_ranges.proofs.Words.{◌∙◌, arith, blocks_with}
use Rattle.wi_ranges.proofs.BlockLemmas.{half_of}
use Rattle.wi_ranges.proofs.Levels.{below_level}
use Rattle.wi_ranges.proofs.readers.highest_block.Goals as goal

pub loop-block-preserved : goal.loop-block-preserved
loop-block-preserved c =
    let x = c.loop-block.block in
    let h = c.half_with-block.result in
    let less = c.loop-block-test.true in
    let next = half_of c.args.row x h c.half_with-block.ensures.value (omega (arith, less)) in (
      c.half_with-block.ensures.within,
      λ a r. below_level c.args.pieces.now.keys x (blocks_with c.args.row h.level h.first) (blocks_with c.args.row x.level x.first)
          c.highest_level-level.result a r c.highest_level-level.ensures less next ∙ c.loop-block.invariant.1 a r,
    )
