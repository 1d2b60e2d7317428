use Rattle.wi_engine.proofs.Words.{◌∙◌, arith, common_steps, Area, is_within, size_of}
use Rattle.wi_engine.proofs.together.Smallest.{smallest, some_least, after_all}
use Rattle.wi_engine.proofs.together.smallest_with.Goals as goal

pub unreachable-requires : goal.unreachable-requires
unreachable-requires c =
    let p = λ (r : Area). is_within r c.args.at in
    let l = c.loop-rectangle in
    some_least p size_of c.args.rectangles.now c.requires
    (after_all p size_of c.args.rectangles.now l.rectangle-index l.smallest c.loop-rectangle-test.false l.invariant ∙ c.in_default.is)

pub returns : goal.returns
returns c =
    let p = λ (r : Area). is_within r c.args.at in
    let l = c.loop-rectangle in
    smallest c.args.rectangles.now c.args.at c.in-Some-smallest.smallest
    (after_all p size_of c.args.rectangles.now l.rectangle-index l.smallest c.loop-rectangle-test.false l.invariant ∙ c.in-Some-smallest.is)

pub loop-rectangle-preserved : goal.loop-rectangle-preserved
loop-rectangle-preserved c = grind (arith, common_steps)
