use Rattle.wi_ranges.proofs.Words.{List, [], ◌∷◌, subst, arith, IfOk-from_err, RangePair}
use Rattle.std.proofs.lemmas.List.{take_all}
use Rattle.wi_ranges.specs.Inner.Telling.{is_gone, Tells}
use Rattle.wi_ranges.proofs.TellLemmas.{tells_start, tells_one}
use Rattle.wi_ranges.proofs.telling.add_readers_of_met.Goals as goal

pub loop-area-init : goal.loop-area-init
loop-area-init c = tells_start c.args.pieces.now.keys c.args.block.now c.args.at c.args.readers.now

pub loop-area-preserved : goal.loop-area-preserved
loop-area-preserved c =
    tells_one c.args.pieces.now.keys c.args.block.now c.args.at c.args.areas.now c.loop-area.area-index c.area-item.result c.args.readers.now c.loop-area.readers c.add_readers_if_met.new.readers
    c.loop-area-test.true c.area-item.is c.in_ok-add_readers_if_met.ensures c.loop-area.invariant

pub returns : goal.returns
returns c =
    subst (λ (areas : List RangePair). Tells c.args.pieces.now.keys (c.args.block.now ∷ []) c.args.at (is_gone c.args.block.now areas) (is_gone c.args.block.now areas) c.args.readers.now c.loop-area.readers)
    (take_all c.loop-area.area-index c.args.areas.now (omega (arith, c.loop-area-test.false))) c.loop-area.invariant

pub returns-in_err-add_readers_if_met : goal.returns-in_err-add_readers_if_met
returns-in_err-add_readers_if_met c = IfOk-from_err c.from_residual.result _ c.from_residual.ensures.0
