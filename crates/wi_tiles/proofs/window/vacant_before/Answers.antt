use Rattle.wi_tiles.proofs.Words.{arith, sym, ◌∙◌}
use Rattle.wi_tiles.proofs.Ends.{vacant_more}
use Rattle.wi_tiles.proofs.Outcomes.{not_both}
use Rattle.wi_tiles.proofs.Windows.{part_is}
use Rattle.wi_tiles.proofs.window.vacant_before.Goals as goal

pub loop-place-init : goal.loop-place-init
loop-place-init g c = record { within = omega arith; vacant = λ i p l. absurd (omega (arith, l)) }

pub returns-then-not-is_vacant-clause-vacant : goal.returns-then-not-is_vacant-clause-vacant
returns-then-not-is_vacant-clause-vacant g c = c.loop-place.invariant.vacant

pub returns-then-not-is_vacant-clause-filled : goal.returns-then-not-is_vacant-clause-filled
returns-then-not-is_vacant-clause-filled g c = λ l none. not_both c.is_vacant.result c.if-not-is_vacant.true (c.is_vacant.ensures.1 (λ p. sym (part_is g.T.Places.at c.args.parts.now c.loop-place.place c.index-parts-place.result p c.loop-place-test.true c.index-parts-place.is) ∙ none p))

pub loop-place-preserved : goal.loop-place-preserved
loop-place-preserved g c = record {
  within = omega (arith, c.loop-place-test.true);
  vacant = vacant_more g.T.Places.at c.args.parts.now c.loop-place.place c.index-parts-place.result c.loop-place-test.true c.index-parts-place.is (c.is_vacant.ensures.0 c.if-not-is_vacant.false) c.loop-place.invariant.vacant;
}

pub returns-clause-vacant : goal.returns-clause-vacant
returns-clause-vacant g c = c.loop-place.invariant.vacant

pub returns-clause-filled : goal.returns-clause-filled
returns-clause-filled g c = λ l. absurd (omega (arith, l, c.loop-place-test.false))
