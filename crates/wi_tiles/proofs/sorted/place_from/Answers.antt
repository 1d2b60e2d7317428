use Rattle.wi_tiles.proofs.Words.{◌<◌, ◌≤◌, ◌+◌, ◌-◌, ◌/◌, ℕ, length, arith, subst, sym}
use Rattle.wi_tiles.proofs.Keys.{below_more, above_more}
use Rattle.wi_tiles.proofs.sorted.place_from.Goals as goal

pub loop-low-preserved-then-parts-middle : goal.loop-low-preserved-then-parts-middle
loop-low-preserved-then-parts-middle g c =
    let m : ℕ = c.loop-low.low + (c.loop-low.high - c.loop-low.low) / 2 in
    let within : m < length c.args.parts.now = omega (arith, c.loop-low.invariant.within, c.loop-low-test.true) in
    record {
      order = omega (arith, c.loop-low-test.true);
      within = c.loop-low.invariant.within;
      below = below_more c.args.parts.now m c.args.group c.index-parts-middle.result c.requires within c.index-parts-middle.is (subst (λ x. x.0 < c.args.group) (sym c.index-parts-middle.is) c.if-parts-middle.true);
      above = c.loop-low.invariant.above;
    }

pub loop-low-preserved : goal.loop-low-preserved
loop-low-preserved g c =
    let m : ℕ = c.loop-low.low + (c.loop-low.high - c.loop-low.low) / 2 in
    let within : m < length c.args.parts.now = omega (arith, c.loop-low.invariant.within, c.loop-low-test.true) in
    record {
      order = omega (arith, c.loop-low-test.true);
      within = omega (arith, within);
      below = c.loop-low.invariant.below;
      above = above_more c.args.parts.now m c.args.group c.index-parts-middle.result c.requires within c.index-parts-middle.is (subst (λ x. c.args.group ≤ x.0) (sym c.index-parts-middle.is) c.if-parts-middle.false);
    }
