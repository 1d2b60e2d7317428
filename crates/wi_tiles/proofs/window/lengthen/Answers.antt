use Rattle.wi_tiles.proofs.Words.{arith, ap, ◌∙◌, length, at_window}
use Rattle.wi_tiles.proofs.window.lengthen.Goals as goal

pub up-init : goal.up-init
up-init g c =
    let same = c.reserve.ensures.items ∙ c.room_for_first.ensures in
    record {
      bound = λ within bound. omega (arith, ap length same, bound);
      kept = λ p. ap (λ xs. at_window g.T.Places.at (c.args.first, xs) p) same;
    }

pub up-preserved : goal.up-preserved
up-preserved g c = record {
  bound = λ within bound. omega (arith, c.push_vacant.ensures.most, c.up-test.true, within);
  kept = λ p. c.push_vacant.ensures.kept p ∙ c.up.invariant.kept p;
}
