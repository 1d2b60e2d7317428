use Rattle.wi_tiles.proofs.Words.{rules, arith, ◌∙◌, ◌≡◌, length}
use Rattle.wi_tiles.proofs.Windows.{window_none}
use Rattle.wi_tiles.proofs.window.vacant_from.Goals as goal

pub more-init : goal.more-init
more-init g c =
    let none : length c.in_ok-made.made.items ≡ 0 = search rules in
    record { short = omega (arith, none); nothing = window_none g.T.Places.at c.args.index c.in_ok-made.made.items none }

pub more-preserved : goal.more-preserved
more-preserved g c = record {
  short = omega (arith, c.in_ok-push_vacant.ensures.longer, c.more-test.true);
  nothing = λ p. c.in_ok-push_vacant.ensures.kept p ∙ c.more.invariant.nothing p;
}

pub returns-clause-count : goal.returns-clause-count
returns-clause-count g c = omega (arith, c.more.invariant.short, c.more-test.false)
