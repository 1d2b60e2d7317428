use Rattle.wi_tiles.proofs.Words.{arith}
use Rattle.wi_tiles.proofs.WalkLemmas.{begins}
use Rattle.wi_tiles.proofs.within.Within.new.Goals as goal

pub invariant_of-result : goal.invariant_of-result
invariant_of-result g c =
    let start = c.start-begin.ensures.start in
    record {
      counted = tt;
      rest = tt;
      nothing = omega arith;
      goes = record { top = start.top; left = start.left; right = omega (arith, start.right); sheet = c.start-begin.ensures.sheet; beside = tt };
      band = tt;
    }

pub returns : goal.returns
returns g c = begins c.args.pages.now c.args.area c.args.from c.start-begin.result.0 c.start-begin.result.1 c.args.from c.start-begin.ensures.start
