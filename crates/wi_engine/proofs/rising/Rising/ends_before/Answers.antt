use Rattle.wi_engine.proofs.Words.{rules}
use Rattle.wi_engine.proofs.rising.BinarySearch.{ends}
use Rattle.wi_engine.proofs.rising.Rising.ends_before.Goals as goal

pub returns-in-Some : goal.returns-in-Some
returns-in-Some c = λ t.
    ends c.args.self.now c.self.inside.cells.items c.in-Some.last.now c.args.at c.self.invariant c.self.view_is (search rules) (search rules)
