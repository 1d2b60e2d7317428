use Rattle.wi_engine.proofs.Words.{◌<◌, ◌∙◌, sym, arith, nat_tests}
use Rattle.wi_engine.proofs.filled.FirstReplaced.{past_the_last, stands_at}
use Rattle.wi_engine.proofs.filled.first_within.Goals as goal

pub returns-then-lt-clause-cell : goal.returns-then-lt-clause-cell
returns-then-lt-clause-cell c =
    let l = c.loop-replacement in
    let x = c.replacement-item.result in
    let beyond : c.args.area.last < x.at = first_of (omega arith, grind (arith, nat_tests)) in
    sym (past_the_last c.args.area c.args.replacements.now l.replacement-index x c.requires c.loop-replacement-test.true c.replacement-item.is beyond) ∙ l.invariant

pub returns-then-contains-clause-value : goal.returns-then-contains-clause-value
returns-then-contains-clause-value c =
    stands_at c.args.replacements.now c.loop-replacement.replacement-index c.replacement-item.result c.requires c.loop-replacement-test.true c.replacement-item.is
