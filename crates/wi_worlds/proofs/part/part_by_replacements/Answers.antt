use Rattle.wi_worlds.proofs.Words.{◌≡◌, ◌==◌, filter, length, arith, common_steps, same_replacements, is_of}
use Rattle.wi_worlds.proofs.part.part_by_replacements.Goals as goal

pub returns-then-is_last-2-clause-last : goal.returns-then-is_last-2-clause-last
returns-then-is_last-2-clause-last c =
    let whole : (c.loop-replacement.count == length c.args.last.now) ≡ same_replacements c.args.last.now (filter (is_of c.args.cells.now) c.args.replacements.now) = grind (arith, common_steps) in
    search whole

pub loop-replacement-preserved : goal.loop-replacement-preserved
loop-replacement-preserved c = grind (arith, common_steps)
