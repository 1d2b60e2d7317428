use Rattle.wi_ranges.proofs.Words.{rules}
use Rattle.wi_ranges.proofs.RisingLemmas.{last_tells}
use Rattle.wi_ranges.proofs.rising_set.ends_before.Goals as goal

pub returns-in-Some : goal.returns-in-Some
returns-in-Some c = let tells = last_tells c.args.cells.now c.in-Some.last.now c.args.cell in search (rules, tells)
