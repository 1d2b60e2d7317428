use Rattle.wi_ranges.proofs.Words.{rules}
use Rattle.wi_ranges.proofs.Levels.{up_to_last}
use Rattle.wi_ranges.proofs.readers.highest_level.Goals as goal

pub returns-in-Some : goal.returns-in-Some
returns-in-Some c = search (rules, up_to_last)
