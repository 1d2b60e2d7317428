use Rattle.wi_sessions.proofs.Words.{◌∙◌, sym}
use Rattle.wi_sessions.proofs.WordLemmas.{has_cleared_none}
use Rattle.wi_sessions.proofs.cells.clear_one.Goals as goal

pub clear_there-requires-clause-there : goal.clear_there-requires-clause-there
clear_there-requires-clause-there c = sym c.found.ensures ∙ c.in-Some.is

pub returns-in-None-clause-less : goal.returns-in-None-clause-less
returns-in-None-clause-less c = has_cleared_none c.args.words.now.entries c.args.at c.args.bits (sym c.found.ensures ∙ c.in-None.is)
