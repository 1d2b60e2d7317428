use Rattle.wi_worlds.proofs.Words.{None}
use Rattle.wi_worlds.proofs.Searching.{value_of_found}
use Rattle.wi_worlds.proofs.lookup.value_at.Goals as goal

pub returns-in_err-found_at : goal.returns-in_err-found_at
returns-in_err-found_at c = rw c.from_residual.ensures (value_of_found c.args.replacements.now c.args.at None c.in_err-found_at.ensures)

pub returns : goal.returns
returns c = value_of_found c.args.replacements.now c.args.at _ c.in_ok-found_at.ensures
