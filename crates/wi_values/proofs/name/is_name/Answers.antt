use Rattle.wi_values.proofs.Words.{rules}
use Rattle.wi_values.proofs.name.is_name.Goals as goal

pub returns-else-text-le-MAX_NAME : goal.returns-else-text-le-MAX_NAME
returns-else-text-le-MAX_NAME c = search rules
