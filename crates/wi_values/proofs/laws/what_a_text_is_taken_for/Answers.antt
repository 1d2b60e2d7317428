use Rattle.wi_values.proofs.Imports.{imported_exactly}
use Rattle.wi_values.proofs.laws.what_a_text_is_taken_for.Goals as goal

pub returns : goal.returns
returns c = imported_exactly
