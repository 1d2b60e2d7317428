use Rattle.wi_sessions.proofs.ChangeLists.{any_cells, picture_is_shown}
use Rattle.wi_sessions.proofs.laws.change_lists.Goals as goal

pub returns-clause-any : goal.returns-clause-any
returns-clause-any c = any_cells

pub returns-clause-shown : goal.returns-clause-shown
returns-clause-shown c = picture_is_shown
