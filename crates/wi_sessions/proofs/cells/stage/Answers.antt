use Rattle.wi_sessions.proofs.WordLemmas.{pending_then}
use Rattle.wi_sessions.proofs.cells.stage.Goals as goal

pub returns-in-Ok-clause-pending : goal.returns-in-Ok-clause-pending
returns-in-Ok-clause-pending c = c.in-Ok.ensures.rooms.pending

pub returns-in-Ok-clause-room : goal.returns-in-Ok-clause-room
returns-in-Ok-clause-room c = c.in-Ok.ensures.rooms.room

pub returns-in-Err-clause-pending : goal.returns-in-Err-clause-pending
returns-in-Err-clause-pending c =
    pending_then c.args.words.now.entries c.args.staged.now.items c.stage_each.new.words.entries c.stage_each.new.staged.items c.cancel.new.words.entries c.cancel.new.staged.items
    c.in-Err.ensures.rooms.pending c.cancel.ensures.pending
