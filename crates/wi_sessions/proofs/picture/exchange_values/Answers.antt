use Rattle.wi_sessions.proofs.Words.{sym, ◌∙◌, on_err}
use Rattle.wi_sessions.proofs.PictureLemmas.{values_after, count_kept}
use Rattle.wi_sessions.proofs.picture.exchange_values.Goals as goal

pub returns-in_err-make_rooms-clause-refused : goal.returns-in_err-make_rooms-clause-refused
returns-in_err-make_rooms-clause-refused c = on_err c.from_residual.result c.make_rooms.ensures.same

pub returns-in_err-make_rooms-clause-occupied : goal.returns-in_err-make_rooms-clause-occupied
returns-in_err-make_rooms-clause-occupied c = count_kept c.from_residual.result _ _ c.from_residual.ensures.0 (c.requires.before ∙ sym c.make_rooms.ensures.occupied)

pub exchange_all-requires-clause-occupied : goal.exchange_all-requires-clause-occupied
exchange_all-requires-clause-occupied c = c.requires.before ∙ sym c.make_rooms.ensures.occupied

pub returns-clause-done : goal.returns-clause-done
returns-clause-done c =
    values_after c.args.values.now.entries c.make_rooms.new.rooms.entries c.exchange_all.new.rooms.entries c.args.changes.now c.make_rooms.ensures.same c.exchange_all.ensures.after
