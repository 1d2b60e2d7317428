use Rattle.wi_store.proofs.Words.{ap, ◌∙◌, inr, rules, on_ok, on_err, admitted}
use Rattle.wi_store.proofs.RoomLemmas.{sheet_in-same}
use Rattle.wi_store.proofs.SheetLemmas.{sheet_in-edited, count_edited, sheet_in-back, count_before}
use Rattle.wi_store.proofs.store.edit.Goals as goal

pub returns-in_err-make_rooms-clause-refused : goal.returns-in_err-make_rooms-clause-refused
returns-in_err-make_rooms-clause-refused c =
    on_err c.from_residual.result
    (sheet_in-same c.args.rooms.now.entries c.make_rooms.new.rooms.entries c.requires.between.order c.in_err-make_rooms.ensures.edit.order c.make_rooms.ensures.same)

pub exchange_all-occupied-requires-clause-occupied : goal.exchange_all-occupied-requires-clause-occupied
exchange_all-occupied-requires-clause-occupied c =
    count_before c.args.before c.args.rooms.now.entries c.make_rooms.new.rooms.entries c.requires.between c.requires.before c.make_rooms.ensures.occupied

pub returns-then-is_err-clause-refused : goal.returns-then-is_err-clause-refused
returns-then-is_err-clause-refused c =
    on_err c.admit-answer.result
    (sheet_in-back c.args.rooms.now.entries c.make_rooms.new.rooms.entries c.exchange_back.new.rooms.entries c.args.changes.now c.requires.between.order c.exchange_back.ensures.ready.edit.order
    c.make_rooms.ensures.same c.exchange_all-occupied.new.rooms.entries c.exchange_all-occupied.new.changes
    c.exchange_all-occupied.ensures.after c.exchange_all-occupied.ensures.stood c.exchange_back.ensures.after)

pub returns-then-is_err-clause-cause : goal.returns-then-is_err-clause-cause
returns-then-is_err-clause-cause c =
    inr (c.admit-answer.ensures ∙ ap (λ n. admitted c.args.limits.now n c.args.edits)
    (count_edited c.args.rooms.now.entries c.make_rooms.new.rooms.entries c.exchange_all-occupied.new.rooms.entries c.args.changes.now c.requires.between.order c.exchange_all-occupied.ensures.ready.edit.order
    c.make_rooms.ensures.same c.exchange_all-occupied.result c.exchange_all-occupied.ensures.occupied c.exchange_all-occupied.ensures.after))

pub exchange_back-requires : goal.exchange_back-requires
exchange_back-requires c = search rules

pub returns-else-is_err-clause-done : goal.returns-else-is_err-clause-done
returns-else-is_err-clause-done c =
    on_ok c.admit-answer.result
    (sheet_in-edited c.args.rooms.now.entries c.make_rooms.new.rooms.entries c.exchange_all-occupied.new.rooms.entries c.args.changes.now c.requires.between.order c.exchange_all-occupied.ensures.ready.edit.order
    c.make_rooms.ensures.same c.exchange_all-occupied.ensures.after)

pub returns-else-is_err-clause-cause : goal.returns-else-is_err-clause-cause
returns-else-is_err-clause-cause c =
    inr (c.admit-answer.ensures ∙ ap (λ n. admitted c.args.limits.now n c.args.edits)
    (count_edited c.args.rooms.now.entries c.make_rooms.new.rooms.entries c.exchange_all-occupied.new.rooms.entries c.args.changes.now c.requires.between.order c.exchange_all-occupied.ensures.ready.edit.order
    c.make_rooms.ensures.same c.exchange_all-occupied.result c.exchange_all-occupied.ensures.occupied c.exchange_all-occupied.ensures.after))
