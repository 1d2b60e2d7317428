use Rattle.wi_store.proofs.Words.{◌∙◌, refl, sym, ap, length, err_from_is_err_and, rules, sheet_in, Stored}
use Rattle.wi_store.proofs.RoomLemmas.{sheet_in-same, length-taken}
use Rattle.wi_store.proofs.EditLemmas.{occupied_after, applies_after_refusal, applies_after_acceptance}
use Rattle.wi_store.proofs.store.Store.bring.Goals as goal

pub edit-answer-requires-clause-before : goal.edit-answer-requires-clause-before
edit-answer-requires-clause-before c = c.occupied-before.ensures ∙ ap (λ (s : Stored). length s.sheet) (sym c.self.view_is)

pub sweep-requires-clause-occupied : goal.sweep-requires-clause-occupied
sweep-requires-clause-occupied c =
    occupied_after c.edit-answer.result c.self.inside.limits c.self.inside.edits c.occupied-before.result c.unwrap_or-occupied.result
    (sheet_in c.self.inside.rooms.entries) (sheet_in c.edit-answer.new.rooms.entries) _
    (c.occupied-before.ensures ∙ ap (λ (s : Stored). length s.sheet) (sym c.self.view_is)) c.unwrap_or-occupied.ensures
    c.edit-answer.ensures.cause c.edit-answer.ensures.done c.edit-answer.ensures.refused
    ∙ sym (length-taken c.edit-answer.new.rooms.entries)

pub returns-in_err-answer : goal.returns-in_err-answer
returns-in_err-answer c =
    let p = err_from_is_err_and c.from_residual.result c.from_residual.ensures.1 in
    applies_after_refusal c.args.self.now (sheet_in c.self.inside.rooms.entries) (sheet_in c.sweep.new.rooms.entries)
    c.self.inside.edits c.self.inside.limits c.args.brought.now c.args.brought.now c.from_residual.result p.0 c.in_err-answer.field-0.0
    c.self.view_is refl p.1 p.2 c.in_err-answer.ensures.cause
    (sheet_in-same c.edit-answer.new.rooms.entries c.sweep.new.rooms.entries c.in_err-answer.ensures.edit.order c.sweep.ensures.between.order c.sweep.ensures.same ∙ c.in_err-answer.ensures.refused)

pub returns : goal.returns
returns c =
    applies_after_acceptance c.args.self.now (sheet_in c.self.inside.rooms.entries) (sheet_in c.sweep.new.rooms.entries)
    c.self.inside.edits _ c.self.inside.limits c.args.brought.now c.args.brought.now
    c.self.view_is refl c.in_ok-answer.ensures.cause
    (sheet_in-same c.edit-answer.new.rooms.entries c.sweep.new.rooms.entries c.in_ok-answer.ensures.edit.order c.sweep.ensures.between.order c.sweep.ensures.same ∙ c.in_ok-answer.ensures.done)

pub invariant_of-self : goal.invariant_of-self
invariant_of-self c = search rules

pub invariant_of-self-2 : goal.invariant_of-self-2
invariant_of-self-2 c = search rules
