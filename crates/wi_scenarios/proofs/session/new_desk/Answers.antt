use Rattle.wi_scenarios.proofs.Words.{◌∙◌, ℕ, List, [], length, refl, ap, codes, slice_index_or, is_one_of}
use Rattle.wi_scenarios.proofs.SessionLemmas.{one_list, sound_first, first_state}
use Rattle.wi_scenarios.proofs.session.new_desk.Goals as goal

pub returns-clause-state : goal.returns-clause-state
returns-clause-state g c =
    first_state (g.C.Calculator.stored c.args.calculator.now) (record { scenarios = c.new-2.result; sessions = c.in_ok-sessions.sessions; current = 0; log = c.new-3.result })
    c.new-2.ensures refl c.in_ok-sessions.ensures.sessions c.new-3.ensures

pub returns-clause-pending : goal.returns-clause-pending
returns-clause-pending g c = (
  slice_index_or c.in_ok-sessions.sessions.pending 0 [],
  one_list c.in_ok-sessions.sessions.pending (c.each_has_pending_cells.ensures ∙ ap length c.in_ok-sessions.ensures.sessions),
  λ a. c.in_ok-sessions.ensures.pending a ∙ ap (λ (xs : List ℕ). is_one_of xs a) (c.deref.ensures.value ∙ c.in_ok-cells.ensures.cells),
)

pub returns-clause-sound : goal.returns-clause-sound
returns-clause-sound g c =
    sound_first (g.C.Calculator.stored c.args.calculator.now) (record { scenarios = c.new-2.result; sessions = c.in_ok-sessions.sessions; current = 0; log = c.new-3.result }) (codes "main") c.deref.result.now
    c.new-2.ensures refl c.in_ok-sessions.ensures.sessions c.each_has_pending_cells.ensures c.in_ok-sessions.ensures.pending (c.deref.ensures.value ∙ c.in_ok-cells.ensures.cells) c.in_ok-cells.ensures.closed c.in_ok-sessions.ensures.vacant
