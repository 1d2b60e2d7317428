use Rattle.wi_scenarios.proofs.Words.{◌≡◌, ◌<◌, ◌≤◌, ℕ, [], vacant_of, HasRoomFor}
use Rattle.wi_scenarios.proofs.switch.make_room_for_each.Given as goal

-- there is room for those before this one, and no vacant room yet from it on
abbrev pub invariant-loop-i : goal.invariant-loop-i
invariant-loop-i g l = record {
  sessions : l.sessions.sessions ≡ l.initial.sessions.sessions;
  pending : l.sessions.pending ≡ l.initial.sessions.pending;
  done : (j : ℕ) → j < l.i → HasRoomFor g.C.Calculator.marked (g.C.Calculator.stored l.calculator).sheet l.before l.after l.sessions j;
  left : (j : ℕ) → l.i ≤ j → vacant_of l.sessions j ≡ [];
}
