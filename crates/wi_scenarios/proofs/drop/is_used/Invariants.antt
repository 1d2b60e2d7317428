use Rattle.wi_scenarios.proofs.Words.{◌≡◌, false, list_any, is_name_of, take}
use Rattle.wi_scenarios.proofs.drop.is_used.Given as goal

-- none before this one uses it
abbrev pub invariant-loop-i : goal.invariant-loop-i
invariant-loop-i l = list_any (λ x. is_name_of l.name x.scenario) (take l.i l.sessions.sessions) ≡ false
