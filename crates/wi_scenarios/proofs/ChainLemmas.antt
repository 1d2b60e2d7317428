-- That each scenario has a chain after every run.
use Rattle.wi_scenarios.proofs.Words.{◌∙◌, ◌||◌, ℕ, Bool, false, not, inl, inr, List, [], ◌∷◌, Option, Ok, Err, refl, sym, ap, subst, list_any, Stored, has_scenario, scenario_for, with_own, without_own, is_full, is_name_of, is_base, lacks, would_loop, State, state_over, left_by, Answer, Event, MayHappen, KeepsChains, GivesChain, Command, Set, Clear, Fill, Csv, Scenario, Drop, Base, Unknown, Unreadable, Cell, address, Cause, NoScenario, InUse, TooMany, Loop, Holds, Does, IsStep, false_from_ne_true, not-false, or_parts, HasChains, based_kept, dropped_kept, has_space, is_chain, no_scenarios, own_kept}
use Rattle.wi_scenario_list.specs.Scenarios as list
use Rattle.wi_scenarios.proofs.CauseTests.{is_in_use, tested}
use Rattle.wi_scenarios.proofs.ScenarioSteps.{missing_base}

module _ (s : State) where
  abbrev scenarios_in : State × List ℕ → List list.Scenario
  scenarios_in done = done.0.scenarios

  -- what is left unchanged, or has become these
  abbrev AreKept : List list.Scenario → Type 0
  AreKept xs = HasChains s.scenarios → HasChains xs

  own_less : (name : List ℕ) (at : Cell) → ((x : Cause) → Holds s x (Scenario name at []) → ⊥)
      → AreKept (list.with_scenario s.scenarios (without_own (scenario_for s.scenarios name) (address at)))
  own_less name at free k =
      own_kept s.scenarios name (without_own (scenario_for s.scenarios name) (address at)) k refl refl (λ missing. absurd (free NoScenario (ap (λ (b : Bool). not b || false) missing)))

  based_anew : (name : List ℕ) (other : Option (List ℕ)) → ((x : Cause) → Holds s x (Base name other) → ⊥)
      → AreKept (list.with_scenario s.scenarios (record (scenario_for s.scenarios name) { base = other }))
  based_anew name other free k =
      let there = or_parts (not (has_scenario s.scenarios name)) (lacks s.scenarios other)
      (false_from_ne_true (not (has_scenario s.scenarios name) || lacks s.scenarios other) (λ e. free NoScenario (missing_base s name other ∙ e))) in
      based_kept s.scenarios name other k (not-false (has_scenario s.scenarios name) there.0) there.1
      (false_from_ne_true (would_loop s.scenarios name other) (λ e. free Loop ((tested s Loop (Base name other) tt).0 e)))

  dropped : (name : List ℕ) → ((x : Cause) → Holds s x (Drop name) → ⊥) → AreKept (list.without_scenario s.scenarios name)
  dropped name free k =
      dropped_kept s.scenarios name k
      (or_parts (list_any (λ x. is_name_of name x.scenario) s.sessions) (is_base s.scenarios name) (false_from_ne_true (is_in_use s name) (λ e. free InUse ((tested s InUse (Drop name) tt).0 e)))).1

  kept : (c : Command) (done : State × List ℕ) → ((x : Cause) → Holds s x c → ⊥) → Does s c done → AreKept (scenarios_in done)
  kept (Set force at text) done free h k = subst HasChains (sym (ap scenarios_in h.2)) k
  kept (Clear force rect) done free h k = subst HasChains (sym (ap scenarios_in h.2)) k
  kept (Fill force at rect) done free h k = subst HasChains (sym (ap scenarios_in h.2)) k
  kept (Csv force at n lines) done free h k = subst HasChains (sym (ap scenarios_in h.2)) k
  kept (Scenario name at []) done free h k = subst HasChains (sym (ap scenarios_in h)) (own_less name at free k)
  kept (Scenario name at (b ∷ bs)) done free h k =
      subst HasChains (sym (ap scenarios_in h.2))
      (own_kept s.scenarios name (with_own (scenario_for s.scenarios name) (record { at = address at; value = h.0 } ∷ [])) k refl refl
      (has_space s.scenarios name (address at) (false_from_ne_true (is_full s.scenarios name (address at)) (λ e. free TooMany e))))
  kept (Drop name) done free h k = subst HasChains (sym (ap scenarios_in h)) (dropped name free k)
  kept (Base name other) done free h k = subst HasChains (sym (ap scenarios_in h)) (based_anew name other free k)
  kept Unknown done free h k = absurd h.1
  kept Unreadable done free h k = absurd h.1
  kept c done free h k = subst HasChains (sym (ap scenarios_in h)) k

  kept_by : (c : Command) (a : Answer) → MayHappen IsStep s (record { command = c; answer = a }) → AreKept (left_by s a).scenarios
  kept_by c (Err e) h k = k
  kept_by c (Ok done) (inl h) k = kept c done h.0 h.1 k
  kept_by c (Ok done) (inr h) k = absurd (let n : ⊥ = cc in n)

pub new_has_chains : (stored : Stored) → HasChains (state_over stored).scenarios
new_has_chains stored = no_scenarios

pub keeps_chains : (s : State) (es : List (Event Command)) → KeepsChains s es
keeps_chains s [] k run = k
keeps_chains s (e ∷ es) k run = keeps_chains (left_by s e.answer) es (kept_by s e.command e.answer run.0 k) run.1

pub gives_chain : (s : State) (name : Option (List ℕ)) → GivesChain s name
gives_chain s name k = is_chain s.scenarios name k
