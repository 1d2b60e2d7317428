use Rattle.wi_scenarios.proofs.Words.{◌≡◌, ◌∙◌, [], Ok, true, false, refl, sym, ap, rules, false≢true, has_session, on_err, Desk, pending_in, state_of, As, IsStep}
use Rattle.wi_scenarios.proofs.CallLemmas.{lacked}
use Rattle.wi_scenarios.proofs.ScenarioSteps.{as_full, as_there, as_new, grown}
use Rattle.wi_scenarios.proofs.session.session.Goals as goal

pub returns-in-Some-clause-current : goal.returns-in-Some-clause-current
returns-in-Some-clause-current g c =
    let s = state_of (g.C.Calculator.stored c.args.calculator.now) c.args.desk.now in
    let known : has_session s.sessions c.args.name.now ≡ true = search rules in
    record {
      step = as_there s c.args.name.now c.in-Some.place known (search rules);
      there = λ h. refl;
      made = λ h. absurd (false≢true (sym h ∙ known));
      refused = tt;
      counts = (refl, refl);
      no_memory = λ h e. cc;
    }

pub returns-then-len-ge-MAX_SESSIONS-clause-current : goal.returns-then-len-ge-MAX_SESSIONS-clause-current
returns-then-len-ge-MAX_SESSIONS-clause-current g c =
    let s = state_of (g.C.Calculator.stored c.args.calculator.now) c.args.desk.now in
    record {
      step = (as_full s c.args.name.now (search rules) (search rules), refl, refl);
      there = λ h. refl;
      made = λ h. tt;
      refused = refl;
      counts = (refl, refl);
      no_memory = λ h e. cc;
    }

pub returns-in_err-add-clause-current : goal.returns-in_err-add-clause-current
returns-in_err-add-clause-current g c =
    let stored = g.C.Calculator.stored c.args.calculator.now in
    let s = state_of stored c.args.desk.now in
    let new : has_session s.sessions c.args.name.now ≡ false = search rules in
    let same = c.in_err-add.ensures.kept in
    record {
      step = lacked (IsStep s (As c.args.name.now)) (Ok (grown s c.args.name.now, [])) c.from_residual.result s (state_of stored c.add.new.desk) (as_new s c.args.name.now (grown s c.args.name.now) new (search rules) refl) refl c.from_residual.ensures.1
          (ap (λ (d : Desk). state_of stored d) same);
      there = λ h. ap pending_in same;
      made = λ h. search rules;
      refused = on_err c.from_residual.result (ap pending_in same);
      counts = (refl, refl);
      no_memory = λ h. absurd (false≢true (sym new ∙ h));
    }

pub returns-clause-current : goal.returns-clause-current
returns-clause-current g c =
    let stored = g.C.Calculator.stored c.args.calculator.now in
    let s = state_of stored c.args.desk.now in
    let new : has_session s.sessions c.args.name.now ≡ false = search rules in
    record {
      step = as_new s c.args.name.now (state_of stored c.add.new.desk) new (search rules) c.in_ok-add.ensures.state;
      there = λ h. absurd (false≢true (sym new ∙ h));
      made = λ h. c.in_ok-add.ensures.made;
      refused = tt;
      counts = (refl, refl);
      no_memory = λ h e. cc;
    }
