use Rattle.wi_scenarios.proofs.Words.{Ok, refl, rules, arith, common_steps, false≢true, on_err, state_of}
use Rattle.wi_scenarios.proofs.ChangesLemmas.{sound_after}
use Rattle.wi_scenarios.proofs.LookSteps.{changes_served}
use Rattle.wi_scenarios.proofs.changes.changes.Goals as goal

pub returns-in_err-found-clause-told : goal.returns-in_err-found-clause-told
returns-in_err-found-clause-told g c =
    let s = state_of (g.C.Calculator.stored c.args.calculator.now) c.args.desk.now in
    record {
      step = changes_served s c.from_residual.result (state_of (g.C.Calculator.stored c.find.new.calculator) c.args.desk.now) c.args.out.now.items c.args.out.now.items (search rules);
      emptied = search rules;
      refused = on_err c.from_residual.result refl;
      quiet = λ none. (c.find.ensures.quiet none, refl);
      quiet_ok = λ none. absurd (c.in_err-found.ensures.none none);
      cost = c.find.ensures.cost;
    }

pub returns-in_err-tell-clause-told : goal.returns-in_err-tell-clause-told
returns-in_err-tell-clause-told g c =
    let s = state_of (g.C.Calculator.stored c.args.calculator.now) c.args.desk.now in
    record {
      step = changes_served s c.from_residual-in_err-tell.result (state_of (g.C.Calculator.stored c.find.new.calculator) c.tell.new.desk)
          c.args.out.now.items c.tell.new.out.items (grind (arith, common_steps));
      emptied = search rules;
      refused = search rules;
      quiet = λ none. absurd (false≢true (c.in_err-tell.ensures.none none (c.requires.full c.args.desk.now.current) (c.in_ok-found.ensures.none none)));
      quiet_ok = λ none. absurd (false≢true (c.in_err-tell.ensures.none none (c.requires.full c.args.desk.now.current) (c.in_ok-found.ensures.none none)));
      cost = c.find.ensures.cost;
    }

pub returns-clause-told : goal.returns-clause-told
returns-clause-told g c =
    let s = state_of (g.C.Calculator.stored c.args.calculator.now) c.args.desk.now in
    record {
      step = changes_served s (Ok tt) (state_of (g.C.Calculator.stored c.find.new.calculator) c.tell.new.desk) c.args.out.now.items c.tell.new.out.items (search rules);
      emptied = search rules;
      refused = tt;
      quiet = search rules;
      quiet_ok = λ none. refl;
      cost = c.find.ensures.cost;
    }

pub returns-clause-sound : goal.returns-clause-sound
returns-clause-sound g c =
    sound_after (g.C.Calculator.stored c.args.calculator.now) _ c.args.desk.now c.tell.new.desk c.in_ok-found.found.items
    (search rules) c.in_ok-found.ensures.list c.requires c.in_ok-tell.ensures.told
