use Rattle.wi_engine.proofs.Words.{ap, arith, rules, OneQuestion, question_state, remembered}
use Rattle.wi_engine.proofs.Places.{has_found}
use Rattle.wi_engine.proofs.remembered.QuestionMemory.{known_kept}
use Rattle.wi_engine.proofs.remembered.RememberedMemo.keep.Goals as goal

pub returns-clause-keeps : goal.returns-clause-keeps
returns-clause-keeps c =
    let same = ap (λ (q : OneQuestion). q.values) c.self.view_is in
    record {
      sheet = search rules;
      same = record { covers = search rules; generation = search rules; capacity = search rules; latest = search rules };
      known = rw (← same) (known_kept c.keep.result c.self.inside.table c.keep.new.self c.args.key c.args.value c.keep.ensures.ok c.keep.ensures.err);
      complete = search rules;
      places = λ ks d. omega arith;
      gives_up = record { space = omega arith; stays = λ r k i. i };
    }

pub returns-clause-found : goal.returns-clause-found
returns-clause-found c =
    has_found c.keep.result (question_state c.args.self.now) (question_state (remembered c.self.inside.store.now.sheet c.self.inside.order.items c.keep.new.self)) c.args.key (search rules) (search rules) (search rules)
