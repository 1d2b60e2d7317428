use Rattle.wi_functions.proofs.Words.{◌≡◌, subst, rules, Tree, meaning, ByAll}
use Rattle.wi_functions.proofs.evaluation.evaluate.Goals as goal

pub returns-in-Ok-clause-outcome : goal.returns-in-Ok-clause-outcome
returns-in-Ok-clause-outcome g c = record {
  meant = c.in-Ok.value;
  one_meaning = subst (λ (t : Tree). ByAll g.L.Lookup.known_cell g.L.Lookup.known_what_if c.args.lookup.now (λ a. c.in-Ok.value ≡ meaning t a.cells a.what_ifs)) c.tree.ensures c.in-Ok.ensures;
  value = search c.zero_for_empty.ensures;
}

pub returns-in-Ok-clause-counted : goal.returns-in-Ok-clause-counted
returns-in-Ok-clause-counted g c = search rules

pub returns-in-Err-Memory-clause-err : goal.returns-in-Err-Memory-clause-err
returns-in-Err-Memory-clause-err g c = search rules
