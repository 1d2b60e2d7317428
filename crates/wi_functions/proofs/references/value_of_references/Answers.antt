use Rattle.wi_functions.proofs.references.value_of_references.Goals as goal

pub returns-in-Ok-clause-done : goal.returns-in-Ok-clause-done
returns-in-Ok-clause-done g c = rw c.in-Fold.is c.in-Ok.ensures.done

pub returns-in-Lookup-clause-done : goal.returns-in-Lookup-clause-done
returns-in-Lookup-clause-done g c = rw c.in-Lookup.is c.value_of_lookup.ensures.done
