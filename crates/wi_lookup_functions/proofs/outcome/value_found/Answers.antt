use Rattle.wi_lookup_functions.proofs.Words.{◌≡◌, ℕ, List, Option, Some, None, Ok, Err, sym, ap, ◌∙◌, subst, Result, IfOk-from_err, Value, IsMissing, IsOfArguments, Argument, Finds, NoValue}
use Rattle.std.specs.Prelude.{IfSome}
use Rattle.wi_arguments.specs.declared.argument.Argument as given
use Rattle.wi_lookup_functions.proofs.outcome.value_found.Goals as goal

-- the value of the cell that was found
cell_found : (known : ℕ → Option Value) (args : List given.Argument) (f : List Argument → Value) (found : Result ℕ (NoValue ℕ)) (cell : ℕ) (v copied : Value) → found ≡ Ok cell → Some v ≡ known cell → copied ≡ v →
    Finds known args f found → IsOfArguments known f args copied
cell_found known args f found cell v copied is there same h = λ cells agrees.
    let known_so : v ≡ cells cell = subst (λ (o : Option Value). IfSome o (λ w. w ≡ cells cell)) (sym there) (agrees cell) in
    same ∙ known_so ∙ sym ((subst (Finds known args f) is h).0 cells agrees)

cell_missing : (known : ℕ → Option Value) (args : List given.Argument) (f : List Argument → Value) (found : Result ℕ (NoValue ℕ)) (cell : ℕ) → found ≡ Ok cell → None ≡ known cell → Finds known args f found → IsMissing known args cell
cell_missing known args f found cell is there h = (sym there, (subst (Finds known args f) is h).1)

pub returns-in_ok-copy-in-Known-clause-done : goal.returns-in_ok-copy-in-Known-clause-done
returns-in_ok-copy-in-Known-clause-done g c = λ args f.
    cell_found (g.L.Lookup.known_cell c.args.lookup.now) args f c.args.found c.in-Ok.cell c.in-Known.value.now c.in_ok-copy-in-Known.field-0 c.in-Ok.is c.in-Known.ensures c.in_ok-copy-in-Known.ensures

pub returns-in_ok-copy-in-Known-clause-missing : goal.returns-in_ok-copy-in-Known-clause-missing
returns-in_ok-copy-in-Known-clause-missing g c = λ args f h. tt

pub returns-in_err-copy-in-Known-clause-done : goal.returns-in_err-copy-in-Known-clause-done
returns-in_err-copy-in-Known-clause-done g c = λ args f h. IfOk-from_err c.from_residual.result _ c.from_residual.ensures.0

pub returns-in-Missing-clause-done : goal.returns-in-Missing-clause-done
returns-in-Missing-clause-done g c = λ args f h. tt

pub returns-in-Missing-clause-missing : goal.returns-in-Missing-clause-missing
returns-in-Missing-clause-missing g c = λ args f.
    cell_missing (g.L.Lookup.known_cell c.args.lookup.now) args f c.args.found c.in-Ok.cell c.in-Ok.is c.in-Missing.ensures

pub returns-in-Stopped-clause-done : goal.returns-in-Stopped-clause-done
returns-in-Stopped-clause-done g c = λ args f h. tt

pub returns-in-Stopped-clause-missing : goal.returns-in-Stopped-clause-missing
returns-in-Stopped-clause-missing g c = λ args f h. subst (Finds (g.L.Lookup.known_cell c.args.lookup.now) args f) (c.in-Err.is ∙ ap (λ (x : NoValue ℕ). Err x) c.in-Stopped.is) h

pub returns-in-Error-clause-missing : goal.returns-in-Error-clause-missing
returns-in-Error-clause-missing g c = λ args f h. tt

pub returns-in-Error-clause-done : goal.returns-in-Error-clause-done
returns-in-Error-clause-done g c = λ args f h cells agrees.
    sym (subst (Finds (g.L.Lookup.known_cell c.args.lookup.now) args f) (c.in-Err.is ∙ ap (λ (x : NoValue ℕ). Err x) c.in-Error.is) h cells agrees)
