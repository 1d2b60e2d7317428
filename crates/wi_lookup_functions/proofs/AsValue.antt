-- How COUNTIF, SUMIF and SUMPRODUCT end.
use Rattle.wi_lookup_functions.proofs.Words.{◌≡◌, ℕ, true, List, Option, None, sym, subst, Result, IfOk, IfErr, Area, is_within, Value, Argument, Stop, Missing, IsOfArguments, IsMissing, IsReferred, NoValue, Error, Stopped, as_value, IfMissing, Gives}
use Rattle.std.specs.Prelude.{Ok, Err}
use Rattle.wi_arguments.specs.declared.argument.Argument as given

pub as_value_done : (known : ℕ → Option Value) (f : List Argument → Value) (args : List given.Argument) (o : Result Value (NoValue (Stop ℕ))) (r : Result Value (Stop ℕ)) → r ≡ as_value o → Gives known f args o → IfOk r (IsOfArguments known f args)
as_value_done known f args o r e h = subst (λ (s : Result Value (Stop ℕ)). IfOk s (IsOfArguments known f args)) (sym e) (at o h)
  where
    at : (p : Result Value (NoValue (Stop ℕ))) → Gives known f args p → IfOk (as_value p) (IsOfArguments known f args)
    at (Ok v) g = g
    at (Err (Error x)) g = g
    at (Err (Stopped s)) g = tt

pub as_value_missing : (known : ℕ → Option Value) (f : List Argument → Value) (args : List given.Argument) (o : Result Value (NoValue (Stop ℕ))) (r : Result Value (Stop ℕ)) → r ≡ as_value o → Gives known f args o → IfErr r (λ s. IfMissing s (IsMissing known args))
as_value_missing known f args o r e h = subst (λ (p : Result Value (Stop ℕ)). IfErr p (λ s. IfMissing s (IsMissing known args))) (sym e) (at o h)
  where
    at : (p : Result Value (NoValue (Stop ℕ))) → Gives known f args p → IfErr (as_value p) (λ s. IfMissing s (IsMissing known args))
    at (Ok v) g = tt
    at (Err (Error x)) g = tt
    at (Err (Stopped s)) g = g

-- a cell of a rectangle that an argument refers to is missing
pub stopped_inside : (known : ℕ → Option Value) (f : List Argument → Value) (args : List given.Argument) (r : Area) (c : ℕ) (x : NoValue (Stop ℕ)) → x ≡ Stopped (Missing c) → IsReferred args r → known c ≡ None → is_within r c ≡ true → Gives known f args (Err x)
stopped_inside known f args r c x e h k w = subst (λ (y : NoValue (Stop ℕ)). Gives known f args (Err y)) (sym e) (k, h c w)
