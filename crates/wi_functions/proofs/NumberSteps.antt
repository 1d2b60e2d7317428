-- The number that IF chooses.
use Rattle.std.specs.Bool.{OnTrue}
use Rattle.wi_functions.proofs.Words.{◌≡◌, ◌∙◌, ℕ, Bool, true, false, cond, List, sym, ap, Value, Empty, Argument, value_or, applied_to_arguments, Lazy, ◌>>=◌}
use Rattle.wi_values.specs.declared.value.Value.TheVariants.{Logical}
use Rattle.wi_standard_functions.specs.Convert.{to_logical}
use Rattle.wi_value_functions.specs.declared.function.LazyFunction.TheVariants.{If}

-- the value of a parameter that is there, whatever the default
pub with_default : (b : Bool) (args : List Argument) (v : Value) (k : ℕ) (w : Value) → ((d : Value) → v ≡ value_or d args k) → OnTrue b (v ≡ w) → OnTrue b ((d : Value) → value_or d args k ≡ w)
with_default true args v k w same h = λ d. sym (same d) ∙ h
with_default false args v k w same h = tt

chosen_by : (args : List Argument) (b : Bool) → value_or Empty args 0 ≡ Logical b → applied_to_arguments (Lazy If) args ≡ cond b (value_or (Logical true) args 1) (value_or (Logical false) args 2)
chosen_by args b h = ap (λ (v : Value). to_logical v >>= (λ (x : Bool). cond x (value_or (Logical true) args 1) (value_or (Logical false) args 2))) h

-- what IF gives where its condition is a truth value
pub chosen_number : (taken : Bool) (args : List Argument) (holds : Bool) (place : ℕ) (w : Value) → value_or Empty args 0 ≡ Logical holds → place ≡ cond holds 1 2 → OnTrue taken ((d : Value) → value_or d args place ≡ w) → OnTrue taken (applied_to_arguments (Lazy If) args ≡ w)
chosen_number false args holds place w h p chosen = tt
chosen_number true args true place w h p chosen = chosen_by args true h ∙ ap (value_or (Logical true) args) (sym p) ∙ chosen (Logical true)
chosen_number true args false place w h p chosen = chosen_by args false h ∙ ap (value_or (Logical false) args) (sym p) ∙ chosen (Logical false)
