-- A function that chooses a parameter gives what it gives for the arguments' values, whether they are those of references
-- or not; and what a call of placed formulas gives.
use Rattle.wi_functions.proofs.Words.{◌≡◌, ℕ, zero, suc, ℤ, Bool, true, false, cond, List, [], ◌∷◌, length, map, None, refl, sym, ap, ◌∙◌, pos, int_lt, unsigned_abs, slice_get, ok_or, BadValue, Value, Empty, Argument, value_or, to_whole, chosen, ◌>>=◌, applied_to_arguments, applied_to_values, call_value, Function, Lazy, values_alone, values_of}
use Rattle.std.proofs.lemmas.List.{length-map}
use Rattle.wi_values.specs.declared.value.Value.TheVariants.{Logical}
use Rattle.wi_standard_functions.specs.Convert.{to_logical}
use Rattle.wi_standard_functions.specs.Inner.Named.{if_error_value, if_na_value}
use Rattle.wi_value_functions.specs.Applied.{arguments_of}
use Rattle.wi_value_functions.specs.declared.function.Function.TheVariants.{Values}
use Rattle.wi_value_functions.specs.declared.function.LazyFunction.{LazyFunction}
use Rattle.wi_value_functions.specs.declared.function.LazyFunction.TheVariants.{Choose, If, IfError, IfNa}
use Rattle.wi_value_functions.specs.declared.function.ValueFunction.{ValueFunction}
use Rattle.wi_functions.specs.Placed.{placed_value, placed_values}
use Rattle.wi_functions.specs.declared.placed.Placed.{Placed}

-- the arguments, none taken for a reference
abbrev plain : List Argument → List Argument
plain args = arguments_of (values_of args)

same_or : (default : Value) (args : List Argument) (i : ℕ) → value_or default args i ≡ value_or default (plain args) i
same_or default [] i = refl
same_or default (a ∷ args) zero = refl
same_or default (a ∷ args) (suc i) = same_or default args i

same_there : (args : List Argument) (i : ℕ) → (ok_or (slice_get args i) BadValue >>= (λ (a : Argument). a.value)) ≡ (ok_or (slice_get (plain args) i) BadValue >>= (λ (a : Argument). a.value))
same_there [] i = refl
same_there (a ∷ args) zero = refl
same_there (a ∷ args) (suc i) = same_there args i

same_chosen : (args : List Argument) (k : ℤ) → (chosen k args >>= (λ (a : Argument). a.value)) ≡ (chosen k (plain args) >>= (λ (a : Argument). a.value))
same_chosen args k = by (int_lt k (pos 1))
  where
    by : (b : Bool) → (ok_or (cond b None (slice_get args (unsigned_abs k))) BadValue >>= (λ (a : Argument). a.value)) ≡ (ok_or (cond b None (slice_get (plain args) (unsigned_abs k))) BadValue >>= (λ (a : Argument). a.value))
    by true = refl
    by false = same_there args (unsigned_abs k)

pub lazy_alone : (f : LazyFunction) (args : List Argument) → applied_to_arguments (Lazy f) args ≡ applied_to_arguments (Lazy f) (arguments_of (values_of args))
lazy_alone If args = λ i. to_logical (same_or Empty args 0 i) >>= (λ (b : Bool). cond b (same_or (Logical true) args 1 i) (same_or (Logical false) args 2 i))
lazy_alone IfError args = λ i. if_error_value (same_or Empty args 0 i) (same_or Empty args 1 i)
lazy_alone IfNa args = λ i. if_na_value (same_or Empty args 0 i) (same_or Empty args 1 i)
lazy_alone Choose args = λ i. to_whole (same_or Empty args 0 i) >>= (λ (k : ℤ). same_chosen args k i)

-- ---- a call of placed formulas

-- there are as many values as parameters
pub as_many : (es : List Placed) (args : List Argument) (vs : List Value) (n : ℕ) → n ≡ length es → values_of args ≡ placed_values es vs → length args ≡ n
as_many es args vs n many same =
    sym (length-map args (λ (a : Argument). a.value))
    ∙ ap (λ (xs : List Value). length xs) same
    ∙ length-map (map placed_value es) (λ (t : List Value → Value). t vs)
    ∙ length-map es placed_value
    ∙ sym many

module _ (es : List Placed) (args : List Argument) (vs : List Value) (name given : List ℕ) (n : ℕ) (f g : Function) (many : n ≡ length es) (same : values_of args ≡ placed_values es vs) (named : name ≡ given)
    (found : (xs : List Argument) → length xs ≡ n → call_value name xs ≡ applied_to_arguments f xs) (is : f ≡ g) where
  called : applied_to_arguments g args ≡ call_value given args
  called = ap (λ (h : Function). applied_to_arguments h args) (sym is) ∙ sym (found args (as_many es args vs n many same)) ∙ ap (λ (x : List ℕ). call_value x args) named

  pub lazy_called : (h : LazyFunction) → g ≡ Lazy h → applied_to_arguments (Lazy h) (arguments_of (placed_values es vs)) ≡ call_value given args
  lazy_called h k =
      ap (λ (xs : List Value). applied_to_arguments (Lazy h) (arguments_of xs)) (sym same)
      ∙ sym (lazy_alone h args)
      ∙ ap (λ (x : Function). applied_to_arguments x args) (sym k)
      ∙ called

  pub values_called : (h : ValueFunction) → g ≡ Values h → applied_to_values h (placed_values es vs) ≡ call_value given args
  values_called h k =
      ap (applied_to_values h) (sym same)
      ∙ sym (values_alone h args)
      ∙ ap (λ (x : Function). applied_to_arguments x args) (sym k)
      ∙ called
