-- What a function takes of its arguments.
use Rattle.wi_lookup_functions.proofs.Words.{◌≡◌, ℕ, List, [], ◌∷◌, length, Option, Some, None, refl, sym, ap, ◌∙◌, subst, slice_get, Result, option_copied, IsItemAt, slice_get_past, slice_get_read, ErrorKind, Value, Empty, value_at, criterion_of, no_error, ◌>>=◌, and_then, Stop, Missing, Memory, argument_in, arguments_in, value_lent, KnownAgrees, IsMissing, IfMissing, refers_alone, value_absent, value_given, Criterion, criterion_held, NoValue, Error, Stopped, criterion_argument, Agrees, IsCriterionOf}
use Rattle.std.proofs.Common.{Bor}
use Rattle.std.specs.Prelude.{Ok, Err}
use Rattle.wi_standard_functions.specs.Inner.Criteria as defined
use Rattle.wi_arguments.specs.declared.argument.Argument as given

-- what `get` gives
pub got : {X : Type 0} (xs : List X) (i : ℕ) (r : Option (Bor X)) → IsItemAt xs i r → option_copied r ≡ slice_get xs i
got xs i None h = sym (slice_get_past xs i h.3)
got xs i (Some x) h = sym (slice_get_read xs (length xs) i x.now refl h.3.0 h.1)

-- ---- the criterion that a value is

pub criterion_fails : (v : Value) (e : ErrorKind) (x : NoValue (Stop ℕ)) → x ≡ Error e → no_error v ≡ Err e → IsCriterionOf v (Err x)
criterion_fails v e x m h = subst (λ (y : NoValue (Stop ℕ)). IsCriterionOf v (Err y)) (sym m) (ap (λ (o : Result Value ErrorKind). and_then (λ w. Ok (criterion_of w)) o) h)

pub criterion_wants : (v : Value) (x : NoValue (Stop ℕ)) → x ≡ Stopped Memory → IsCriterionOf v (Err x)
criterion_wants v x m = subst (λ (y : NoValue (Stop ℕ)). IsCriterionOf v (Err y)) (sym m) refl

pub criterion_is : (v : Value) (c : Criterion) → no_error v ≡ Ok v → criterion_held c ≡ criterion_of v → IsCriterionOf v (Ok c)
criterion_is v c h k = ap (λ (o : Result Value ErrorKind). and_then (λ w. Ok (criterion_of w)) o) h ∙ ap Ok (sym k)

pub by_criterion : (p : Result Value ErrorKind) (k : defined.Criterion → Value) → (p >>= (λ w. k (criterion_of w))) ≡ (and_then (λ w. Ok (criterion_of w)) p >>= k)
by_criterion (Ok w) k = refl
by_criterion (Err e) k = refl

-- ---- of an argument

module _ (known : ℕ → Option Value) (a : given.Argument) where
  -- the outcome is the criterion that the argument is
  abbrev pub IsCriterionIn : Result Criterion (NoValue (Stop ℕ)) → Type 0
  IsCriterionIn r = Agrees known (IsMissing known (a ∷ [])) criterion_held (λ cells. criterion_argument (argument_in cells a).value) r

  abbrev pub Told : Result (Bor Value) ErrorKind → Type 0
  Told o = (cells : ℕ → Value) → KnownAgrees known cells → value_lent o ≡ (argument_in cells a).value

  pub of_lent : (o : Result (Bor Value) ErrorKind) (v : Bor Value) (r : Result Criterion (NoValue (Stop ℕ))) → o ≡ Ok v → Told o → IsCriterionOf v.now r → IsCriterionIn r
  of_lent o v r e h g = at r g
    where
      told : Told (Ok v)
      told = subst Told e h

      at : (p : Result Criterion (NoValue (Stop ℕ))) → IsCriterionOf v.now p → IsCriterionIn p
      at (Ok c) k = λ cells l. ap criterion_argument (sym (told cells l)) ∙ k
      at (Err (Error x)) k = λ cells l. ap criterion_argument (sym (told cells l)) ∙ k
      at (Err (Stopped s)) k = subst (λ (t : Stop ℕ). IfMissing t (IsMissing known (a ∷ []))) (sym k) tt

  pub of_lent_error : (o : Result (Bor Value) ErrorKind) (e : ErrorKind) (x : NoValue (Stop ℕ)) → o ≡ Err e → x ≡ Error e → Told o → IsCriterionIn (Err x)
  of_lent_error o e x k m h = subst (λ (y : NoValue (Stop ℕ)). IsCriterionIn (Err y)) (sym m) (λ cells l. ap criterion_argument (sym (subst Told k h cells l)))

  pub of_stop : (d : ℕ) (x : NoValue (Stop ℕ)) → x ≡ Stopped (Missing d) → IsMissing known (a ∷ []) d → IsCriterionIn (Err x)
  of_stop d x m h = subst (λ (y : NoValue (Stop ℕ)). IsCriterionIn (Err y)) (sym m) h

-- ---- of the argument at a place

module _ (known : ℕ → Option Value) (args : List given.Argument) (i : ℕ) where
  -- the outcome is the criterion at the place
  abbrev pub IsCriterionAt : Result Criterion (NoValue (Stop ℕ)) → Type 0
  IsCriterionAt r = Agrees known (IsMissing known args) criterion_held (λ cells. criterion_argument (value_at (arguments_in cells args) i)) r

  pub of_absent : (r : Result Criterion (NoValue (Stop ℕ))) → None ≡ slice_get args i → IsCriterionOf Empty r → IsCriterionAt r
  of_absent r e g = at r g
    where
      at : (p : Result Criterion (NoValue (Stop ℕ))) → IsCriterionOf Empty p → IsCriterionAt p
      at (Ok c) k = λ cells l. ap criterion_argument (value_absent cells args i Empty e) ∙ k
      at (Err (Error x)) k = λ cells l. ap criterion_argument (value_absent cells args i Empty e) ∙ k
      at (Err (Stopped s)) k = subst (λ (t : Stop ℕ). IfMissing t (IsMissing known args)) (sym k) tt

  pub of_there : (a : given.Argument) (r : Result Criterion (NoValue (Stop ℕ))) → Some a ≡ slice_get args i → IsCriterionIn known a r → IsCriterionAt r
  of_there a r e g = at r g
    where
      at : (p : Result Criterion (NoValue (Stop ℕ))) → IsCriterionIn known a p → IsCriterionAt p
      at (Ok c) k = λ cells l. ap criterion_argument (value_given cells args i a Empty (argument_in cells a).value e refl) ∙ k cells l
      at (Err (Error x)) k = λ cells l. ap criterion_argument (value_given cells args i a Empty (argument_in cells a).value e refl) ∙ k cells l
      at (Err (Stopped (Missing c))) k = (k.0, refers_alone args i a c e k.1)
      at (Err (Stopped Memory)) k = tt
