-- What the arguments of a call stand for, by their places.
use Rattle.std.proofs.Common.{◌≡◌, ℕ, true, List, [], ◌∷◌, Option, Some, None, IfSome, Ok, Err, refl, sym, ap, ◌∙◌, subst}
use Rattle.std.specs.Prelude.{IfOk, Result, slice_get, unwrap_or}
use Rattle.std.specs.Option.{option_map, option_map_or}
use Rattle.std.specs.List.{list_any}
use Rattle.std.proofs.Math.Bool.{or-false}
use Rattle.std.proofs.lemmas.Option.{slice_get-map}
use Rattle.std.proofs.lemmas.Map.Keys.{any_passes_from_place}
use Rattle.wi_values.specs.Address.{Area}
use Rattle.wi_values.specs.declared.value.ErrorKind.{ErrorKind}
use Rattle.wi_values.specs.declared.value.ErrorKind.TheVariants.{BadValue}
use Rattle.wi_values.specs.declared.value.Value.{Value}
use Rattle.wi_values.specs.declared.value.Value.TheVariants.{Empty}
use Rattle.wi_standard_functions.specs.Arguments.{Argument, Region, region_at, region_referred, value_or}
use Rattle.wi_standard_functions.specs.Inner.Named.{region_or}
use Rattle.wi_arguments.specs.declared.argument.Argument as given
use Rattle.wi_arguments.specs.Arguments.{argument_in, arguments_in, area_at, area_referred, region_in, refers_to, IsReferred, KnownAgrees}

pub refers_alone : (args : List given.Argument) (i : ℕ) (a : given.Argument) (c : ℕ) → Some a ≡ slice_get args i → list_any (refers_to c) (a ∷ []) ≡ true → list_any (refers_to c) args ≡ true
refers_alone args i a c h k = any_passes_from_place (refers_to c) args i a (sym h) (sym (or-false (refers_to c a)) ∙ k)

there : (cells : ℕ → Value) (args : List given.Argument) (i : ℕ) (o : Option given.Argument) → o ≡ slice_get args i → slice_get (arguments_in cells args) i ≡ option_map (argument_in cells) o
there cells args i o e = slice_get-map (argument_in cells) args i ∙ ap (option_map (argument_in cells)) (sym e)

-- ---- rectangles

region_is_referred : (cells : ℕ → Value) (a : given.Argument) → region_referred (argument_in cells a) ≡ region_in cells (area_referred a)
region_is_referred cells (given.TheVariants.Reference r) = refl
region_is_referred cells (given.TheVariants.Value v) = refl

pub region_there : (args : List given.Argument) (i : ℕ) (a : given.Argument) (r : Result Area ErrorKind) → Some a ≡ slice_get args i → r ≡ area_referred a →
    (cells : ℕ → Value) (default : Result Region ErrorKind) → region_or default (arguments_in cells args) i ≡ region_in cells r
region_there args i a r e h cells default =
    ap (λ (o : Option Argument). option_map_or region_referred o default) (there cells args i (Some a) e) ∙ region_is_referred cells a ∙ ap (region_in cells) (sym h)

pub region_absent : (args : List given.Argument) (i : ℕ) → None ≡ slice_get args i → (cells : ℕ → Value) (default : Result Region ErrorKind) → region_or default (arguments_in cells args) i ≡ default
region_absent args i e cells default = ap (λ (o : Option Argument). option_map_or region_referred o default) (there cells args i None e)

pub region_is : (args : List given.Argument) (i : ℕ) (o : Result Area ErrorKind) → o ≡ area_at args i → (cells : ℕ → Value) → region_at (arguments_in cells args) i ≡ region_in cells o
region_is args i o h cells = at (slice_get args i) refl ∙ ap (region_in cells) (sym h)
  where
    at : (p : Option given.Argument) → p ≡ slice_get args i → region_at (arguments_in cells args) i ≡ region_in cells (option_map_or area_referred p (Err BadValue))
    at None e = region_absent args i e cells (Err BadValue)
    at (Some a) e = region_there args i a (area_referred a) e refl cells (Err BadValue)

pub referred_there : (args : List given.Argument) (i : ℕ) (a : given.Argument) (r : Result Area ErrorKind) → Some a ≡ slice_get args i → r ≡ area_referred a → IfOk r (IsReferred args)
referred_there args i a r e h = subst (λ (s : Result Area ErrorKind). IfOk s (IsReferred args)) (sym h) (at a e)
  where
    at : (b : given.Argument) → Some b ≡ slice_get args i → IfOk (area_referred b) (IsReferred args)
    at (given.TheVariants.Reference s) k = λ c w. any_passes_from_place (refers_to c) args i (given.TheVariants.Reference s) (sym k) w
    at (given.TheVariants.Value v) k = tt

pub is_referred : (args : List given.Argument) (i : ℕ) (r : Area) → Ok r ≡ area_at args i → IsReferred args r
is_referred args i r h = at (slice_get args i) refl h
  where
    at : (p : Option given.Argument) → p ≡ slice_get args i → Ok r ≡ option_map_or area_referred p (Err BadValue) → IsReferred args r
    at None e k = cc
    at (Some a) e k = referred_there args i a (Ok r) e k

-- ---- values

pub value_given : (cells : ℕ → Value) (args : List given.Argument) (i : ℕ) (a : given.Argument) (default v : Value) → Some a ≡ slice_get args i → v ≡ (argument_in cells a).value → value_or default (arguments_in cells args) i ≡ v
value_given cells args i a default v h k = ap (λ (o : Option Argument). option_map_or (λ (b : Argument). b.value) o default) (there cells args i (Some a) h) ∙ sym k

pub value_absent : (cells : ℕ → Value) (args : List given.Argument) (i : ℕ) (default : Value) → None ≡ slice_get args i → value_or default (arguments_in cells args) i ≡ default
value_absent cells args i default h = ap (λ (o : Option Argument). option_map_or (λ (b : Argument). b.value) o default) (there cells args i None h)

-- ---- what is known agrees with some values

pub taken_for_known : (ℕ → Option Value) → ℕ → Value
taken_for_known known c = unwrap_or (known c) Empty

pub known_agrees : (known : ℕ → Option Value) → KnownAgrees known (taken_for_known known)
unfolding taken_for_known
known_agrees known c = at (known c)
  where
    at : (o : Option Value) → IfSome o (λ v. v ≡ unwrap_or o Empty)
    at None = tt
    at (Some v) = refl

-- a value that is known is that of the cell
pub known_is : (o : Option Value) (v w : Value) → IfSome o (λ u. u ≡ w) → Some v ≡ o → v ≡ w
known_is None v w h e = cc
known_is (Some u) v w h e = let same : u ≡ v = cc in sym same ∙ h
