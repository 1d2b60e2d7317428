-- What the placed form of each kind of expression means.
use Rattle.wi_engine.proofs.Words.{◌≡◌, ◌==◌, ℕ, ◌+◌, ◌<◌, ◌≤◌, Bool, true, false, cond, List, [], ◌∷◌, ◌++◌, map, drop, get_or, length, slice_get, Option, Some, None, IfSome, IfNone, Result, Ok, Err, IfOk, refl, ap, sym, ◌∙◌, subst, map-append, AllocError, nat_cmp, get, Value, Empty, Fault, is_one_of, Tree, Content, Constant, Sheet, content_of, has_formula, meaning, known_in}
use Rattle.std.proofs.Common.{Box, Global}
use Rattle.wi_values.specs.declared.value.ErrorKind.TheVariants.{BadValue}
use Rattle.wi_parser.specs.Tree.{Trees, cell, rectangle, signed, percent, binary, call}
use Rattle.wi_parser.specs.View.{tree_of, all_of}
use Rattle.wi_parser.specs.declared.expr.Corners.{Corners}
use Rattle.wi_parser.specs.declared.expr.Expr.{Expr}
use Rattle.wi_parser.specs.declared.expr.Operator.{Operator}
use Rattle.wi_parser.specs.declared.expr.Sign.{Sign}
use Rattle.wi_functions.proofs.Words.{Argument, call_value}
use Rattle.wi_functions.specs.Inner.Calls.{values_of}
use Rattle.wi_functions.specs.Inner.Named.{hundredth}
use Rattle.wi_functions.specs.Meaning.{arguments}
use Rattle.wi_functions.specs.Operators.{operate, with_sign}
use Rattle.wi_functions.specs.Placed.{placed_value, placed_values}
use Rattle.wi_functions.specs.declared.placed.Placed.{Placed}
use Rattle.wi_functions.specs.declared.placed.Placed.TheVariants as placed
use Rattle.wi_functions.proofs.Parameters.{more_values, none_left}
use Rattle.wi_functions.proofs.PlacedValues.{constant_value, place_value, signed_value, percent_value, binary_value}
use Rattle.wi_engine.specs.declared.placing.Numbering.{Numbering}
use Rattle.wi_engine.specs.Inner.Placing.{AreNumbered, ArePlacedAs, Fits, IsPlacedAs, plain_reference}
use Rattle.wi_engine.proofs.placing.Numbered.{same_some}

-- where something is placed at all it is so too
pub if_placed : {X : Type 0} (P Q : X → Type 0) (r : Result (Option X) AllocError) → ((p : X) → P p → Q p) → IfOk r (λ o. IfSome o P) → IfOk r (λ o. IfSome o Q)
if_placed P Q (Ok (Some p)) f h = f p h
if_placed P Q (Ok None) f h = tt
if_placed P Q (Err e) f h = tt

module _ (s : Sheet) (ps : Numbering) where
  -- ---- by the tree of each kind

  -- a tree with another's meaning
  pub meant_as : (t u : Tree) (p : Placed) → ((value : ℕ → Value) (what_ifs : ℕ → List (ℕ × ℕ) → Value) → meaning t value what_ifs ≡ meaning u value what_ifs) → IsPlacedAs s ps t p → IsPlacedAs s ps u p
  meant_as t u p same h = λ cells n vs value what_ifs fits. h cells n vs value what_ifs fits ∙ same value what_ifs

  pub constant_as : (t : Tree) (v : Value) → ((value : ℕ → Value) (what_ifs : ℕ → List (ℕ × ℕ) → Value) → v ≡ meaning t value what_ifs) → IsPlacedAs s ps t (placed.Constant v)
  constant_as t v same = λ cells n vs value what_ifs fits. constant_value v vs ∙ same value what_ifs

  pub signed_as : (sign : Sign) (t : Tree) (p : Placed) (b : Box Placed Global) → b.value ≡ p → IsPlacedAs s ps t p → IsPlacedAs s ps (signed sign t) (placed.Signed sign b)
  signed_as sign t p b is h = λ cells n vs value what_ifs fits.
      signed_value sign b vs ∙ ap (λ (q : Placed). with_sign sign (placed_value q vs)) is ∙ ap (with_sign sign) (h cells n vs value what_ifs fits)

  pub percent_as : (t : Tree) (p : Placed) (b : Box Placed Global) → b.value ≡ p → IsPlacedAs s ps t p → IsPlacedAs s ps (percent t) (placed.Percent b)
  percent_as t p b is h = λ cells n vs value what_ifs fits.
      percent_value b vs ∙ ap (λ (q : Placed). hundredth (placed_value q vs)) is ∙ ap hundredth (h cells n vs value what_ifs fits)

  pub binary_as : (op : Operator) (t u : Tree) (p q : Placed) (b : Box (Placed × Placed) Global) → b.value ≡ (p, q) → IsPlacedAs s ps t p → IsPlacedAs s ps u q → IsPlacedAs s ps (binary op t u) (placed.Binary op b)
  binary_as op t u p q b is h k = λ cells n vs value what_ifs fits.
      binary_value op b vs
      ∙ ap (λ (x : Placed × Placed). operate op (placed_value x.0 vs) (placed_value x.1 vs)) is
      ∙ ap (λ (x : Value). operate op x (placed_value q vs)) (h cells n vs value what_ifs fits)
      ∙ ap (operate op (meaning t value what_ifs)) (k cells n vs value what_ifs fits)

  pub call_as : (name : List ℕ) (ts : Trees) (qs : List Placed) (p : Placed) → ((vs : List Value) (args : List Argument) → map (λ (a : Argument). a.value) args ≡ placed_values qs vs → placed_value p vs ≡ call_value name args) → ArePlacedAs s ps ts qs → IsPlacedAs s ps (call name ts) p
  call_as name ts qs p found h = λ cells n vs value what_ifs fits. found vs (arguments ts value what_ifs) (sym (h cells n vs value what_ifs fits))

  -- ---- a cell

  pub place_as : (c i : ℕ) → get nat_cmp ps.by_cell c ≡ Some i → IsPlacedAs s ps (cell (plain_reference c)) (placed.Place i)
  place_as c i is = λ cells n vs value what_ifs fits.
      place_value i vs ∙ fits.there c i (subst (λ (o : Option ℕ). IfSome o (λ j. slice_get cells j ≡ Some c)) is (n.there c))

  plain_as : (c : ℕ) (v : Value) → get nat_cmp ps.by_cell c ≡ None → has_formula (content_of s c) ≡ false → known_in (content_of s c) None ≡ Some v → IsPlacedAs s ps (cell (plain_reference c)) (placed.Constant v)
  plain_as c v none plain known = λ cells n vs value what_ifs fits.
      constant_value v vs
      ∙ same_some v (value c) (sym known ∙ fits.others c (subst (λ (o : Option ℕ). IfNone o (is_one_of cells c ≡ false)) none (n.none c)) plain)

  pub empty_as : (c : ℕ) → get nat_cmp ps.by_cell c ≡ None → content_of s c ≡ None → IsPlacedAs s ps (cell (plain_reference c)) (placed.Constant Empty)
  empty_as c none is = plain_as c Empty none (ap has_formula is) (ap (λ (o : Option Content). known_in o None) is)

  pub stored_as : (c : ℕ) (v u : Value) → get nat_cmp ps.by_cell c ≡ None → content_of s c ≡ Some (Constant v) → u ≡ v → IsPlacedAs s ps (cell (plain_reference c)) (placed.Constant u)
  stored_as c v u none is same = plain_as c u none (ap has_formula is) (ap (λ (o : Option Content). known_in o None) is ∙ ap (λ (x : Value). Some x) (sym same))

  -- ---- a rectangle

  pub corner_as : (c : Corners) (p : Placed) → (c.one.at == c.other.at) ≡ true → IsPlacedAs s ps (cell (plain_reference c.one.at)) p → IsPlacedAs s ps (rectangle c) p
  corner_as c p one h = meant_as (cell (plain_reference c.one.at)) (rectangle c) p (λ value what_ifs. sym (ap (λ (b : Bool). cond b (value c.one.at) (Fault BadValue)) one)) h

  pub wide_as : (c : Corners) → (c.one.at == c.other.at) ≡ false → IsPlacedAs s ps (rectangle c) (placed.Constant (Fault BadValue))
  wide_as c wide = constant_as (rectangle c) (Fault BadValue) (λ value what_ifs. sym (ap (λ (b : Bool). cond b (value c.one.at) (Fault BadValue)) wide))

  -- ---- parameters one after another

  -- those placed so far and those to come have the values of all
  abbrev pub ArePlacedOn : List Expr → ℕ → List Placed → Type 0
  ArePlacedOn es i qs =
      (cells : List ℕ) → AreNumbered cells ps → (vs : List Value) (value : ℕ → Value) (what_ifs : ℕ → List (ℕ × ℕ) → Value) → Fits s cells vs value →
      placed_values qs vs ++ values_of (arguments (all_of (drop i es)) value what_ifs) ≡ values_of (arguments (all_of es) value what_ifs)

  pub one_more_as : (es : List Expr) (i : ℕ) (e : Expr) (qs new : List Placed) (q : Placed) → i < length es → e ≡ get_or es i e → new ≡ qs ++ q ∷ [] → IsPlacedAs s ps (tree_of e) q → ArePlacedOn es i qs → ArePlacedOn es (i + 1) new
  one_more_as es i e qs new q l is m h before = λ cells n vs value what_ifs fits.
      let more : placed_values new vs ≡ placed_values qs vs ++ placed_value q vs ∷ [] =
      ap (λ (x : List Placed). placed_values x vs) m
      ∙ ap (λ (x : List (List Value → Value)). map (λ (t : List Value → Value). t vs) x) (map-append placed_value qs (q ∷ []))
      ∙ map-append (λ (t : List Value → Value). t vs) (map placed_value qs) (placed_value q ∷ []) in
      more_values es i e (placed_values qs vs) (placed_values new vs) (placed_value q vs) value what_ifs l is more (h cells n vs value what_ifs fits) (before cells n vs value what_ifs fits)

  pub all_as : (es : List Expr) (i : ℕ) (qs : List Placed) → length es ≤ i → ArePlacedOn es i qs → ArePlacedAs s ps (all_of es) qs
  all_as es i qs l h = λ cells n vs value what_ifs fits.
      none_left (λ (xs : List Expr). values_of (arguments (all_of xs) value what_ifs)) es i (placed_values qs vs) (values_of (arguments (all_of es) value what_ifs)) refl l (h cells n vs value what_ifs fits)
