-- A formula's value, by what is known.
use Rattle.wi_engine.proofs.Words.{◌≡◌, ℕ, true, false, List, Option, Some, None, IfSome, refl, ap, sym, ◌∙◌, subst, Value, Empty, Number, Text, Logical, Fault, constant, Replacement, Tree, Sheet, content_of, put_all, has_formula, Content, Constant, Formula, Assignment, AgreesWith, meaning, IsUnknown, IsOutcomeOf, Want, Cell, WhatIf, Outcome, Needs, value_by_all, same_by_all, Key, circular, ends_open, value_of, cell_value, what_if_value, value_step, value_plain, put_not_circular, same_tree, found_value, what_if_found, AreAllRight, known_in, cell_known, IsLacking, IsAttemptOf, Findings, Known}
use Rattle.wi_functions.specs.declared.evaluation.Outcome.TheVariants.{Done}

-- the values of a sheet's cells and what-ifs
abbrev pub values_in : Sheet → Assignment
values_in s = record { cells = cell_value s; what_ifs = what_if_value s }

-- what a cell without a formula shows
plain : (s : Sheet) (c : ℕ) → has_formula (content_of s c) ≡ false → cell_value s c ≡ value_of (content_of s c) (λ t. Empty)
plain s c h = value_plain s c (ends_open 0 s c h) h

known_cell_right : (s : Sheet) (c : ℕ) (o : Option Content) (found : Option Value) → content_of s c ≡ o → IfSome found (λ v. v ≡ cell_value s c) → IfSome (known_in o found) (λ v. v ≡ cell_value s c)
known_cell_right s c None found e r = sym (plain s c (ap has_formula e) ∙ ap (λ (o : Option Content). value_of o (λ t. Empty)) e)
known_cell_right s c (Some (Constant v)) found e r = sym (plain s c (ap has_formula e) ∙ ap (λ (o : Option Content). value_of o (λ t. Empty)) e)
known_cell_right s c (Some (Formula t)) found e r = r

-- of a cell with a constant it makes no difference what was found
pub known_constant : (v : Value) (o p : Option Value) → known_in (constant v) o ≡ known_in (constant v) p
known_constant Empty o p = refl
known_constant (Number x) o p = refl
known_constant (Text s) o p = refl
known_constant (Logical b) o p = refl
known_constant (Fault e) o p = refl

-- a value that was found, and is right, is what is known
pub found_known : (s : Sheet) (c : ℕ) (o : Option Content) (v : Value) → content_of s c ≡ o → v ≡ cell_value s c → known_in o (Some v) ≡ Some v
found_known s c None v e r = ap (λ (x : Value). Some x) (known_cell_right s c None (Some v) e r ∙ sym r)
found_known s c (Some (Constant u)) v e r = ap (λ (x : Value). Some x) (known_cell_right s c (Some (Constant u)) (Some v) e r ∙ sym r)
found_known s c (Some (Formula t)) v e r = refl

-- what is known agrees with the values, where what was found is right
pub known_agrees : (s : Sheet) (w : List Replacement) (f : Findings) → AreAllRight (cell_value (put_all s w)) (what_if_value (put_all s w)) f → AgreesWith (cell_known s w f) (what_if_found f) (values_in (put_all s w))
known_agrees s w f r = record {
  cells = λ c. known_cell_right (put_all s w) c (content_of (put_all s w) c) (found_value f c) refl (r.cells c);
  what_ifs = r.what_ifs;
}

-- a value that isn't known is lacking
lacking_from_unknown : (s : Sheet) (w : List Replacement) (f : Findings) (want : Want) → IsUnknown (cell_known s w f) (what_if_found f) want → IsLacking s w f want
lacking_from_unknown s w f (Cell a) h = by (content_of (put_all s w) a) h
  where
    by : (o : Option Content) → known_in o (found_value f a) ≡ None → (has_formula o ≡ true) × (found_value f a ≡ None)
    by None e = cc
    by (Some (Constant v)) e = cc
    by (Some (Formula t)) e = (refl, e)
lacking_from_unknown s w f (WhatIf c pairs) h = h

-- what a lookup knows is what is known under the replacements with what was found
module _ {K : Type 0} (known_cell : K → ℕ → Option Value) (known_what_if : K → ℕ → List (ℕ × ℕ) → Option Value) (known : K) (s : Sheet) (k : Key) (f : Findings)
    (cells : known_cell known ≡ cell_known s k.world f) (what_ifs : known_what_if known ≡ what_if_found f) where
  known_as : (a : Assignment) → AgreesWith (cell_known s k.world f) (what_if_found f) a → AgreesWith (known_cell known) (known_what_if known) a
  known_as a r =
      subst (λ (x : ℕ → List (ℕ × ℕ) → Option Value). AgreesWith (known_cell known) x a) (sym what_ifs)
      (subst (λ (x : ℕ → Option Value). AgreesWith x (what_if_found f) a) (sym cells) r)

  -- what an evaluation gives for the formula of a key, the attempt gives
  pub attempted : (t : Tree) (o : Outcome) → circular s k.cell ≡ false → content_of (put_all s k.world) k.cell ≡ Some (Formula t) → AreAllRight (cell_value (put_all s k.world)) (what_if_value (put_all s k.world)) f →
      IsOutcomeOf known_cell known_what_if known t o → IsAttemptOf s k f o
  attempted t (Done v) n is r e = record {
    value = value_by_all known_cell known_what_if known t v e (values_in (put_all s k.world)) (known_as (values_in (put_all s k.world)) (known_agrees s k.world f r))
        ∙ sym (value_step (put_all s k.world) k.cell t (put_not_circular s k.world k.cell n) is);
    one_meaning = λ u a b i g h. subst (λ (y : Tree). meaning y a.cells a.what_ifs ≡ meaning y b.cells b.what_ifs) (same_tree t u (content_of (put_all s k.world) k.cell) is i)
        (same_by_all known_cell known_what_if known t v e a b (known_as a g) (known_as b h));
  }
  attempted t (Needs w) n is r e = record {
    asked = record { tree = t; is = is; asks = e.asked };
    lacking = lacking_from_unknown s k.world f w
        (subst (λ (x : ℕ → List (ℕ × ℕ) → Option Value). IsUnknown (cell_known s k.world f) x w) what_ifs
        (subst (λ (x : ℕ → Option Value). IsUnknown x (known_what_if known) w) cells e.unknown));
  }

-- what an evaluation over what is known gives for the formula of a key, the attempt gives
pub attempted_by : (known : Known) (s : Sheet) (k : Key) (f : Findings) → known.store.now.sheet ≡ s → known.world.now ≡ k.world → known.found.now ≡ f → (t : Tree) (o : Outcome) → circular s k.cell ≡ false → content_of (put_all s k.world) k.cell ≡ Some (Formula t) → AreAllRight (cell_value (put_all s k.world)) (what_if_value (put_all s k.world)) f →
    IsOutcomeOf (λ (x : Known). cell_known x.store.now.sheet x.world.now x.found.now) (λ (x : Known). what_if_found x.found.now) known t o → IsAttemptOf s k f o
attempted_by known s k f store world found =
    attempted (λ (x : Known). cell_known x.store.now.sheet x.world.now x.found.now) (λ (x : Known). what_if_found x.found.now) known s k f (rw (store, world, found) refl) (ap what_if_found found)
