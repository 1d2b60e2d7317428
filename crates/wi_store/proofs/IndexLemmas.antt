-- An index that takes in contents one after another tells the first cell with each number.
use Rattle.wi_store.proofs.Words.{◌≡◌, ℕ, Bool, true, false, cond, [], ◌∷◌, Option, Some, None, not, refl, sym, ap, ◌∙◌, subst, is_some, lookup, Sheet}
use Rattle.std.specs.Borrow.{Bor}
use Rattle.std.specs.HashMap.{HashMap, get}
use Rattle.std.specs.Option.{option_copied}
use Rattle.wi_fraction.specs.Number.{Number as Numbers}
use Rattle.wi_fraction.specs.Order.{same_parts}
use Rattle.wi_fraction.specs.Order.Laws.{same_from_parts}
use Rattle.wi_values.specs.declared.value.Value.{Value}
use Rattle.wi_values.specs.declared.value.Value.TheVariants.{Number}
use Rattle.wi_parser.specs.declared.content.Content.TheVariants.{Constant}
use Rattle.wi_store.specs.Store.{AreConstants, first_number}
use Rattle.wi_store.specs.Inner.Indexes.{IsIndexOf, TakesIn, first_of}

module _ {S : Type 0} where
  -- the contents of which the rest is still to come were constants, and what is found in all is found so
  pub record AreTakenIn (all rest : Sheet) (cells : HashMap Numbers ℕ S) : Type 0 where
    pub constants : AreConstants rest → AreConstants all
    pub first : (x : Numbers) → first_of (get same_parts cells x) (first_number x rest) ≡ first_number x all

  pub none_yet : (all : Sheet) (cells : HashMap Numbers ℕ S) → cells.entries ≡ [] → AreTakenIn all all cells
  none_yet all cells e = record {
    constants = λ h. h;
    first = λ x. ap (λ es. first_of (lookup (same_parts x) es) (first_number x all)) e;
  }

  pub one_more : (all rest next : Sheet) (c : ℕ) (v : Value) (old new : HashMap Numbers ℕ S) → AreTakenIn all rest old → rest ≡ (c, Constant v) ∷ next → TakesIn c v old new → AreTakenIn all next new
  one_more all rest next c v old new h e t = record {
    constants = λ k. h.constants (subst AreConstants (sym e) (refl, k));
    first = λ x. t next x ∙ ap (λ s. first_of (get same_parts old x) (first_number x s)) (sym e) ∙ h.first x;
  }

  pub all_taken_in : (all rest : Sheet) (cells : HashMap Numbers ℕ S) → AreTakenIn all rest cells → rest ≡ [] → IsIndexOf all cells
  all_taken_in all rest cells h e = λ x. record {
    constants = h.constants (subst AreConstants (sym e) tt);
    first = sym (nothing_behind (get same_parts cells x)) ∙ ap (λ s. first_of (get same_parts cells x) (first_number x s)) (sym e) ∙ h.first x;
  }
    where
      nothing_behind : (o : Option ℕ) → first_of o None ≡ o
      nothing_behind None = refl
      nothing_behind (Some c) = refl

  -- a number that has a cell already
  pub taken_before : (c : ℕ) (n : Numbers) (cells : HashMap Numbers ℕ S) → is_some (get same_parts cells n) ≡ true → TakesIn c (Number n) cells cells
  taken_before c n cells h = λ s x. at s x (same_parts n x) refl
    where
      kept : (o next other : Option ℕ) → is_some o ≡ true → first_of o next ≡ first_of o other
      kept None next other e = absurd (let z = e in cc)
      kept (Some d) next other e = refl

      at : (s : Sheet) (x : Numbers) (b : Bool) → same_parts n x ≡ b → first_of (get same_parts cells x) (first_number x s) ≡ first_of (get same_parts cells x) (cond b (Some c) (first_number x s))
      at s x true e = kept (get same_parts cells x) (first_number x s) (Some c) (subst (λ y. is_some (get same_parts cells y) ≡ true) (same_from_parts n x e) h)
      at s x false e = refl

  -- a number that gets one
  pub taken_now : (c : ℕ) (n : Numbers) (old new : HashMap Numbers ℕ S) → get same_parts old n ≡ None → ((x : Numbers) → get same_parts new x ≡ cond (same_parts n x) (Some c) (get same_parts old x)) → TakesIn c (Number n) old new
  taken_now c n old new h u = λ s x. at s x (same_parts n x) refl
    where
      at : (s : Sheet) (x : Numbers) (b : Bool) → same_parts n x ≡ b → first_of (get same_parts new x) (first_number x s) ≡ first_of (get same_parts old x) (cond b (Some c) (first_number x s))
      at s x true e =
          let none : get same_parts old x ≡ None = subst (λ y. get same_parts old y ≡ None) (same_from_parts n x e) h in
          ap (λ o. first_of o (first_number x s)) (u x ∙ ap (λ b. cond b (Some c) (get same_parts old x)) e)
          ∙ sym (ap (λ o. first_of o (Some c)) none)
      at s x false e = ap (λ o. first_of o (first_number x s)) (u x ∙ ap (λ b. cond b (Some c) (get same_parts old x)) e)

-- what is found is lent
pub none_lent : (o : Option (Bor ℕ)) (b : Bool) → is_some o ≡ not b → b ≡ true → option_copied o ≡ None
none_lent None b e t = refl
none_lent (Some x) true e t = absurd (let z = e in cc)
none_lent (Some x) false e t = absurd (let z = t in cc)

pub one_lent : (o : Option (Bor ℕ)) (b : Bool) → is_some o ≡ not b → b ≡ false → is_some (option_copied o) ≡ true
one_lent None true e t = absurd (let z = t in cc)
one_lent None false e t = absurd (let z = e in cc)
one_lent (Some x) b e t = refl
