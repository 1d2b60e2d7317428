-- When two cases are one, and each case once.
use Rattle.wi_sheet.proofs.Words.{◌≡◌, ◌==◌, ◌||◌, inl, inr, ℕ, Bool, true, false, cond, List, [], ◌∷◌, Contains, refl, ap, sym, ◌∙◌, subst, eq-eqb, and_parts, and_from, eqb-true, list_any, Replacement, same_replacements, same_replacements_Decides, Sheet, content_of, put_all, has_formula, circular, Case, case_of, same_case, demand, demanded, different, HasCase, IsClosed}
use Rattle.wi_sheet.proofs.Members.{IsIn, in_contained, contains_in}
use Rattle.wi_sheet.proofs.SmallerWorlds.{content_below}
use Rattle.wi_sheet.proofs.Demands.{demand_closed, demand_has_itself}

-- pairs with the same parts are one
pub pair_path : {A B : Type 0} (a b : A) (c d : B) → a ≡ b → c ≡ d → ◌≡◌ {A = A × B} (a, c) (b, d)
pair_path {A} {B} a b c d e f = ap (λ (x : A). (x, c)) e ∙ ap (λ (y : B). (b, y)) f

-- cases that pass the test are one
pub one_case : (k j : Case) → same_case k j ≡ true → k ≡ j
one_case k j h =
    let x = and_parts (k.0 == j.0) (same_replacements k.1 j.1) h in
    pair_path k.0 j.0 k.1 j.1 (eqb-true k.0 j.0 x.0) ((same_replacements_Decides k.1 j.1).0 x.1)

-- a case passes it with itself
pub same_case-refl : (k : Case) → same_case k k ≡ true
same_case-refl k = and_from (k.0 == k.0) (same_replacements k.1 k.1) (eq-eqb k.0 k.0 refl) ((same_replacements_Decides k.1 k.1).1 refl)

in_same : (k : Case) (ks : List Case) → list_any (same_case k) ks ≡ true → IsIn ks k
in_same k [] h = cc
in_same k (j ∷ ks) h = at (same_case k j) refl h (in_same k ks)
  where
    at : (b : Bool) → same_case k j ≡ b → (b || list_any (same_case k) ks) ≡ true → (list_any (same_case k) ks ≡ true → IsIn ks k) → IsIn (j ∷ ks) k
    at true e h ih = inl (sym (one_case k j e))
    at false e h ih = inr (ih h)

-- a case of the list is one of its different cases
in_different : (ks : List Case) (k : Case) → IsIn ks k → IsIn (different ks) k
in_different [] k h = absurd h
in_different (j ∷ ks) k h = at (list_any (same_case j) ks) refl h (in_different ks k)
  where
    at : (b : Bool) → list_any (same_case j) ks ≡ b → IsIn (j ∷ ks) k → (IsIn ks k → IsIn (different ks) k) → IsIn (cond b (different ks) (j ∷ different ks)) k
    at true e (inl same) ih = ih (subst (λ (i : Case). IsIn ks i) same (in_same j ks e))
    at true e (inr i) ih = ih i
    at false e (inl same) ih = inl same
    at false e (inr i) ih = inr (ih i)

-- and there are no others
of_different : (ks : List Case) (k : Case) → IsIn (different ks) k → IsIn ks k
of_different [] k h = absurd h
of_different (j ∷ ks) k h = at (list_any (same_case j) ks) h (of_different ks k)
  where
    at : (b : Bool) → IsIn (cond b (different ks) (j ∷ different ks)) k → (IsIn (different ks) k → IsIn ks k) → IsIn (j ∷ ks) k
    at true i ih = inr (ih i)
    at false (inl same) ih = inl same
    at false (inr i) ih = inr (ih i)

pub contains_different : (ks : List Case) (k : Case) → Contains ks k → Contains (different ks) k
contains_different ks k h = contains_in (different ks) k (in_different ks k (in_contained ks k h))

pub different_contained : (ks : List Case) (k : Case) → Contains (different ks) k → Contains ks k
different_contained ks k h = contains_in ks k (of_different ks k (in_contained (different ks) k h))

-- a closed list is closed with each case once
pub closed_different : (s : Sheet) (ks : List Case) → IsClosed s ks → IsClosed s (different ks)
closed_different s ks c = λ k j h r. contains_different ks j (c k j (different_contained ks k h) r)

pub different_closed : (s : Sheet) (k : Case) → IsClosed s (different (demand s k))
different_closed s k = closed_different s (demand s k) (demand_closed s k)

pub different_has_itself : (s : Sheet) (k : Case) → circular s k.0 ≡ false → has_formula (content_of (put_all s k.1) k.0) ≡ true → Contains (different (demand s k)) k
different_has_itself s k h f = contains_different (demand s k) k (demand_has_itself s k h f)

-- what a cell demands under replacements has its own case
pub demands_itself : (s : Sheet) (w put : List Replacement) (a : ℕ) → circular s a ≡ false → w ≡ put → HasCase s w a (demanded s put a)
demands_itself s w put a o same = subst (λ (p : List Replacement). HasCase s p a (demanded s put a)) (sym same) (λ f. different_has_itself s (case_of s put a) o (ap has_formula (content_below s a put) ∙ f))
