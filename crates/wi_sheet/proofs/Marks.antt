-- Cells without a formula that are not edited reach no edited one. What calculators mark: a cone, or all cells with a formula.
use Rattle.wi_sheet.proofs.Words.{◌≡◌, ◌⊎◌, inl, inr, ◌==◌, ◌||◌, ◌++◌, ℕ, Bool, true, false, List, [], ◌∷◌, Option, ap, subst, sym, ◌∙◌, cases_Bool, or_cases, or_left, or_right, false_from_ne_true, list_any-append, Content, Sheet, content_of, has_formula, cells_with_formula, is_one_of, SameOff, in_cone, clash, in_layer, layer_zero, reader_formula, same_cell, not_in_cone, cone_closed, cone_least, outside_reaches, IsUnmoved, IsMarking, or-false}
use Rattle.wi_sheet.proofs.Cones.{outside_unmoved}

-- a cell is among those with a formula exactly where it has one
formulas_alone : (s : Sheet) (c : ℕ) → is_one_of (cells_with_formula s) c ≡ has_formula (content_of s c)
formulas_alone s c = ap (λ (xs : List ℕ). is_one_of xs c) (sym (layer_zero s)) ∙ in_layer 0 s c

pub formulas_and_cells : (s : Sheet) (formulas cells found : List ℕ) → formulas ≡ cells_with_formula s → found ≡ formulas ++ cells → (c : ℕ) → is_one_of found c ≡ (has_formula (content_of s c) || is_one_of cells c)
formulas_and_cells s formulas cells found e f c =
    ap (λ (xs : List ℕ). is_one_of xs c) (f ∙ ap (λ (xs : List ℕ). xs ++ cells) e) ∙ list_any-append (λ x. x == c) (cells_with_formula s) cells
    ∙ ap (λ (b : Bool). b || is_one_of cells c) (formulas_alone s c)

-- so has each cell of their cone
cone_has_formulas : (s : Sheet) (cells : List ℕ) (c : ℕ) → in_cone s cells c ≡ true → (has_formula (content_of s c) || is_one_of cells c) ≡ true
cone_has_formulas s cells =
    cone_least s cells (λ a. has_formula (content_of s a) || is_one_of cells a) (λ a m. or_right (has_formula (content_of s a)) (is_one_of cells a) m)
    (λ c d r h. or_left (has_formula (content_of s c)) (is_one_of cells c) (reader_formula (content_of s c) d r))

-- and what is not marked is unmoved
pub others_unmoved : (s : Sheet) (cells found : List ℕ) → ((c : ℕ) → is_one_of found c ≡ (has_formula (content_of s c) || is_one_of cells c)) → (c : ℕ) → is_one_of found c ≡ false → IsUnmoved s cells c
others_unmoved s cells found is c n =
    outside_unmoved s cells c (false_from_ne_true (in_cone s cells c) (λ i. clash (is_one_of found c) (is c ∙ cone_has_formulas s cells c i) n))

-- ---- a cone marks

one_of_one : (x a : ℕ) → is_one_of (x ∷ []) a ≡ true → x ≡ a
one_of_one x a h = same_cell a x (sym (or-false (x == a)) ∙ h)

cone_further : (s : Sheet) (xs : List ℕ) (a c : ℕ) → in_cone s xs a ≡ true → in_cone s (a ∷ []) c ≡ true → in_cone s xs c ≡ true
cone_further s xs a c h =
    cone_least s (a ∷ []) (λ b. in_cone s xs b) (λ b m. subst (λ (x : ℕ). in_cone s xs x ≡ true) (one_of_one a b m) h)
    (λ d e r k. cone_closed s xs d e r k) c

cone_edited : (s t : Sheet) (xs : List ℕ) (a c : ℕ) → SameOff s t xs → in_cone t (a ∷ []) c ≡ true → (in_cone s (a ∷ []) c ≡ true) ⊎ (in_cone s xs c ≡ true)
cone_edited s t xs a c same h = at (cases_Bool (in_cone s xs c))
  where
    at : (in_cone s xs c ≡ true) ⊎ (in_cone s xs c ≡ false) → (in_cone s (a ∷ []) c ≡ true) ⊎ (in_cone s xs c ≡ true)
    at (inl i) = inr i
    at (inr out) = inl (ap (λ (b : Bool). b || false) (outside_reaches s t xs c a same (not_in_cone s xs c out)) ∙ h)

pub cone_marks : IsMarking in_cone
cone_marks = record { unmoved = outside_unmoved; formulas = cone_has_formulas; further = cone_further; edited = cone_edited }

-- ---- all cells with a formula do, with the cells themselves

formulas_further : (s : Sheet) (xs : List ℕ) (a c : ℕ) → (has_formula (content_of s a) || is_one_of xs a) ≡ true → (has_formula (content_of s c) || is_one_of (a ∷ []) c) ≡ true → (has_formula (content_of s c) || is_one_of xs c) ≡ true
formulas_further s xs a c h k = at (or_cases (has_formula (content_of s c)) (is_one_of (a ∷ []) c) k)
  where
    at : (has_formula (content_of s c) ≡ true) ⊎ (is_one_of (a ∷ []) c ≡ true) → (has_formula (content_of s c) || is_one_of xs c) ≡ true
    at (inl f) = or_left (has_formula (content_of s c)) (is_one_of xs c) f
    at (inr m) = subst (λ (b : ℕ). (has_formula (content_of s b) || is_one_of xs b) ≡ true) (one_of_one a c m) h

formulas_edited : (s t : Sheet) (xs : List ℕ) (a c : ℕ) → SameOff s t xs → (has_formula (content_of t c) || is_one_of (a ∷ []) c) ≡ true →
    ((has_formula (content_of s c) || is_one_of (a ∷ []) c) ≡ true) ⊎ ((has_formula (content_of s c) || is_one_of xs c) ≡ true)
formulas_edited s t xs a c same h = at (cases_Bool (is_one_of xs c))
  where
    at : (is_one_of xs c ≡ true) ⊎ (is_one_of xs c ≡ false) → ((has_formula (content_of s c) || is_one_of (a ∷ []) c) ≡ true) ⊎ ((has_formula (content_of s c) || is_one_of xs c) ≡ true)
    at (inl m) = inr (or_right (has_formula (content_of s c)) (is_one_of xs c) m)
    at (inr out) = inl (ap (λ (o : Option Content). has_formula o || is_one_of (a ∷ []) c) (same c out) ∙ h)

pub formulas_mark : IsMarking (λ s xs c. has_formula (content_of s c) || is_one_of xs c)
formulas_mark = record {
  unmoved = λ s xs c n.
      outside_unmoved s xs c (false_from_ne_true (in_cone s xs c) (λ i. clash (has_formula (content_of s c) || is_one_of xs c) (cone_has_formulas s xs c i) n));
  formulas = λ s xs c h. h;
  further = formulas_further;
  edited = formulas_edited;
}
