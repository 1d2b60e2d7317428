-- The bound on a value is never felt.
use Rattle.wi_sheet.proofs.Words.{◌≡◌, ◌==◌, ℕ, zero, suc, ◌≤◌, Bool, true, false, cond, List, [], ◌∷◌, Option, Some, None, length, refl, ap, sym, ◌∙◌, arith, false_from_ne_true, keys_of, Value, Empty, Number, Text, Logical, Fault, Circular, Replacement, Tree, Content, Constant, Formula, Sheet, constant, content_of, put_all, has_formula, cells_with_formula, reads, content_reads, zero_for_empty, circular, has_walk, step, first_step, circular_is, value_of, replacements, what_if_in, value_within, cell_value}
use Rattle.wi_sheet.proofs.Puts.{overlaid, plain, content_of-put_all, formula_cells_put_all}
use Rattle.wi_sheet.proofs.Meanings.{meaning_same, replacements_same}
use Rattle.wi_sheet.proofs.Filters.{no_more}

-- ---- replacements lengthen no walk

reads_nothing : (v : Value) (d : ℕ) → content_reads (constant v) d ≡ false
reads_nothing Empty d = refl
reads_nothing (Number n) d = refl
reads_nothing (Text t) d = refl
reads_nothing (Logical b) d = refl
reads_nothing (Fault e) d = refl

-- what stands in a cell under replacements reads no more
overlaid_reads : (p : List Replacement) (q : ℕ) (o : Option Content) (d : ℕ) → content_reads (overlaid p q o) d ≡ true → content_reads o d ≡ true
overlaid_reads [] q o d h = h
overlaid_reads (r ∷ rs) q o d h = at (q == r.at) (overlaid_reads rs q (cond (q == r.at) (constant r.value) o) d h)
  where
    at : (b : Bool) → content_reads (cond b (constant r.value) o) d ≡ true → content_reads o d ≡ true
    at true k = let z = reads_nothing r.value d in cc
    at false k = k

overlaid_formula : (p : List Replacement) (q : ℕ) (o : Option Content) → has_formula (overlaid p q o) ≡ true → has_formula o ≡ true
overlaid_formula [] q o h = h
overlaid_formula (r ∷ rs) q o h = at (q == r.at) (overlaid_formula rs q (cond (q == r.at) (constant r.value) o) h)
  where
    at : (b : Bool) → has_formula (cond b (constant r.value) o) ≡ true → has_formula o ≡ true
    at true k = let z = plain r.value in cc
    at false k = k

pub put_reads : (s : Sheet) (p : List Replacement) (c d : ℕ) → content_reads (content_of (put_all s p) c) d ≡ true → content_reads (content_of s c) d ≡ true
put_reads s p c d h = overlaid_reads p c (content_of s c) d (ap (λ (o : Option Content). content_reads o d) (sym (content_of-put_all s p c)) ∙ h)

pub put_formula : (s : Sheet) (p : List Replacement) (c : ℕ) → has_formula (content_of (put_all s p) c) ≡ true → has_formula (content_of s c) ≡ true
put_formula s p c h = overlaid_formula p c (content_of s c) (ap has_formula (sym (content_of-put_all s p c)) ∙ h)

pub put_walk : (n : ℕ) (s : Sheet) (p : List Replacement) (c : ℕ) → has_walk n (put_all s p) c ≡ true → has_walk n s c ≡ true
put_walk zero s p c h = put_formula s p c h
put_walk (suc n) s p c h =
    let f = first_step n (put_all s p) c h in
    step n s c f.0 (put_reads s p c f.0 f.1) (put_walk n s p f.0 f.2)

-- replacements make no more formulas
pub put_formulas : (s : Sheet) (p : List Replacement) → length (cells_with_formula (put_all s p)) ≤ length (cells_with_formula s)
put_formulas s p =
    let e = ap (λ (xs : List ℕ). length xs) (formula_cells_put_all s p) in
    let l = no_more (λ c. has_formula (content_of s c)) (λ c. has_formula (content_of (put_all s p) c)) (put_formula s p) (keys_of s) in
    omega arith

-- ---- a value by cases

pub circular_value : (k : ℕ) (s : Sheet) (c : ℕ) → circular s c ≡ true → value_within k s c ≡ Fault Circular
unfolding value_within
circular_value zero s c h = rw h refl
circular_value (suc k) s c h = rw h refl

same_plain : (o : Option Content) (f g : Tree → Value) → has_formula o ≡ false → value_of o f ≡ value_of o g
same_plain None f g h = refl
same_plain (Some (Constant v)) f g h = refl
same_plain (Some (Formula t)) f g h = cc

pub plain_value : (k : ℕ) (s : Sheet) (c : ℕ) → has_formula (content_of s c) ≡ false → value_within k s c ≡ cond (circular s c) (Fault Circular) (value_of (content_of s c) (λ t. Empty))
unfolding value_within
plain_value zero s c h = ap (λ (v : Value). cond (circular s c) (Fault Circular) v) (same_plain (content_of s c) _ _ h)
plain_value (suc k) s c h = ap (λ (v : Value). cond (circular s c) (Fault Circular) v) (same_plain (content_of s c) _ _ h)

pub same_formula : (o : Option Content) (f g : Tree → Value) → ((t : Tree) → o ≡ Some (Formula t) → f t ≡ g t) → value_of o f ≡ value_of o g
same_formula None f g h = refl
same_formula (Some (Constant v)) f g h = refl
same_formula (Some (Formula t)) f g h = h t refl

-- from what a cell reads leads no walk that with it would be longer
pub read_walk : (n : ℕ) (s : Sheet) (c d : ℕ) → has_walk (suc n) s c ≡ false → content_reads (content_of s c) d ≡ true → has_walk n s d ≡ false
read_walk n s c d h r = false_from_ne_true (has_walk n s d) (λ w. let z = step n s c d r w in cc)

pub put_no_walk : (n : ℕ) (s : Sheet) (p : List Replacement) (c : ℕ) → has_walk n s c ≡ false → has_walk n (put_all s p) c ≡ false
put_no_walk n s p c h = false_from_ne_true (has_walk n (put_all s p) c) (λ w. let z = put_walk n s p c w in cc)

pub tree_reads : (s : Sheet) (c : ℕ) (t : Tree) (a : ℕ) → content_of s c ≡ Some (Formula t) → reads t a ≡ true → content_reads (content_of s c) a ≡ true
tree_reads s c t a e r = ap (λ (o : Option Content). content_reads o a) e ∙ r

-- where no walk of n steps leads from a cell, every bound from n on gives it one value
pub bound_same : (n j k : ℕ) (s : Sheet) (c : ℕ) → has_walk n s c ≡ false → n ≤ j → n ≤ k → value_within j s c ≡ value_within k s c
unfolding value_within
bound_same zero j k s c h a b = plain_value j s c h ∙ sym (plain_value k s c h)
bound_same (suc n) zero k s c h a b = absurd (omega arith)
bound_same (suc n) (suc j) zero s c h a b = absurd (omega arith)
bound_same (suc n) (suc j) (suc k) s c h a b =
    ap (λ (v : Value). cond (circular s c) (Fault Circular) v) (same_formula (content_of s c) _ _ (λ t e.
    ap zero_for_empty (meaning_same t (value_within j s) (value_within k s) (what_if_in (value_within j) s) (what_if_in (value_within k) s)
    (λ d r. bound_same n j k s d (read_walk n s c d h (tree_reads s c t d e r)) (omega arith) (omega arith))
    (λ f ps i.
    bound_same n j k (put_all s (replacements (value_within j s) ps)) f (put_no_walk n s (replacements (value_within j s) ps) f (read_walk n s c f h (tree_reads s c t f e i.0))) (omega arith) (omega arith)
    ∙ ap (λ (rs : List Replacement). value_within k (put_all s rs) f)
    (replacements_same ps (value_within j s) (value_within k s) (λ d m. bound_same n j k s d (read_walk n s c d h (tree_reads s c t d e (i.1 d m))) (omega arith) (omega arith)))))))

-- every bound from the number of formulas on gives a cell its value
pub bound_not_felt : (k : ℕ) (s : Sheet) (c : ℕ) → length (cells_with_formula s) ≤ k → value_within k s c ≡ cell_value s c
unfolding cell_value
bound_not_felt k s c l = at (circular s c) refl
  where
    at : (b : Bool) → circular s c ≡ b → value_within k s c ≡ value_within (length (cells_with_formula s)) s c
    at true e = circular_value k s c e ∙ sym (circular_value (length (cells_with_formula s)) s c e)
    at false e = bound_same (length (cells_with_formula s)) k (length (cells_with_formula s)) s c (sym (circular_is s c) ∙ e) l (omega arith)
