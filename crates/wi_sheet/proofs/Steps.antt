-- A cell's value by one step, with no bound in sight.
use Rattle.wi_sheet.proofs.Words.{◌≡◌, ℕ, zero, suc, ◌<◌, Bool, true, false, cond, List, [], ◌∷◌, Some, length, refl, ap, sym, ◌∙◌, subst, arith, false_from_ne_true, is_one_of, Value, Empty, Fault, Circular, Replacement, Tree, Formula, Sheet, content_of, put_all, has_formula, cells_with_formula, content_reads, meaning, zero_for_empty, circular, has_walk, step, circular_walks, walks_circular, circular_is, formula_cell, reader_formula, value_of, replacements, what_if_in, formula_in, value_within, cell_value, what_if_value, shown}
use Rattle.wi_sheet.proofs.Meanings.{meaning_same, replacements_same}
use Rattle.wi_sheet.proofs.Bounds.{put_walk, put_formulas, bound_not_felt, bound_same, tree_reads, read_walk, put_no_walk, plain_value}

-- a cell on or above a cycle under replacements is so without them
pub put_circular_back : (s : Sheet) (p : List Replacement) (c : ℕ) → circular (put_all s p) c ≡ true → circular s c ≡ true
put_circular_back s p c h = walks_circular s c (λ n. put_walk n s p c (circular_walks (put_all s p) c h n))

pub put_not_circular : (s : Sheet) (p : List Replacement) (c : ℕ) → circular s c ≡ false → circular (put_all s p) c ≡ false
put_not_circular s p c h = false_from_ne_true (circular (put_all s p) c) (λ w. let z = put_circular_back s p c w in cc)

-- what reads a cell on or above a cycle is above it
pub reads_circular : (s : Sheet) (c d : ℕ) → content_reads (content_of s c) d ≡ true → circular s d ≡ true → circular s c ≡ true
reads_circular s c d r h = walks_circular s c all
  where
    all : (n : ℕ) → has_walk n s c ≡ true
    all zero = reader_formula (content_of s c) d r
    all (suc n) = step n s c d r (circular_walks s d h n)

pub reads_not_circular : (s : Sheet) (c d : ℕ) → content_reads (content_of s c) d ≡ true → circular s c ≡ false → circular s d ≡ false
reads_not_circular s c d r h = false_from_ne_true (circular s d) (λ w. let z = reads_circular s c d r w in cc)

pub some_formula : (s : Sheet) (c : ℕ) (n : ℕ) → length (cells_with_formula s) ≡ n → has_formula (content_of s c) ≡ true → 0 < n
some_formula s c n e h = at (cells_with_formula s) e (formula_cell s c h)
  where
    at : (xs : List ℕ) → length xs ≡ n → is_one_of xs c ≡ true → 0 < n
    at [] l m = cc
    at (x ∷ xs) l m = omega arith

-- a cell that a formula reads, by a bound that is one less
near : (n : ℕ) (s : Sheet) (d : ℕ) → length (cells_with_formula s) ≡ suc n → has_walk n s d ≡ false → value_within n s d ≡ cell_value s d
near n s d l w = bound_same n n (length (cells_with_formula s)) s d w (omega arith) (omega arith) ∙ bound_not_felt (length (cells_with_formula s)) s d (omega arith)

nested : (n : ℕ) (s : Sheet) (rs : List Replacement) (f : ℕ) → length (cells_with_formula s) ≡ suc n → has_walk n s f ≡ false → value_within n (put_all s rs) f ≡ cell_value (put_all s rs) f
nested n s rs f l w =
    bound_same n n (suc n) (put_all s rs) f (put_no_walk n s rs f w) (omega arith) (omega arith)
    ∙ bound_not_felt (suc n) (put_all s rs) f (let x = put_formulas s rs in omega arith)

by_formula : (n : ℕ) (s : Sheet) (c : ℕ) (t : Tree) → circular s c ≡ false → content_of s c ≡ Some (Formula t) → value_within (suc n) s c ≡ formula_in (value_within n) s t
unfolding value_within
by_formula n s c t h e = rw h (rw e refl)

by_steps : (n : ℕ) (s : Sheet) (c : ℕ) (t : Tree) → length (cells_with_formula s) ≡ suc n → has_walk (suc n) s c ≡ false → content_of s c ≡ Some (Formula t) →
    formula_in (value_within n) s t ≡ zero_for_empty (meaning t (cell_value s) (what_if_value s))
by_steps n s c t l w e =
    ap zero_for_empty (meaning_same t (value_within n s) (cell_value s) (what_if_in (value_within n) s) (what_if_value s)
    (λ d r. near n s d l (read_walk n s c d w (tree_reads s c t d e r)))
    (λ f ps i.
    nested n s (replacements (value_within n s) ps) f l (read_walk n s c f w (tree_reads s c t f e i.0))
    ∙ ap (λ (rs : List Replacement). cell_value (put_all s rs) f)
    (replacements_same ps (value_within n s) (cell_value s) (λ d m. near n s d l (read_walk n s c d w (tree_reads s c t d e (i.1 d m)))))))

pub no_walk : (n : ℕ) (s : Sheet) (c : ℕ) → length (cells_with_formula s) ≡ n → circular s c ≡ false → has_walk n s c ≡ false
no_walk n s c l h = subst (λ (m : ℕ). has_walk m s c ≡ false) l (sym (circular_is s c) ∙ h)

-- a formula's value: the meaning of its tree, each cell that it reads standing for its value
pub value_step : (s : Sheet) (c : ℕ) (t : Tree) → circular s c ≡ false → content_of s c ≡ Some (Formula t) → cell_value s c ≡ zero_for_empty (meaning t (cell_value s) (what_if_value s))
value_step s c t h e = at (length (cells_with_formula s)) refl (some_formula s c (length (cells_with_formula s)) refl (ap has_formula e))
  where
    at : (n : ℕ) → length (cells_with_formula s) ≡ n → 0 < n → cell_value s c ≡ zero_for_empty (meaning t (cell_value s) (what_if_value s))
    at zero l z = absurd (omega arith)
    at (suc n) l z = sym (bound_not_felt (suc n) s c (omega arith)) ∙ by_formula n s c t h e ∙ by_steps n s c t l (no_walk (suc n) s c l h) e

-- a cell without a formula shows what stands there
pub value_plain : (s : Sheet) (c : ℕ) → circular s c ≡ false → has_formula (content_of s c) ≡ false → cell_value s c ≡ value_of (content_of s c) (λ t. Empty)
unfolding cell_value
value_plain s c h p = plain_value (length (cells_with_formula s)) s c p ∙ ap (λ (b : Bool). cond b (Fault Circular) (value_of (content_of s c) (λ t. Empty))) h

pub shown_open : (s : Sheet) (p : List Replacement) (c : ℕ) → circular s c ≡ false → shown s p c ≡ cell_value (put_all s p) c
unfolding shown
shown_open s p c h = ap (λ (b : Bool). cond b (Fault Circular) (cell_value (put_all s p) c)) h

pub shown_value : (s : Sheet) (w put : List Replacement) (a : ℕ) (v : Value) → circular s a ≡ false → w ≡ put → v ≡ cell_value (put_all s w) a → v ≡ shown s put a
shown_value s w put a v o e is = is ∙ ap (λ (p : List Replacement). cell_value (put_all s p) a) e ∙ sym (shown_open s put a o)

pub shown_circular : (s : Sheet) (p : List Replacement) (c : ℕ) → circular s c ≡ true → shown s p c ≡ Fault Circular
unfolding shown
shown_circular s p c h = ap (λ (b : Bool). cond b (Fault Circular) (cell_value (put_all s p) c)) h
