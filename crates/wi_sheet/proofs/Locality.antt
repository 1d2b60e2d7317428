-- What a cell shows rests on what it reaches alone.
use Rattle.wi_sheet.proofs.Words.{◌≡◌, ◌==◌, ℕ, zero, suc, ◌+◌, Bool, true, false, cond, List, [], ◌∷◌, filter, Option, length, refl, ap, sym, ◌∙◌, arith, Value, Fault, Circular, Replacement, Content, Sheet, constant, content_of, put_all, cells_with_formula, zero_for_empty, circular, Reaches, AgreeFrom, same_cell, agree_next, agree_here, circular_same, value_of, replacements, what_if_in, formula_in, value_within, cell_value, shown}
use Rattle.wi_sheet.proofs.Puts.{overlaid, content_of-put_all}
use Rattle.wi_sheet.proofs.Meanings.{meaning_same, replacements_same}
use Rattle.wi_sheet.proofs.Bounds.{same_formula, bound_not_felt, tree_reads}
use Rattle.wi_sheet.proofs.Agreement.{agree_put_both, agree_put}

-- two sheets that agree on all that c reaches give it one value, by one and the same bound
within_same : (k : ℕ) (s t : Sheet) (c : ℕ) → AgreeFrom s t c → value_within k s c ≡ value_within k t c
unfolding value_within
within_same zero s t c a =
    ap (λ (b : Bool). cond b (Fault Circular) (value_of (content_of s c) (λ x. Fault Circular))) (circular_same s t c a)
    ∙ ap (λ (o : Option Content). cond (circular t c) (Fault Circular) (value_of o (λ x. Fault Circular))) (agree_here s t c a)
within_same (suc k) s t c a =
    ap (λ (b : Bool). cond b (Fault Circular) (value_of (content_of s c) (formula_in (value_within k) s))) (circular_same s t c a)
    ∙ ap (λ (v : Value). cond (circular t c) (Fault Circular) v)
    (same_formula (content_of s c) (formula_in (value_within k) s) (formula_in (value_within k) t) (λ x e.
    ap zero_for_empty (meaning_same x (value_within k s) (value_within k t) (what_if_in (value_within k) s) (what_if_in (value_within k) t)
    (λ d r. within_same k s t d (agree_next s t c d a (tree_reads s c x d e r)))
    (λ f ps i.
    within_same k (put_all s (replacements (value_within k s) ps)) (put_all t (replacements (value_within k s) ps)) f (agree_put s t (replacements (value_within k s) ps) f (agree_next s t c f a (tree_reads s c x f e i.0)))
    ∙ ap (λ (rs : List Replacement). value_within k (put_all t rs) f)
    (replacements_same ps (value_within k s) (value_within k t) (λ d m. within_same k s t d (agree_next s t c d a (tree_reads s c x d e (i.1 d m))))))))
    ∙ ap (λ (o : Option Content). value_of o (formula_in (value_within k) t)) (agree_here s t c a))

-- two sheets that agree on all that c reaches give it one value
pub value_same : (s t : Sheet) (c : ℕ) → AgreeFrom s t c → cell_value s c ≡ cell_value t c
value_same s t c a =
    let m = length (cells_with_formula s) + length (cells_with_formula t) in
    sym (bound_not_felt m s c (omega arith)) ∙ within_same m s t c a ∙ bound_not_felt m t c (omega arith)

-- and it shows one value
pub shown_same : (s t : Sheet) (p q : List Replacement) (c : ℕ) → AgreeFrom s t c → ((d : ℕ) → Reaches s c d → content_of (put_all s p) d ≡ content_of (put_all t q) d) → shown s p c ≡ shown t q c
unfolding shown
shown_same s t p q c a b =
    ap (λ (x : Bool). cond x (Fault Circular) (cell_value (put_all s p) c)) (circular_same s t c a)
    ∙ ap (λ (v : Value). cond (circular t c) (Fault Circular) v) (value_same (put_all s p) (put_all t q) c (agree_put_both s t p q c b))

-- ---- replacements of cells that are no precedents of a cell

pub keeps_those : (keep : ℕ → Bool) (p : List Replacement) (d : ℕ) (o : Option Content) → keep d ≡ true → overlaid (filter (λ r. keep r.at) p) d o ≡ overlaid p d o
keeps_those keep [] d o h = refl
keeps_those keep (r ∷ rs) d o h = at (keep r.at) (d == r.at) refl refl (λ (u : Option Content). keeps_those keep rs d u h)
  where
    at : (b e : Bool) → keep r.at ≡ b → (d == r.at) ≡ e → ((u : Option Content) → overlaid (filter (λ x. keep x.at) rs) d u ≡ overlaid rs d u) →
        overlaid (cond b (r ∷ filter (λ x. keep x.at) rs) (filter (λ x. keep x.at) rs)) d o ≡ overlaid rs d (cond e (constant r.value) o)
    at true e x y ih = ih (cond (d == r.at) (constant r.value) o) ∙ ap (λ (z : Bool). overlaid rs d (cond z (constant r.value) o)) y
    at false true x y ih = let z = ap keep (same_cell r.at d y) in cc
    at false false x y ih = ih o

-- two lists of replacements that leave one content in each cell that c reaches give it one value
pub put_value : (s : Sheet) (p q : List Replacement) (c : ℕ) → ((d : ℕ) → Reaches s c d → content_of (put_all s p) d ≡ content_of (put_all s q) d) → cell_value (put_all s p) c ≡ cell_value (put_all s q) c
put_value s p q c a = value_same (put_all s p) (put_all s q) c (agree_put_both s s p q c a)

-- a cell's value rests on those replacements alone whose cells it reaches
pub others_do_not_count : (s : Sheet) (p : List Replacement) (c : ℕ) (keep : ℕ → Bool) → ((d : ℕ) → Reaches s c d → keep d ≡ true) → cell_value (put_all s (filter (λ r. keep r.at) p)) c ≡ cell_value (put_all s p) c
others_do_not_count s p c keep k =
    put_value s (filter (λ r. keep r.at) p) p c
    (λ d w. content_of-put_all s (filter (λ r. keep r.at) p) d ∙ keeps_those keep p d (content_of s d) (k d w) ∙ sym (content_of-put_all s p d))
