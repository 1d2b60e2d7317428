-- What a formula's value rests on, under those replacements alone of cells that its cell reaches.
use Rattle.wi_sheet.proofs.Words.{◌≡◌, ◌==◌, ℕ, true, List, ◌++◌, map, Some, ap, ◌∙◌, list_any, Replacement, IsInOrder, Formula, Tree, Sheet, content_of, put_all, cells_with_formula, reads, reaches, reaches_read, Case, case_of, reaching, what_if_case, what_ifs_of, reads_here, formulas_read_here, precedent_cases}
use Rattle.wi_sheet.proofs.Bounds.{put_reads, tree_reads}
use Rattle.wi_sheet.proofs.SmallerWorlds.{reaching_below, content_below, what_if_below}
use Rattle.wi_sheet.proofs.Members.{contains_in, of_filter, map_same}
use Rattle.wi_sheet.proofs.Demands.{here_reads, what_if_reads}
use Rattle.wi_sheet.proofs.Wants.{replacing_read}

-- a cell below has the same case
case_below : (s : Sheet) (w : List Replacement) (c d : ℕ) → reaches s c d ≡ true → case_of s (reaching s c w) d ≡ case_of s w d
case_below s w c d r = ap (λ (p : List Replacement). (d, p)) (reaching_below s c d w r)

-- a what-if that reads cells below has the same one
what_if_case_below : (s : Sheet) (w : List Replacement) (c : ℕ) (x : ℕ × List (ℕ × ℕ)) → IsInOrder w → reaches s c x.0 ≡ true →
    ((a : ℕ) → list_any (λ p. p.1 == a) x.1 ≡ true → reaches s c a ≡ true) → what_if_case s (reaching s c w) x ≡ what_if_case s w x
what_if_case_below s w c x h r k = ap (λ (p : List Replacement). (x.0, p)) (what_if_below s c x.0 w x.1 h r k)

same_rests : (s : Sheet) (c : ℕ) (w : List Replacement) (t : Tree) → IsInOrder w → ((a : ℕ) → reads t a ≡ true → reaches s c a ≡ true) → precedent_cases s (reaching s c w) t ≡ precedent_cases s w t
same_rests s c w t h k =
    ap (λ (ks : List Case). ks ++ map (what_if_case s (reaching s c w)) (what_ifs_of t))
    (map_same (case_of s (reaching s c w)) (case_of s w) (formulas_read_here s t) (λ d i.
    case_below s w c d (k d (here_reads t d (of_filter (reads_here t) (cells_with_formula s) d i).1))))
    ∙ ap (λ (ks : List Case). map (case_of s w) (formulas_read_here s t) ++ ks)
    (map_same (what_if_case s (reaching s c w)) (what_if_case s w) (what_ifs_of t) (λ x i.
    what_if_case_below s w c x h (k x.0 (what_if_reads t x (contains_in (what_ifs_of t) x i))) (λ a m. k a (here_reads t a (replacing_read t x a i m)))))

-- under those replacements alone of cells that it reaches, a cell has the same formula, which rests on the same cases
pub rests_stay : (s : Sheet) (w : List Replacement) (c : ℕ) (t : Tree) → IsInOrder w → content_of (put_all s w) c ≡ Some (Formula t) →
    (content_of (put_all s (reaching s c w)) c ≡ Some (Formula t)) × (precedent_cases s (reaching s c w) t ≡ precedent_cases s w t)
rests_stay s w c t h e = (content_below s c w ∙ e, same_rests s c w t h (λ a r. reaches_read s c a (put_reads s w c a (tree_reads (put_all s w) c t a e r))))
