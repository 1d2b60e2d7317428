-- Nothing is lost where the replacements of a case are limited to those of cells that its cell reaches.
use Rattle.wi_sheet.proofs.Words.{◌≡◌, ℕ, Bool, true, false, cond, List, [], ◌∷◌, Option, Some, None, refl, ap, ◌∙◌, flat_map, Replacement, IsInOrder, Tree, Content, Constant, Formula, Sheet, content_of, put_all, has_formula, circular, Case, case_of, of_formula, precedent_cases, demand}
use Rattle.wi_sheet.proofs.SmallerWorlds.{content_below}
use Rattle.wi_sheet.proofs.RestsUnder.{rests_stay}
use Rattle.wi_sheet.proofs.Demands.{demand_by_step, demand_circular, demand_plain}

by_content : (o : Option Content) (ks : List Case) (f : Tree → List Case) → (has_formula o ≡ false → ks ≡ []) → ((t : Tree) → o ≡ Some (Formula t) → ks ≡ f t) → ks ≡ of_formula o [] f
by_content None ks f h k = h refl
by_content (Some (Constant v)) ks f h k = h refl
by_content (Some (Formula t)) ks f h k = k t refl

by_test : (b : Bool) (ks js : List Case) → (b ≡ true → ks ≡ []) → (b ≡ false → ks ≡ js) → ks ≡ cond b [] js
by_test true ks js h k = h refl
by_test false ks js h k = k refl

-- what a cell demands is told by the replacements as they are
pub demand_by_replacements : (s : Sheet) (w : List Replacement) (c : ℕ) → IsInOrder w →
    demand s (case_of s w c) ≡ cond (circular s c) [] (of_formula (content_of (put_all s w) c) [] (λ t. case_of s w c ∷ flat_map (demand s) (precedent_cases s w t)))
demand_by_replacements s w c h =
    let same = content_below s c w in
    by_test (circular s c) (demand s (case_of s w c)) _ (λ o. demand_circular s (case_of s w c) o) (λ o.
    by_content (content_of (put_all s w) c) (demand s (case_of s w c)) (λ t. case_of s w c ∷ flat_map (demand s) (precedent_cases s w t)) (λ e. demand_plain s (case_of s w c) (ap has_formula same ∙ e)) (λ t e.
    demand_by_step s (case_of s w c) t o (same ∙ e)
    ∙ ap (λ (ks : List Case). case_of s w c ∷ flat_map (demand s) ks) (rests_stay s w c t h e).1))
