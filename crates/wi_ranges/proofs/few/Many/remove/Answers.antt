use Rattle.wi_ranges.proofs.Words.{◌≡◌, ◌<◌, ◌==◌, ◌∙◌, ℕ, List, ◌∷◌, false, length, None, Some, refl, sym, ap, subst, position, IsPermutation, eqb-true, is_one_of}
use Rattle.wi_ranges.proofs.FewLemmas.{first_gone, not_there, other_gone, place_found, place_none}
use Rattle.wi_ranges.proofs.few.Many.remove.Goals as goal

pub returns-then-eq-clause-less : goal.returns-then-eq-clause-less
returns-then-eq-clause-less c =
    let cell = c.args.cell in
    let old = c.self.inside.others.items in
    let new = c.pop.new.self.items in
    let whole : cell ∷ old ≡ c.args.self.now = ap (λ (x : ℕ). x ∷ old) (sym (eqb-true c.self.inside.first cell (sym c.eq.ensures ∙ c.if-eq.true))) ∙ c.self.view_is in
    λ t. subst (λ (xs : List ℕ). IsPermutation xs (cell ∷ c.in-Some.last ∷ new)) whole (first_gone cell c.in-Some.last old new c.in-Some.ensures.items)

pub returns-in-Some-place_of-clause-less : goal.returns-in-Some-place_of-clause-less
returns-in-Some-place_of-clause-less c =
    let cell = c.args.cell in
    let first = c.self.inside.first in
    let old = c.self.inside.others.items in
    let new = c.swap_remove.new.self.items in
    let place = c.in-Some-place_of.place in
    let x = c.swap_remove.result in
    let found : Some place ≡ position (λ y. y == cell) old = c.in-Some-place_of.ensures.value ∙ ap (λ (xs : List ℕ). position (λ y. y == cell) xs) c.deref.ensures.value in
    let here = place_found old cell (Some place) place x found refl in
    let below = subst (λ (xs : List ℕ). place < length xs) c.deref.ensures.value c.in-Some-place_of.ensures.within in
    λ t. subst (λ (xs : List ℕ). IsPermutation xs (cell ∷ first ∷ new)) c.self.view_is
    (other_gone first cell place x old new below c.swap_remove.ensures.value (c.swap_remove.ensures.value ∙ here) c.swap_remove.ensures.items)

pub returns-in-None-place_of-clause-none : goal.returns-in-None-place_of-clause-none
returns-in-None-place_of-clause-none c =
    let cell = c.args.cell in
    let old = c.self.inside.others.items in
    let none : None ≡ position (λ y. y == cell) old = c.in-None-place_of.ensures.value ∙ ap (λ (xs : List ℕ). position (λ y. y == cell) xs) c.deref.ensures.value in
    λ f. subst (λ (xs : List ℕ). is_one_of xs cell ≡ false) c.self.view_is (not_there c.self.inside.first cell old (sym c.eq.ensures ∙ c.if-eq.false) (place_none old cell None none refl))
