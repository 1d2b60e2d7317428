use Rattle.wi_ranges.proofs.Words.{◌≡◌, List, ℕ, true, refl, subst, or_left, eq-eqb, is_one_of}
use Rattle.wi_ranges.proofs.few.Many.has_one.Goals as goal

pub returns : goal.returns
returns c =
    let x = c.self.inside.first in
    (x, subst (λ (xs : List ℕ). is_one_of xs x ≡ true) c.self.view_is (or_left _ _ (eq-eqb x x refl)))
