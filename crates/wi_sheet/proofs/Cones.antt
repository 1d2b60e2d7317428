-- What stays outside the cone of edited cells, under replacements.
use Rattle.wi_sheet.proofs.Words.{◌≡◌, ℕ, false, List, [], Option, ap, sym, ◌∙◌, false_from_ne_true, Value, Replacement, last_for, Sheet, content_of, put_all, is_one_of, IsInCone, SameOff, in_cone, not_in_cone, cone_stays, agree_outside, cell_value, shown, SayTheSameOff, IsUnmoved}
use Rattle.wi_sheet.proofs.Puts.{overlaid, content_of-put_all}
use Rattle.wi_sheet.proofs.Last.{over, content_by_last}
use Rattle.wi_sheet.proofs.Agreement.{agree_put}
use Rattle.wi_sheet.proofs.Locality.{value_same, shown_same}

pub outside_value : (s t : Sheet) (xs : List ℕ) (c : ℕ) (p : List Replacement) → SameOff s t xs → (IsInCone s xs c → ⊥) → cell_value (put_all s p) c ≡ cell_value (put_all t p) c
outside_value s t xs c p same out = value_same (put_all s p) (put_all t p) c (agree_put s t p c (agree_outside s t xs c same out))

-- under replacements that leave one content in each cell that was not edited
pub outside_shown : (s t : Sheet) (xs : List ℕ) (p q : List Replacement) (c : ℕ) → SameOff s t xs → SameOff (put_all s p) (put_all t q) xs → (IsInCone s xs c → ⊥) → shown s p c ≡ shown t q c
outside_shown s t xs p q c same puts out =
    shown_same s t p q c (agree_outside s t xs c same out) (λ d w. puts d (false_from_ne_true (is_one_of xs d) (λ m. out (d, m, w))))

same_off_put : (s t : Sheet) (xs : List ℕ) (p : List Replacement) → SameOff s t xs → SameOff (put_all s p) (put_all t p) xs
same_off_put s t xs p same d m = content_of-put_all s p d ∙ ap (overlaid p d) (same d m) ∙ sym (content_of-put_all t p d)

pub outside_shown_same : (s t : Sheet) (xs : List ℕ) (c : ℕ) (p : List Replacement) → SameOff s t xs → (IsInCone s xs c → ⊥) → shown s p c ≡ shown t p c
outside_shown_same s t xs c p same out = outside_shown s t xs p p c same (same_off_put s t xs p same) out

-- ---- two edits of the same cells, under replacements that agree in all others

same_off_with : (s t : Sheet) (xs : List ℕ) (p q : List Replacement) → SameOff s t xs → SayTheSameOff p q xs → SameOff (put_all s p) (put_all t q) xs
same_off_with s t xs p q same puts d m =
    content_by_last s p d ∙ ap (over (last_for p d)) (same d m)
    ∙ ap (λ (v : Option Value). over v (content_of t d)) (puts d m) ∙ sym (content_by_last t q d)

-- a cell outside the cone is unmoved
pub outside_unmoved : (s : Sheet) (xs : List ℕ) (c : ℕ) → in_cone s xs c ≡ false → IsUnmoved s xs c
outside_unmoved s xs c out t u p q a b puts =
    let same : SameOff t u xs = λ d m. sym (a d m) ∙ b d m in
    outside_shown t u xs p q c same (same_off_with t u xs p q same puts) (λ i. not_in_cone s xs c out ((cone_stays s t xs c a).1 i))
