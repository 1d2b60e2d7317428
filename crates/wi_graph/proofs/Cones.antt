-- The cone of edited cells, and what stays outside it.
use Rattle.wi_graph.proofs.Words.{◌≡◌, ℕ, zero, suc, Bool, true, false, List, Option, refl, ap, sym, ◌∙◌, false_from_ne_true, one_truth, Content, Sheet, content_of, content_reads, circular, Walks, AgreeFrom, is_one_of, IsInCone, SameOff, reaches, in_cone}
use Rattle.wi_graph.proofs.Agreement.{agree_here, agree_sym, reached_back, circular_same}
use Rattle.wi_graph.proofs.ReachTest.{reaches_true, true_reaches, in_cone_true, true_in_cone}

-- ---- a cone is the least set that has the cells and, with each of its cells, all that read it

pub cone_has : (s : Sheet) (xs : List ℕ) (c : ℕ) → is_one_of xs c ≡ true → in_cone s xs c ≡ true
cone_has s xs c m = true_in_cone s xs c (c, m, (0, refl))

pub cone_closed : (s : Sheet) (xs : List ℕ) (c d : ℕ) → content_reads (content_of s c) d ≡ true → in_cone s xs d ≡ true → in_cone s xs c ≡ true
cone_closed s xs c d r h =
    let i = in_cone_true s xs d h in
    true_in_cone s xs c (i.0, i.1, (suc i.2.0, (d, r, i.2.1)))

least_walk : (n : ℕ) (s : Sheet) (P : ℕ → Bool) → ((c d : ℕ) → content_reads (content_of s c) d ≡ true → P d ≡ true → P c ≡ true) → (c a : ℕ) → P a ≡ true → Walks n s c a → P c ≡ true
least_walk zero s P k c a h w = ap P w ∙ h
least_walk (suc n) s P k c a h w = k c w.0 w.1 (least_walk n s P k w.0 a h w.2)

pub cone_least : (s : Sheet) (xs : List ℕ) (P : ℕ → Bool) → ((a : ℕ) → is_one_of xs a ≡ true → P a ≡ true) → ((c d : ℕ) → content_reads (content_of s c) d ≡ true → P d ≡ true → P c ≡ true) →
    (c : ℕ) → in_cone s xs c ≡ true → P c ≡ true
cone_least s xs P h k c i =
    let j = in_cone_true s xs c i in
    least_walk j.2.0 s P k c j.0 (h j.0 j.1) j.2.1

-- ---- it is the same before and after the edit

cone_walk : (n : ℕ) (s t : Sheet) (xs : List ℕ) (c a : ℕ) → SameOff s t xs → is_one_of xs a ≡ true → Walks n s c a → IsInCone t xs c
cone_walk zero s t xs c a same m w = (a, m, (0, w))
cone_walk (suc n) s t xs c a same m w = at (is_one_of xs c) refl (cone_walk n s t xs w.0 a same m w.2)
  where
    at : (b : Bool) → is_one_of xs c ≡ b → IsInCone t xs w.0 → IsInCone t xs c
    at true e i = (c, e, (0, refl))
    at false e i = (i.0, i.1, (suc i.2.0, (w.0, ap (λ (o : Option Content). content_reads o w.0) (sym (same c e)) ∙ w.1, i.2.1)))

cone_same : (s t : Sheet) (xs : List ℕ) (c : ℕ) → SameOff s t xs → IsInCone s xs c → IsInCone t xs c
cone_same s t xs c same i = cone_walk i.2.0 s t xs c i.0 same i.1 i.2.1

pub same_off_sym : (s t : Sheet) (xs : List ℕ) → SameOff s t xs → SameOff t s xs
same_off_sym s t xs same d m = sym (same d m)

pub cone_stays : (s t : Sheet) (xs : List ℕ) (c : ℕ) → SameOff s t xs → (IsInCone s xs c → IsInCone t xs c) × (IsInCone t xs c → IsInCone s xs c)
cone_stays s t xs c same = (cone_same s t xs c same, cone_same t s xs c (same_off_sym s t xs same))

-- ---- outside it the sheets agree on all that is reached

pub agree_outside : (s t : Sheet) (xs : List ℕ) (c : ℕ) → SameOff s t xs → (IsInCone s xs c → ⊥) → AgreeFrom s t c
agree_outside s t xs c same out d w = same d (false_from_ne_true (is_one_of xs d) (λ m. out (d, m, w)))

pub outside_content : (s t : Sheet) (xs : List ℕ) (c : ℕ) → SameOff s t xs → (IsInCone s xs c → ⊥) → content_of s c ≡ content_of t c
outside_content s t xs c same out = agree_here s t c (agree_outside s t xs c same out)

pub outside_circular : (s t : Sheet) (xs : List ℕ) (c : ℕ) → SameOff s t xs → (IsInCone s xs c → ⊥) → circular s c ≡ circular t c
outside_circular s t xs c same out = circular_same s t c (agree_outside s t xs c same out)

-- ---- what a cell reaches is the same outside

reaches_same : (s t : Sheet) (c a : ℕ) → AgreeFrom s t c → reaches s c a ≡ reaches t c a
reaches_same s t c a g = one_truth (reaches s c a) (reaches t c a)
    (λ h. true_reaches t c a (reached_back t s c a (agree_sym s t c g) (reaches_true s c a h)))
    (λ h. true_reaches s c a (reached_back s t c a g (reaches_true t c a h)))

pub outside_reaches : (s t : Sheet) (xs : List ℕ) (c a : ℕ) → SameOff s t xs → (IsInCone s xs c → ⊥) → reaches s c a ≡ reaches t c a
outside_reaches s t xs c a same out = reaches_same s t c a (agree_outside s t xs c same out)
