-- Sheets that agree on all that a cell reaches.
use Rattle.wi_graph.proofs.Words.{◌≡◌, ℕ, zero, suc, true, Option, refl, ap, sym, ◌∙◌, one_truth, Content, Sheet, content_of, has_formula, content_reads, circular, has_walk, Walks, Reaches, AgreeFrom}
use Rattle.wi_graph.proofs.Walks.{step, first_step, circular_walks, walks_circular}

pub agree_next : (s t : Sheet) (c d : ℕ) → AgreeFrom s t c → content_reads (content_of s c) d ≡ true → AgreeFrom s t d
agree_next s t c d a r e w = a e (suc w.0, (d, r, w.1))

pub agree_here : (s t : Sheet) (c : ℕ) → AgreeFrom s t c → content_of s c ≡ content_of t c
agree_here s t c a = a c (0, refl)

-- what c reaches in the second sheet, it reaches in the first
pub walked_back : (n : ℕ) (s t : Sheet) (c d : ℕ) → AgreeFrom s t c → Walks n t c d → Walks n s c d
walked_back zero s t c d a w = w
walked_back (suc n) s t c d a w =
    let r = ap (λ (o : Option Content). content_reads o w.0) (agree_here s t c a) ∙ w.1 in
    (w.0, r, walked_back n s t w.0 d (agree_next s t c w.0 a r) w.2)

pub reached_back : (s t : Sheet) (c d : ℕ) → AgreeFrom s t c → Reaches t c d → Reaches s c d
reached_back s t c d a w = (w.0, walked_back w.0 s t c d a w.1)

-- so the sheets can be exchanged
pub agree_sym : (s t : Sheet) (c : ℕ) → AgreeFrom s t c → AgreeFrom t s c
agree_sym s t c a d w = sym (a d (reached_back s t c d a w))

same_walk : (n : ℕ) (s t : Sheet) (c : ℕ) → AgreeFrom s t c → has_walk n s c ≡ true → has_walk n t c ≡ true
same_walk zero s t c a h = ap has_formula (sym (agree_here s t c a)) ∙ h
same_walk (suc n) s t c a h =
    let f = first_step n s c h in
    let r = ap (λ (o : Option Content). content_reads o f.0) (sym (agree_here s t c a)) ∙ f.1 in
    step n t c f.0 r (same_walk n s t f.0 (agree_next s t c f.0 a f.1) f.2)

-- they give the cell one circular state
pub circular_same : (s t : Sheet) (c : ℕ) → AgreeFrom s t c → circular s c ≡ circular t c
circular_same s t c a = one_truth (circular s c) (circular t c)
    (λ h. walks_circular t c (λ n. same_walk n s t c a (circular_walks s c h n)))
    (λ h. walks_circular s c (λ n. same_walk n t s c (agree_sym s t c a) (circular_walks t c h n)))
