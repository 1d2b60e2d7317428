-- What a cell reaches, step by step.
use Rattle.wi_graph.proofs.Words.{◌≡◌, ℕ, zero, suc, true, refl, ap, sym, ◌∙◌, inl, inr, ◌⊎◌, Sheet, content_of, has_formula, content_reads, Walks, Reaches, reaches}
use Rattle.wi_graph.proofs.Walks.{reader_formula}
use Rattle.wi_graph.proofs.ReachTest.{reaches_true, true_reaches}

-- each cell reaches itself
pub reaches_here : (s : Sheet) (c : ℕ) → reaches s c c ≡ true
reaches_here s c = true_reaches s c c (0, refl)

-- what it reads
pub reaches_read : (s : Sheet) (c d : ℕ) → content_reads (content_of s c) d ≡ true → reaches s c d ≡ true
reaches_read s c d r = true_reaches s c d (1, (d, r, refl))

-- and what that reaches
pub reaches_step : (s : Sheet) (c d a : ℕ) → content_reads (content_of s c) d ≡ true → reaches s d a ≡ true → reaches s c a ≡ true
reaches_step s c d a r h =
    let w = reaches_true s d a h in
    true_reaches s c a (suc w.0, (d, r, w.1))

walks_on : (n m : ℕ) (s : Sheet) (c d a : ℕ) → Walks n s c d → Walks m s d a → Reaches s c a
walks_on zero m s c d a w v = (m, at d w v)
  where
    at : (b : ℕ) → c ≡ b → Walks m s b a → Walks m s c a
    at b e x = rw e x
walks_on (suc n) m s c d a w v =
    let x = walks_on n m s w.0 d a w.2 v in
    (suc x.0, (w.0, w.1, x.1))

-- what a cell reaches, reaches no further than the cell does
pub reaches_on : (s : Sheet) (c d a : ℕ) → reaches s c d ≡ true → reaches s d a ≡ true → reaches s c a ≡ true
reaches_on s c d a g h =
    let w = reaches_true s c d g in
    let v = reaches_true s d a h in
    true_reaches s c a (walks_on w.0 v.0 s c d a w.1 v.1)

-- it reaches nothing else: a cell is reached at once, or is read, or is reached from a formula that is read
pub reaches_by_step : (s : Sheet) (c a : ℕ) → reaches s c a ≡ true →
    (c ≡ a) ⊎ ((content_reads (content_of s c) a ≡ true) ⊎ ((d : ℕ) × (content_reads (content_of s c) d ≡ true) × (has_formula (content_of s d) ≡ true) × (reaches s d a ≡ true)))
reaches_by_step s c a h = let w = reaches_true s c a h in at w.0 w.1
  where
    at : (n : ℕ) → Walks n s c a → (c ≡ a) ⊎ ((content_reads (content_of s c) a ≡ true) ⊎ ((d : ℕ) × (content_reads (content_of s c) d ≡ true) × (has_formula (content_of s d) ≡ true) × (reaches s d a ≡ true)))
    at zero w = inl w
    at (suc zero) w = inr (inl (ap (λ (b : ℕ). content_reads (content_of s c) b) (sym w.2) ∙ w.1))
    at (suc (suc n)) w = inr (inr (w.0, w.1, reader_formula (content_of s w.0) w.2.0 w.2.1, true_reaches s w.0 a (suc n, w.2)))
