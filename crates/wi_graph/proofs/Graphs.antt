-- What a search for cycles rests on.
use Rattle.wi_graph.proofs.Words.{◌≡◌, ℕ, zero, suc, Bool, true, false, length, sym, ◌∙◌, false_from_ne_true, Sheet, content_of, cells_with_formula, content_reads, circular, has_walk}
use Rattle.wi_graph.proofs.Walks.{step, first_step, circular_walks, walks_circular, circular_is, reader_formula}

-- ---- cells that can't be stripped are circular, and cells that can are not

-- a set each of whose cells reads one of the set has circular cells alone
pub left_circular : (s : Sheet) (P : ℕ → Bool) → ((c : ℕ) → P c ≡ true → (d : ℕ) × (content_reads (content_of s c) d ≡ true) × (P d ≡ true)) → (c : ℕ) → P c ≡ true → circular s c ≡ true
left_circular s P k c h = walks_circular s c (λ n. all n c h)
  where
    all : (n : ℕ) (c : ℕ) → P c ≡ true → has_walk n s c ≡ true
    all zero c h = let x = k c h in reader_formula (content_of s c) x.0 x.1
    all (suc n) c h = let x = k c h in step n s c x.0 x.1 (all n x.0 x.2)

-- a cell that reads no circular cell isn't circular
pub stripped : (s : Sheet) (c : ℕ) → ((d : ℕ) → content_reads (content_of s c) d ≡ true → circular s d ≡ false) → circular s c ≡ false
stripped s c k = false_from_ne_true (circular s c) (λ h.
    let f = first_step (length (cells_with_formula s)) s c (circular_walks s c h (suc (length (cells_with_formula s)))) in
    let z = sym (circular_is s f.0 ∙ f.2) ∙ k f.0 f.1 in
    cc)
