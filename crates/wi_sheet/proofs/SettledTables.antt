-- With more that is kept, what was settled is, and what rested on kept values does.
use Rattle.wi_sheet.proofs.Words.{◌≡◌, inl, inr, ℕ, true, List, All, All-weaker, Replacement, Sheet, Case, reaching, with_what_if, IsSettled, IsWhatIfSettled, RestsOnKept, Table}

module _ (s : Sheet) (kept more : Table) (grows : (c : ℕ) (w : List Replacement) → kept c w ≡ true → more c w ≡ true) where
  pub settled_more : (w : List Replacement) (c : ℕ) → IsSettled s kept w c → IsSettled s more w c
  settled_more w c (inl h) = inl h
  settled_more w c (inr h) = inr (grows c (reaching s c w) h)

  pub all_more : (w : List Replacement) (xs : List (ℕ × ℕ)) → All (λ p. IsSettled s kept w p.1) xs → All (λ p. IsSettled s more w p.1) xs
  all_more w xs h = All-weaker (λ p. IsSettled s kept w p.1) (λ p. IsSettled s more w p.1) (λ p k. settled_more w p.1 k) xs h

  pub what_if_more : (w : List Replacement) (x : ℕ × List (ℕ × ℕ)) → IsWhatIfSettled s kept w x → IsWhatIfSettled s more w x
  what_if_more w x h = record { replacing = all_more w x.1 h.replacing; formula_cell = settled_more (with_what_if s w x.1) x.0 h.formula_cell }

  pub rests_more : (k : Case) → RestsOnKept s kept k → RestsOnKept s more k
  rests_more k h = λ t a i g. h t a i (record { cells = λ d r e. g.cells d r (settled_more k.1 d e); what_ifs = λ f ps m e. g.what_ifs f ps m (what_if_more k.1 (f, ps) e) })
