-- What a change of one part makes of all paths, where a path's lowest digit says which part.
use Rattle.wi_tiles.proofs.Words.{◌≡◌, ℕ, ◌/◌, ◌%◌, Option, sym, ap, ◌∙◌, ⊎_elim, cond, ◌==◌, if◌then◌else◌, cases_eq, eq-eqb, ne_eqb, ◌≢◌, at_part}

-- a path is its lowest digit and the rest
abbrev pub IsDigit : ℕ → Type 0
IsDigit n = (p q : ℕ) → p % n ≡ q % n → p / n ≡ q / n → p ≡ q

module _ {S V : Type 0} (n : ℕ) (digit : IsDigit n) (at : S → ℕ → Option V) (old new : ℕ → Option S) where
  -- one place of one part has another value
  pub digit_changed : (path : ℕ) (o : Option V) → ((p : ℕ) → at_part at (new (path % n)) p ≡ (if p == path / n then o else at_part at (old (path % n)) p)) → ((i : ℕ) → i ≢ path % n → new i ≡ old i)
      → (p : ℕ) → at_part at (new (p % n)) (p / n) ≡ (if p == path then o else at_part at (old (p % n)) (p / n))
  digit_changed path o here others p = ⊎_elim same other (cases_eq (p % n) (path % n))
    where
      Goal : Type 0
      Goal = at_part at (new (p % n)) (p / n) ≡ (if p == path then o else at_part at (old (p % n)) (p / n))

      same : p % n ≡ path % n → Goal
      same e = ap (λ j. at_part at (new j) (p / n)) e ∙ here (p / n) ∙ ⊎_elim
          (λ q. ap (λ b. cond b o (at_part at (old (path % n)) (p / n))) (eq-eqb (p / n) (path / n) q) ∙ sym (ap (λ b. cond b o (at_part at (old (p % n)) (p / n))) (eq-eqb p path (digit p path e q))))
          (λ q. ap (λ b. cond b o (at_part at (old (path % n)) (p / n))) (ne_eqb (p / n) (path / n) q) ∙ ap (λ j. at_part at (old j) (p / n)) (sym e) ∙ sym (ap (λ b. cond b o (at_part at (old (p % n)) (p / n))) (ne_eqb p path (λ z. q (ap (λ y. y / n) z)))))
          (cases_eq (p / n) (path / n))

      other : p % n ≢ path % n → Goal
      other ne = ap (λ x. at_part at x (p / n)) (others (p % n) ne) ∙ sym (ap (λ b. cond b o (at_part at (old (p % n)) (p / n))) (ne_eqb p path (λ z. ne (ap (λ y. y % n) z))))

  -- a part that has what the one before it had
  pub digit_kept : (k : ℕ) → ((p : ℕ) → at_part at (new k) p ≡ at_part at (old k) p) → ((i : ℕ) → i ≢ k → new i ≡ old i)
      → (p : ℕ) → at_part at (new (p % n)) (p / n) ≡ at_part at (old (p % n)) (p / n)
  digit_kept k here others p = ⊎_elim
      (λ e. ap (λ j. at_part at (new j) (p / n)) e ∙ here (p / n) ∙ ap (λ j. at_part at (old j) (p / n)) (sym e))
      (λ ne. ap (λ x. at_part at x (p / n)) (others (p % n) ne))
      (cases_eq (p % n) k)
