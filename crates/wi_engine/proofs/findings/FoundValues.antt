-- What is so of each value that was found, also with one value more.
use Rattle.wi_engine.proofs.Words.{◌≡◌, ◌==◌, ℕ, ◌&&◌, ◌++◌, Bool, true, false, cond, List, [], ◌∷◌, Option, Some, None, IfSome, refl, ap, sym, ◌∙◌, subst, and_parts, option_or, Value, same_cell, Findings, FoundWhatIf, same_pairs, pairs_of, first_for, found_value, found_what_ifs, what_if_found, AreAllRight, IsWithCell, IsWithWhatIf}
use Rattle.wi_engine.proofs.lists.FoundPairs.{same_lists, first_for-push}

-- of cells
module _ (P : ℕ → Value → Type 0) where
  pub cells_none : (f : Findings) → ((c : ℕ) → found_value f c ≡ None) → (c : ℕ) → IfSome (found_value f c) (P c)
  cells_none f e c = subst (λ (o : Option Value). IfSome o (P c)) (sym (e c)) tt

  pub cells_same : (f g : Findings) → ((c : ℕ) → found_value g c ≡ found_value f c) → ((c : ℕ) → IfSome (found_value f c) (P c)) → (c : ℕ) → IfSome (found_value g c) (P c)
  cells_same f g e h c = subst (λ (o : Option Value). IfSome o (P c)) (sym (e c)) (h c)

  pub cells_more : (f g : Findings) (a : ℕ) (v : Value) → IsWithCell f g a v → P a v → ((c : ℕ) → IfSome (found_value f c) (P c)) → (c : ℕ) → IfSome (found_value g c) (P c)
  cells_more f g a v more p h c = subst (λ (o : Option Value). IfSome o (P c)) (sym (more.cells c)) (at (a == c) refl)
    where
      at : (b : Bool) → (a == c) ≡ b → IfSome (cond b (Some v) (found_value f c)) (P c)
      at true e = subst (λ (d : ℕ). P d v) (same_cell c a e) p
      at false e = h c

-- of what-ifs
module _ (P : ℕ → List (ℕ × ℕ) → Value → Type 0) where
  pub what_ifs_none : (f : Findings) → found_what_ifs f ≡ [] → (c : ℕ) (ps : List (ℕ × ℕ)) → IfSome (what_if_found f c ps) (P c ps)
  what_ifs_none f e c ps = subst (λ (fs : List FoundWhatIf). IfSome (first_for fs c ps) (P c ps)) (sym e) tt

  pub what_ifs_same : (f g : Findings) → found_what_ifs g ≡ found_what_ifs f → ((c : ℕ) (ps : List (ℕ × ℕ)) → IfSome (what_if_found f c ps) (P c ps)) → (c : ℕ) (ps : List (ℕ × ℕ)) → IfSome (what_if_found g c ps) (P c ps)
  what_ifs_same f g e h c ps = subst (λ (fs : List FoundWhatIf). IfSome (first_for fs c ps) (P c ps)) (sym e) (h c ps)

  pub what_ifs_more : (f g : Findings) (x : FoundWhatIf) → found_what_ifs g ≡ found_what_ifs f ++ x ∷ [] → P x.at (pairs_of x) x.value → ((c : ℕ) (ps : List (ℕ × ℕ)) → IfSome (what_if_found f c ps) (P c ps)) →
      (c : ℕ) (ps : List (ℕ × ℕ)) → IfSome (what_if_found g c ps) (P c ps)
  what_ifs_more f g x e p h c ps =
      subst (λ (o : Option Value). IfSome o (P c ps)) (sym (ap (λ (fs : List FoundWhatIf). first_for fs c ps) e ∙ first_for-push (found_what_ifs f) x c ps))
      (at (first_for (found_what_ifs f) c ps) (x.at == c && same_pairs (pairs_of x) ps) (h c ps) refl)
    where
      at : (o : Option Value) (b : Bool) → IfSome o (P c ps) → (x.at == c && same_pairs (pairs_of x) ps) ≡ b → IfSome (option_or o (cond b (Some x.value) None)) (P c ps)
      at (Some v) b k i = k
      at None true k i =
          let parts = and_parts (x.at == c) _ i in
          subst (λ (d : ℕ). P d ps x.value) (same_cell c x.at parts.0) (subst (λ (qs : List (ℕ × ℕ)). P x.at qs x.value) (same_lists (pairs_of x) ps parts.1) p)
      at None false k i = tt

-- ---- what was found is right, also with one value more

module _ (cells : ℕ → Value) (what_ifs : ℕ → List (ℕ × ℕ) → Value) where
  -- where nothing was found
  pub right_none : (f : Findings) → ((c : ℕ) → found_value f c ≡ None) → found_what_ifs f ≡ [] → AreAllRight cells what_ifs f
  right_none f e h = record { cells = cells_none (λ c v. v ≡ cells c) f e; what_ifs = what_ifs_none (λ c ps v. v ≡ what_ifs c ps) f h }

  -- with a cell's value
  pub right_cell : (f g : Findings) (a : ℕ) (v : Value) → IsWithCell f g a v → v ≡ cells a → AreAllRight cells what_ifs f → AreAllRight cells what_ifs g
  right_cell f g a v more e r = record { cells = cells_more (λ c x. x ≡ cells c) f g a v more e r.cells; what_ifs = what_ifs_same (λ c ps x. x ≡ what_ifs c ps) f g more.what_ifs r.what_ifs }

  -- with a what-if's value
  pub right_what_if : (f g : Findings) (x : FoundWhatIf) → IsWithWhatIf f g x → x.value ≡ what_ifs x.at (pairs_of x) → AreAllRight cells what_ifs f → AreAllRight cells what_ifs g
  right_what_if f g x more e r = record { cells = cells_same (λ c v. v ≡ cells c) f g more.cells r.cells; what_ifs = what_ifs_more (λ c ps v. v ≡ what_ifs c ps) f g x more.what_ifs e r.what_ifs }
