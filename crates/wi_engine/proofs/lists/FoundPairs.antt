-- What-ifs that are found.
use Rattle.wi_engine.proofs.Words.{◌≡◌, ◌==◌, ℕ, ◌++◌, ◌&&◌, Bool, true, false, cond, List, [], ◌∷◌, Option, Some, None, refl, ap, ◌∙◌, eq-eqb, and_from, and_parts, eqb-true, option_or, Value, pair_path, same_pairs, pairs_of, first_for, FoundWhatIf}

pub same_lists : (ps qs : List (ℕ × ℕ)) → same_pairs ps qs ≡ true → ps ≡ qs
same_lists [] [] h = refl
same_lists [] (q ∷ qs) h = cc
same_lists (p ∷ ps) [] h = cc
same_lists (p ∷ ps) (q ∷ qs) h =
    let x = and_parts (p.0 == q.0) _ h in
    let y = and_parts (p.1 == q.1) _ x.1 in
    ap (λ (r : ℕ × ℕ). r ∷ ps) (pair_path p.0 q.0 p.1 q.1 (eqb-true p.0 q.0 x.0) (eqb-true p.1 q.1 y.0)) ∙ ap (λ (rs : List (ℕ × ℕ)). q ∷ rs) (same_lists ps qs y.1)

pub same_pairs-refl : (ps : List (ℕ × ℕ)) → same_pairs ps ps ≡ true
same_pairs-refl [] = refl
same_pairs-refl (p ∷ ps) = and_from _ _ (eq-eqb p.0 p.0 refl) (and_from _ _ (eq-eqb p.1 p.1 refl) (same_pairs-refl ps))

-- the value of the last what-if stands where none before it is the same
pub first_for-push : (fs : List FoundWhatIf) (x : FoundWhatIf) (c : ℕ) (ps : List (ℕ × ℕ)) →
    first_for (fs ++ x ∷ []) c ps ≡ option_or (first_for fs c ps) (cond (x.at == c && same_pairs (pairs_of x) ps) (Some x.value) None)
first_for-push [] x c ps = refl
first_for-push (f ∷ fs) x c ps = at (f.at == c && same_pairs (pairs_of f) ps) (first_for-push fs x c ps)
  where
    last : Option Value
    last = cond (x.at == c && same_pairs (pairs_of x) ps) (Some x.value) None

    at : (b : Bool) → first_for (fs ++ x ∷ []) c ps ≡ option_or (first_for fs c ps) last → cond b (Some f.value) (first_for (fs ++ x ∷ []) c ps) ≡ option_or (cond b (Some f.value) (first_for fs c ps)) last
    at true ih = refl
    at false ih = ih
