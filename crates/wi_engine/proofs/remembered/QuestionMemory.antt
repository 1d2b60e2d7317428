-- What is remembered in one question.
use Rattle.wi_engine.proofs.Words.{◌≡◌, ◌==◌, ℕ, true, is_some, List, [], ◌∷◌, ◌++◌, Some, IfSome, Result, Ok, Err, OnOk, OnErr, refl, ap, sym, ◌∙◌, subst, inl, inr, ◌⊎◌, or_cases, or_left, list_any-append, or-false, AllocError, Value, Replacement, Sheet, put_all, Key, Entries, PutsIn, same_key, value_for, is_one_of, same_cell, cell_value, IsClosedUnderReads, IsComplete, IsMemoOf, IsReadOrder, OneQuestion, key_of, question_state, remembered}
use Rattle.wi_engine.proofs.Places.{known_still, known_then}

-- a list, cut before one of its cells
cut_before : (xs : List ℕ) (c : ℕ) → is_one_of xs c ≡ true → (front back : List ℕ) × (xs ≡ front ++ c ∷ back)
cut_before [] c h = cc
cut_before (x ∷ xs) c h = at (or_cases (x == c) _ h) (cut_before xs c)
  where
    at : ((x == c) ≡ true) ⊎ (is_one_of xs c ≡ true) → (is_one_of xs c ≡ true → (front back : List ℕ) × (xs ≡ front ++ c ∷ back)) → (front back : List ℕ) × (x ∷ xs ≡ front ++ c ∷ back)
    at (inl k) ih = ([], xs, ap (λ (y : ℕ). y ∷ xs) (same_cell c x k))
    at (inr k) ih = let i = ih k in (x ∷ i.0, i.1, ap (λ (ys : List ℕ). x ∷ ys) i.2)

-- an order of reading has all cells with a formula that one of its cells reads
pub closed_order : (s : Sheet) (order : List ℕ) → IsReadOrder s order → IsClosedUnderReads s (is_one_of order)
closed_order s order o c d m r f =
    let k = cut_before order c m in
    let before = (o.each k.0 k.1 c k.2).reads d r f in
    ap (λ (xs : List ℕ). is_one_of xs d) k.2 ∙ list_any-append (λ (x : ℕ). x == d) k.0 (c ∷ k.1) ∙ or_left (is_one_of k.0 d) _ before

-- all that is remembered was found
pub all_found : (q : OneQuestion) → IsComplete (question_state q)
all_found q c w = sym (or-false (is_some (value_for q.values (key_of c w))))

-- nothing is remembered yet
pub no_values : (s : Sheet) (order : List ℕ) (values : Entries) → IsReadOrder s order → values ≡ [] → IsMemoOf s (question_state (remembered s order values))
no_values s order values o e = record {
  sheet = refl;
  right = λ c w. subst (λ (es : Entries). IfSome (value_for es (key_of c w)) (λ v. v ≡ cell_value (put_all s w) c)) (sym e) tt;
  closed = closed_order s order o;
  complete = all_found (remembered s order values);
}

-- a value is remembered for a key that was put in, or was before
pub known_kept : (r : Result (Unit {0}) AllocError) (old new : Entries) (k : Key) (v : Value) → OnOk r (PutsIn old new k v) → OnErr r (new ≡ old) → (c : ℕ) (w : List Replacement) →
    IfSome (value_for new (key_of c w)) (λ u. (value_for old (key_of c w) ≡ Some u) ⊎ ((c ≡ k.cell) × (w ≡ k.world) × (u ≡ v)))
known_kept (Ok x) old new k v p e c w = known_then (value_for old (key_of c w)) (value_for new (key_of c w)) k (key_of c w) v (same_key k (key_of c w)) refl (p (key_of c w))
known_kept (Err x) old new k v p e c w = known_still (value_for old (key_of c w)) (value_for new (key_of c w)) k (key_of c w) v (ap (λ (es : Entries). value_for es (key_of c w)) e)
