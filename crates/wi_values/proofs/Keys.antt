-- The keys of a list of entries by number.
use Rattle.wi_values.proofs.Words.{◌≡◌, ◌==◌, ◌<◌, ℕ, zero, suc, true, List, [], ◌∷◌, length, get_or, set, refl, sym, ap, arith, eq-eqb, map-set_same, or_left, or_right, is_one_of, keys_of}

module _ {X : Type 0} where
  -- that of a list of one
  pub lone_key : (es : List (ℕ × X)) (e : ℕ × X) → length es ≡ 1 → e ≡ get_or es 0 e → keys_of es ≡ e.0 ∷ []
  lone_key [] e l h = absurd (omega (arith, l))
  lone_key (y ∷ []) e l h = ap (λ (z : ℕ × X). z.0 ∷ []) (sym h)
  lone_key (y ∷ z ∷ zs) e l h = absurd (omega (arith, l))

  -- that of the i-th is one of them
  pub is_named : (q : ℕ) (es : List (ℕ × X)) (i : ℕ) (d : ℕ × X) → i < length es → q ≡ (get_or es i d).0 → is_one_of (keys_of es) q ≡ true
  is_named q [] i d l e = absurd (omega arith)
  is_named q (x ∷ xs) zero d l e = or_left (x.0 == q) _ (eq-eqb x.0 q (sym e))
  is_named q (x ∷ xs) (suc i) d l e = or_right (x.0 == q) _ (is_named q xs i d (omega arith) e)

  -- they stay where the i-th gets another value
  pub keys_of-set : (es : List (ℕ × X)) (i : ℕ) (d : ℕ × X) (x : X) → keys_of (set es i ((get_or es i d).0, x)) ≡ keys_of es
  keys_of-set es i d x = map-set_same (λ (e : ℕ × X). e.0) es i ((get_or es i d).0, x) d refl
