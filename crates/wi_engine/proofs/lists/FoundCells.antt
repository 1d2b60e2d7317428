-- Values of cells that are found: in a list, in a run, or elsewhere.
use Rattle.wi_engine.proofs.Words.{◌≡◌, ◌==◌, ℕ, ◌++◌, Bool, true, false, cond, List, [], ◌∷◌, Option, Some, None, refl, ap, ◌∙◌, subst, option_or, nat_cmp, lookup, is_at, Value, is_at-eq, turn_test, same_cell, first_of}

-- the value of the last entry stands where none before it is of its cell
first_of-push : (es : List (ℕ × Value)) (x : ℕ × Value) (c : ℕ) → first_of (es ++ x ∷ []) c ≡ option_or (first_of es c) (cond (x.0 == c) (Some x.1) None)
first_of-push [] x c = refl
first_of-push (e ∷ es) x c = at (e.0 == c) (first_of-push es x c)
  where
    last : Option Value
    last = cond (x.0 == c) (Some x.1) None

    at : (b : Bool) → first_of (es ++ x ∷ []) c ≡ option_or (first_of es c) last → cond b (Some e.1) (first_of (es ++ x ∷ []) c) ≡ option_or (cond b (Some e.1) (first_of es c)) last
    at true ih = refl
    at false ih = ih

one_listed : (es fs : List (ℕ × Value)) (a : ℕ) (v : Value) → fs ≡ es ++ (a, v) ∷ [] → (c : ℕ) → first_of fs c ≡ option_or (first_of es c) (cond (a == c) (Some v) None)
one_listed es fs a v e c = ap (λ (xs : List (ℕ × Value)). first_of xs c) e ∙ first_of-push es (a, v) c

-- so it is in a run
lookup-push : (es : List (ℕ × Value)) (x : ℕ × Value) (c : ℕ) → lookup (is_at (nat_cmp c)) (es ++ x ∷ []) ≡ option_or (lookup (is_at (nat_cmp c)) es) (cond (x.0 == c) (Some x.1) None)
lookup-push [] x c = ap (λ (b : Bool). cond b (Some x.1) None) (is_at-eq c x.0 ∙ turn_test c x.0)
lookup-push (e ∷ es) x c = at (is_at (nat_cmp c) e.0) (lookup-push es x c)
  where
    last : Option Value
    last = cond (x.0 == c) (Some x.1) None

    at : (b : Bool) → lookup (is_at (nat_cmp c)) (es ++ x ∷ []) ≡ option_or (lookup (is_at (nat_cmp c)) es) last → cond b (Some e.1) (lookup (is_at (nat_cmp c)) (es ++ x ∷ [])) ≡ option_or (cond b (Some e.1) (lookup (is_at (nat_cmp c)) es)) last
    at true ih = refl
    at false ih = ih

one_risen : (es fs : List (ℕ × Value)) (a : ℕ) (v : Value) → fs ≡ es ++ (a, v) ∷ [] → (c : ℕ) → lookup (is_at (nat_cmp c)) fs ≡ option_or (lookup (is_at (nat_cmp c)) es) (cond (a == c) (Some v) None)
one_risen es fs a v e c = ap (λ (xs : List (ℕ × Value)). lookup (is_at (nat_cmp c)) xs) e ∙ lookup-push es (a, v) c

one_put : (a c : ℕ) (o p : Option Value) (v : Value) → o ≡ cond (is_at (nat_cmp a) c) (Some v) p → o ≡ cond (a == c) (Some v) p
one_put a c o p v e = e ∙ ap (λ (b : Bool). cond b (Some v) p) (is_at-eq a c)

-- ---- a value more, of a cell that had none

neither : (o p : Option Value) → option_or o p ≡ None → (o ≡ None) × (p ≡ None)
neither None p h = (refl, h)
neither (Some x) p h = absurd (let z = h in cc)

in_first : (v : Value) (o p : Option Value) (b : Bool) → (b ≡ true → o ≡ None) → option_or (option_or o (cond b (Some v) None)) p ≡ cond b (Some v) (option_or o p)
in_first v None p true h = refl
in_first v None p false h = refl
in_first v (Some w) p true h = absurd (let z = h refl in cc)
in_first v (Some w) p false h = refl

in_second : (v : Value) (o p q : Option Value) (b : Bool) → (b ≡ true → o ≡ None) → q ≡ cond b (Some v) p → option_or o q ≡ cond b (Some v) (option_or o p)
in_second v None p q b h e = e
in_second v (Some w) p q true h e = absurd (let z = h refl in cc)
in_second v (Some w) p q false h e = refl

module _ (first second : ℕ → Option Value) (a : ℕ) (v : Value) (none : option_or (first a) (second a) ≡ None) where
  none_first : (c : ℕ) → (a == c) ≡ true → first c ≡ None
  none_first c h = subst (λ (d : ℕ). first d ≡ None) (same_cell c a h) (neither (first a) (second a) none).0

  -- in the first place
  more_first : (new : ℕ → Option Value) → ((c : ℕ) → new c ≡ option_or (first c) (cond (a == c) (Some v) None)) → (c : ℕ) → option_or (new c) (second c) ≡ cond (a == c) (Some v) (option_or (first c) (second c))
  more_first new e c = ap (λ (o : Option Value). option_or o (second c)) (e c) ∙ in_first v (first c) (second c) (a == c) (none_first c)

  -- in the second
  more_second : (new : ℕ → Option Value) → ((c : ℕ) → new c ≡ cond (a == c) (Some v) (second c)) → (c : ℕ) → option_or (first c) (new c) ≡ cond (a == c) (Some v) (option_or (first c) (second c))
  more_second new e c = in_second v (first c) (second c) (new c) (a == c) (none_first c) (e c)

-- ---- the three places in which the values of cells stand

abbrev pub in_run : List (ℕ × Value) → ℕ → Option Value
in_run rs c = lookup (is_at (nat_cmp c)) rs

abbrev pub in_rest : List (ℕ × Value) → (ℕ → Option Value) → ℕ → Option Value
in_rest rs m c = option_or (in_run rs c) (m c)

abbrev pub in_all : List (ℕ × Value) → List (ℕ × Value) → (ℕ → Option Value) → ℕ → Option Value
in_all es rs m c = option_or (first_of es c) (in_rest rs m c)

pub none_found : (es rs xs : List (ℕ × Value)) (c : ℕ) → es ≡ [] → rs ≡ [] → xs ≡ [] → in_all es rs (in_run xs) c ≡ None
none_found es rs xs c e f g =
    ap (λ (ys : List (ℕ × Value)). in_all ys rs (in_run xs) c) e ∙ ap (λ (ys : List (ℕ × Value)). in_rest ys (in_run xs) c) f ∙ ap (λ (ys : List (ℕ × Value)). in_run ys c) g

module _ (es rs : List (ℕ × Value)) (m : ℕ → Option Value) (a : ℕ) (v : Value) (none : in_all es rs m a ≡ None) where
  none_behind : in_rest rs m a ≡ None
  none_behind = (neither (first_of es a) (in_rest rs m a) none).1

  pub listed_more : (fs : List (ℕ × Value)) → fs ≡ es ++ (a, v) ∷ [] → (c : ℕ) → in_all fs rs m c ≡ cond (a == c) (Some v) (in_all es rs m c)
  listed_more fs e = more_first (first_of es) (in_rest rs m) a v none (first_of fs) (one_listed es fs a v e)

  pub risen_more : (ss : List (ℕ × Value)) → ss ≡ rs ++ (a, v) ∷ [] → (c : ℕ) → in_all es ss m c ≡ cond (a == c) (Some v) (in_all es rs m c)
  risen_more ss e = more_second (first_of es) (in_rest rs m) a v none (in_rest ss m) (more_first (in_run rs) m a v none_behind (in_run ss) (one_risen rs ss a v e))

  pub put_more : (n : ℕ → Option Value) → ((c : ℕ) → n c ≡ cond (is_at (nat_cmp a) c) (Some v) (m c)) → (c : ℕ) → in_all es rs n c ≡ cond (a == c) (Some v) (in_all es rs m c)
  put_more n e = more_second (first_of es) (in_rest rs m) a v none (in_rest rs n) (more_second (in_run rs) m a v none_behind n (λ c. one_put a c (n c) (m c) v (e c)))
