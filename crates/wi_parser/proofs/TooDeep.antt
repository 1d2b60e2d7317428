-- What nests too deep is what the code finds by two counts.
use Rattle.wi_parser.proofs.Words.{◌≡◌, ℕ, suc, ◌+◌, ◌-◌, ◌<◌, ◌≤◌, max, Bool, true, false, cond, ◌||◌, ◌↔◌, nat_lt, List, [], ◌∷◌, length, refl, sym, ap, ap₂, ◌∙◌, arith, le-ltb, lt-ltb, ltb-true, ltb-false, or_parts, nat_tests, prefix_len, IsTrue, Symbol, open_parenthesis, close_parenthesis, opened, is_sign, max_depth, is_too_deep, deepest, most_signs}

-- ---- parentheses

abbrev most_opened : List Symbol → ℕ
most_opened [] = 0
most_opened (s ∷ ts) = max (opened (s ∷ ts)) (most_opened ts)

first_opened : (ts : List Symbol) → opened ts ≤ most_opened ts
first_opened [] = omega arith
first_opened (s ∷ ts) = omega arith

deepest_is : (h : ℕ) (ts : List Symbol) → deepest h ts ≡ max (h + opened ts) (most_opened ts)
deepest_is h [] = omega arith
deepest_is h (open_parenthesis ∷ ts) = omega (arith, deepest_is (suc h) ts)
deepest_is h (close_parenthesis ∷ ts) = omega (arith, deepest_is (h - 1) ts, first_opened ts)
deepest_is h (s ∷ ts) = omega (arith, deepest_is h ts)

-- ---- signs

abbrev most_in_a_row : List Symbol → ℕ
most_in_a_row [] = 0
most_in_a_row (s ∷ ts) = max (prefix_len is_sign (s ∷ ts)) (most_in_a_row ts)

first_in_a_row : (ts : List Symbol) → prefix_len is_sign ts ≤ most_in_a_row ts
first_in_a_row [] = omega arith
first_in_a_row (s ∷ ts) = omega arith

one_more : (b : Bool) (n p m x y : ℕ) → x ≡ max (suc n + p) m → y ≡ max (0 + p) m → p ≤ m → cond b x (max n y) ≡ max (n + cond b (1 + p) 0) (max (cond b (1 + p) 0) m)
one_more true n p m x y e f h = omega (arith, e)
one_more false n p m x y e f h = omega (arith, f, h)

most_signs_is : (n : ℕ) (ts : List Symbol) → most_signs n ts ≡ max (n + prefix_len is_sign ts) (most_in_a_row ts)
most_signs_is n [] = omega arith
most_signs_is n (s ∷ ts) = one_more (is_sign s) n _ _ _ _ (most_signs_is (suc n) ts) (most_signs_is 0 ts) (first_in_a_row ts)

-- ---- both

either : (a b c d : ℕ) → ((nat_lt max_depth a || nat_lt max_depth c) || (nat_lt max_depth b || nat_lt max_depth d)) ≡ (nat_lt max_depth (max a b) || nat_lt max_depth (max c d))
either a b c d = grind (arith, nat_tests)

by_most : (ts : List Symbol) → is_too_deep ts ≡ (nat_lt max_depth (most_opened ts) || nat_lt max_depth (most_in_a_row ts))
by_most [] = refl
by_most (s ∷ ts) =
    ap (λ b. (nat_lt max_depth (opened (s ∷ ts)) || nat_lt max_depth (prefix_len is_sign (s ∷ ts))) || b) (by_most ts)
    ∙ either (opened (s ∷ ts)) (most_opened ts) (prefix_len is_sign (s ∷ ts)) (most_in_a_row ts)

pub too_deep : (ts : List Symbol) → is_too_deep ts ≡ (nat_lt max_depth (deepest 0 ts) || nat_lt max_depth (most_signs 0 ts))
too_deep ts =
    let parentheses : most_opened ts ≡ deepest 0 ts = omega (arith, deepest_is 0 ts, first_opened ts) in
    let signs : most_in_a_row ts ≡ most_signs 0 ts = omega (arith, most_signs_is 0 ts, first_in_a_row ts) in
    by_most ts ∙ ap₂ (λ m n. nat_lt max_depth m || nat_lt max_depth n) parentheses signs

-- ---- few symbols

at_most : (b : Bool) (n m k : ℕ) → m ≤ n → k ≤ n → cond b m k ≤ n
at_most true n m k h e = h
at_most false n m k h e = e

most_deepest : (h : ℕ) (ts : List Symbol) → deepest h ts ≤ h + length ts
most_deepest h [] = omega arith
most_deepest h (open_parenthesis ∷ ts) = omega (arith, most_deepest (suc h) ts)
most_deepest h (close_parenthesis ∷ ts) = omega (arith, most_deepest (h - 1) ts)
most_deepest h (s ∷ ts) = omega (arith, most_deepest h ts)

most_in_all : (n : ℕ) (ts : List Symbol) → most_signs n ts ≤ n + length ts
most_in_all n [] = omega arith
most_in_all n (s ∷ ts) =
    at_most (is_sign s) (n + length (s ∷ ts)) (most_signs (suc n) ts) (max n (most_signs 0 ts)) (omega (arith, most_in_all (suc n) ts)) (omega (arith, most_in_all 0 ts))

-- as many symbols as the limit, or fewer, never nest too deep
pub few_symbols : (ts : List Symbol) → length ts ≤ max_depth → false ≡ is_too_deep ts
few_symbols ts few =
    let parentheses : nat_lt max_depth (deepest 0 ts) ≡ false = le-ltb max_depth (deepest 0 ts) (omega (arith, most_deepest 0 ts, few)) in
    let signs : nat_lt max_depth (most_signs 0 ts) ≡ false = le-ltb max_depth (most_signs 0 ts) (omega (arith, most_in_all 0 ts, few)) in
    sym (too_deep ts ∙ ap₂ (λ (m n : Bool). m || n) parentheses signs)

-- ---- what the code finds

tells : (a : Bool) (n : ℕ) → (IsTrue a ↔ (max_depth < n)) → a ≡ nat_lt max_depth n
tells true n h = sym (lt-ltb max_depth n (h.0 refl))
tells false n h = by (nat_lt max_depth n) refl
  where
    by : (b : Bool) → nat_lt max_depth n ≡ b → false ≡ b
    by true e = h.1 (ltb-true max_depth n e)
    by false e = refl

pub found_open : (a : Bool) (ts : List Symbol) → (IsTrue a ↔ (max_depth < deepest 0 ts)) → a ≡ true → a ≡ is_too_deep ts
found_open a ts h e = sym (too_deep ts ∙ ap (λ b. b || nat_lt max_depth (most_signs 0 ts)) (sym (tells a (deepest 0 ts) h) ∙ e) ∙ sym e)

pub found_signs : (a b : Bool) (ts : List Symbol) → (IsTrue a ↔ (max_depth < deepest 0 ts)) → (IsTrue b ↔ (max_depth < most_signs 0 ts)) → a ≡ false → b ≡ is_too_deep ts
found_signs a b ts h k e =
    sym (too_deep ts ∙ ap (λ c. c || nat_lt max_depth (most_signs 0 ts)) (sym (tells a (deepest 0 ts) h) ∙ e) ∙ sym (tells b (most_signs 0 ts) k))

-- what does not nest too deep has few parentheses open at once
pub few_open : (ts : List Symbol) → is_too_deep ts ≡ false → deepest 0 ts ≤ max_depth
few_open ts h = ltb-false max_depth _ (or_parts (nat_lt max_depth (deepest 0 ts)) (nat_lt max_depth (most_signs 0 ts)) (sym (too_deep ts) ∙ h)).0
