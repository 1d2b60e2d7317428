-- Numbers read from the left, held at a bound once they pass it.
use Rattle.wi_values.proofs.Words.{◌≡◌, ℕ, suc, ◌+◌, ◌-◌, ◌*◌, ◌^◌, ◌<◌, ◌≤◌, min, List, [], ◌∷◌, length, drop, get_or, sym, ◌∙◌, ap, arith, rules, tests, inl, inr, true, Option, Some, None, unwrap_or, nat_tests, SomeIff, add_assoc, add-mul, mul_assoc, mul_right_comm, mul-pos, pow-le-pow_right, pow-suc, cases_lt, at_drop_more, digit_value, is_ascii_alphabetic, to_ascii_uppercase, list_all, digits_value_after, letters_value}

-- the number of letters that follow on those of n
abbrev pub letters_value_after : ℕ → List ℕ → ℕ
letters_value_after n [] = n
letters_value_after n (c ∷ cs) = letters_value_after (n * 26 + (to_ascii_uppercase c - 64)) cs

one_place_up : (n d k v : ℕ) → (n * 26 + d) * 26 ^ k + v ≡ n * 26 ^ suc k + (d * 26 ^ k + v)
one_place_up n d k v =
    let parts : (n * 26 + d) * 26 ^ k ≡ n * 26 * 26 ^ k + d * 26 ^ k = add-mul (n * 26) d (26 ^ k) in
    let turned : n * 26 * 26 ^ k ≡ n * (26 ^ k * 26) = mul_right_comm n 26 (26 ^ k) ∙ mul_assoc n (26 ^ k) 26 in
    let more : n * 26 ^ suc k ≡ n * (26 ^ k * 26) = ap (λ m. n * m) (pow-suc 26 k) in
    ap (λ m. m + v) (parts ∙ ap (λ m. m + d * 26 ^ k) (turned ∙ sym more)) ∙ add_assoc (n * 26 ^ suc k) (d * 26 ^ k) v

letters_follow : (n : ℕ) (cs : List ℕ) → letters_value_after n cs ≡ n * 26 ^ length cs + letters_value cs
letters_follow n [] = omega arith
letters_follow n (c ∷ cs) = letters_follow (n * 26 + (to_ascii_uppercase c - 64)) cs ∙ one_place_up n (to_ascii_uppercase c - 64) (length cs) (letters_value cs)

pub letters_from_none : (cs : List ℕ) → letters_value_after 0 cs ≡ letters_value cs
letters_from_none cs = omega (arith, letters_follow 0 cs)

-- letters, one at least, stand for a number above 0
pub letters_above_zero : (cs : List ℕ) → 0 < length cs → list_all is_ascii_alphabetic cs ≡ true → 0 < letters_value cs
letters_above_zero [] h e = absurd (omega (arith, h))
letters_above_zero (c ∷ cs) h e =
    let first : is_ascii_alphabetic c ≡ true = search (rules, tests) in
    let above : 0 < to_ascii_uppercase c - 64 = grind (arith, nat_tests) in
    let none : 0 ≤ length cs = omega arith in
    let power : 26 ^ 0 ≤ 26 ^ length cs = pow-le-pow_right (omega arith) none in
    let product : 0 < (to_ascii_uppercase c - 64) * 26 ^ length cs = mul-pos above (omega (arith, power)) in
    omega (arith, product)

-- a number past the bound stays past it
pub letters_large : (most n : ℕ) (cs : List ℕ) → most ≤ n → most ≤ letters_value_after n cs
letters_large most n [] h = h
letters_large most n (c ∷ cs) h = letters_large most (n * 26 + (to_ascii_uppercase c - 64)) cs (let d : ℕ = to_ascii_uppercase c - 64 in omega arith)

pub digits_large : (most n : ℕ) (cs : List ℕ) → most ≤ n → most ≤ digits_value_after 10 n cs
digits_large most n [] h = h
digits_large most n (c ∷ cs) h = digits_large most (n * 10 + digit_value c) cs (let d : ℕ = digit_value c in omega arith)

-- so a number may be held at the bound
pub held : (after : ℕ → List ℕ → ℕ) (most : ℕ) → ((n : ℕ) (cs : List ℕ) → most ≤ n → most ≤ after n cs) → (n : ℕ) (cs : List ℕ) → min (after (min n most) cs) most ≡ min (after n cs) most
held after most large n cs =
    elim (cases_lt n most) [
      | inl l ↦ let e : min n most ≡ n = omega arith in ap (λ k. min (after k cs) most) e
      | inr h ↦
          let e : min n most ≡ most = omega arith in
          let a : most ≤ after n cs = large n cs h in
          let b : most ≤ after most cs = large most cs (omega arith) in
          let both : min (after most cs) most ≡ min (after n cs) most = omega arith in
          ap (λ k. min (after k cs) most) e ∙ both
    ]

-- one more letter, one more digit
pub letters_step : (most n d m i : ℕ) (xs : List ℕ) → i < length xs → d ≡ to_ascii_uppercase (get_or xs i 0) - 64 → m ≡ min (n * 26 + d) most → min (letters_value_after m (drop (i + 1) xs)) most ≡ min (letters_value_after n (drop i xs)) most
letters_step most n d m i xs l e s =
    ap (λ k. min (letters_value_after k (drop (i + 1) xs)) most) s
    ∙ held letters_value_after most (letters_large most) (n * 26 + d) (drop (i + 1) xs)
    ∙ ap (λ k. min (letters_value_after (n * 26 + k) (drop (i + 1) xs)) most) e
    ∙ ap (λ k. min k most) (sym (at_drop_more (letters_value_after n) xs i 0 l))

pub digits_step : (most n d m i : ℕ) (xs : List ℕ) → i < length xs → d ≡ digit_value (get_or xs i 0) → m ≡ min (n * 10 + d) most → min (digits_value_after 10 m (drop (i + 1) xs)) most ≡ min (digits_value_after 10 n (drop i xs)) most
digits_step most n d m i xs l e s =
    ap (λ k. min (digits_value_after 10 k (drop (i + 1) xs)) most) s
    ∙ held (digits_value_after 10) most (digits_large most) (n * 10 + d) (drop (i + 1) xs)
    ∙ ap (λ k. min (digits_value_after 10 (n * 10 + k) (drop (i + 1) xs)) most) e
    ∙ ap (λ k. min k most) (sym (at_drop_more (digits_value_after 10 n) xs i 0 l))

digit_value-le : (c : ℕ) → digit_value c ≤ 36
digit_value-le c = grind (arith, nat_tests)

-- the value of a character as a digit, where any that is none counts 36
pub digit_or_none : (c : ℕ) (r : Option ℕ) → SomeIff r (digit_value c < 36) (digit_value c) → unwrap_or r 36 ≡ digit_value c
digit_or_none c (Some d) h = h.1
digit_or_none c None h = grind (arith, digit_value-le c, h, nat_tests)
