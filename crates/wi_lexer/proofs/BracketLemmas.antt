-- What stands between `[.` and `]`.
use Rattle.wi_lexer.proofs.Words.{◌≡◌, ℕ, suc, ◌+◌, ◌-◌, ◌<◌, Bool, true, false, cond, ◌&&◌, ◌==◌, List, [], ◌∷◌, ◌++◌, length, take, drop, get_or, Option, Some, None, refl, sym, ap, ◌∙◌, arith, length-append, nat_lt, slice_index, eqb-true, ltb-true, lt-ltb, and_parts, take_more, get_or_push, take-length, take-append_seam, inside, is_bracketed}

abbrev pub bracketed : List ℕ → List ℕ
bracketed x = 91 ∷ 46 ∷ x ++ 93 ∷ []

bracketed_found : (x : List ℕ) → is_bracketed (bracketed x) ≡ true
bracketed_found x =
    let size = length-append x (93 ∷ []) in
    let place : suc (suc (length x)) ≡ length (bracketed x) - 1 = omega (arith, size) in
    let last = get_or_push (91 ∷ 46 ∷ x) 93 0 (length (bracketed x) - 1) place in
    let closes : (slice_index (bracketed x) (length (bracketed x) - 1) == 93) ≡ true = ap (λ b. b == 93) last in
    let long = lt-ltb 2 (length (bracketed x)) (omega (arith, size)) in
    cc (long, closes)

inside_found : (x : List ℕ) → inside (bracketed x) ≡ x
inside_found x =
    let size = length-append x (93 ∷ []) in
    let place : length (bracketed x) - 3 ≡ length x = omega (arith, size) in
    ap (λ i. take i (x ++ 93 ∷ [])) place ∙ take-append_seam x (93 ∷ [])

-- as a slice between two places
pub inside_slice : (text : List ℕ) → take (length text - 1 - 2) (drop 2 text) ≡ inside text
inside_slice text = let size : length text - 1 - 2 ≡ length text - 3 = omega arith in ap (λ n. take n (drop 2 text)) size

-- what `read` finds inside the brackets
abbrev pub read_inside : {A : Type 0} → (List ℕ → Option A) → List ℕ → Option A
read_inside read text = cond (is_bracketed text) (read (inside text)) None

pub inside_read : {A : Type 0} (read : List ℕ → Option A) (x : List ℕ) → read_inside read (bracketed x) ≡ read x
inside_read read x = ap (λ t. cond t (read (inside (bracketed x))) None) (bracketed_found x) ∙ ap read (inside_found x)

-- some bytes are those before the last, and the last
last_apart : (xs : List ℕ) → 0 < length xs → take (length xs - 1) xs ++ get_or xs (length xs - 1) 0 ∷ [] ≡ xs
last_apart xs some =
    let place : length xs - 1 + 1 ≡ length xs = omega arith in
    sym (take_more xs (length xs - 1) 0 (omega arith)) ∙ ap (λ i. take i xs) place ∙ take-length xs

bracketed_back : (text : List ℕ) → is_bracketed text ≡ true → bracketed (inside text) ≡ text
bracketed_back [] h = cc
bracketed_back (a ∷ []) h = cc
bracketed_back (a ∷ b ∷ xs) h =
    let text = a ∷ b ∷ xs in
    let p = and_parts (nat_lt 2 (length text)) ((a == 91) && ((b == 46) && (slice_index text (length text - 1) == 93))) h in
    let q = and_parts (a == 91) ((b == 46) && (slice_index text (length text - 1) == 93)) p.1 in
    let r = and_parts (b == 46) (slice_index text (length text - 1) == 93) q.1 in
    let long = ltb-true 2 (length text) p.0 in
    let place : length text - 1 ≡ suc (suc (length xs - 1)) = omega (arith, long) in
    let last : get_or xs (length xs - 1) 0 ≡ 93 = ap (λ i. get_or text i 0) (sym place) ∙ eqb-true (slice_index text (length text - 1)) 93 r.1 in
    let size : length text - 3 ≡ length xs - 1 = omega (arith, long) in
    let tail : inside text ++ 93 ∷ [] ≡ xs =
    ap (λ i. take i xs ++ 93 ∷ []) size
    ∙ ap (λ x. take (length xs - 1) xs ++ x ∷ []) (sym last)
    ∙ last_apart xs (omega (arith, long)) in
    cc (tail, eqb-true a 91 q.0, eqb-true b 46 r.0)

pub read_back : {A : Type 0} (read : List ℕ → Option A) (text : List ℕ) (a : A) → read_inside read text ≡ Some a → (read (inside text) ≡ Some a) × (bracketed (inside text) ≡ text)
read_back read text a h = go (is_bracketed text) refl h
  where
    go : (t : Bool) → is_bracketed text ≡ t → cond t (read (inside text)) None ≡ Some a → (read (inside text) ≡ Some a) × (bracketed (inside text) ≡ text)
    go true e f = (f, bracketed_back text e)
    go false e f = cc
