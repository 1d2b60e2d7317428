-- The name found at the front is one, and no name there is longer; what begins as a name is no other token.
use Rattle.wi_lexer.proofs.Words.{◌≡◌, ℕ, ◌+◌, ◌<◌, ◌≤◌, Bool, true, false, cond, ◌&&◌, ◌==◌, List, [], ◌∷◌, ◌++◌, length, take, drop, Option, Some, None, refl, sym, ap, ◌∙◌, arith, nat_lt, slice_index, true≢false, nat_tests, get_or-take, prefix_len, is_ascii_digit, NotEqual, digits_len, decimals_len, decimal_len, number_len, mark_text, mark_at, IsName, is_name_start, is_name_part, name_len}
use Rattle.wi_lexer.specs.declared.token.Mark.{Mark}
use Rattle.wi_lexer.proofs.RunLemmas.{run_within, run_stops, run_more, run_all}
use Rattle.wi_lexer.proofs.NumberLemmas.{decimal_none}
use Rattle.wi_lexer.proofs.MarkLemmas.{mark_sound}

pub name_some : (text : List ℕ) → IsName text → 0 < length text
name_some [] h = absurd (true≢false (sym h.start))
name_some (b ∷ text) h = omega arith

-- a name at the front is no longer than what is found there
pub name_more : (text : List ℕ) → IsName text → (rest : List ℕ) → length text ≤ name_len (text ++ rest)
unfolding name_len
name_more [] h rest = omega arith
name_more (b ∷ text) h rest =
    let run = run_more is_name_part (b ∷ text) rest h.parts in
    omega (arith, run, ap (λ t. cond t (prefix_len is_name_part ((b ∷ text) ++ rest)) 0) h.start)

-- a name is found whole where no part of a name follows
pub name_exact : (text : List ℕ) → IsName text → (rest : List ℕ) → prefix_len is_name_part rest ≡ 0 → name_len (text ++ rest) ≡ length text
unfolding name_len
name_exact [] h rest none = absurd (omega (arith, name_some [] h))
name_exact (b ∷ text) h rest none =
    let run = run_more is_name_part (b ∷ text) rest h.parts in
    omega (arith, run, none, ap (λ t. cond t (prefix_len is_name_part ((b ∷ text) ++ rest)) 0) h.start)

-- the first bytes are a name
pub record BeginsName (n : ℕ) (bs : List ℕ) : Type 0 where
  pub within : n ≤ length bs
  pub is : IsName (take n bs)

pub name_sound : (bs : List ℕ) → 0 < name_len bs → BeginsName (name_len bs) bs
unfolding name_len
name_sound bs h = go (is_name_start (slice_index bs 0)) refl h
  where
    go : (t : Bool) → is_name_start (slice_index bs 0) ≡ t → 0 < cond t (prefix_len is_name_part bs) 0 → BeginsName (cond t (prefix_len is_name_part bs) 0) bs
    go true e f =
        let n = prefix_len is_name_part bs in
        let first : slice_index (take n bs) 0 ≡ slice_index bs 0 = get_or-take n bs 0 0 f in
        record { within = run_within is_name_part bs; is = record { start = ap is_name_start first ∙ e; parts = run_all is_name_part bs } }
    go false e f = absurd (omega (arith, f))

-- ---- what begins as a name

start_no_digit : (b : ℕ) → is_name_start b ≡ true → is_ascii_digit b ≡ false
start_no_digit b h = grind (arith, nat_tests)

start_no_point : (b : ℕ) → is_name_start b ≡ true → (b == 46) ≡ false
start_no_point b h = grind (arith, nat_tests)

no_decimals : (b : ℕ) (bs : List ℕ) → is_name_start b ≡ true → decimals_len (b ∷ bs) ≡ 0
unfolding decimals_len
no_decimals b bs h = ap (λ t. cond (t && nat_lt 0 (digits_len bs)) (1 + digits_len bs) 0) (start_no_point b h)

no_decimal : (b : ℕ) (bs : List ℕ) → is_name_start b ≡ true → decimal_len (b ∷ bs) ≡ 0
unfolding decimal_len
no_decimal b bs h =
    let digits : digits_len (b ∷ bs) ≡ 0 = run_stops is_ascii_digit b bs (start_no_digit b h) in
    let after : drop (digits_len (b ∷ bs)) (b ∷ bs) ≡ b ∷ bs = ap (λ i. drop i (b ∷ bs)) digits in
    omega (arith, digits, ap decimals_len after, no_decimals b bs h)

pub no_number : (b : ℕ) (bs : List ℕ) → is_name_start b ≡ true → number_len (b ∷ bs) ≡ 0
no_number b bs h = decimal_none (b ∷ bs) (no_decimal b bs h)

mark_start : (m : Mark) (rest : List ℕ) → is_name_start (slice_index (mark_text m ++ rest) 0) ≡ false
mark_start NotEqual rest = refl
mark_start m rest = refl

pub no_mark : (bs : List ℕ) → is_name_start (slice_index bs 0) ≡ true → mark_at bs ≡ None
no_mark bs h = go (mark_at bs) refl
  where
    go : (o : Option Mark) → mark_at bs ≡ o → o ≡ None
    go None e = refl
    go (Some m) e =
        let s = mark_sound bs m e in
        absurd (true≢false (sym h ∙ ap (λ x. is_name_start (slice_index x 0)) (sym s.is) ∙ mark_start m s.after))

pub no_bracket : (b : ℕ) → is_name_start b ≡ true → b ≡ 91 → ⊥
no_bracket b h e = true≢false (sym h ∙ ap is_name_start e)
