-- The exact decimal: its places, its digits, and what stands before it.
use Rattle.wi_fraction.proofs.Vocabulary.{String, string_bytes, subst, sym, ap, ◌∙◌, arith, Result, Ok, Err, OnOk, OnErr, is_ok, if◌then◌else◌, starts_with_length, starts_with_of_append, ◌≡◌, ℕ, zero, suc, ◌+◌, ◌-◌, ◌*◌, ◌/◌, ◌%◌, ◌^◌, ◌<◌, ◌≤◌, ◌≢◌, List, [], ◌∷◌, ◌++◌, length, Some, None, refl, Global, decimal, StartsWith, IsUtf8, IsCharBoundary, decimal_digit, take-append-le, take_all, append_assoc, append-nil, div-mul-add, IsCharBoundary-from_take, IsUtf8-string_bytes, div-add-mod', mul-div_cancel, mul_assoc, mul_comm, mul_right_comm, pow_more, pow-zero, mul-one, mod-eq_of_lt, mul-add-mod_self_right, add-mul-div_right, div-lt_iff_lt-mul, padded, size_text, places, places_from}
use Rattle.wi_fraction.proofs.Places.{places_from_end, places_from_found, places_from_more, all_divide, multiple_of}
use Rattle.wi_fraction.proofs.Padded.{padded_suc}

-- ---- bytes that stay at the front

pub starts_itself : (xs : List ℕ) → StartsWith xs xs
starts_itself xs = take_all (length xs) xs (omega arith)

pub starts_more : (xs more front : List ℕ) → StartsWith xs front → StartsWith (xs ++ more) front
starts_more xs more front h = take-append-le (length front) xs more (starts_with_length xs front h) ∙ h

-- where all is appended, or on an error nothing
pub starts_joined : {T E : Type 0} (r : Result T E) (xs front more : List ℕ) → OnOk r (xs ≡ front ++ more) → OnErr r (xs ≡ front) → StartsWith xs front
starts_joined (Ok u) xs front more h k = starts_with_of_append xs front more h
starts_joined (Err e) xs front more h k = subst (λ ys. StartsWith ys front) (sym k) (starts_itself front)

-- where more is appended, or on an error nothing, to what begins so
pub starts_pushed : {T E : Type 0} (r : Result T E) (xs mid more front : List ℕ) → xs ≡ (if is_ok r then mid ++ more else mid) → StartsWith mid front → StartsWith xs front
starts_pushed (Ok u) xs mid more front e h = subst (λ ys. StartsWith ys front) (sym e) (starts_more mid more front h)
starts_pushed (Err d) xs mid more front e h = subst (λ ys. StartsWith ys front) (sym e) h

-- a text may be cut back to the one that it begins with
pub cut_place : (s : String Global) (old : List ℕ) → IsUtf8 old → StartsWith (string_bytes s) old → IsCharBoundary (string_bytes s) (length old)
cut_place s old u h = IsCharBoundary-from_take (string_bytes s) (length old) (IsUtf8-string_bytes s) (starts_with_length (string_bytes s) old h) (subst IsUtf8 (sym h) u)

-- ---- division step by step

-- a quotient and a rest are known by their sum
pub quotient_is : (a q r d : ℕ) → q * d + r ≡ a → r < d → q ≡ a / d
quotient_is a q r d e h = rw (sym e) (sym (div-mul-add q d r h))

pub rest_is : (a q r d : ℕ) → q * d + r ≡ a → r < d → r ≡ a % d
rest_is a q r d e h =
    let same : q * d ≡ a / d * d = ap (λ k. k * d) (quotient_is a q r d e h) in
    omega (arith, e, same, div-add-mod' a d)

fivefold : (f r s p t d m : ℕ) → f * d + r ≡ 4 * m → s ≡ r + m → p * d + t ≡ 2 * ((f + s / d) * d + s % d) → p * d + t ≡ m * 10
fivefold f r s p t d m e g h =
    let whole : s / d * d + s % d ≡ s = div-add-mod' s d in
    let split : (f + s / d) * d ≡ f * d + s / d * d = omega arith in
    omega (arith, e, g, h, whole, split)

-- ten times m is twice (twice twice m and m)
pub tenfold_is : (q r f s p t d m : ℕ) → q * d + r ≡ 2 * (0 * d + m) → f * d + s ≡ 2 * (q * d + r) → p * d + t ≡ 2 * ((f + (s + m) / d) * d + (s + m) % d) → p * d + t ≡ m * 10
tenfold_is q r f s p t d m two four ten = let fourfold : f * d + s ≡ 4 * m = omega (arith, two, four) in fivefold f s (s + m) p t d m fourfold refl ten

pub double_small : (r d : ℕ) → r < d → 2 * r / d ≤ 1
double_small r d h =
    let below : 2 * r / d < 2 = (div-lt_iff_lt-mul {k = d} {x = 2 * r} {y = 2} (omega (arith, h))).1 (omega (arith, h)) in
    omega (arith, below)

pub double_parts : (w r d : ℕ) → (2 * w + 2 * r / d) * d + 2 * r % d ≡ 2 * (w * d + r)
double_parts w r d =
    let whole : 2 * r / d * d + 2 * r % d ≡ 2 * r = div-add-mod' (2 * r) d in
    omega (arith, whole)

-- ---- the places

pub all_places_begin : (d : ℕ) → places 126 d ≡ places_from (127 - 0) 0 d
unfolding places places_from
all_places_begin d = refl

tenfold_parts : (n d : ℕ) → n * 10 ≡ n / d * 10 * d + n % d * 10
tenfold_parts n d =
    let turned : n / d * 10 * d ≡ n / d * d * 10 = mul_right_comm (n / d) 10 d in
    omega (arith, turned, div-add-mod' n d)

tenfold_rest : (n d : ℕ) → n % d * 10 % d ≡ n * 10 % d
tenfold_rest n d = sym (rw (tenfold_parts n d) (mul-add-mod_self_right (n / d * 10) d (n % d * 10)))

tenfold_quotient : (n d : ℕ) → 0 < d → n * 10 / d ≡ n / d * 10 + n % d * 10 / d
tenfold_quotient n d dp =
    let turned : n * 10 ≡ n % d * 10 + n / d * 10 * d = omega (arith, tenfold_parts n d) in
    let parts : n * 10 / d ≡ n % d * 10 / d + n / d * 10 = rw turned (add-mul-div_right (n % d * 10) (n / d * 10) dp) in
    omega (arith, parts)

pub next_power : (i d r s : ℕ) → r ≡ 10 ^ i % d → s ≡ r * 10 % d → s ≡ 10 ^ (i + 1) % d
next_power i d r s e f = f ∙ rw (e, pow_more 10 i) (tenfold_rest (10 ^ i) d)

pub all_next : (k d r : ℕ) → k < 127 → r ≡ 10 ^ k % d → r ≢ 0 → places 126 d ≡ places_from (127 - k) k d → places 126 d ≡ places_from (127 - (k + 1)) (k + 1) d
all_next k d r h e apart f =
    let some : 127 - k ≢ 0 = λ z. absurd (omega (arith, h, z)) in
    let rest : 10 ^ k % d ≢ 0 = λ z. apart (e ∙ z) in
    let fewer : 127 - (k + 1) ≡ 127 - k - 1 = omega arith in
    rw fewer (f ∙ sym (places_from_more (127 - k) k (10 ^ k) d (places_from (127 - k - 1) (k + 1) d) refl some rest refl))

pub all_found : (k d r : ℕ) → k < 127 → r ≡ 10 ^ k % d → r ≡ 0 → places 126 d ≡ places_from (127 - k) k d → Some k ≡ places 126 d
all_found k d r h e zero_is f =
    let some : 127 - k ≢ 0 = λ z. absurd (omega (arith, h, z)) in
    places_from_found (127 - k) k (10 ^ k) d refl some (sym e ∙ zero_is) ∙ sym f

pub all_end : (k d : ℕ) → 127 ≤ k → places 126 d ≡ places_from (127 - k) k d → None ≡ places 126 d
all_end k d h f = places_from_end (127 - k) k d (omega (arith, h)) ∙ sym f

-- ---- the digits

digit_small : (r d : ℕ) → r < d → r * 10 / d < 10
digit_small r d h = (div-lt_iff_lt-mul {k = d} {x = r * 10} {y = 10} (omega (arith, h))).1 (omega (arith, h))

padded_next : (i q c : ℕ) → c < 10 → padded (suc i) (q * 10 + c) ≡ padded i q ++ decimal c
padded_next i q c h =
    let front : (q * 10 + c) / 10 ≡ q = omega (arith, h) in
    let last : (q * 10 + c) % 10 ≡ c = omega (arith, h) in
    rw (padded_suc i (q * 10 + c), front, last, decimal_digit c h) refl

power_of_next : (n i : ℕ) → n * 10 ^ (i + 1) ≡ n * 10 ^ i * 10
power_of_next n i = rw (pow_more 10 i) (sym (mul_assoc n (10 ^ i) 10))

pub digits_none : (n d : ℕ) (old : List ℕ) → old ≡ old ++ padded 0 (n * 10 ^ 0 / d)
unfolding padded
digits_none n d old = sym (append-nil old)

pub rest_none : (n d : ℕ) → n < d → n ≡ n * 10 ^ 0 % d
rest_none n d h = sym (rw (pow-zero 10, mul-one n) (mod-eq_of_lt h))

pub rest_next : (n i d r s : ℕ) → r ≡ n * 10 ^ i % d → s ≡ r * 10 % d → s ≡ n * 10 ^ (i + 1) % d
rest_next n i d r s e f = f ∙ rw (e, power_of_next n i) (tenfold_rest (n * 10 ^ i) d)

pub digits_next : (n i d r c : ℕ) (old text new : List ℕ) → r < d → text ≡ old ++ padded i (n * 10 ^ i / d) → r ≡ n * 10 ^ i % d → c ≡ r * 10 / d → new ≡ text ++ decimal c → new ≡ old ++ padded (i + 1) (n * 10 ^ (i + 1) / d)
digits_next n i d r c old text new h e f g k =
    let q = n * 10 ^ i / d in
    let small : r * 10 / d < 10 = digit_small r d h in
    let below : c < 10 = omega (arith, small, g) in
    let apart : n * 10 ^ (i + 1) / d ≡ q * 10 + n * 10 ^ i % d * 10 / d = ap (λ v. v / d) (power_of_next n i) ∙ tenfold_quotient (n * 10 ^ i) d (omega (arith, h)) in
    let same : n * 10 ^ i % d * 10 / d ≡ c = ap (λ v. v * 10 / d) (sym f) ∙ sym g in
    let more : n * 10 ^ (i + 1) / d ≡ q * 10 + c = apart ∙ ap (λ v. q * 10 + v) same in
    let next : i + 1 ≡ suc i = omega arith in
    let step : padded (i + 1) (n * 10 ^ (i + 1) / d) ≡ padded i q ++ decimal c = ap (λ v. padded (i + 1) v) more ∙ ap (λ j. padded j (q * 10 + c)) next ∙ padded_next i q c below in
    k ∙ ap (λ x. x ++ decimal c) e ∙ append_assoc old (padded i q) (decimal c) ∙ ap (λ x. old ++ x) (sym step)

-- ---- the text

multiple_over : (r t d : ℕ) → 0 < d → t % d ≡ 0 → r * t / d ≡ r * (t / d)
multiple_over r t d dp e =
    let m = t / d in
    let whole : t ≡ m * d = multiple_of t d e ∙ mul_comm d m in
    let parts : r * t ≡ r * m * d = ap (λ k. r * k) whole ∙ sym (mul_assoc r m d) in
    rw parts (mul-div_cancel (r * m) dp)

pub exact_none : (n d : ℕ) → None ≡ places 126 d → size_text (places 126 d) n d ≡ decimal n ++ 47 ∷ decimal d
unfolding size_text
exact_none n d e = rw (sym e) refl

pub exact_whole : (n d : ℕ) → Some 0 ≡ places 126 d → size_text (places 126 d) n d ≡ decimal n
unfolding size_text
exact_whole n d e = rw (sym e) refl

pub exact_point : (n d k : ℕ) → Some k ≡ places 126 d → 0 < k → 0 < d → size_text (places 126 d) n d ≡ decimal (n / d) ++ 46 ∷ padded k (n % d * 10 ^ k / d)
unfolding size_text
exact_point n d zero e h dp = absurd (omega (arith, h))
exact_point n d (suc k) e h dp = rw (multiple_over (n % d) (10 ^ suc k) d dp (all_divide d (suc k) (sym e)), sym e) refl

pub exact_written : (old sign front digits a : List ℕ) → a ≡ old ++ (sign ++ (front ++ (46 ∷ []))) → a ++ digits ≡ old ++ (sign ++ (front ++ 46 ∷ digits))
exact_written old sign front digits a e =
    ap (λ x. x ++ digits) e ∙ append_assoc old (sign ++ (front ++ (46 ∷ []))) digits ∙ ap (λ x. old ++ x) (append_assoc sign (front ++ (46 ∷ [])) digits ∙ ap (λ x. sign ++ x) (append_assoc front (46 ∷ []) digits))
