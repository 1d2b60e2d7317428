-- Reading digit by digit: a whole number from the first, a decimal from the last.
use Rattle.wi_fraction.proofs.Vocabulary.{◌≡◌, ℕ, zero, suc, ◌+◌, ◌-◌, ◌*◌, ◌<◌, ◌≤◌, pos, unsigned_abs, Bool, false, List, [], ◌∷◌, length, drop, take, Option, Some, None, refl, ap, append-nil, pow-zero, digit_value, AllDigits, digits_value, ◌∙◌, sym, inl, arith, get_or, drop-cons, nat_tests, mul-le-mul_left, digits_value_more, digits_value-take-le, Number, number_at, number_of, with_minus, max_size, bounded, decimal_value, gcd}
use Rattle.wi_fraction.proofs.Steps.{bounded-some, bounded-none}
use Rattle.wi_fraction.proofs.Fineness.{tail_more, tail_below_one, tail_from_none, tail_whole, fine_drop, none_from_tail, gcd_shifted}
use Rattle.wi_fraction.proofs.Numbers.{number_of-lowest, number_of-whole, number_at-too_large}

pub digits_drop : (i : ℕ) (ds : List ℕ) → AllDigits 10 ds → AllDigits 10 (drop i ds)
digits_drop zero ds h = h
digits_drop (suc i) [] h = h
digits_drop (suc i) (c ∷ ds) h = digits_drop i ds h.1

-- one more digit of a decimal, from its last to its first
pub part_next : (ds : List ℕ) (i v n d : ℕ) (x : Number) (r : Option Number) → 0 < i → i ≤ length ds → Some x ≡ decimal_value false [] (drop i ds) → v ≡ digit_value (get_or ds (i - 1) 0) → n ≡ unsigned_abs x.num → d ≡ x.den → r ≡ number_of (pos (v * d + n)) (d * 10) → r ≡ decimal_value false [] (drop (i - 1) ds)
part_next ds zero v n d x r some inside e f g h k = absurd (omega (arith, some))
part_next ds (suc j) v n d x r some inside e f g h k =
    let before : suc j - 1 ≡ j = omega arith in
    let here : drop j ds ≡ get_or ds j 0 ∷ drop (suc j) ds = drop-cons ds j 0 (omega (arith, inside)) in
    let first : v ≡ digit_value (get_or ds j 0) = rw before at f in
    rw (before, here) (rw (first, g, h) at k ∙ tail_more (get_or ds j 0) (drop (suc j) ds) x e)

-- the tail is below one
pub part_below_one : (ds : List ℕ) (i n d : ℕ) (x : Number) → AllDigits 10 ds → Some x ≡ decimal_value false [] (drop i ds) → n ≡ unsigned_abs x.num → d ≡ x.den → n < d
part_below_one ds i n d x all e f g = rw (f, g) (tail_below_one (drop i ds) x (digits_drop i ds all) e)

-- where the tail is no number, neither is the whole
pub part_none : (ds : List ℕ) (i : ℕ) → AllDigits 10 ds → None ≡ decimal_value false [] (drop i ds) → None ≡ decimal_value false [] ds
part_none ds i all e = none_from_tail false [] ds (fine_drop i ds (tail_from_none (drop i ds) (digits_drop i ds all) e))

pub bounded-too_large : (n : ℕ) → max_size < n → None ≡ bounded n
bounded-too_large n h = grind (arith, nat_tests)

pub bounded-small : (n : ℕ) → n ≤ max_size → Some n ≡ bounded n
bounded-small n h = grind (arith, nat_tests)

-- one more digit of a whole number, from its first to its last
pub whole_next : (ds : List ℕ) (i v w u : ℕ) → v ≡ digits_value 10 (take i ds) → i < length ds → w ≡ digit_value (get_or ds i 0) → Some u ≡ bounded (v * 10 + w) → (u ≡ digits_value 10 (take (i + 1) ds)) × (u ≤ max_size)
whole_next ds i v w u e h f k =
    let s = bounded-some (v * 10 + w) u k in
    let more : digits_value 10 (take (i + 1) ds) ≡ digits_value 10 (take i ds) * 10 + digit_value (get_or ds i 0) = digits_value_more 10 ds i h in
    (s.0 ∙ rw (e, f) (sym more), omega (arith, s.0, s.1))

pub whole_none : (ds : List ℕ) (i v w : ℕ) → v ≡ digits_value 10 (take i ds) → i < length ds → w ≡ digit_value (get_or ds i 0) → None ≡ bounded (v * 10 + w) → None ≡ bounded (digits_value 10 ds)
whole_none ds i v w e h f k =
    let large : max_size < v * 10 + w = bounded-none (v * 10 + w) k in
    let more : digits_value 10 (take (i + 1) ds) ≡ v * 10 + w = digits_value_more 10 ds i h ∙ rw (e, f) refl in
    let less : digits_value 10 (take (i + 1) ds) ≤ digits_value 10 ds = digits_value-take-le 10 ds (i + 1) (omega arith) in
    bounded-too_large (digits_value 10 ds) (omega (arith, large, more, less))

-- ---- a whole number alone

alone : (s : Bool) (whole : List ℕ) → number_at (with_minus s (digits_value 10 whole)) 1 ≡ decimal_value s whole []
alone s whole = rw (append-nil whole, pow-zero 10) (number_of-whole s (digits_value 10 whole))

pub alone_some : (s : Bool) (whole : List ℕ) (u : ℕ) (r : Option Number) → Some u ≡ bounded (digits_value 10 whole) → r ≡ number_at (with_minus s u) 1 → r ≡ decimal_value s whole []
alone_some s whole u r e h = h ∙ ap (λ n. number_at (with_minus s n) 1) (bounded-some (digits_value 10 whole) u e).0 ∙ alone s whole

pub alone_none : (s : Bool) (whole : List ℕ) → None ≡ bounded (digits_value 10 whole) → None ≡ decimal_value s whole []
alone_none s whole e = number_at-too_large s (digits_value 10 whole) 1 (inl (bounded-none (digits_value 10 whole) e)) ∙ alone s whole

-- ---- a whole part and a tail

shifted_lowest : (w : ℕ) (x : Number) → gcd (w * x.den + unsigned_abs x.num) x.den ≡ 1
shifted_lowest w x = gcd_shifted w x.den (unsigned_abs x.num) ∙ x.is_number.lowest

decimal_at : (s : Bool) (whole ds : List ℕ) (x : Number) → Some x ≡ decimal_value false [] ds → number_at (with_minus s (digits_value 10 whole * x.den + unsigned_abs x.num)) x.den ≡ decimal_value s whole ds
decimal_at s whole ds x e = sym (number_of-lowest s _ x.den (shifted_lowest (digits_value 10 whole) x)) ∙ tail_whole s whole ds x e

-- with a whole part w the fraction is in lowest terms
pub size_lowest : (w d n u : ℕ) (x : Number) → n ≡ unsigned_abs x.num → d ≡ x.den → Some u ≡ bounded (w * d + n) → gcd u d ≡ 1
size_lowest w d n u x e f h = rw ((bounded-some (w * d + n) u h).0, e, f) (shifted_lowest w x)

pub decimal_some : (s : Bool) (whole ds : List ℕ) (w d n u : ℕ) (x : Number) (r : Option Number) → Some x ≡ decimal_value false [] ds → w ≡ digits_value 10 whole → n ≡ unsigned_abs x.num → d ≡ x.den → Some u ≡ bounded (w * d + n) → r ≡ number_at (with_minus s u) d → r ≡ decimal_value s whole ds
decimal_some s whole ds w d n u x r e f g h k m = m ∙ rw ((bounded-some (w * d + n) u k).0, f, g, h) (decimal_at s whole ds x e)

decimal_too_large : (s : Bool) (whole ds : List ℕ) (x : Number) → Some x ≡ decimal_value false [] ds → max_size < digits_value 10 whole * x.den + unsigned_abs x.num → None ≡ decimal_value s whole ds
decimal_too_large s whole ds x e h = number_at-too_large s _ x.den (inl h) ∙ decimal_at s whole ds x e

pub size_none : (s : Bool) (whole ds : List ℕ) (w d n : ℕ) (x : Number) → Some x ≡ decimal_value false [] ds → w ≡ digits_value 10 whole → n ≡ unsigned_abs x.num → d ≡ x.den → None ≡ bounded (w * d + n) → None ≡ decimal_value s whole ds
size_none s whole ds w d n x e f g h k = decimal_too_large s whole ds x e (rw (← f, ← g, ← h) (bounded-none (w * d + n) k))

pub whole_part_none : (s : Bool) (whole ds : List ℕ) (x : Number) → Some x ≡ decimal_value false [] ds → None ≡ bounded (digits_value 10 whole) → None ≡ decimal_value s whole ds
whole_part_none s whole ds x e h =
    let large : max_size < digits_value 10 whole = bounded-none (digits_value 10 whole) h in
    let at_least : digits_value 10 whole * 1 ≤ digits_value 10 whole * x.den = mul-le-mul_left (digits_value 10 whole) x.is_number.above_zero in
    decimal_too_large s whole ds x e (omega (arith, large, at_least))

pub part_none_whole : (s : Bool) (whole ds : List ℕ) → AllDigits 10 ds → None ≡ decimal_value false [] ds → None ≡ decimal_value s whole ds
part_none_whole s whole ds all e = none_from_tail s whole ds (tail_from_none ds all e)
