-- Texts one after another, and one text many times.
use Rattle.wi_value_functions.proofs.Words.{◌≡◌, refl, sym, ap, subst, ◌∙◌, ℕ, suc, zero, ◌+◌, ◌*◌, ◌≤◌, ◌<◌, List, [], ◌∷◌, ◌++◌, drop, get_or, length, arith, le-leb, lt-leb, sub-add-min_cancel, mul-le-mul_right, BadValue, min, ◌^◌, Result, Ok, Err, concat, repeat, append_assoc, append-nil, drop_more, drop_all, limited_text, to_text, ◌>>=◌, and_then, map_until_error, Gives, NoValue, Error, Stopped, Agrees, shown_text, ErrorKind, Value, Text, Fault}
use Rattle.std.specs.Prelude.{◌-◌}
use Rattle.std.proofs.lemmas.List.{length-append}

-- what comes of a text and the values that are still to be joined to it
abbrev pub joined_to : List ℕ → Result (List (List ℕ)) ErrorKind → Value
joined_to front ts = ts >>= (λ us. limited_text (front ++ concat us))

pub join_none : (front : List ℕ) → joined_to front (map_until_error to_text []) ≡ limited_text front
join_none front = ap limited_text (append-nil front)

pub join_one : (front t : List ℕ) (ts : Result (List (List ℕ)) ErrorKind) → joined_to front (and_then (λ us. Ok (t ∷ us)) ts) ≡ joined_to (front ++ t) ts
join_one front t (Ok us) = ap limited_text (sym (append_assoc front t (concat us)))
join_one front t (Err e) = refl

pub join_next : (front t : List ℕ) (v : Value) (vs : List Value) → to_text v ≡ Ok t → joined_to front (map_until_error to_text (v ∷ vs)) ≡ joined_to (front ++ t) (map_until_error to_text vs)
join_next front t v vs e = ap (λ r. joined_to front (and_then (λ y. and_then (λ ys. Ok (y ∷ ys)) (map_until_error to_text vs)) r)) e ∙ join_one front t (map_until_error to_text vs)

pub join_stops : (front : List ℕ) (v : Value) (vs : List Value) (e : ErrorKind) → to_text v ≡ Err e → joined_to front (map_until_error to_text (v ∷ vs)) ≡ Fault e
join_stops front v vs e h = ap (λ r. joined_to front (and_then (λ y. and_then (λ ys. Ok (y ∷ ys)) (map_until_error to_text vs)) r)) h

-- the next of the values, and those behind it
left_to_join : (front : List ℕ) (vs : List Value) (i : ℕ) (v : Value) → i < length vs → v ≡ get_or vs i v
    → joined_to front (map_until_error to_text (drop i vs)) ≡ joined_to front (map_until_error to_text (v ∷ drop (i + 1) vs))
left_to_join front vs i v l e =
    ap (λ (xs : List Value). joined_to front (map_until_error to_text xs)) (drop_more vs i v l ∙ ap (λ (w : Value). w ∷ drop (i + 1) vs) (sym e))

pub joined_more : (front more : List ℕ) (vs : List Value) (i : ℕ) (v all : Value) → i < length vs → v ≡ get_or vs i v → to_text v ≡ Ok (shown_text v) → more ≡ front ++ shown_text v
    → joined_to front (map_until_error to_text (drop i vs)) ≡ all → joined_to more (map_until_error to_text (drop (i + 1) vs)) ≡ all
joined_more front more vs i v all l e t m h =
    ap (λ (us : List ℕ). joined_to us (map_until_error to_text (drop (i + 1) vs))) m
    ∙ sym (left_to_join front vs i v l e ∙ join_next front (shown_text v) v (drop (i + 1) vs) t) ∙ h

pub joined_all : (front : List ℕ) (vs : List Value) (i : ℕ) (all : Value) → length vs ≤ i → joined_to front (map_until_error to_text (drop i vs)) ≡ all → limited_text front ≡ all
joined_all front vs i all l h = sym (join_none front) ∙ ap (λ (xs : List Value). joined_to front (map_until_error to_text xs)) (sym (drop_all i vs l)) ∙ h

pub joined_stops : {S : Type 0} (front : List ℕ) (vs : List Value) (i : ℕ) (v all : Value) (stop end : NoValue S) → i < length vs → v ≡ get_or vs i v → Agrees (λ (_ : Unit {0}). shown_text v) (Err stop) (to_text v) → end ≡ stop
    → joined_to front (map_until_error to_text (drop i vs)) ≡ all → Gives (Err end) all
joined_stops {S} front vs i v all (Error k) end l e t s h =
    subst (λ (x : NoValue S). Gives (Err x) all) (sym s) (sym (join_stops front v (drop (i + 1) vs) k t) ∙ sym (left_to_join front vs i v l e) ∙ h)
joined_stops {S} front vs i v all (Stopped m) end l e t s h = subst (λ (x : NoValue S). Gives (Err x) all) (sym s) tt

pub length-repeat : (n : ℕ) (t : List ℕ) → length (repeat n t) ≡ n * length t
length-repeat zero t = omega arith
length-repeat (suc n) t = length-append t (repeat n t) ∙ ap (λ k. length t + k) (length-repeat n t) ∙ omega arith

abbrev no_bytes : List ℕ
no_bytes = []

repeat_none : (n : ℕ) → repeat n no_bytes ≡ no_bytes
repeat_none zero = refl
repeat_none (suc n) = repeat_none n

-- where n is cut to 32,768, a text so many times is too long or the same
pub too_often : (n times product : ℕ) (t : List ℕ) → times ≡ min n 32768 → product ≡ min (times * length t) (2 ^ 64 - 1) → 32767 < product → Fault BadValue ≡ limited_text (repeat n t)
too_often n times product t e f h =
    let m = sub-add-min_cancel n 32768 in
    let p = sub-add-min_cancel (times * length t) (2 ^ 64 - 1) in
    let fewer : times ≤ n = omega arith in
    let more : times * length t ≤ n * length t = mul-le-mul_right (length t) fewer in
    let long : 32767 < length (repeat n t) = omega (arith, length-repeat n t) in
    sym (rw (lt-leb (length (repeat n t)) 32767 long) refl)

same_often : (n times : ℕ) (t : List ℕ) → times ≡ min n 32768 → times * length t ≤ 32767 → repeat times t ≡ repeat n t
same_often n times [] e h = repeat_none times ∙ sym (repeat_none n)
same_often n times (x ∷ t) e h =
    let m = sub-add-min_cancel n 32768 in
    let k : times ≡ n = omega arith in
    ap (λ i. repeat i (x ∷ t)) k

pub not_too_often : (n times product : ℕ) (t text : List ℕ) → times ≡ min n 32768 → product ≡ min (times * length t) (2 ^ 64 - 1) → product ≤ 32767 → text ≡ repeat times t
    → Text text ≡ limited_text (repeat n t)
not_too_often n times product t text e f h is =
    let p = sub-add-min_cancel (times * length t) (2 ^ 64 - 1) in
    let small : times * length t ≤ 32767 = omega arith in
    let same : text ≡ repeat n t = is ∙ same_often n times t e small in
    let short : length (repeat n t) ≤ 32767 = omega (arith, length-repeat times t, ap length (same_often n times t e small)) in
    ap Text same ∙ sym (rw (le-leb (length (repeat n t)) 32767 short) refl)
