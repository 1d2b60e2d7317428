-- The first place of a text by its bytes is the first by its characters.
use Rattle.wi_value_functions.proofs.Words.{◌≡◌, refl, sym, ap, subst, ◌∙◌, ℕ, zero, suc, ◌+◌, ◌≤◌, ◌<◌, Bool, true, false, List, ◌++◌, take, drop, length, length-append, chars, arith, false_from_ne_true, take-append-drop, take-append-le, length-take, length-drop, bytes_eq-Decides, IsUtf8-take, chars-append, length-le-encodes, encodes-chars, encodes-append, take-append_seam, drop-append_seam, starts_with, range_with_len, nat_eq, find, encode_utf8_all, Some, None, IsUtf8, IsCharBoundary, LacksTextAt, first_position}

-- ---- the first of some numbers that passes a test

find_some : (test : ℕ → Bool) (m a k : ℕ) → k < m → test (a + k) ≡ true → ((j : ℕ) → j < k → test (a + j) ≡ false) → find test (range_with_len a m) ≡ Some (a + k)
find_some test zero a k l t f = absurd (omega arith)
find_some test (suc m) a zero l t f =
    let e : a + 0 ≡ a = omega arith in
    rw (subst (λ i. test i ≡ true) e t) (ap Some (sym e))
find_some test (suc m) a (suc k) l t f =
    let z : a + 0 ≡ a = omega arith in
    let e : a + suc k ≡ a + 1 + k = omega arith in
    rw (subst (λ i. test i ≡ false) z (f 0 (omega arith)))
    (find_some test m (a + 1) k (omega arith) (subst (λ i. test i ≡ true) e t) (λ j h. let d : a + suc j ≡ a + 1 + j = omega arith in subst (λ i. test i ≡ false) d (f (suc j) (omega arith)))
    ∙ ap Some (sym e))

find_none : (test : ℕ → Bool) (m a : ℕ) → ((j : ℕ) → j < m → test (a + j) ≡ false) → find test (range_with_len a m) ≡ None
find_none test zero a f = refl
find_none test (suc m) a f =
    let z : a + 0 ≡ a = omega arith in
    rw (subst (λ i. test i ≡ false) z (f 0 (omega arith)))
    (find_none test m (a + 1) (λ j h. let d : a + suc j ≡ a + 1 + j = omega arith in subst (λ i. test i ≡ false) d (f (suc j) (omega arith))))

-- ---- bytes and characters

-- where the j-th character begins
abbrev offset : ℕ → List ℕ → ℕ
offset j cs = length (encode_utf8_all (take j cs))

from_offset : (j : ℕ) (cs : List ℕ) → drop (offset j cs) (encode_utf8_all cs) ≡ encode_utf8_all (drop j cs)
from_offset j cs =
    ap (drop (offset j cs)) (ap encode_utf8_all (sym (take-append-drop j cs)) ∙ encodes-append (take j cs) (drop j cs))
    ∙ drop-append_seam (encode_utf8_all (take j cs)) (encode_utf8_all (drop j cs))

-- where the bytes lack the text, so do the characters
lacks : (ns cs : List ℕ) (j : ℕ) → LacksTextAt (encode_utf8_all ns) (encode_utf8_all cs) (offset j cs) → starts_with nat_eq (drop j cs) ns ≡ false
lacks ns cs j none = false_from_ne_true (starts_with nat_eq (drop j cs) ns) (λ t.
    let is : ns ≡ take (length ns) (drop j cs) = (bytes_eq-Decides ns (take (length ns) (drop j cs))).0 t in
    let more = drop (length ns) (drop j cs) in
    let split : drop j cs ≡ ns ++ more = sym (take-append-drop (length ns) (drop j cs)) ∙ ap (λ x. x ++ more) (sym is) in
    none (encode_utf8_all more) (from_offset j cs ∙ ap encode_utf8_all split ∙ encodes-append ns more))

-- the text stands behind the characters of what is before it
stands : (fs ns ms : List ℕ) → starts_with nat_eq (drop (length fs) (fs ++ (ns ++ ms))) ns ≡ true
stands fs ns ms =
    ap (λ x. starts_with nat_eq x ns) (drop-append_seam fs (ns ++ ms))
    ∙ (bytes_eq-Decides ns (take (length ns) (ns ++ ms))).1 (sym (take-append_seam ns ms))

-- a place before a character is an offset before it
earlier : (fs gs : List ℕ) (j : ℕ) → j < length fs → offset j (fs ++ gs) < length (encode_utf8_all fs)
earlier fs gs j l =
    let same = ap encode_utf8_all (take-append-le j fs gs (omega arith)) in
    let whole = ap length (ap encode_utf8_all (sym (take-append-drop j fs)) ∙ encodes-append (take j fs) (drop j fs)) in
    let parts = length-append (encode_utf8_all (take j fs)) (encode_utf8_all (drop j fs)) in
    omega (arith, ap length same, whole, parts, length-le-encodes (drop j fs), length-drop j fs)

-- ---- the two answers

found_in : (fs ns ms : List ℕ) → ((i : ℕ) → i < length (encode_utf8_all fs) → LacksTextAt (encode_utf8_all ns) (encode_utf8_all (fs ++ (ns ++ ms))) i)
    → first_position ns (fs ++ (ns ++ ms)) ≡ Some (length fs)
found_in fs ns ms none =
    let cs = fs ++ (ns ++ ms) in
    let e : 0 + length fs ≡ length fs = omega arith in
    find_some (λ i. starts_with nat_eq (drop i cs) ns) (length cs + 1) 0 (length fs) (omega (arith, length-append fs (ns ++ ms)))
    (subst (λ i. starts_with nat_eq (drop i cs) ns ≡ true) (sym e) (stands fs ns ms))
    (λ j l. let d : 0 + j ≡ j = omega arith in subst (λ i. starts_with nat_eq (drop i cs) ns ≡ false) (sym d) (lacks ns cs j (none (offset j cs) (earlier fs (ns ++ ms) j l))))
    ∙ ap Some e

-- the text occurs nowhere
pub found_nowhere : (bs ns : List ℕ) → IsUtf8 bs → IsUtf8 ns → ((i : ℕ) → i ≤ length bs → LacksTextAt ns bs i) → first_position (chars ns) (chars bs) ≡ None
found_nowhere bs ns u v none =
    let cs = chars bs in
    find_none (λ i. starts_with nat_eq (drop i cs) (chars ns)) (length cs + 1) 0 (λ j l.
    let d : 0 + j ≡ j = omega arith in
    let inside : offset j cs ≤ length (encode_utf8_all cs) = omega (arith, ap length (ap encode_utf8_all (sym (take-append-drop j cs)) ∙ encodes-append (take j cs) (drop j cs)), length-append (encode_utf8_all (take j cs)) (encode_utf8_all (drop j cs))) in
    subst (λ i. starts_with nat_eq (drop i cs) (chars ns) ≡ false) (sym d)
    (lacks (chars ns) cs j
    (subst (λ x. LacksTextAt x (encode_utf8_all cs) (offset j cs)) (sym (encodes-chars ns v))
    (subst (λ x. LacksTextAt ns x (offset j cs)) (sym (encodes-chars bs u)) (none (offset j cs) (omega (arith, inside, ap length (encodes-chars bs u))))))))

-- the text occurs first behind these bytes
pub found_behind : (bs ns front rest : List ℕ) (p : ℕ) → IsUtf8 bs → IsUtf8 ns → IsCharBoundary bs p → front ≡ take p bs → drop p bs ≡ ns ++ rest
    → ((i : ℕ) → i < p → LacksTextAt ns bs i) → first_position (chars ns) (chars bs) ≡ Some (length (chars front))
found_behind bs ns front rest p u v b f s none =
    let fronted : IsUtf8 front = subst IsUtf8 (sym f) (IsUtf8-take bs p u b) in
    let whole : bs ≡ front ++ (ns ++ rest) = sym (take-append-drop p bs) ∙ ap (λ x. x ++ drop p bs) (sym f) ∙ ap (λ x. front ++ x) s in
    let cs : chars bs ≡ chars front ++ (chars ns ++ chars rest) = ap chars whole ∙ chars-append front (ns ++ rest) fronted ∙ ap (λ x. chars front ++ x) (chars-append ns rest v) in
    let size : length (encode_utf8_all (chars front)) ≤ p = omega (arith, ap length (encodes-chars front fronted), ap length f, length-take p bs, b.0) in
    ap (first_position (chars ns)) cs
    ∙ found_in (chars front) (chars ns) (chars rest)
    (λ i l.
    subst (λ x. LacksTextAt x (encode_utf8_all (chars front ++ (chars ns ++ chars rest))) i) (sym (encodes-chars ns v))
    (subst (λ x. LacksTextAt ns x i) (sym (encodes-chars bs u) ∙ ap encode_utf8_all cs) (none i (omega arith))))

pub fewer : (bs front : List ℕ) (p : ℕ) → IsUtf8 bs → IsCharBoundary bs p → front ≡ take p bs → length (chars front) ≤ length (chars bs)
fewer bs front p u b f =
    let fronted : IsUtf8 front = subst IsUtf8 (sym f) (IsUtf8-take bs p u b) in
    let whole : bs ≡ front ++ drop p bs = sym (take-append-drop p bs) ∙ ap (λ x. x ++ drop p bs) (sym f) in
    omega (arith, ap length (ap chars whole ∙ chars-append front (drop p bs) fronted), length-append (chars front) (chars (drop p bs)))
