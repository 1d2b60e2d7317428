-- One character after another comes off the front of a text.
use Rattle.wi_value_functions.proofs.Words.{◌≡◌, sym, ap, subst, ◌∙◌, ℕ, ◌+◌, ◌-◌, ◌≤◌, List, [], ◌∷◌, ◌++◌, take, drop, length, length-append, chars, arith, ⊎_elim, cases_lt, append_assoc, append_cancel_right, take-append-drop, drop_all, IsUtf8-past_char, IsUtf8-take, chars_past_char, chars-nil, chars-append, length-le-encodes, encodes-chars, IsCharBoundary-at_seam, sub-add-min_cancel, drop-drop, take-append_seam, encode_utf8, min, encode_utf8_all, Some, None, MatchOption, IsUtf8, IsCharBoundary, limited_text, of_chars, EndsWith}
use Rattle.std.specs.Prelude.{Option}

-- ---- one step

past_one : (bs later cs : List ℕ) (c i : ℕ) → IsUtf8 bs → chars bs ≡ drop i cs → bs ≡ encode_utf8 c ++ later → chars later ≡ drop (i + 1) cs
past_one bs later cs c i u e h = ap (drop 1) (sym (chars_past_char bs later c u h) ∙ e) ∙ drop-drop 1 i cs

past_none : (bs cs : List ℕ) (i : ℕ) → length bs ≡ 0 → chars bs ≡ drop i cs → chars bs ≡ drop (i + 1) cs
past_none [] cs i l e = chars-nil ∙ ap (drop 1) (sym chars-nil ∙ e) ∙ drop-drop 1 i cs
past_none (b ∷ bs) cs i l e = absurd (omega arith)

-- ---- cut between two characters

pub cut_at : (text rest : List ℕ) → EndsWith text rest → IsUtf8 rest → IsCharBoundary text (length text - length rest)
cut_at text rest w u =
    let e : length w.0 ≡ length text - length rest = omega (arith, ap length w.1, length-append w.0 rest) in
    subst (IsCharBoundary text) e (IsCharBoundary-at_seam text w.0 rest w.1 u)

pub front_chars : (text rest front : List ℕ) (n : ℕ) → EndsWith text rest → IsUtf8 text → IsUtf8 rest → chars rest ≡ drop n (chars text) → front ≡ take (length text - length rest) text
    → chars front ≡ take n (chars text)
front_chars text rest front n w u v e f =
    let m : length w.0 ≡ length text - length rest = omega (arith, ap length w.1, length-append w.0 rest) in
    let is : front ≡ w.0 = f ∙ ap (λ k. take k text) (sym m) ∙ ap (take (length w.0)) w.1 ∙ take-append_seam w.0 rest in
    let fronted : IsUtf8 front = subst IsUtf8 (sym f) (IsUtf8-take text (length text - length rest) u (cut_at text rest w v)) in
    let whole : text ≡ front ++ rest = w.1 ∙ ap (λ x. x ++ rest) (sym is) in
    append_cancel_right (chars front) (take n (chars text)) (drop n (chars text))
    (ap (λ x. chars front ++ x) (sym e) ∙ sym (chars-append front rest fronted) ∙ ap chars (sym whole) ∙ sym (take-append-drop n (chars text)))

-- what is left of a text when one character more is taken off
pub further : (text bs later : List ℕ) (c : ℕ) → EndsWith text bs → bs ≡ encode_utf8 c ++ later → EndsWith text later
further text bs later c w h = (w.0 ++ encode_utf8 c, w.1 ∙ ap (λ x. w.0 ++ x) h ∙ sym (append_assoc w.0 (encode_utf8 c) later))

-- the text of some of its characters
pub spelled : (bs cs : List ℕ) → IsUtf8 bs → chars bs ≡ cs → limited_text bs ≡ of_chars cs
spelled bs cs u e = ap limited_text (sym (encodes-chars bs u) ∙ ap encode_utf8_all e)

-- ---- the loop

-- a step of the characters keeps what is known of the rest
pub advance : {S : Type 0} (rest : S → List ℕ) (text : List ℕ) (i : ℕ) (s t : S) (r : Option ℕ) → (chars (rest s) ≡ drop i (chars text)) × IsUtf8 (rest s) × EndsWith text (rest s)
    → MatchOption r ((length (rest s) ≡ 0) × (t ≡ s)) (λ c. rest s ≡ encode_utf8 c ++ rest t)
    → (chars (rest t) ≡ drop (i + 1) (chars text)) × IsUtf8 (rest t) × EndsWith text (rest t)
advance {S} rest text i s t None inv m =
    subst (λ (x : S). (chars (rest x) ≡ drop (i + 1) (chars text)) × IsUtf8 (rest x) × EndsWith text (rest x)) (sym m.1)
    (past_none (rest s) (chars text) i m.0 inv.0, inv.1, inv.2)
advance {S} rest text i s t (Some c) inv m =
    (past_one (rest s) (rest t) (chars text) c i inv.1 inv.0 m, IsUtf8-past_char (rest s) (rest t) c inv.1 m, further text (rest s) (rest t) c inv.2 m)

-- no text has more characters than bytes
pub few_chars : (bs : List ℕ) → IsUtf8 bs → length (chars bs) ≤ length bs
few_chars bs u = omega (arith, length-le-encodes (chars bs), ap length (encodes-chars bs u))

pub at_end : (bs : List ℕ) (count i : ℕ) → IsUtf8 bs → i ≡ min count (length bs) → drop i (chars bs) ≡ drop count (chars bs)
at_end bs count i u e =
    let m = sub-add-min_cancel count (length bs) in
    let few = few_chars bs u in
    ⊎_elim
    (λ l. drop_all i (chars bs) (omega arith) ∙ sym (drop_all count (chars bs) (omega arith)))
    (λ l. let k : i ≡ count = omega arith in ap (λ n. drop n (chars bs)) k)
    (cases_lt (length bs) count)
