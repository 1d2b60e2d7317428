-- A part of a line, as it stands in a buffer.
use Rattle.wi_cli.proofs.Vocabulary.{◌≡◌, ℕ, suc, ◌+◌, ◌-◌, ◌<◌, ◌≤◌, true, false, cond, eqb, List, [], ◌∷◌, ◌++◌, length, take, drop, min, get_or, refl, sym, ap, ◌∙◌, arith, append_assoc, append-nil, ⊎_elim, take_all, take_min, take-append-drop, take-append-le, length-take, get_or-take, drop_more, drop_all, false≢true, false_from_ne_true, eqb-true, cases_lt, take-append-add, Nowhere, NoneBefore, Passes, is_byte, is_whole, line_front, raw, TookPart}

-- ---- the front of a line

take_grown : (n : ℕ) (line line' content bytes : List ℕ) → line ≡ take n content → line' ≡ line ++ take (min (n - length line) (length bytes)) bytes → line' ≡ take n (content ++ bytes)
take_grown n line line' content bytes h e =
    let grown : line' ≡ line ++ take (n - length line) bytes = e ∙ ap (λ xs. line ++ xs) (take_min (n - length line) bytes) in
    ⊎_elim
    (λ (l : n < length content).
    let full : n - length line ≡ 0 = omega (arith, ap length h, length-take n content) in
    grown ∙ ap (λ k. line ++ take k bytes) full ∙ append-nil line ∙ h ∙ sym (take-append-le n content bytes (omega arith)))
    (λ (l : length content ≤ n).
    let all : line ≡ content = h ∙ take_all n content l in
    let split : n ≡ length content + (n - length line) = omega (arith, ap length all) in
    grown ∙ ap (λ xs. xs ++ take (n - length line) bytes) all
    ∙ sym (ap (λ k. take k (content ++ bytes)) split ∙ take-append-add content bytes (n - length line)))
    (cases_lt n (length content))

pub front_grown : (line line' content bytes : List ℕ) → line ≡ line_front content → line' ≡ line ++ take (min (65537 - length line) (length bytes)) bytes → line' ≡ line_front (content ++ bytes)
unfolding line_front
front_grown line line' content bytes h e = take_grown 65537 line line' content bytes h e

-- ---- the first LF

no_lf_in : (bytes : List ℕ) → Nowhere (Passes (is_byte 10) bytes) 0 (length bytes) → is_whole bytes ≡ false
no_lf_in [] h = refl
no_lf_in (b ∷ bs) h =
    ap (λ x. cond x true (is_whole bs)) (false_from_ne_true (eqb b 10) (h 0 (omega arith) (omega arith)))
    ∙ no_lf_in bs (λ k l m. h (suc k) (omega arith) (omega arith))

no_lf_before : (bytes : List ℕ) (count : ℕ) → NoneBefore (Passes (is_byte 10) bytes) 0 (length bytes) count → is_whole (take count bytes) ≡ false
no_lf_before bytes count h = no_lf_in (take count bytes) (λ k l m passes.
    let below : k < count = omega (arith, length-take count bytes) in
    h.before k l below (ap (λ b. eqb b 10) (sym (get_or-take count bytes k 0 below)) ∙ passes))

lf_at : (bytes : List ℕ) (count : ℕ) → count < length bytes → Passes (is_byte 10) bytes count → bytes ≡ raw true (take count bytes) ++ drop (count + 1) bytes
lf_at bytes count l passes =
    sym (take-append-drop count bytes)
    ∙ ap (λ xs. take count bytes ++ xs) (drop_more bytes count 0 l ∙ ap (λ b. b ∷ drop (count + 1) bytes) (eqb-true (get_or bytes count 0) 10 passes))
    ∙ sym (append_assoc (take count bytes) (10 ∷ []) (drop (count + 1) bytes))

-- how a line goes on with these bytes
abbrev pub GoesOn : List ℕ → List ℕ → List ℕ → Type 0
GoesOn line line' bytes = (content : List ℕ) → line ≡ line_front content → line' ≡ line_front (content ++ bytes)

pub up_to_lf : (buffer buffer' line line' : List ℕ) (count : ℕ) → NoneBefore (Passes (is_byte 10) buffer) 0 (length buffer) count → Passes (is_byte 10) buffer count
    → buffer' ≡ drop (count + 1) buffer → GoesOn line line' (take count buffer) → TookPart true buffer buffer' line line'
up_to_lf buffer buffer' line line' count first passes e kept = record {
  part = take count buffer;
  no_lf = no_lf_before buffer count first;
  taken = lf_at buffer count first.high passes ∙ ap (λ xs. raw true (take count buffer) ++ xs) (sym e);
  all = λ not_whole. absurd (false≢true (sym not_whole));
  kept = kept;
}

pub all_of_it : (buffer buffer' line line' : List ℕ) → Nowhere (Passes (is_byte 10) buffer) 0 (length buffer)
    → buffer' ≡ drop (length buffer) buffer → GoesOn line line' buffer → TookPart false buffer buffer' line line'
all_of_it buffer buffer' line line' none e kept =
    let empty : buffer' ≡ [] = e ∙ drop_all (length buffer) buffer (omega arith) in
    record {
      part = buffer;
      no_lf = no_lf_in buffer none;
      taken = sym (ap (λ xs. (buffer ++ []) ++ xs) empty ∙ append-nil (buffer ++ []) ∙ append-nil buffer);
      all = λ _. empty;
      kept = kept;
    }
