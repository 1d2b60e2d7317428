-- Each text is taken for one thing: for what is imported.
use Rattle.wi_values.proofs.Words.{◌≡◌, ◌≢◌, ◌↔◌, ℕ, Bool, true, false, nat_lt, List, length, Option, Some, None, if◌then◌else◌, refl, sym, ap, ◌∙◌, subst, arith, codes, nat_tests, bytes_eq-Decides, bytes_eq, Number as Numbers, read, read_size, reads_what_is_spelled, Value, Text, Logical, max_text, words_value, number_or, imported, SpellsNumber, IsWords, IsImported, a_number, a_truth_value, a_text, too_long, logical_name}

-- ---- numbers

pub number_spelled : (text : List ℕ) (x : Numbers) → read text ≡ Some x → SpellsNumber text x
number_spelled text x e =
    let s = reads_what_is_spelled.spelled text x e in
    (s.0, s.1, s.2, sym (reads_what_is_spelled.value text s.0 s.1 s.2) ∙ e)

pub number_read : (text : List ℕ) (x : Numbers) → SpellsNumber text x → read text ≡ Some x
number_read text x s = reads_what_is_spelled.value text s.0 s.1 s.2 ∙ s.3

-- the number that a text spells
abbrev pub the_number : (text : List ℕ) → (o : Option Numbers) × ((x : Numbers) → SpellsNumber text x ↔ (o ≡ Some x))
the_number text = (read text, λ x. (number_read text x, number_spelled text x))

nothing_spelled : (text : List ℕ) → read text ≡ None → (x : Numbers) → SpellsNumber text x → ⊥
nothing_spelled text e x s = let f = number_read text x s in cc

nothing_read : (text : List ℕ) → ((x : Numbers) → SpellsNumber text x → ⊥) → (o : Option Numbers) → read text ≡ o → read text ≡ None
nothing_read text h None e = e
nothing_read text h (Some x) e = absurd (h x (number_spelled text x e))

-- ---- words

abbrev short_or_none : List ℕ → Option Value
short_or_none text = if nat_lt max_text (length text) then None else Some (Text text)

by_length : (text : List ℕ) → IsWords text → (b : Bool) → nat_lt max_text (length text) ≡ b → IsImported text (if b then None else Some (Text text))
by_length text w true e = too_long text w (grind (arith, nat_tests, e))
by_length text w false e = a_text text w (grind (arith, nat_tests, e))

words_imported : (text : List ℕ) → ((x : Numbers) → SpellsNumber text x → ⊥) → IsImported text (words_value text)
words_imported text no_number = by_true (bytes_eq text (codes "TRUE")) refl
  where
    by_false : text ≢ codes "TRUE" → (b : Bool) → bytes_eq text (codes "FALSE") ≡ b → IsImported text (if b then Some (Logical false) else short_or_none text)
    by_false other true e = subst (λ t. IsImported t (Some (Logical false))) (sym ((bytes_eq-Decides text (codes "FALSE")).0 e)) (a_truth_value false)
    by_false other false e = by_length text (record { no_number = no_number; no_name = neither }) (nat_lt max_text (length text)) refl
      where
        neither : (b : Bool) → text ≢ logical_name b
        neither true same = other same
        neither false same = let f = (bytes_eq-Decides text (codes "FALSE")).1 same in cc

    by_true : (b : Bool) → bytes_eq text (codes "TRUE") ≡ b → IsImported text (if b then Some (Logical true) else (if bytes_eq text (codes "FALSE") then Some (Logical false) else short_or_none text))
    by_true true e = subst (λ t. IsImported t (Some (Logical true))) (sym ((bytes_eq-Decides text (codes "TRUE")).0 e)) (a_truth_value true)
    by_true false e = by_false (λ same. let f = (bytes_eq-Decides text (codes "TRUE")).1 same in cc) (bytes_eq text (codes "FALSE")) refl

pub text_imported : (text : List ℕ) → IsImported text (imported text)
unfolding imported
text_imported text = by_number (read text) refl
  where
    by_number : (o : Option Numbers) → read text ≡ o → IsImported text (number_or o (words_value text))
    by_number (Some x) e = a_number text x (number_spelled text x e)
    by_number None e = words_imported text (nothing_spelled text e)

-- what a text is taken for
abbrev pub the_import : (text : List ℕ) → (o : Option Value) × IsImported text o
the_import text = (imported text, text_imported text)

-- ---- and for nothing else

not_named : (text name : List ℕ) → text ≢ name → (b : Bool) → bytes_eq text name ≡ b → bytes_eq text name ≡ false
not_named text name other true e = absurd (other ((bytes_eq-Decides text name).0 e))
not_named text name other false e = e

words_are : (text : List ℕ) → IsWords text → imported text ≡ short_or_none text
unfolding imported
words_are text w =
    ap (λ o. number_or o (words_value text)) (nothing_read text w.no_number (read text) refl)
    ∙ ap (λ b. if b then Some (Logical true) else (if bytes_eq text (codes "FALSE") then Some (Logical false) else short_or_none text)) (not_named text (codes "TRUE") (w.no_name true) (bytes_eq text (codes "TRUE")) refl)
    ∙ ap (λ b. if b then Some (Logical false) else short_or_none text) (not_named text (codes "FALSE") (w.no_name false) (bytes_eq text (codes "FALSE")) refl)

truth_values_are : (b : Bool) → imported (logical_name b) ≡ Some (Logical b)
unfolding imported read read_size
truth_values_are true = refl
truth_values_are false = refl

imported_is : (text : List ℕ) (o : Option Value) → IsImported text o → imported text ≡ o
unfolding imported
imported_is text o (a_number bs x s) = ap (λ n. number_or n (words_value bs)) (number_read bs x s)
imported_is text o (a_truth_value b) = truth_values_are b
imported_is text o (a_text bs w short) =
    let fits : nat_lt max_text (length bs) ≡ false = grind (arith, nat_tests, short) in
    words_are bs w ∙ ap (λ b. if b then None else Some (Text bs)) fits
imported_is text o (too_long bs w long) =
    let above : nat_lt max_text (length bs) ≡ true = grind (arith, nat_tests, long) in
    words_are bs w ∙ ap (λ b. if b then None else Some (Text bs)) above

pub imported_exactly : (text : List ℕ) (o : Option Value) → IsImported text o ↔ (imported text ≡ o)
imported_exactly text o = (imported_is text o, λ e. subst (IsImported text) e (text_imported text))
