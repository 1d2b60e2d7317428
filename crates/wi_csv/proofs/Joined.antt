-- The bytes of a field, and texts joined by commas, one more at a time.
use Rattle.std.proofs.Common.{◌≡◌, ◌<◌, ◌≤◌, ◌+◌, cond, Result, Ok, Err, is_ok, OnOk, ℕ, List, [], ◌∷◌, ◌++◌, map, take, length, get_or, refl, sym, ap, ◌∙◌, append_assoc}
use Rattle.std.specs.List.{flat_map, join_with_byte}
use Rattle.std.proofs.lemmas.Grind.{flat_map-append}
use Rattle.std.proofs.lemmas.List.{take_more, take_all, map-append, append-nil}
use Rattle.wi_lexer.specs.Quoted.{doubled, quoted}
use Rattle.wi_csv.specs.Row.{row}

-- one more byte of a field is there
pub bytes_more : (field : List ℕ) (i : ℕ) (front out next : List ℕ) → i < length field → out ≡ front ++ flat_map doubled (take i field)
    → next ≡ out ++ doubled (get_or field i 0) → next ≡ front ++ flat_map doubled (take (i + 1) field)
bytes_more field i front out next lt h e =
    let cell = doubled (get_or field i 0) in
    e ∙ ap (λ o. o ++ cell) h ∙ append_assoc front (flat_map doubled (take i field)) cell
    ∙ ap (λ o. front ++ o)
    (ap (λ o. flat_map doubled (take i field) ++ o) (sym (append-nil cell)) ∙ sym (flat_map-append doubled (take i field) (get_or field i 0 ∷ [])) ∙ ap (flat_map doubled) (sym (take_more field i 0 lt)))

-- all bytes, and the last quote
pub field_done : (field : List ℕ) (n : ℕ) (before sep out next : List ℕ) → length field ≤ n → out ≡ (before ++ sep ++ 34 ∷ []) ++ flat_map doubled (take n field)
    → next ≡ out ++ 34 ∷ [] → next ≡ before ++ sep ++ quoted field
field_done field n before sep out next all h e =
    e ∙ ap (λ o. o ++ 34 ∷ []) (h ∙ ap (λ xs. (before ++ sep ++ 34 ∷ []) ++ flat_map doubled xs) (take_all n field all))
    ∙ append_assoc (before ++ sep ++ 34 ∷ []) (flat_map doubled field) (34 ∷ [])
    ∙ append_assoc (before ++ sep) (34 ∷ []) (flat_map doubled field ++ 34 ∷ [])

-- what stands before one more
abbrev pub comma : List (List ℕ) → List ℕ
comma [] = []
comma (x ∷ xs) = 44 ∷ []

pub join_push : (xs : List (List ℕ)) (x : List ℕ) → join_with_byte 44 (xs ++ x ∷ []) ≡ join_with_byte 44 xs ++ (comma xs ++ x)
join_push [] x = refl
join_push (y ∷ []) x = refl
join_push (y ∷ z ∷ zs) x = ap (λ t. y ++ (44 ∷ t)) (join_push (z ∷ zs) x) ∙ sym (append_assoc y (44 ∷ join_with_byte 44 (z ∷ zs)) (44 ∷ x))

-- the first fields of a record, each in quotes
abbrev pub done : {F : Type 0} → (F → List ℕ) → List F → ℕ → List (List ℕ)
done text fields n = map quoted (map text (take n fields))

done_more : {F : Type 0} (text : F → List ℕ) (fields : List F) (i : ℕ) (x : F) → i < length fields → x ≡ get_or fields i x
    → done text fields (i + 1) ≡ done text fields i ++ quoted (text x) ∷ []
done_more text fields i x lt is =
    ap (λ xs. map quoted (map text xs)) (take_more fields i x lt ∙ ap (λ y. take i fields ++ y ∷ []) (sym is))
    ∙ ap (map quoted) (map-append text (take i fields) (x ∷ []))
    ∙ map-append quoted (map text (take i fields)) (text x ∷ [])

-- one more field is there
pub written_more : {F : Type 0} (text : F → List ℕ) (fields : List F) (i : ℕ) (x : F) (before out sep field next : List ℕ) → i < length fields → x ≡ get_or fields i x
    → out ≡ before ++ join_with_byte 44 (done text fields i) → sep ≡ comma (done text fields i) → field ≡ text x → next ≡ out ++ sep ++ quoted field
    → next ≡ before ++ join_with_byte 44 (done text fields (i + 1))
written_more text fields i x before out sep field next lt is h k f e =
    let so_far = done text fields i in
    let cell = quoted (text x) in
    e ∙ ap (λ b. (out ++ sep) ++ quoted b) f ∙ ap (λ s. (out ++ s) ++ cell) k ∙ ap (λ o. (o ++ comma so_far) ++ cell) h
    ∙ ap (λ o. o ++ cell) (append_assoc before (join_with_byte 44 so_far) (comma so_far))
    ∙ append_assoc before (join_with_byte 44 so_far ++ comma so_far) cell
    ∙ ap (λ o. before ++ o) (append_assoc (join_with_byte 44 so_far) (comma so_far) cell
    ∙ sym (join_push so_far cell) ∙ ap (join_with_byte 44) (sym (done_more text fields i x lt is)))

comma_after : (xs : List (List ℕ)) (x : List ℕ) → 44 ∷ [] ≡ comma (xs ++ x ∷ [])
comma_after [] x = refl
comma_after (y ∷ ys) x = refl

-- a comma follows it
pub comma_more : {F : Type 0} (text : F → List ℕ) (fields : List F) (i : ℕ) (x : F) → i < length fields → x ≡ get_or fields i x
    → 44 ∷ [] ≡ comma (done text fields (i + 1))
comma_more text fields i x lt is =
    comma_after (done text fields i) (quoted (text x)) ∙ ap comma (sym (done_more text fields i x lt is))

-- all fields, and the line end
pub row_done : {F E : Type 0} (r : Result (Unit {0}) E) (text : F → List ℕ) (fields : List F) (n : ℕ) (before out next : List ℕ) → length fields ≤ n
    → out ≡ before ++ join_with_byte 44 (done text fields n) → next ≡ cond (is_ok r) (out ++ 13 ∷ 10 ∷ []) out
    → OnOk r (next ≡ before ++ row (map text fields))
unfolding row
row_done (Ok u) text fields n before out next all h k =
    k ∙ ap (λ o. o ++ 13 ∷ 10 ∷ []) (h ∙ ap (λ xs. before ++ join_with_byte 44 (map quoted (map text xs))) (take_all n fields all))
    ∙ append_assoc before (join_with_byte 44 (map quoted (map text fields))) (13 ∷ 10 ∷ [])
row_done (Err x) text fields n before out next all h k = tt
