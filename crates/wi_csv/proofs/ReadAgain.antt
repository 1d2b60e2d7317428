-- What is written is read again.
use Rattle.std.specs.Prelude.{map, All, ◌≢◌}
use Rattle.std.proofs.Common.{◌≡◌, ◌==◌, ◌∷◌, ◌++◌, ◌∙◌, [], ℕ, List, Some, refl, sym, ap, subst, inl, inr, append_assoc, arith, suc}
use Rattle.std.specs.List.{flat_map, join_with_byte}
use Rattle.std.proofs.lemmas.Bool.{cases_Bool, eqb-true}
use Rattle.std.proofs.lemmas.List.Concat.{flat_map-cons}
use Rattle.csv.specs.Machine.{next_record}
use Rattle.csv.specs.Reading.{AreRecords, Reached, default_config, strip_bom}
use Rattle.csv.specs.Writing as csv
use Rattle.csv.specs.Writing.{default_writer}
use Rattle.csv.specs.declared.parser.State.{State}
use Rattle.csv.specs.declared.parser.State.TheVariants as st
use Rattle.csv.proofs.RoundTrip.{quoted-run}
use Rattle.wi_lexer.specs.Quoted.{doubled, quoted}
use Rattle.wi_csv.specs.Laws.{ReadAgain}
use Rattle.wi_csv.specs.Row.{row}
use Rattle.wi_csv.proofs.Counted.{all_read}

-- quotes are doubled as `csv` doubles them
same_escape : (field : List ℕ) → flat_map doubled field ≡ csv.escaped default_writer field
unfolding csv.escaped
same_escape [] = refl
same_escape (b ∷ rest) = flat_map-cons doubled b rest ∙ elim (cases_Bool (b == 34)) [
  | inl same ↦
      subst (λ (z : ℕ). doubled z ++ flat_map doubled rest ≡ csv.escaped default_writer (z ∷ rest)) (sym (eqb-true b 34 same)) (ap (λ t. 34 ∷ 34 ∷ t) (same_escape rest))
  | inr other ↦ rw other (ap (λ t. b ∷ t) (same_escape rest))
]

quoted_text : (x tail : List ℕ) → quoted x ++ tail ≡ 34 ∷ (csv.escaped default_writer x ++ (34 ∷ tail))
quoted_text x tail = ap (λ t. 34 ∷ t) (append_assoc (flat_map doubled x) (34 ∷ []) tail ∙ ap (λ t. t ++ 34 ∷ tail) (same_escape x))

-- a field is read from quote to quote
field_run : (fields : List (List ℕ)) (x tail : List ℕ)
    → next_record default_config st.StartField fields [] (quoted x ++ tail) ≡ next_record default_config st.AfterQuote fields x tail
unfolding next_record
field_run fields x tail = ap (next_record default_config st.StartField fields []) (quoted_text x tail) ∙ quoted-run fields [] x tail

-- and a record to its CR
record_run : (fields : List (List ℕ)) (x : List ℕ) (rest : List (List ℕ)) (tail : List ℕ)
    → next_record default_config st.StartField fields [] (join_with_byte 44 (map quoted (x ∷ rest)) ++ 13 ∷ tail) ≡ Some (fields ++ x ∷ rest, st.AfterCr, tail)
unfolding next_record
record_run fields x [] tail = field_run fields x (13 ∷ tail)
record_run fields x (y ∷ ys) tail =
    let more = join_with_byte 44 (map quoted (y ∷ ys)) in
    ap (next_record default_config st.StartField fields []) (append_assoc (quoted x) (44 ∷ more) (13 ∷ tail))
    ∙ field_run fields x (44 ∷ (more ++ 13 ∷ tail))
    ∙ record_run (fields ++ x ∷ []) y ys tail
    ∙ ap (λ (r : List (List ℕ)). Some (r, st.AfterCr, tail)) (append_assoc fields (x ∷ []) (y ∷ ys))

-- a record begins with a quote
head : (x : List ℕ) (rest : List (List ℕ)) → (t : List ℕ) × (join_with_byte 44 (map quoted (x ∷ rest)) ≡ 34 ∷ t)
head x [] = (_, refl)
head x (y ∷ ys) = (_, refl)

row_run : (x : List ℕ) (rest : List (List ℕ)) (tail : List ℕ)
    → next_record default_config st.StartRecord [] [] (row (x ∷ rest) ++ tail) ≡ Some (x ∷ rest, st.AfterCr, 10 ∷ tail)
unfolding next_record row
row_run x rest tail =
    let joined = join_with_byte 44 (map quoted (x ∷ rest)) in
    let (t, e) = head x rest in
    let text : (joined ++ 13 ∷ 10 ∷ []) ++ tail ≡ (34 ∷ t) ++ 13 ∷ 10 ∷ tail = append_assoc joined (13 ∷ 10 ∷ []) tail ∙ ap (λ j. j ++ 13 ∷ 10 ∷ tail) e in
    ap (next_record default_config st.StartRecord [] []) text
    ∙ ap (next_record default_config st.StartField [] []) (sym (ap (λ j. j ++ 13 ∷ 10 ∷ tail) e))
    ∙ record_run [] x rest (10 ∷ tail)

-- records from a place where the first begins
are_records : (rows : List (List (List ℕ))) → All (λ fields. fields ≢ []) rows → (s : State) (xs : List ℕ)
    → next_record default_config s [] [] xs ≡ next_record default_config st.StartRecord [] [] (flat_map row rows) → AreRecords default_config s xs rows
unfolding next_record Reached
are_records [] h s xs e = (s, xs, (refl, refl), e)
are_records ([] ∷ rows) h s xs e = absurd (h 0 [] (omega arith) refl)
are_records ((x ∷ rest) ∷ rows) h s xs e =
    let after : List ℕ = 10 ∷ flat_map row rows in
    let found = e ∙ ap (next_record default_config st.StartRecord [] []) (flat_map-cons row (x ∷ rest) rows) ∙ row_run x rest (flat_map row rows) in
    let (s2, ys, reached, none) = are_records rows (λ k d l. h (suc k) d (omega (arith, l))) st.AfterCr after refl in
    (s2, ys, ((x ∷ rest, st.AfterCr, after), found, refl, reached), none)

-- no byte order mark begins with a quote
quote_first : (xs : List ℕ) → strip_bom (34 ∷ xs) ≡ 34 ∷ xs
unfolding strip_bom
quote_first [] = refl
quote_first (a ∷ []) = refl
quote_first (a ∷ b ∷ rest) = refl

unmarked : (rows : List (List (List ℕ))) → All (λ fields. fields ≢ []) rows → strip_bom (flat_map row rows) ≡ flat_map row rows
unfolding strip_bom row
unmarked [] h = refl
unmarked ([] ∷ rows) h = absurd (h 0 [] (omega arith) refl)
unmarked ((x ∷ rest) ∷ rows) h =
    let (t, e) = head x rest in
    let text : flat_map row ((x ∷ rest) ∷ rows) ≡ 34 ∷ ((t ++ 13 ∷ 10 ∷ []) ++ flat_map row rows) =
    flat_map-cons row (x ∷ rest) rows ∙ ap (λ j. (j ++ 13 ∷ 10 ∷ []) ++ flat_map row rows) e in
    ap strip_bom text ∙ quote_first _ ∙ sym text

pub read_again : ReadAgain
read_again rows h =
    let marked = unmarked rows h in
    let read = subst (λ text. AreRecords default_config st.StartRecord text rows) (sym marked) (are_records rows h st.StartRecord (flat_map row rows) refl) in
    sym (all_read (flat_map row rows) rows read)
