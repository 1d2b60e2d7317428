-- The records of a change list tell it.
use Rattle.wi_scenarios.proofs.Words.{◌≡◌, ◌≢◌, ◌∙◌, ℕ, zero, suc, ◌+◌, ◌<◌, ◌≤◌, Bool, true, false, not, cond_both, List, [], ◌∷◌, map, get_or, Result, Ok, refl, sym, ap, arith, bytes_eq, both_ways, same_Some, bytes_eq-Decides, AllByRecursion, range_with_len, All-map, flat_map-map, address_text, read_address, imported, error_name, logical_name, shown_text, AddressFault, ErrorKind, NotAvailable, DivisionByZero, UnknownName, BadNumber, BadReference, BadValue, Circular, Value, Empty, Number, Text, Logical, Fault, numbers_read_back, addresses_read_back, recs, row, read_again, sheet_size, value_in, same_value, kind_text, change_records, State, current_session, shown_to, change_list, change_fields, RecordsTellList, Changes, IsStep, filter}

-- ---- one change

one_ok : (a b : ℕ) → ◌≡◌ {A = Result ℕ AddressFault} (Ok a) (Ok b) → a ≡ b
one_ok a b h = cc

one_address : (a b : ℕ) → a < sheet_size → b < sheet_size → address_text a ≡ address_text b → a ≡ b
unfolding sheet_size
one_address a b l m e = one_ok a b (sym (addresses_read_back a l) ∙ ap read_address e ∙ addresses_read_back b m)

unequal : (xs ys : List ℕ) → bytes_eq xs ys ≡ false → xs ≡ ys → ⊥
unequal xs ys e h = both_ways (bytes_eq xs ys) e ((bytes_eq-Decides xs ys).1 h)

one_logical : (b c : Bool) → logical_name b ≡ logical_name c → b ≡ c
one_logical true true h = refl
one_logical false false h = refl
one_logical b c h = absurd (unequal (logical_name b) (logical_name c) refl h)

one_error : (d e : ErrorKind) → error_name d ≡ error_name e → d ≡ e
one_error NotAvailable NotAvailable h = refl
one_error DivisionByZero DivisionByZero h = refl
one_error UnknownName UnknownName h = refl
one_error BadNumber BadNumber h = refl
one_error BadReference BadReference h = refl
one_error BadValue BadValue h = refl
one_error Circular Circular h = refl
one_error d e h = absurd (unequal (error_name d) (error_name e) refl h)

one_value : (v w : Value) → kind_text v ≡ kind_text w → shown_text v ≡ shown_text w → v ≡ w
unfolding shown_text
one_value Empty Empty h k = refl
one_value (Number x) (Number y) h k = same_Some (Number x) (Number y) (sym (numbers_read_back x) ∙ ap imported k ∙ numbers_read_back y)
one_value (Text t) (Text u) h k = ap Text k
one_value (Logical b) (Logical c) h k = ap Logical (one_logical b c k)
one_value (Fault d) (Fault e) h k = ap Fault (one_error d e k)
one_value v w h k = absurd (unequal (kind_text v) (kind_text w) refl h)

-- ---- lists

abbrev AreBelow : ℕ → List (ℕ × Value) → Type 0
AreBelow high es = AllByRecursion (λ (e : ℕ × Value). e.0 < high) es

abbrev AreInSheet : List (ℕ × Value) → Type 0
AreInSheet es = AreBelow sheet_size es

heads : {X : Type 0} (x y : X) (xs ys : List X) → x ∷ xs ≡ y ∷ ys → x ≡ y
heads x y xs ys h = cc

tails : {X : Type 0} (x y : X) (xs ys : List X) → x ∷ xs ≡ y ∷ ys → xs ≡ ys
tails x y xs ys h = cc

one_change : (d e : ℕ × Value) → d.0 < sheet_size → e.0 < sheet_size → change_fields d ≡ change_fields e → d ≡ e
one_change (a, v) (b, w) l m h =
    let rest = tails (address_text a) (address_text b) (kind_text v ∷ shown_text v ∷ []) (kind_text w ∷ shown_text w ∷ []) h in
    let address : a ≡ b = one_address a b l m (heads (address_text a) (address_text b) (kind_text v ∷ shown_text v ∷ []) (kind_text w ∷ shown_text w ∷ []) h) in
    let kind = heads (kind_text v) (kind_text w) (shown_text v ∷ []) (shown_text w ∷ []) rest in
    let text = heads (shown_text v) (shown_text w) [] [] (tails (kind_text v) (kind_text w) (shown_text v ∷ []) (shown_text w ∷ []) rest) in
    let value : v ≡ w = one_value v w kind text in
    ap (λ (x : ℕ). (x, v)) address ∙ ap (λ (x : Value). (b, x)) value

one_list : (ds es : List (ℕ × Value)) → AreInSheet ds → AreInSheet es → map change_fields ds ≡ map change_fields es → ds ≡ es
one_list [] [] k l h = refl
one_list [] (e ∷ es) k l h = cc
one_list (d ∷ ds) [] k l h = cc
one_list (d ∷ ds) (e ∷ es) k l h =
    ap (λ (x : ℕ × Value). x ∷ ds) (one_change d e k.0 l.0 (heads (change_fields d) (change_fields e) (map change_fields ds) (map change_fields es) h))
    ∙ ap (λ (xs : List (ℕ × Value)). e ∷ xs) (one_list ds es k.1 l.1 (tails (change_fields d) (change_fields e) (map change_fields ds) (map change_fields es) h))

-- what has changed are cells of the sheet
within : (p : ℕ → Bool) (f : ℕ → Value) (n a high : ℕ) → a + n ≤ high → AreBelow high (map (λ c. (c, f c)) (filter p (range_with_len a n)))
within p f zero a high l = tt
within p f (suc n) a high l =
    let rest = within p f n (a + 1) high (omega (arith, l)) in
    cond_both (p a) (a ∷ filter p (range_with_len (a + 1) n)) (filter p (range_with_len (a + 1) n)) (λ (cs : List ℕ). AreBelow high (map (λ c. (c, f c)) cs))
    (λ h. (omega (arith, l), rest)) (λ h. rest)

in_sheet : (s : State) → AreInSheet (change_list s)
in_sheet s =
    let x = current_session s in
    within (λ a. not (same_value (value_in x.picture a) (shown_to s x a))) (shown_to s x) sheet_size 0 sheet_size (let e : 0 + sheet_size ≤ sheet_size = omega arith in e)

-- ---- records

records_read : (es : List (ℕ × Value)) → recs (change_records es) ≡ map change_fields es
records_read es =
    ap recs (sym (flat_map-map row change_fields es))
    ∙ read_again (map change_fields es) (All-map (λ (fields : List (List ℕ)). fields ≢ []) change_fields es (λ k d l. some (get_or es k d)))
  where
    some : (e : ℕ × Value) → change_fields e ≢ []
    some e h = cc

pub records_tell_list : (s t : State) (records : List ℕ) → IsStep s Changes (Ok (t, records)) → RecordsTellList IsStep Changes s records
records_tell_list s t records h =
    let same : change_records (change_list s) ≡ records = sym (ap (λ (d : State × List ℕ). d.1) h.1) in
    record {
      read = ap recs (sym same) ∙ records_read (change_list s);
      one = λ r u k.
          let other : change_records (change_list r) ≡ records = sym (ap (λ (d : State × List ℕ). d.1) k.1) in
          one_list (change_list r) (change_list s) (in_sheet r) (in_sheet s)
          (sym (records_read (change_list r)) ∙ ap recs (other ∙ sym same) ∙ records_read (change_list s));
    }
