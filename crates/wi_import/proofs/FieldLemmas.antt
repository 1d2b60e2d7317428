-- The fields of records, as the code goes through them.
use Rattle.wi_import.proofs.Words.{◌≡◌, ◌==◌, ℕ, suc, ◌+◌, ◌<◌, ◌≤◌, nat_le, nat_lt, Bool, true, false, not, ◌||◌, if◌then◌else◌, List, [], ◌∷◌, ◌++◌, map, length, drop, get_or, Option, Some, None, is_some, Result, Ok, Err, MatchResult, is_ok, is_err, IsOk, refl, sym, ap, ◌∙◌, arith, Vec, IsUtf8, codes, Global, list_any, bytes_eq, is_utf8, or-false, nat_tests, at_drop_more, length-map, map-append, append_assoc, append-nil, drop_all, list_any-append, bytes_eq-Decides, IsUtf8-from_is_utf8, is_utf8-from_IsUtf8, or_parts, not-false, Number as Numbers, read, rows, columns, place, max_text, imported, number_or, words_value, field_value, Value, Empty, Text, Logical, constant, Content, Constant, Field, fields_of, fields_from, is_bad, is_too_long, is_outside, first_fault, fault_among, change_of, content_for, content_of, bytes_of, all_bytes, is_faulty}

-- ---- tests of bytes alone

pub any_map : {X Y : Type 0} (p : Y → Bool) (h : X → Y) (xs : List X) → list_any p (map h xs) ≡ list_any (λ x. p (h x)) xs
any_map p h [] = refl
any_map p h (x ∷ xs) = ap (λ b. p (h x) || b) (any_map p h xs)

any_of_record : (q : List ℕ → Bool) (row column : ℕ) (fields : List (List ℕ)) → list_any (λ f. q f.bytes) (fields_of row column fields) ≡ list_any q fields
any_of_record q row column [] = refl
any_of_record q row column (x ∷ xs) = ap (λ b. q x || b) (any_of_record q row (column + 1) xs)

pub any_of_records : (q : List ℕ → Bool) (row column : ℕ) (records : List (List (List ℕ)))
    → list_any (λ f. q f.bytes) (fields_from row column records) ≡ list_any (λ fields. list_any q fields) records
any_of_records q row column [] = refl
any_of_records q row column (x ∷ xs) =
    list_any-append (λ f. q f.bytes) (fields_of row column x) (fields_from (row + 1) column xs)
    ∙ ap (λ b. b || list_any (λ f. q f.bytes) (fields_from (row + 1) column xs)) (any_of_record q row column x)
    ∙ ap (λ b. list_any q x || b) (any_of_records q (row + 1) column xs)

-- ---- outside the sheet

last_outside : (column : ℕ) → nat_le columns column ≡ nat_lt columns (column + 1)
last_outside column = grind (arith, nat_tests)

either_outside : (a b c : Bool) (more : Bool) → more ≡ (a || c) → (b ≡ true → c ≡ true) → ((a || b) || more) ≡ (a || c)
either_outside true b c more e f = refl
either_outside false true c more e f = sym (f refl)
either_outside false false c more e f = e

-- a record of fields is outside where its row is, or its last column
pub record_outside : (row column : ℕ) (field : List ℕ) (others : List (List ℕ))
    → list_any is_outside (fields_of row column (field ∷ others)) ≡ (nat_le rows row || nat_lt columns (column + length (field ∷ others)))
record_outside row column field [] =
    or-false (nat_le rows row || nat_le columns column) ∙ ap (λ b. nat_le rows row || b) (last_outside column)
record_outside row column field (x ∷ xs) =
    let sizes : column + 1 + length (x ∷ xs) ≡ column + length (field ∷ x ∷ xs) = omega arith in
    either_outside (nat_le rows row) (nat_le columns column) (nat_lt columns (column + length (field ∷ x ∷ xs)))
    (list_any is_outside (fields_of row (column + 1) (x ∷ xs)))
    (record_outside row (column + 1) x xs ∙ ap (λ n. nat_le rows row || nat_lt columns n) sizes)
    (λ e. grind (arith, nat_tests, e))

-- ---- no fault

any_or : {X : Type 0} (p q : X → Bool) (xs : List X) → list_any p xs ≡ false → list_any q xs ≡ false → list_any (λ x. p x || q x) xs ≡ false
any_or p q [] e f = refl
any_or p q (x ∷ xs) e f =
    let a = or_parts (p x) (list_any p xs) e in
    let b = or_parts (q x) (list_any q xs) f in
    ap (λ c. (c || q x) || list_any (λ y. p y || q y) xs) a.0 ∙ ap (λ c. c || list_any (λ y. p y || q y) xs) b.0 ∙ any_or p q xs a.1 b.1

no_first : (a b c : Bool) → first_fault a b c ≡ None → (a ≡ false) × (b ≡ false) × (c ≡ false)
no_first true b c e = cc e
no_first false true c e = cc e
no_first false false true e = cc e
no_first false false false e = (refl, refl, refl)

-- where there is no first fault, no field has one
pub none_faulty : (fields : List Field) → fault_among fields ≡ None → list_any is_faulty fields ≡ false
none_faulty fields e =
    let h = no_first (list_any (λ f. is_bad f.bytes) fields) (list_any (λ f. is_too_long f.bytes) fields) (list_any is_outside fields) e in
    any_or (λ f. is_bad f.bytes) (λ f. is_too_long f.bytes || is_outside f) fields h.0
    (any_or (λ f. is_too_long f.bytes) is_outside fields h.1 h.2)

pub none_outside : (fields : List Field) → fault_among fields ≡ None → list_any is_outside fields ≡ false
none_outside fields e =
    (no_first (list_any (λ f. is_bad f.bytes) fields) (list_any (λ f. is_too_long f.bytes) fields) (list_any is_outside fields) e).2

pub not_faulty : (f : Field) → is_faulty f ≡ false → (is_bad f.bytes ≡ false) × (is_too_long f.bytes ≡ false) × (is_outside f ≡ false)
not_faulty f e =
    let h = or_parts (is_bad f.bytes) (is_too_long f.bytes || is_outside f) e in
    let k = or_parts (is_too_long f.bytes) (is_outside f) h.1 in
    (h.0, k.0, k.1)

-- ---- one record, one field more

-- the fields of what is left of the records, from this one on
abbrev pub fields_left : ℕ → ℕ → ℕ → List (Vec (Vec ℕ Global) Global) → List Field
fields_left row column i records = fields_from (row + i) column (all_bytes (drop i records))

pub next_record : (row column i : ℕ) (records : List (Vec (Vec ℕ Global) Global)) (fields : Vec (Vec ℕ Global) Global) → i < length records → fields ≡ get_or records i fields
    → fields_left row column i records ≡ fields_of (row + i) column (bytes_of fields.items) ++ fields_left row column (i + 1) records
next_record row column i records r l e =
    at_drop_more (λ rs. fields_from (row + i) column (all_bytes rs)) records i r l
    ∙ ap (λ x. fields_of (row + i) column (bytes_of x.items) ++ fields_from (row + i + 1) column (all_bytes (drop (i + 1) records))) (sym e)
    ∙ ap (λ n. fields_of (row + i) column (bytes_of r.items) ++ fields_from n column (all_bytes (drop (i + 1) records))) same
  where
    same : row + i + 1 ≡ row + (i + 1)
    same = omega arith

-- the fields of what is left of a record, from this one on
abbrev pub cells_left : ℕ → ℕ → ℕ → List (Vec ℕ Global) → List Field
cells_left row column j fields = fields_of row (column + j) (bytes_of (drop j fields))

-- a field of the code, in this row and column
abbrev pub field_at : ℕ → ℕ → Vec ℕ Global → Field
field_at row column field = record { row = row; column = column; bytes = field.items }

pub next_field : (row column j : ℕ) (fields : List (Vec ℕ Global)) (field : Vec ℕ Global) → j < length fields → field ≡ get_or fields j field
    → cells_left row column j fields ≡ field_at row (column + j) field ∷ cells_left row column (j + 1) fields
next_field row column j fields f l e =
    at_drop_more (λ fs. fields_of row (column + j) (bytes_of fs)) fields j f l
    ∙ ap (λ x. field_at row (column + j) x ∷ fields_of row (column + j + 1) (bytes_of (drop (j + 1) fields))) (sym e)
    ∙ ap (λ n. field_at row (column + j) f ∷ fields_of row n (bytes_of (drop (j + 1) fields))) same
  where
    same : column + j + 1 ≡ column + (j + 1)
    same = omega arith

-- ---- what the code finds of one field

-- a field is bad where it isn't read as UTF-8
pub utf8_found : {S E : Type 0} (bytes : List ℕ) (r : Result S E) (P : S → Type 0) (Q : E → Type 0) → MatchResult r P Q
    → ((s : S) → P s → IsUtf8 bytes) → ((e : E) → Q e → IsUtf8 bytes → ⊥) → is_bad bytes ≡ not (is_ok r)
utf8_found bytes (Ok s) P Q h f g = ap not (is_utf8-from_IsUtf8 bytes (f s h))
utf8_found bytes (Err e) P Q h f g = unread (is_utf8 bytes) refl
  where
    unread : (b : Bool) → is_utf8 bytes ≡ b → not (is_utf8 bytes) ≡ true
    unread true same = absurd (g e h (IsUtf8-from_is_utf8 bytes same))
    unread false same = ap not same

not_named : (text name : List ℕ) → length name < length text → (b : Bool) → bytes_eq text name ≡ b → bytes_eq text name ≡ false
not_named text name longer true e = let sizes = ap length ((bytes_eq-Decides text name).0 e) in absurd (omega (arith, longer, sizes))
not_named text name longer false e = e

no_word : (a b c : Bool) (x y z : Value) → a ≡ false → b ≡ false → c ≡ true
    → (if a then Some x else (if b then Some y else (if c then None else Some z))) ≡ None
no_word a b c x y z e f g = rw (e, f, g)

some_word : (a b c : Bool) (x y z : Value) → c ≡ false → is_some (if a then Some x else (if b then Some y else (if c then None else Some z))) ≡ true
some_word true b c x y z e = refl
some_word false true c x y z e = refl
some_word false false true x y z e = cc e
some_word false false false x y z e = refl

words_long : (text : List ℕ) → max_text < length text → words_value text ≡ None
words_long text long =
    no_word (bytes_eq text (codes "TRUE")) (bytes_eq text (codes "FALSE")) (nat_lt max_text (length text)) (Logical true) (Logical false) (Text text)
    (not_named text (codes "TRUE") (omega (arith, long)) (bytes_eq text (codes "TRUE")) refl)
    (not_named text (codes "FALSE") (omega (arith, long)) (bytes_eq text (codes "FALSE")) refl)
    (grind (arith, nat_tests, long))

words_short : (text : List ℕ) → length text ≤ max_text → is_some (words_value text) ≡ true
words_short text short =
    some_word (bytes_eq text (codes "TRUE")) (bytes_eq text (codes "FALSE")) (nat_lt max_text (length text)) (Logical true) (Logical false) (Text text)
    (grind (arith, nat_tests, short))

number_or_none : (o : Option Numbers) (w : Option Value) → w ≡ None → is_some (number_or o w) ≡ is_some o
number_or_none (Some x) w e = refl
number_or_none None w e = ap is_some e

number_or_some : (o : Option Numbers) (w : Option Value) → is_some w ≡ true → is_some (number_or o w) ≡ true
number_or_some (Some x) w e = refl
number_or_some None w e = e

-- a field of many bytes is too long where it is no number
pub long_unread : (text : List ℕ) → max_text < length text → is_too_long text ≡ not (is_some (read text))
unfolding imported
long_unread [] long = absurd (omega (arith, long))
long_unread (b ∷ bs) long = ap not (number_or_none (read (b ∷ bs)) (words_value (b ∷ bs)) (words_long (b ∷ bs) long))

pub short_fits : (text : List ℕ) → length text ≤ max_text → is_too_long text ≡ false
unfolding imported
short_fits [] short = refl
short_fits (b ∷ bs) short = ap not (number_or_some (read (b ∷ bs)) (words_value (b ∷ bs)) (words_short (b ∷ bs) short))

-- ---- what the code finds of all fields

pub any_in_records : (q : List ℕ → Bool) (row column : ℕ) (records : List (Vec (Vec ℕ Global) Global))
    → list_any (λ f. q f.bytes) (fields_from row column (all_bytes records)) ≡ list_any (λ fields. list_any (λ f. q f.items) fields.items) records
any_in_records q row column records = any_of_records q row column (all_bytes records) ∙ each records
  where
    each : (rs : List (Vec (Vec ℕ Global) Global)) → list_any (λ fields. list_any q fields) (all_bytes rs) ≡ list_any (λ fields. list_any (λ f. q f.items) fields.items) rs
    each [] = refl
    each (r ∷ rs) = ap (λ b. b || list_any (λ fields. list_any q fields) (all_bytes rs)) (any_map q (λ f. f.items) r.items) ∙ ap (λ b. list_any (λ f. q f.items) r.items || b) (each rs)

pub fields_outside : (row column : ℕ) (fields : List (Vec ℕ Global)) → (length fields == 0) ≡ false
    → list_any is_outside (fields_of row column (bytes_of fields)) ≡ (nat_le rows row || nat_lt columns (column + length fields))
fields_outside row column [] some = cc some
fields_outside row column (f ∷ fs) some =
    record_outside row column f.items (bytes_of fs)
    ∙ ap (λ n. nat_le rows row || nat_lt columns (column + suc n)) (length-map fs (λ f. f.items))

pub fields_inside : (row column : ℕ) (fields : List (Vec ℕ Global)) → (length fields == 0) ≡ false
    → list_any is_outside (fields_of row column (bytes_of fields)) ≡ false → (row < rows) × (column + length fields ≤ columns)
fields_inside row column fields some inside =
    let p = or_parts (nat_le rows row) (nat_lt columns (column + length fields)) (sym (fields_outside row column fields some) ∙ inside) in
    let a = p.0 in
    let b = p.1 in
    (grind (arith, nat_tests, a), grind (arith, nat_tests, b))

-- a test of what is left of the records is one of this record, or of what is left behind it
pub any_left : (p : Field → Bool) (row column i : ℕ) (records : List (Vec (Vec ℕ Global) Global)) (fields : Vec (Vec ℕ Global) Global) → i < length records → fields ≡ get_or records i fields
    → list_any p (fields_left row column i records) ≡ (list_any p (fields_of (row + i) column (bytes_of fields.items)) || list_any p (fields_left row column (i + 1) records))
any_left p row column i records fields l e =
    ap (list_any p) (next_record row column i records fields l e)
    ∙ list_any-append p (fields_of (row + i) column (bytes_of fields.items)) (fields_left row column (i + 1) records)

err_not_ok : {S E : Type 0} (r : Result S E) → is_err r ≡ not (is_ok r)
err_not_ok (Ok s) = refl
err_not_ok (Err e) = refl

-- a field that isn't bad is read as UTF-8
pub read_ok : {S E : Type 0} (bytes : List ℕ) (r : Result S E) → is_bad bytes ≡ not (is_ok r) → is_bad bytes ≡ false → IsOk r
read_ok bytes r found text = not-false (is_ok r) (sym found ∙ text)

pub read_err : {S E : Type 0} (bytes : List ℕ) (r : Result S E) (b : Bool) → is_bad bytes ≡ not (is_ok r) → b ≡ is_err r → b ≡ is_bad bytes
read_err bytes r b found is = is ∙ err_not_ok r ∙ sym found

pub none_found : {X : Type 0} (b : Bool) (o : Option X) → is_some o ≡ not b → b ≡ not (is_some o)
none_found true o e = ap not (sym e)
none_found false o e = ap not (sym e)

-- the first fault goes by three tests
pub first_found : (fields : List Field) (a b c : Bool) → list_any (λ f. is_bad f.bytes) fields ≡ a → list_any (λ f. is_too_long f.bytes) fields ≡ b
    → list_any is_outside fields ≡ c → first_fault a b c ≡ fault_among fields
first_found fields a b c e f g = rw (e, f, g)

-- ---- what the code's turns keep

parts_left : (p : Field → Bool) (row column i : ℕ) (records : List (Vec (Vec ℕ Global) Global)) (fields : Vec (Vec ℕ Global) Global) → i < length records → fields ≡ get_or records i fields
    → list_any p (fields_left row column i records) ≡ false
    → (list_any p (fields_of (row + i) column (bytes_of fields.items)) ≡ false) × (list_any p (fields_left row column (i + 1) records) ≡ false)
parts_left p row column i records fields l e h =
    or_parts (list_any p (fields_of (row + i) column (bytes_of fields.items))) (list_any p (fields_left row column (i + 1) records))
    (sym (any_left p row column i records fields l e) ∙ h)

same_fields : (row column r k i : ℕ) (now items : List (Vec ℕ Global)) → r ≡ row → k ≡ column → now ≡ items
    → fields_of (r + i) k (bytes_of now) ≡ fields_of (row + i) column (bytes_of items)
same_fields row column r k i now items a b e =
    ap (λ n. fields_of (n + i) k (bytes_of now)) a ∙ ap (λ n. fields_of (row + i) n (bytes_of now)) b ∙ ap (λ fs. fields_of (row + i) column (bytes_of fs)) e

-- what no field of what is left is, none of this record is, as the code has it
pub this_record : (p : Field → Bool) (row column r k i : ℕ) (records : List (Vec (Vec ℕ Global) Global)) (fields : Vec (Vec ℕ Global) Global) (now : List (Vec ℕ Global))
    → i < length records → fields ≡ get_or records i fields → r ≡ row → k ≡ column → now ≡ fields.items → list_any p (fields_left row column i records) ≡ false
    → list_any p (fields_of (r + i) k (bytes_of now)) ≡ false
this_record p row column r k i records fields now l e a b same h =
    ap (list_any p) (same_fields row column r k i now fields.items a b same) ∙ (parts_left p row column i records fields l e h).0

-- nor is one of the records behind it
pub later_records : (p : Field → Bool) (row column i : ℕ) (records : List (Vec (Vec ℕ Global) Global)) (fields : Vec (Vec ℕ Global) Global) → i < length records → fields ≡ get_or records i fields
    → list_any p (fields_left row column i records) ≡ false → list_any p (fields_left row column (i + 1) records) ≡ false
later_records p row column i records fields l e h = (parts_left p row column i records fields l e h).1

abbrev Changes : Type 0
Changes = List (ℕ × Option Content)

-- the changes of this record are appended, and those of what is left behind it are still to come
pub record_changed : (row column r k i : ℕ) (records : List (Vec (Vec ℕ Global) Global)) (fields : Vec (Vec ℕ Global) Global) (now : List (Vec ℕ Global)) (before after all : Changes)
    → i < length records → fields ≡ get_or records i fields → r ≡ row → k ≡ column → now ≡ fields.items
    → after ≡ before ++ map change_of (fields_of (r + i) k (bytes_of now)) → before ++ map change_of (fields_left row column i records) ≡ all
    → after ++ map change_of (fields_left row column (i + 1) records) ≡ all
record_changed row column r k i records fields now before after all l e a b same pushed whole =
    let here = fields_of (row + i) column (bytes_of fields.items) in
    let more = fields_left row column (i + 1) records in
    ap (λ xs. xs ++ map change_of more) (pushed ∙ ap (λ fs. before ++ map change_of fs) (same_fields row column r k i now fields.items a b same))
    ∙ append_assoc before (map change_of here) (map change_of more)
    ∙ ap (λ xs. before ++ xs) (sym (map-append change_of here more))
    ∙ ap (λ fs. before ++ map change_of fs) (sym (next_record row column i records fields l e))
    ∙ whole

-- the change of this field is appended, and those of what is left behind it are still to come
pub field_changed : (row column j : ℕ) (fields : List (Vec ℕ Global)) (field : Vec ℕ Global) (cell : ℕ) (content : Option Content) (before after all : Changes)
    → j < length fields → field ≡ get_or fields j field → cell ≡ place row (column + j) → content ≡ content_of field.items → after ≡ before ++ (cell, content) ∷ []
    → before ++ map change_of (cells_left row column j fields) ≡ all → after ++ map change_of (cells_left row column (j + 1) fields) ≡ all
field_changed row column j fields field cell content before after all l e a b pushed whole =
    let more = map change_of (cells_left row column (j + 1) fields) in
    ap (λ xs. xs ++ more) pushed
    ∙ append_assoc before ((cell, content) ∷ []) more
    ∙ ap (λ n. before ++ (n, content) ∷ more) a
    ∙ ap (λ o. before ++ (place row (column + j), o) ∷ more) b
    ∙ ap (λ fs. before ++ map change_of fs) (sym (next_field row column j fields field l e))
    ∙ whole

-- what no field of what is left is, none behind this one is
pub later_fields : (p : Field → Bool) (row column j : ℕ) (fields : List (Vec ℕ Global)) (field : Vec ℕ Global) → j < length fields → field ≡ get_or fields j field
    → list_any p (cells_left row column j fields) ≡ false → list_any p (cells_left row column (j + 1) fields) ≡ false
later_fields p row column j fields field l e h =
    (or_parts (p (field_at row (column + j) field)) (list_any p (cells_left row column (j + 1) fields))
    (sym (ap (list_any p) (next_field row column j fields field l e)) ∙ h)).1

-- what this field is, where none of what is left has a fault
pub this_field : (row column j : ℕ) (fields : List (Vec ℕ Global)) (field : Vec ℕ Global) → j < length fields → field ≡ get_or fields j field
    → list_any is_faulty (cells_left row column j fields) ≡ false → (is_bad field.items ≡ false) × (is_too_long field.items ≡ false) × (row < rows) × (column + j < columns)
this_field row column j fields field l e h =
    let p = or_parts (is_faulty (field_at row (column + j) field)) (list_any is_faulty (cells_left row column (j + 1) fields))
    (sym (ap (list_any is_faulty) (next_field row column j fields field l e)) ∙ h) in
    let q = not_faulty (field_at row (column + j) field) p.0 in
    let r = or_parts (nat_le rows row) (nat_le columns (column + j)) q.2 in
    let a = r.0 in
    let b = r.1 in
    (q.0, q.1, grind (arith, nat_tests, a), grind (arith, nat_tests, b))

-- before the first record all fields are left
pub all_fields_left : (row column : ℕ) (records : List (Vec (Vec ℕ Global) Global)) → fields_left row column 0 records ≡ fields_from row column (all_bytes records)
all_fields_left row column records = ap (λ n. fields_from n column (all_bytes records)) same
  where
    same : row + 0 ≡ row
    same = omega arith

pub all_cells_left : (row column : ℕ) (fields : List (Vec ℕ Global)) → cells_left row column 0 fields ≡ fields_of row column (bytes_of fields)
all_cells_left row column fields = ap (λ n. fields_of row n (bytes_of fields)) same
  where
    same : column + 0 ≡ column
    same = omega arith

pub none_changed : (row column : ℕ) (records : List (Vec (Vec ℕ Global) Global)) (changes : Changes) → changes ≡ []
    → changes ++ map change_of (fields_left row column 0 records) ≡ map change_of (fields_from row column (all_bytes records))
none_changed row column records changes e =
    ap (λ xs. xs ++ map change_of (fields_left row column 0 records)) e ∙ ap (map change_of) (all_fields_left row column records)

pub none_changed_yet : (row column : ℕ) (fields : List (Vec ℕ Global)) (changes : Changes)
    → changes ++ map change_of (cells_left row column 0 fields) ≡ changes ++ map change_of (fields_of row column (bytes_of fields))
none_changed_yet row column fields changes = ap (λ fs. changes ++ map change_of fs) (all_cells_left row column fields)

-- behind the last nothing is left
pub all_records_changed : (row column i : ℕ) (records : List (Vec (Vec ℕ Global) Global)) (changes all : Changes) → length records ≤ i
    → changes ++ map change_of (fields_left row column i records) ≡ all → changes ≡ all
all_records_changed row column i records changes all end whole =
    sym (append-nil changes) ∙ ap (λ rs. changes ++ map change_of (fields_from (row + i) column (all_bytes rs))) (sym (drop_all i records end)) ∙ whole

pub all_fields_changed : (row column j : ℕ) (fields : List (Vec ℕ Global)) (changes all : Changes) → length fields ≤ j
    → changes ++ map change_of (cells_left row column j fields) ≡ all → changes ≡ all
all_fields_changed row column j fields changes all end whole =
    sym (append-nil changes) ∙ ap (λ fs. changes ++ map change_of (fields_of row (column + j) (bytes_of fs))) (sym (drop_all j fields end)) ∙ whole

-- what a field that isn't Empty is taken for is its cell's content
pub constant_is : (bytes : List ℕ) (v : Value) → field_value bytes ≡ Some v → (v ≡ Empty → ⊥) → Some (Constant v) ≡ content_of bytes
constant_is bytes v e n = sym (ap content_for e ∙ shown v n)
  where
    shown : (w : Value) → (w ≡ Empty → ⊥) → constant w ≡ Some (Constant w)
    shown Empty m = absurd (m refl)
    shown w m = refl

pub empty_is : (bytes : List ℕ) (v : Value) → field_value bytes ≡ Some v → v ≡ Empty → None ≡ content_of bytes
empty_is bytes v e is = sym (ap content_for (e ∙ ap Some is))
