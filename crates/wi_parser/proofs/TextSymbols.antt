-- Each symbol of a formula's text is one that a text can have.
use Rattle.wi_parser.proofs.Words.{◌≡◌, ℕ, ◌-◌, ◌*◌, ◌<◌, ◌≤◌, Bool, true, false, ◌&&◌, nat_lt, nat_le, List, [], ◌∷◌, All, codes, Option, Some, None, option_map, refl, ap, ap₂, ◌∙◌, subst, arith, if◌then◌else◌, and_parts, ltb-true, leb-true, lt-ltb, nat_tests, All-nil, All-cons, All-append, All-map, All-weaker, lowercase-uppercase, uppercase-uppercase, to_ascii_uppercase, list_all, digits_value, bytes_eq, str_to_ascii_lowercase, str_eq_ignore_ascii_case, Number as Numbers, read_decimal, IsUnsignedDecimal, read_decimal-numeral, columns, rows, place, letters_value, cell_at, address_at, Kind, Text, Rectangle, Mark, Name, OpenParenthesis, WrittenCell, IsName, is_name_start, is_name_part, reference_of, rectangle_of, IsToken, Tokens, AreTokens, ended, bad, more, tokens, tokens_hold, Syntax, in_capitals, number_symbol, cell_symbol, reference_symbol, corners_symbol, rectangle_symbol, mark_symbol, symbol_of, symbols_of, after_prefix, after_equals, symbols_by, formula_symbols, reference_to, name_symbol, in_sheet, bad_token, what_if_name, name, IsWritable}
use Rattle.wi_lexer.specs.declared.token.Kind.TheVariants.{Number, Reference}
use Rattle.wi_lexer.specs.declared.token.Mark as mark
use Rattle.wi_parser.specs.declared.expr.Reference as references

-- ---- numbers

number_writable : (o : Option Numbers) → ((x : Numbers) → o ≡ Some x → IsUnsignedDecimal x) → IsWritable (number_symbol o)
number_writable None h = tt
number_writable (Some x) h = h x refl

-- ---- references

-- an address that is found is in the sheet
abbrev Found : Option ℕ → Type 0
Found o = (a : ℕ) → o ≡ Some a → nat_lt a (rows * columns) ≡ true

-- the row and the column are in the sheet, each counted from 1
abbrev has_row : ℕ → Bool
has_row row = nat_lt 0 row && nat_le row rows

abbrev has_column : ℕ → Bool
has_column column = nat_lt 0 column && nat_le column columns

place_found : (row column : ℕ) → has_row row ≡ true → has_column column ≡ true → nat_lt (place (row - 1) (column - 1)) (rows * columns) ≡ true
place_found row column h e =
    let r = and_parts (nat_lt 0 row) (nat_le row rows) h in
    let c = and_parts (nat_lt 0 column) (nat_le column columns) e in
    let some_row : 0 < row = ltb-true 0 row r.0 in
    let last_row : row ≤ rows = leb-true row rows r.1 in
    let some_column : 0 < column = ltb-true 0 column c.0 in
    let last_column : column ≤ columns = leb-true column columns c.1 in
    lt-ltb (place (row - 1) (column - 1)) (rows * columns) (omega arith)

cell_found : (row column : ℕ) → Found (cell_at row column)
cell_found row column = go (has_row row && has_column column) refl
  where
    go : (b : Bool) → (has_row row && has_column column) ≡ b → Found (if b then Some (place (row - 1) (column - 1)) else None)
    go true t a e =
        let h = and_parts (has_row row) (has_column column) t in
        let same : place (row - 1) (column - 1) ≡ a = cc in
        subst (λ n. nat_lt n (rows * columns) ≡ true) same (place_found row column h.0 h.1)
    go false t a e = cc

address_found : (letters digits : List ℕ) → Found (address_at letters digits)
unfolding address_at
address_found letters digits = cell_found (digits_value 10 digits) (letters_value letters)

-- a reference that is found is to a cell of the sheet
abbrev Inside : Option references.Reference → Type 0
Inside o = (r : references.Reference) → o ≡ Some r → in_sheet r ≡ true

inside_of : (c b : Bool) (o : Option ℕ) → Found o → Inside (option_map (λ a. record { at = a; column_is_absolute = c; row_is_absolute = b }) o)
inside_of c b None h r e = cc
inside_of c b (Some a) h r e =
    let at_is : a ≡ r.at = cc in
    subst (λ n. nat_lt n (rows * columns) ≡ true) at_is (h a refl)

reference_inside : (c : WrittenCell) → Inside (reference_to c)
reference_inside c = inside_of c.column_is_absolute c.row_is_absolute (address_at c.letters c.digits) (address_found c.letters c.digits)

cell_writable : (o : Option references.Reference) → Inside o → IsWritable (cell_symbol o)
cell_writable None h = tt
cell_writable (Some r) h = h r refl

reference_writable : (o : Option WrittenCell) → IsWritable (reference_symbol o)
reference_writable None = tt
reference_writable (Some c) = cell_writable (reference_to c) (reference_inside c)

corners_writable : (o p : Option references.Reference) → Inside o → Inside p → IsWritable (corners_symbol o p)
corners_writable None p h e = tt
corners_writable (Some c) None h e = tt
corners_writable (Some c) (Some d) h e = (h c refl, e d refl)

rectangle_writable : (o : Option (WrittenCell × WrittenCell)) → IsWritable (rectangle_symbol o)
rectangle_writable None = tt
rectangle_writable (Some p) = corners_writable (reference_to p.0) (reference_to p.1) (reference_inside p.0) (reference_inside p.1)

-- ---- marks

mark_writable : (m : mark.Mark) → IsWritable (mark_symbol m)
mark_writable OpenParenthesis = tt
mark_writable m = tt

-- ---- names

twice_capitals : (bs : List ℕ) → in_capitals (in_capitals bs) ≡ in_capitals bs
twice_capitals [] = refl
twice_capitals (b ∷ bs) = ap₂ (λ c cs. c ∷ cs) (uppercase-uppercase b) (twice_capitals bs)

small_capitals : (bs : List ℕ) → str_to_ascii_lowercase (in_capitals bs) ≡ str_to_ascii_lowercase bs
small_capitals [] = refl
small_capitals (b ∷ bs) = ap₂ (λ c cs. c ∷ cs) (lowercase-uppercase b) (small_capitals bs)

same_in_capitals : (bs cs : List ℕ) → str_eq_ignore_ascii_case (in_capitals bs) cs ≡ str_eq_ignore_ascii_case bs cs
same_in_capitals bs cs = ap (λ l. bytes_eq l (str_to_ascii_lowercase cs)) (small_capitals bs)

start_in_capitals : (b : ℕ) → is_name_start b ≡ true → is_name_start (to_ascii_uppercase b) ≡ true
start_in_capitals b h = grind (arith, nat_tests)

part_in_capitals : (b : ℕ) → is_name_part b ≡ true → is_name_part (to_ascii_uppercase b) ≡ true
part_in_capitals b h = grind (arith, nat_tests)

parts_in_capitals : (bs : List ℕ) → list_all is_name_part bs ≡ true → list_all is_name_part (in_capitals bs) ≡ true
parts_in_capitals [] h = refl
parts_in_capitals (b ∷ bs) h =
    let e = and_parts (is_name_part b) (list_all is_name_part bs) h in
    ap₂ (λ x y. x && y) (part_in_capitals b e.0) (parts_in_capitals bs e.1)

name_in_capitals : (bs : List ℕ) → IsName bs → IsName (in_capitals bs)
name_in_capitals [] n = n
name_in_capitals (b ∷ bs) n = record { start = start_in_capitals b n.start; parts = parts_in_capitals (b ∷ bs) n.parts }

name_writable : (bs : List ℕ) → IsName bs → IsWritable (name_symbol bs)
name_writable bs n = go (str_eq_ignore_ascii_case bs (codes "MULTIPLE.OPERATIONS")) refl
  where
    go : (b : Bool) → str_eq_ignore_ascii_case bs (codes "MULTIPLE.OPERATIONS") ≡ b → IsWritable (if b then what_if_name else name (in_capitals bs))
    go true e = tt
    go false e = record {
      name = name_in_capitals bs n;
      capitals = twice_capitals bs;
      other = same_in_capitals bs (codes "MULTIPLE.OPERATIONS") ∙ e;
    }

-- ---- tokens

pub token_writable : (k : Kind) (bs : List ℕ) → IsToken k bs → IsWritable (symbol_of k bs)
token_writable Number bs h = number_writable (read_decimal bs) (read_decimal-numeral bs)
token_writable Text bs h = tt
token_writable Reference bs h = reference_writable (reference_of bs)
token_writable Rectangle bs h = rectangle_writable (rectangle_of bs)
token_writable (Mark m) bs h = mark_writable m
token_writable Name bs h = name_writable bs h

abbrev IsOne : Kind × List ℕ → Type 0
IsOne t = IsToken t.0 t.1

each_is_one : {text : List ℕ} {ts : Tokens} → AreTokens text ts → All IsOne ts.found
each_is_one (ended text none) = All-nil IsOne
each_is_one (bad text some none) = All-nil IsOne
each_is_one (more text k n ts longest rest) = All-cons IsOne _ ts.found longest.token (each_is_one rest)

bad_writable : (b : Bool) → All IsWritable (if b then bad_token Syntax ∷ [] else [])
bad_writable true = All-cons IsWritable (bad_token Syntax) [] tt (All-nil IsWritable)
bad_writable false = All-nil IsWritable

tokens_writable : (text : List ℕ) → All IsWritable (symbols_of (tokens text))
tokens_writable text =
    let ts = tokens text in
    let found = All-weaker IsOne (λ t. IsWritable (symbol_of t.0 t.1)) (λ t h. token_writable t.0 t.1 h) ts.found (each_is_one (tokens_hold text)) in
    All-append IsWritable _ _ (All-map IsWritable (λ t. symbol_of t.0 t.1) ts.found found) (bad_writable ts.bad)

-- ---- the text

by_writable : (text : List ℕ) (o : Option (List ℕ)) → All IsWritable (symbols_by text o)
by_writable text (Some body) = tokens_writable body
by_writable text None = All-cons IsWritable (bad_token Syntax) _ tt (tokens_writable text)

pub text_writable : (text : List ℕ) → All IsWritable (formula_symbols text)
unfolding formula_symbols
text_writable text = by_writable (after_prefix text) (after_equals text)
