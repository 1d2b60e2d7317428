-- The words that spell a cell or a rectangle, and as which they are read.
use Rattle.wi_cli.proofs.Vocabulary.{◌≡◌, ℕ, suc, ◌+◌, ◌-◌, ◌*◌, ◌<◌, Bool, true, false, ◌&&◌, ◌||◌, not, nat_lt, nat_le, ◌==◌, [], ◌∷◌, ◌++◌, take, drop, length, Option, Some, None, Err, ok_or, if◌then◌else◌, refl, sym, ap, ap₂, ◌∙◌, subst, arith, rules, tests, and_parts, take-append_seam, drop-append_seam, nat_tests, take-append-drop, both_ways, cond_both, length-prefix_len, is_ascii_alphabetic, is_ascii_digit, digit_value, list_all, prefix_len, all_ascii_digits, digits_value, digits_value_after, columns, rows, place, letters_value, is_row_number, cell_at, address_at, read_address, Shape, letters_above_zero, scan, no_letters, Cell, is_outside, address, IsAddr, addr, Bytes, spelled_cell, read_by, read_any, SameAddr, cond, get_or, Result, append_assoc, append-nil, length-append, codes, list_all-append, split_at_first, passes_at_first, position_or_len, byte, rect_of, read_rect, corners, AddressFault, CornerCells, IsRect, a_cell, two_cells, both, spelled_corners, spelled_rect, read_any_area, SameRect, position, eqb-true, none-some, same_Some}
use Rattle.wi_values.specs.declared.address.AddressFault.TheVariants.{Outside}
use Rattle.wi_values.specs.AddressReading.{read_corners as read_at_colon}

pub all_digits : (ds : Bytes) → is_row_number ds ≡ true → all_ascii_digits ds ≡ true
all_digits ds h = search (rules, tests)

cell_inside : (r c : ℕ) → (nat_le rows r || nat_le columns c) ≡ false → cell_at (r + 1) (c + 1) ≡ Some (place r c)
cell_inside r c h = grind (arith, nat_tests)

cell_outside : (r c : ℕ) → (nat_le rows r || nat_le columns c) ≡ true → cell_at (r + 1) (c + 1) ≡ None
cell_outside r c h = grind (arith, nat_tests)

there : (c : Cell) → (b : Bool) → is_outside c ≡ b → ok_or (cell_at (c.row + 1) (c.column + 1)) Outside ≡ read_by b (address c)
there c true e = rw (cell_outside c.row c.column e) refl
there c false e = rw (cell_inside c.row c.column e) refl

cell_in : (r c row column : ℕ) → r ≡ row + 1 → c ≡ column + 1 → ◌≡◌ {A = Cell} (record { row = r - 1; column = c - 1 }) (record { row = row; column = column })
cell_in r c row column e f =
    let one : r - 1 ≡ row = omega (arith, e) in
    let two : c - 1 ≡ column = omega (arith, f) in
    cc

pub spelled : (word : Bytes) (c : Cell) → IsAddr word c → spelled_cell word ≡ Some c
unfolding spelled_cell
spelled word c (addr ls ds d some letters digits column row) =
    let first : nat_lt 0 (length ls) ≡ true = grind (arith, nat_tests) in
    rw (scan ls ds letters (no_letters ds (all_digits ds digits)), take-append_seam ls ds, drop-append_seam ls ds, first, digits) (ap (λ (x : Cell). Some x) (cell_in (digits_value 10 ds) (letters_value ls) d.row d.column row column))

-- ---- a word that is read

front_letters : (bs : Bytes) → list_all is_ascii_alphabetic (take (prefix_len is_ascii_alphabetic bs) bs) ≡ true
front_letters [] = refl
front_letters (b ∷ bs) =
    let n : 1 + prefix_len is_ascii_alphabetic bs ≡ suc (prefix_len is_ascii_alphabetic bs) = omega arith in
    cond_both (is_ascii_alphabetic b) (1 + prefix_len is_ascii_alphabetic bs) 0 (λ k. list_all is_ascii_alphabetic (take k (b ∷ bs)) ≡ true)
    (λ e. rw n (rw e (front_letters bs))) (λ e. refl)

front_length : (bs : Bytes) → length (take (prefix_len is_ascii_alphabetic bs) bs) ≡ prefix_len is_ascii_alphabetic bs
front_length bs = length-prefix_len is_ascii_alphabetic bs

more_digits : (n : ℕ) (ds : Bytes) → 0 < n → 0 < digits_value_after 10 n ds
more_digits n [] h = h
more_digits n (d ∷ ds) h = more_digits (n * 10 + digit_value d) ds (omega (arith, h))

some_digits : (ds : Bytes) → is_row_number ds ≡ true → 0 < digits_value 10 ds
some_digits [] e = absurd (both_ways _ refl e)
some_digits (d ∷ ds) e =
    let all : is_ascii_digit d && all_ascii_digits ds ≡ true = search (rules, tests) in
    let first : is_ascii_digit d ≡ true = search (rules, tests) in
    let other : not (d == 48) ≡ true = search (rules, tests) in
    let above : 0 < 0 * 10 + digit_value d = grind (arith, nat_tests) in
    more_digits (0 * 10 + digit_value d) ds above

back : (n : ℕ) → 0 < n → n ≡ (n - 1) + 1
back n h = omega (arith, h)

abbrev cell_of : Bytes → Bytes → Cell
cell_of ls ds = record { row = digits_value 10 ds - 1; column = letters_value ls - 1 }

is_spelled : (ls ds : Bytes) → list_all is_ascii_alphabetic ls ≡ true → 0 < length ls → is_row_number ds ≡ true → IsAddr (ls ++ ds) (cell_of ls ds)
is_spelled ls ds h some r = addr ls ds (cell_of ls ds) some h r (back _ (letters_above_zero ls some h)) (back _ (some_digits ds r))

read_so : (ls ds : Bytes) → list_all is_ascii_alphabetic ls ≡ true → 0 < length ls → is_row_number ds ≡ true → ok_or (address_at ls ds) Outside ≡ read_any (Some (cell_of ls ds))
unfolding address_at
read_so ls ds h some r =
    ap₂ (λ (m n : ℕ). ok_or (cell_at m n) Outside) (back _ (some_digits ds r)) (back _ (letters_above_zero ls some h)) ∙ there (cell_of ls ds) (is_outside (cell_of ls ds)) refl

-- its letters, and the digits behind them, by whether these are some, and a row's number
module _ (word : Bytes) where
  abbrev front : Bytes
  front = take (prefix_len is_ascii_alphabetic word) word

  abbrev behind : Bytes
  behind = drop (prefix_len is_ascii_alphabetic word) word

  abbrev is_addr : Bool
  is_addr = nat_lt 0 (prefix_len is_ascii_alphabetic word) && is_row_number behind

  above : is_addr ≡ true → 0 < length front
  above e =
      let some : nat_lt 0 (prefix_len is_ascii_alphabetic word) ≡ true = (and_parts _ _ e).0 in
      rw (front_length word) (grind (arith, nat_tests))

  pub spells : (c : Cell) → spelled_cell word ≡ Some c → IsAddr word c
  unfolding spelled_cell
  spells c h = by is_addr refl
    where
      by : (b : Bool) → is_addr ≡ b → IsAddr word c
      by false e = absurd (none-some c (sym (ap (λ (v : Bool). if v then Some (cell_of front behind) else None) e) ∙ h))
      by true e =
          let same : cell_of front behind ≡ c = same_Some _ _ (sym (ap (λ (v : Bool). if v then Some (cell_of front behind) else None) e) ∙ h) in
          subst (λ (w : Bytes). IsAddr w c) (take-append-drop (prefix_len is_ascii_alphabetic word) word)
          (subst (λ (d : Cell). IsAddr (front ++ behind) d) same (is_spelled front behind (front_letters word) (above e) (and_parts _ _ e).1))

  pub read : read_address word ≡ read_any (spelled_cell word)
  unfolding read_address spelled_cell
  read = by is_addr refl
    where
      by : (b : Bool) → is_addr ≡ b → (if is_addr then ok_or (address_at front behind) Outside else Err Shape) ≡ read_any (if is_addr then Some (cell_of front behind) else None)
      by false e = rw e refl
      by true e = rw e (read_so front behind (front_letters word) (above e) (and_parts _ _ e).1)

pub same_addr : (word : Bytes) → SameAddr word
same_addr word = record { spelled = spelled word; spells = spells word; read = read word }

-- ---- the words that spell a rectangle, and as which they are read

abbrev is_colon : ℕ → Bool
is_colon b = b == byte ":"

abbrev no_colon : ℕ → Bool
no_colon b = not (is_colon b)

-- ---- no address has a colon

letters_plain : (ls : Bytes) → list_all is_ascii_alphabetic ls ≡ true → list_all no_colon ls ≡ true
letters_plain [] h = refl
letters_plain (l ∷ ls) h =
    let k = and_parts (is_ascii_alphabetic l) (list_all is_ascii_alphabetic ls) h in
    let letter : is_ascii_alphabetic l ≡ true = k.0 in
    let first : no_colon l ≡ true = grind (arith, nat_tests) in
    rw (first, letters_plain ls k.1) refl

digits_plain : (ds : Bytes) → all_ascii_digits ds ≡ true → list_all no_colon ds ≡ true
digits_plain [] h = refl
digits_plain (d ∷ ds) h =
    let k = and_parts (is_ascii_digit d) (all_ascii_digits ds) h in
    let digit : is_ascii_digit d ≡ true = k.0 in
    let first : no_colon d ≡ true = grind (arith, nat_tests) in
    rw (first, digits_plain ds k.1) refl

addr_plain : (word : Bytes) (c : Cell) → IsAddr word c → list_all no_colon word ≡ true
addr_plain word c (addr ls ds d some letters digits column row) =
    list_all-append no_colon ls ds ∙ ap₂ ◌&&◌ (letters_plain ls letters) (digits_plain ds (all_digits ds digits))

-- ---- where the colon is

scan_to_colon : (cs rest : Bytes) → list_all no_colon cs ≡ true → prefix_len no_colon rest ≡ 0 → prefix_len no_colon (cs ++ rest) ≡ length cs
scan_to_colon [] rest h e = e
scan_to_colon (c ∷ cs) rest h e =
    let k = and_parts (no_colon c) (list_all no_colon cs) h in
    let more : prefix_len no_colon (cs ++ rest) ≡ length cs = scan_to_colon cs rest k.1 e in
    ap (λ (b : Bool). cond b (1 + prefix_len no_colon (cs ++ rest)) 0) k.0 ∙ omega (arith, more)

whole : (cs : Bytes) → list_all no_colon cs ≡ true → prefix_len no_colon cs ≡ length cs
whole cs h = ap (prefix_len no_colon) (sym (append-nil cs)) ∙ scan_to_colon cs [] h refl

-- the corners of a word, by whether it has a colon
by_colon : (word : Bytes) (b : Bool) → nat_lt (position_or_len is_colon word) (length word) ≡ b → spelled_rect word ≡ spelled_corners word (cond b (Some (position_or_len is_colon word)) None)
unfolding spelled_rect
by_colon word b e = ap (λ (v : Bool). spelled_corners word (cond v (Some (position_or_len is_colon word)) None)) e

below : (n m : ℕ) → n ≡ m → nat_lt n m ≡ false
below n m e = grind (arith, nat_tests)

one_cell : (word : Bytes) (c : Cell) → IsAddr word c → spelled_rect word ≡ Some (c, c)
one_cell word c h =
    by_colon word false (below _ _ (whole word (addr_plain word c h)))
    ∙ ap (λ (o : Option Cell). both o o) ((same_addr word).spelled c h)

behind_colon : (v w : Bytes) → drop (length v + 1) (v ++ (58 ∷ w)) ≡ w
behind_colon [] w = refl
behind_colon (x ∷ xs) w =
    let next : length (x ∷ xs) + 1 ≡ suc (length xs + 1) = omega arith in
    ap (λ (k : ℕ). drop k (x ∷ (xs ++ (58 ∷ w)))) next ∙ behind_colon xs w

is_longer : (v w : Bytes) → nat_lt (length v) (length (v ++ (58 ∷ w))) ≡ true
is_longer v w =
    let long : length (v ++ (58 ∷ w)) ≡ length v + length (58 ∷ w) = length-append v (58 ∷ w) in
    let some : length (58 ∷ w) ≡ suc (length w) = refl in
    grind (arith, nat_tests)

two : (v w : Bytes) (c d : Cell) → IsAddr v c → IsAddr w d → spelled_rect (v ++ (58 ∷ w)) ≡ Some (c, d)
two v w c d h k =
    let text : Bytes = v ++ (58 ∷ w) in
    let place : position_or_len is_colon text ≡ length v = scan_to_colon v (58 ∷ w) (addr_plain v c h) refl in
    let long : nat_lt (position_or_len is_colon text) (length text) ≡ true = ap (λ (n : ℕ). nat_lt n (length text)) place ∙ is_longer v w in
    by_colon text true long
    ∙ ap (λ (n : ℕ). both (spelled_cell (take n text)) (spelled_cell (drop (n + 1) text))) place
    ∙ ap₂ (λ (x y : Bytes). both (spelled_cell x) (spelled_cell y)) (take-append_seam v (58 ∷ w)) (behind_colon v w)
    ∙ ap₂ (λ (o p : Option Cell). both o p) ((same_addr v).spelled c h) ((same_addr w).spelled d k)

pub rect_spelled : (word : Bytes) (r : CornerCells) → IsRect word r → spelled_rect word ≡ Some r
rect_spelled word r (a_cell w c h) = one_cell w c h
rect_spelled word r (two_cells v w c d h k) = ap spelled_rect (append_assoc v (58 ∷ []) w) ∙ two v w c d h k

-- ---- a word that is read

pub both_parts : {X Y : Type 0} (o : Option X) (p : Option Y) (v : X × Y) → both o p ≡ Some v → (o ≡ Some v.0) × (p ≡ Some v.1)
both_parts {X} {Y} (Some x) (Some y) v e =
    let same : (x, y) ≡ v = same_Some (x, y) v e in
    (ap (λ (z : X × Y). Some z.0) same, ap (λ (z : X × Y). Some z.1) same)
both_parts {X} {Y} (Some x) None v e = absurd (none-some v e)
both_parts {X} {Y} None p v e = absurd (none-some v e)

spells_at : (word : Bytes) (r : CornerCells) → spelled_rect word ≡ Some r → (b : Bool) → nat_lt (position_or_len is_colon word) (length word) ≡ b → IsRect word r
spells_at word r h false e =
    let k = both_parts _ _ r (sym (by_colon word false e) ∙ h) in
    let one : r.0 ≡ r.1 = let same : ◌≡◌ {A = Option Cell} (Some r.0) (Some r.1) = sym k.0 ∙ k.1 in cc in
    subst (λ (d : Cell). IsRect word (r.0, d)) one (a_cell word r.0 ((same_addr word).spells r.0 k.0))
spells_at word r h true e =
    let n : ℕ = position_or_len is_colon word in
    let front : Bytes = take n word in
    let back : Bytes = drop (n + 1) word in
    let inside : n < length word = grind (arith, nat_tests) in
    let k = both_parts (spelled_cell front) (spelled_cell back) r (sym (by_colon word true e) ∙ h) in
    let colon : get_or word n 0 ≡ 58 = eqb-true _ _ (passes_at_first is_colon word 0 inside) in
    let parts : (front ++ codes ":") ++ back ≡ word =
    append_assoc front (58 ∷ []) back ∙ ap (λ (b : ℕ). front ++ (b ∷ back)) (sym colon) ∙ sym (split_at_first is_colon word 0 inside) in
    subst (λ (w : Bytes). IsRect w r) parts (two_cells front back r.0 r.1 ((same_addr front).spells r.0 k.0) ((same_addr back).spells r.1 k.1))

pub rect_spells : (word : Bytes) (r : CornerCells) → spelled_rect word ≡ Some r → IsRect word r
rect_spells word r h = spells_at word r h (nat_lt (position_or_len is_colon word) (length word)) refl

-- ---- as what it is read

bad_second : (r : Result ℕ AddressFault) → corners r (Err Shape) ≡ Err Shape
bad_second (Err Outside) = refl
bad_second r = refl

corners_by : (a b : Bool) (x y : ℕ) → corners (read_by a x) (read_by b y) ≡ read_by (a || b) (rect_of x y)
corners_by true true x y = refl
corners_by false true x y = refl
corners_by a b x y = refl

corners_are : (o p : Option Cell) → corners (read_any o) (read_any p) ≡ read_any_area (both o p)
corners_are None p = refl
corners_are (Some c) None = bad_second (read_any (Some c))
corners_are (Some c) (Some d) = corners_by (is_outside c) (is_outside d) (address c) (address d)

by_place : (word : Bytes) (at : Option ℕ) → read_at_colon word at ≡ read_any_area (spelled_corners word at)
by_place word None = ap₂ corners ((same_addr word).read) ((same_addr word).read) ∙ corners_are (spelled_cell word) (spelled_cell word)
by_place word (Some k) =
    ap₂ corners ((same_addr (take k word)).read) ((same_addr (drop (k + 1) word)).read) ∙ corners_are (spelled_cell (take k word)) (spelled_cell (drop (k + 1) word))

pub rect_read : (word : Bytes) → read_rect word ≡ read_any_area (spelled_rect word)
unfolding read_rect spelled_rect
rect_read word = by_place word (position is_colon word)

pub same_rect : (word : Bytes) → SameRect word
same_rect word = record { spelled = rect_spelled word; spells = rect_spells word; read = rect_read word }
