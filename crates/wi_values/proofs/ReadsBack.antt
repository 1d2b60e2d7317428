-- The text of a cell's address reads back to that address.
use Rattle.wi_values.proofs.Words.{◌≡◌, ℕ, zero, suc, ◌+◌, ◌-◌, ◌*◌, ◌/◌, ◌%◌, ◌^◌, ◌<◌, ◌≤◌, true, false, nat_lt, ◌==◌, List, [], ◌∷◌, ◌++◌, length, get_or, Some, ok_or, refl, length-append, ap, sym, subst, ◌∙◌, arith, rules, tests, take-append_seam, drop-append_seam, nat_tests, decimal_is_IsNumeral, decimal_nonempty, first_decimal, and_push, is_ascii_alphabetic, is_ascii_digit, to_ascii_uppercase, decimal, list_all, prefix_len, all_ascii_digits, digits_value, own, columns, rows, place, row_of, column_of, letters_value, column_letters, address_text, is_row_number, letters_within, cell_at, address_at, read_address, Outside, AddressesReadBack}
use Rattle.wi_values.proofs.Letters.{letters_at_most_none, letters_of_none, letters_more, letters_of_column}
use Rattle.wi_values.proofs.Spelling.{letters_value_after, letters_from_none}

-- a letter of a column
capital : (n : ℕ) → n < 26 → (to_ascii_uppercase (65 + n) - 64 ≡ n + 1) × (is_ascii_alphabetic (65 + n) ≡ true)
capital n h = (grind (arith, nat_tests), grind (arith, nat_tests))

-- the letters of a column are letters, and stand for its number
letters_are : (k n : ℕ) → list_all is_ascii_alphabetic (letters_within k n) ≡ true
letters_are zero n = rw letters_at_most_none refl
letters_are (suc k) zero = rw (letters_of_none (suc k)) refl
letters_are (suc k) (suc n) =
    let more = letters_more (suc k) (suc n) (omega arith) (omega arith) in
    let fewer : suc k - 1 ≡ k = omega arith in
    let last : (suc n - 1) % 26 < 26 = omega arith in
    rw (more, fewer, and_push (list_all is_ascii_alphabetic) is_ascii_alphabetic refl (λ _ _. refl) (letters_within k ((suc n - 1) / 26)) (65 + (suc n - 1) % 26), letters_are k ((suc n - 1) / 26), (capital _ last).1)

value_pushed : (n : ℕ) (cs : List ℕ) (c : ℕ) → letters_value_after n (cs ++ c ∷ []) ≡ letters_value_after n cs * 26 + (to_ascii_uppercase c - 64)
value_pushed n [] c = refl
value_pushed n (d ∷ ds) c = value_pushed (n * 26 + (to_ascii_uppercase d - 64)) ds c

-- the greatest number of a column with so many letters
abbrev most_letters : ℕ → ℕ
most_letters zero = 0
most_letters (suc k) = most_letters k * 26 + 26

value_within : (k n : ℕ) → n ≤ most_letters k → letters_value_after 0 (letters_within k n) ≡ n
value_within zero n h = rw letters_at_most_none (omega arith)
value_within (suc k) zero h = rw (letters_of_none (suc k))
value_within (suc k) (suc n) h =
    let more = letters_more (suc k) (suc n) (omega arith) (omega arith) in
    let fewer : suc k - 1 ≡ k = omega arith in
    let last : (suc n - 1) % 26 < 26 = omega arith in
    let others : letters_value_after 0 (letters_within k ((suc n - 1) / 26)) ≡ (suc n - 1) / 26 = value_within k ((suc n - 1) / 26) (omega arith) in
    rw (more, fewer, value_pushed 0 (letters_within k ((suc n - 1) / 26)) (65 + (suc n - 1) % 26), others, (capital _ last).0) (omega arith)

letters_some : (k n : ℕ) → 0 < k → 0 < n → 0 < length (letters_within k n)
letters_some k n h i = rw (letters_more k n h i, length-append) (omega arith)

pub column_are_letters : (n : ℕ) → list_all is_ascii_alphabetic (column_letters n) ≡ true
column_are_letters n = subst (λ ls. list_all is_ascii_alphabetic ls ≡ true) (letters_of_column n) (letters_are 3 (n + 1))

pub column_some : (n : ℕ) → 0 < length (column_letters n)
column_some n = subst (λ ls. 0 < length ls) (letters_of_column n) (letters_some 3 (n + 1) (omega arith) (omega arith))

column_value : (n : ℕ) → n < columns → letters_value (column_letters n) ≡ n + 1
column_value n h = sym (letters_from_none (column_letters n)) ∙ ap (letters_value_after 0) (sym (letters_of_column n)) ∙ value_within 3 (n + 1) (omega arith)

pub scan : (cs rest : List ℕ) → list_all is_ascii_alphabetic cs ≡ true → prefix_len is_ascii_alphabetic rest ≡ 0 → prefix_len is_ascii_alphabetic (cs ++ rest) ≡ length cs
scan [] rest h e = e
scan (c ∷ cs) rest h e =
    let first : is_ascii_alphabetic c ≡ true = search (rules, tests) in
    let others : list_all is_ascii_alphabetic cs ≡ true = search (rules, tests) in
    rw (first, scan cs rest others e) (omega arith)

pub no_letters : (ds : List ℕ) → all_ascii_digits ds ≡ true → prefix_len is_ascii_alphabetic ds ≡ 0
no_letters [] h = refl
no_letters (d ∷ ds) h =
    let first : is_ascii_digit d ≡ true = search (rules, tests) in
    let other : is_ascii_alphabetic d ≡ false = grind (arith, nat_tests) in
    rw other

read_joined : (ls ds : List ℕ) → list_all is_ascii_alphabetic ls ≡ true → 0 < length ls → all_ascii_digits ds ≡ true → is_row_number ds ≡ true → read_address (ls ++ ds) ≡ ok_or (address_at ls ds) Outside
unfolding read_address
read_joined ls ds h i d r =
    let some : nat_lt 0 (length ls) ≡ true = grind (arith, nat_tests) in
    rw (scan ls ds h (no_letters ds d), take-append_seam ls ds, drop-append_seam ls ds, some, r)

row_numbers : (n : ℕ) → 0 < n → n < 2 ^ 64 → is_row_number (decimal n) ≡ true
row_numbers n h i =
    let all : all_ascii_digits (decimal n) ≡ true = own.from (decimal n) (decimal_is_IsNumeral n i).0.1 in
    let some : 0 < length (decimal n) = decimal_nonempty n i in
    let first : 48 < get_or (decimal n) 0 0 = first_decimal n h i in
    let a : nat_lt 0 (length (decimal n)) ≡ true = grind (arith, nat_tests) in
    let b : (get_or (decimal n) 0 0 == 48) ≡ false = grind (arith, nat_tests) in
    rw (a, all, b)

cell_found : (r c : ℕ) → r < rows → c < columns → cell_at (r + 1) (c + 1) ≡ Some (place r c)
cell_found r c h i = grind (arith, nat_tests)

pub addresses_read_back : AddressesReadBack
unfolding address_text address_at
addresses_read_back a h =
    let row : a / columns < rows = omega arith in
    let column : a % columns < columns = omega arith in
    let ls = column_letters (column_of a) in
    let ds = decimal (row_of a + 1) in
    let short : row_of a + 1 < 2 ^ 64 = omega arith in
    let spelled : letters_value ls ≡ column_of a + 1 = column_value (column_of a) column in
    let counted : digits_value 10 ds ≡ row_of a + 1 = (decimal_is_IsNumeral (row_of a + 1) short).1 in
    let there : address_at ls ds ≡ Some a = rw (spelled, counted, cell_found (row_of a) (column_of a) row column) (ap Some (omega arith)) in
    read_joined ls ds (column_are_letters (column_of a)) (column_some (column_of a)) (own.from ds (decimal_is_IsNumeral (row_of a + 1) short).0.1) (row_numbers (row_of a + 1) (omega arith) short) ∙ ap (λ o. ok_or o Outside) there
