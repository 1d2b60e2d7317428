-- Words one after another, what they are read as, and what they spell.
use Rattle.wi_cli.proofs.Vocabulary.{◌≡◌, ℕ, suc, ◌≤◌, ◌+◌, Bool, true, false, ◌&&◌, not, nat_lt, nat_le, cond, [], ◌∷◌, length, take, ◌⊎◌, inl, inr, Option, Some, None, option_map, if◌then◌else◌, refl, sym, ap, ◌∙◌, subst, arith, codes, bytes_eq, prefix_len, before_first, after_first, all_ascii_digits, digits_value, nat_tests, bytes_eq-Decides, le-leb, leb-true, and_parts, both_ways, false_from_ne_true, true_from_ne_false, is_name, read_name, is_space, skip_spaces, first_word, after_word, Bytes, read_side, is_all_spaces, read_lines, IsSpelled, SIDE, LINES, List, ap₂, both, spelled_cell, spelled_rect, Kind, A_CELL, A_RECT, A_NAME, A_SESSION, A_SIDE, Words, END, TEXT, AND, MAYBE, Value, Values, read_word, read_words, Operand, ADDR, RECT, NAME, SESSION, CONTENT, IsWritten, none-some, same_Some, and_from}
use Rattle.wi_cli.proofs.Ties.Addresses.{both_parts, same_addr, same_rect}

-- ---- options

pub is_word : (w name : Bytes) → bytes_eq w name ≡ true → w ≡ name
is_word w name e = (bytes_eq-Decides w name).0 e

-- ---- names

pub name_read : (word name : Bytes) → word ≡ name → is_name name ≡ true → read_name word ≡ Some name
name_read word name e h = ap read_name e ∙ ap (λ (b : Bool). if b then Some name else None) h

pub spells_name : (word name : Bytes) → read_name word ≡ Some name → (word ≡ name) × (is_name name ≡ true)
spells_name word name e = by (is_name word) refl
  where
    by : (b : Bool) → is_name word ≡ b → (word ≡ name) × (is_name name ≡ true)
    by true f =
        let same : word ≡ name = same_Some word name (sym (ap (λ (b : Bool). if b then Some word else None) f) ∙ e) in
        (same, ap is_name (sym same) ∙ f)
    by false f = absurd (none-some name (sym (ap (λ (b : Bool). if b then Some word else None) f) ∙ e))

-- a scenario's name, or `-`
pub side_read : (word : Bytes) (p : Option Bytes) → IsSpelled word (SIDE p) → read_side word ≡ Some p
side_read word None h = ap read_side h
side_read word (Some name) h =
    let other : bytes_eq word (codes "-") ≡ true → ⊥ = λ e. both_ways (is_name (codes "-")) refl (ap is_name (sym (is_word word (codes "-") e) ∙ h.0) ∙ h.1) in
    ap (λ (b : Bool). if b then Some None else option_map (λ (n : Bytes). Some n) (read_name word)) (false_from_ne_true (bytes_eq word (codes "-")) other)
    ∙ ap (option_map (λ (n : Bytes). Some n)) (name_read word name h.0 h.1)

pub spells_side : (word : Bytes) (p : Option Bytes) → read_side word ≡ Some p → IsSpelled word (SIDE p)
spells_side word p e = by (bytes_eq word (codes "-")) refl (read_name word) refl
  where
    by : (b : Bool) → bytes_eq word (codes "-") ≡ b → (o : Option Bytes) → read_name word ≡ o → IsSpelled word (SIDE p)
    by true f o g = subst (λ (q : Option Bytes). IsSpelled word (SIDE q)) (same_Some None p (sym (ap (λ (b : Bool). if b then Some None else option_map (λ (n : Bytes). Some n) (read_name word)) f) ∙ e)) (is_word word (codes "-") f)
    by false f None g =
        absurd (none-some p (sym (ap (λ (b : Bool). if b then Some None else option_map (λ (n : Bytes). Some n) (read_name word)) f ∙ ap (option_map (λ (n : Bytes). Some n)) g) ∙ e))
    by false f (Some name) g =
        subst (λ (q : Option Bytes). IsSpelled word (SIDE q))
        (same_Some (Some name) p (sym (ap (λ (b : Bool). if b then Some None else option_map (λ (n : Bytes). Some n) (read_name word)) f ∙ ap (option_map (λ (n : Bytes). Some n)) g) ∙ e)) (spells_name word name g)

-- ---- numbers of lines

some_bytes : (word : Bytes) → nat_lt 0 (length word) ≡ true → word ≡ [] → ⊥
some_bytes word e h = both_ways false refl (sym (ap (λ (w : Bytes). nat_lt 0 (length w)) h) ∙ e)

is_some_bytes : (word : Bytes) → (word ≡ [] → ⊥) → nat_lt 0 (length word) ≡ true
is_some_bytes [] h = absurd (h refl)
is_some_bytes (b ∷ bs) h = grind (arith, nat_tests)

abbrev pub is_number : Bytes → Bool
is_number word = ((nat_lt 0 (length word) && nat_le (length word) 7) && all_ascii_digits word) && nat_le (digits_value 10 word) 1000000

is_number_of : (word : Bytes) (n : ℕ) → IsSpelled word (LINES n) → is_number word ≡ true
is_number_of word n h =
    and_from _ _ (and_from _ _ (and_from _ _ (is_some_bytes word h.0) (le-leb _ _ h.1)) h.2) (le-leb _ _ (subst (λ (k : ℕ). k ≤ 1000000) (sym h.3) h.4))

pub lines_read : (word : Bytes) (n : ℕ) → IsSpelled word (LINES n) → read_lines word ≡ Some n
lines_read word n h =
    ap (λ (b : Bool). if b then Some (digits_value 10 word) else None) (is_number_of word n h) ∙ ap (λ (k : ℕ). Some k) h.3

pub lines_or : (word : Bytes) → ((n : ℕ) × IsSpelled word (LINES n)) ⊎ (read_lines word ≡ None)
lines_or word = by (is_number word) refl
  where
    by : (b : Bool) → is_number word ≡ b → ((n : ℕ) × IsSpelled word (LINES n)) ⊎ (read_lines word ≡ None)
    by true e =
        let p = and_parts _ _ e in
        let q = and_parts _ _ p.0 in
        let r = and_parts _ _ q.0 in
        inl (digits_value 10 word, (some_bytes word r.0, leb-true _ _ r.1, q.1, refl, leb-true _ _ p.1))
    by false e = inr (ap (λ (b : Bool). if b then Some (digits_value 10 word) else None) e)

-- ---- spaces

pub no_skip : (t : Bytes) → is_all_spaces t ≡ true → skip_spaces t ≡ []
no_skip [] e = refl
no_skip (b ∷ bs) e =
    let p = and_parts (is_space b) (is_all_spaces bs) e in
    ap (λ (v : Bool). if v then skip_spaces bs else b ∷ bs) p.0 ∙ no_skip bs p.1

pub no_word : (t : Bytes) → is_all_spaces t ≡ true → first_word t ≡ []
no_word t e = ap (before_first is_space) (no_skip t e)

-- no word is followed by none
pub none_behind : (t : Bytes) → first_word t ≡ [] → after_word t ≡ []
none_behind [] e = refl
none_behind (b ∷ bs) e = by (is_space b) refl (none_behind bs)
  where
    by : (v : Bool) → is_space b ≡ v → (first_word bs ≡ [] → after_word bs ≡ []) → after_word (b ∷ bs) ≡ []
    by true s more =
        let skip : skip_spaces (b ∷ bs) ≡ skip_spaces bs = ap (λ (v : Bool). if v then skip_spaces bs else b ∷ bs) s in
        ap (after_first is_space) skip ∙ more (sym (ap (before_first is_space) skip) ∙ e)
    by false s more =
        let skip : skip_spaces (b ∷ bs) ≡ b ∷ bs = ap (λ (v : Bool). if v then skip_spaces bs else b ∷ bs) s in
        let one : 1 + prefix_len (λ x. not (is_space x)) bs ≡ suc (prefix_len (λ x. not (is_space x)) bs) = omega arith in
        let front : before_first is_space (b ∷ bs) ≡ b ∷ take (prefix_len (λ x. not (is_space x)) bs) bs =
        ap (λ (v : Bool). take (cond (not v) (1 + prefix_len (λ x. not (is_space x)) bs) 0) (b ∷ bs)) s ∙ ap (λ (k : ℕ). take k (b ∷ bs)) one in
        let none : b ∷ take (prefix_len (λ x. not (is_space x)) bs) bs ≡ [] = sym front ∙ sym (ap (before_first is_space) skip) ∙ e in
        absurd cc

-- ---- words one after another, by what they spell

-- ---- a word

abbrev pub operand : (k : Kind) → Value k → Operand
operand A_CELL c = ADDR c
operand A_RECT r = RECT r
operand A_NAME name = NAME name
operand A_SESSION name = SESSION name
operand A_SIDE p = SIDE p

word_read : (k : Kind) (word : Bytes) (x : Value k) → IsSpelled word (operand k x) → read_word k word ≡ Some x
word_read A_CELL word c h = (same_addr word).spelled c h
word_read A_RECT word r h = (same_rect word).spelled r h
word_read A_NAME word name h = name_read word name h.0 h.1
word_read A_SESSION word name h = name_read word name h.0 h.1
word_read A_SIDE word p h = side_read word p h

is_spelled : (k : Kind) (word : Bytes) (x : Value k) → read_word k word ≡ Some x → IsSpelled word (operand k x)
is_spelled A_CELL word c e = (same_addr word).spells c e
is_spelled A_RECT word r e = (same_rect word).spells r e
is_spelled A_NAME word name e = spells_name word name e
is_spelled A_SESSION word name e = spells_name word name e
is_spelled A_SIDE word p e = spells_side word p e

none_read : (k : Kind) → read_word k [] ≡ None
unfolding spelled_cell spelled_rect
none_read A_CELL = refl
none_read k = refl

-- ---- and more

abbrev pub operands : (ws : Words) → Values ws → List Operand
operands END v = []
operands TEXT text = CONTENT text ∷ []
operands (AND k ws) v = operand k v.0 ∷ operands ws v.1
operands (MAYBE k ws) None = []
operands (MAYBE k ws) (Some v) = operand k v.0 ∷ operands ws v.1

module _ (text : Bytes) (os : List Operand) where
  parts : (k : Kind) (x : Value k) → IsWritten text (operand k x ∷ os) → IsSpelled (first_word text) (operand k x) × IsWritten (after_word text) os
  parts A_CELL x h = h
  parts k x h = h

  joined : (k : Kind) (x : Value k) → IsSpelled (first_word text) (operand k x) → IsWritten (after_word text) os → IsWritten text (operand k x ∷ os)
  joined A_CELL x h t = (h, t)
  joined k x h t = (h, t)

some_of : {X : Type 0} (o v : Option X) → option_map (λ x. Some x) o ≡ Some v → (x : X) × (o ≡ Some x) × (v ≡ Some x)
some_of {X} None v e = absurd (none-some v e)
some_of {X} (Some x) v e = (x, refl, sym (same_Some (Some x) v e))

-- the first word spells something, so not all is spaces
some_word : (k : Kind) (x : Value k) (text : Bytes) → read_word k (first_word text) ≡ Some x → is_all_spaces text ≡ false
some_word k x text h = false_from_ne_true (is_all_spaces text) (λ e. none-some x (sym (ap (read_word k) (no_word text e) ∙ none_read k) ∙ h))

pub words_read : (ws : Words) (text : Bytes) (v : Values ws) → IsWritten text (operands ws v) → read_words ws text ≡ Some v
words_read END text v h = ap (λ (b : Bool). if b then Some tt else None) h
words_read TEXT text v h = ap (λ (t : Bytes). Some t) h.0
words_read (AND k ws) text v h =
    let p = parts text (operands ws v.1) k v.0 h in
    ap₂ (λ (o : Option (Value k)) (q : Option (Values ws)). both o q) (word_read k (first_word text) v.0 p.0) (words_read ws (after_word text) v.1 p.1)
words_read (MAYBE k ws) text None h =
    ap (λ (b : Bool). if b then Some None else option_map (λ v. Some v) (both (read_word k (first_word text)) (read_words ws (after_word text)))) h
words_read (MAYBE k ws) text (Some v) h =
    let p = parts text (operands ws v.1) k v.0 h in
    let first : read_word k (first_word text) ≡ Some v.0 = word_read k (first_word text) v.0 p.0 in
    let some : is_all_spaces text ≡ false = some_word k v.0 text first in
    ap (λ (b : Bool). if b then Some None else option_map (λ v. Some v) (both (read_word k (first_word text)) (read_words ws (after_word text)))) some
    ∙ ap₂ (λ (o : Option (Value k)) (q : Option (Values ws)). option_map (λ v. Some v) (both o q)) first (words_read ws (after_word text) v.1 p.1)

pub are_written : (ws : Words) (text : Bytes) (v : Values ws) → read_words ws text ≡ Some v → IsWritten text (operands ws v)
are_written END text v h = true_from_ne_false (is_all_spaces text) (λ e. none-some v (sym (ap (λ (b : Bool). if b then Some tt else None) e) ∙ h))
are_written TEXT text v h = (same_Some text v h, refl)
are_written (AND k ws) text v h =
    let p = both_parts (read_word k (first_word text)) (read_words ws (after_word text)) v h in
    joined text (operands ws v.1) k v.0 (is_spelled k (first_word text) v.0 p.0) (are_written ws (after_word text) v.1 p.1)
are_written (MAYBE k ws) text v h = by (is_all_spaces text) refl v h (λ x e. are_written ws (after_word text) x e)
  where
    by : (b : Bool) → is_all_spaces text ≡ b → (v : Option (Value k × Values ws)) → read_words (MAYBE k ws) text ≡ Some v
        → ((x : Values ws) → read_words ws (after_word text) ≡ Some x → IsWritten (after_word text) (operands ws x)) → IsWritten text (operands (MAYBE k ws) v)
    by true e v h more =
        let same : None ≡ v = same_Some None v (sym (ap (λ (b : Bool). if b then Some None else option_map (λ v. Some v) (both (read_word k (first_word text)) (read_words ws (after_word text)))) e) ∙ h) in
        subst (λ (w : Option (Value k × Values ws)). IsWritten text (operands (MAYBE k ws) w)) same e
    by false e v h more =
        let found = some_of (both (read_word k (first_word text)) (read_words ws (after_word text))) v (sym (ap (λ (b : Bool). if b then Some None else option_map (λ v. Some v) (both (read_word k (first_word text)) (read_words ws (after_word text)))) e) ∙ h) in
        let p = both_parts (read_word k (first_word text)) (read_words ws (after_word text)) found.0 found.1 in
        subst (λ (w : Option (Value k × Values ws)). IsWritten text (operands (MAYBE k ws) w)) (sym found.2)
        (joined text (operands ws found.0.1) k found.0.0 (is_spelled k (first_word text) found.0.0 p.0) (more found.0.1 p.1))
