-- Which symbols stand side by side where a tree is spelled.
use Rattle.wi_parser.proofs.Words.{◌≡◌, ℕ, Bool, true, false, List, [], ◌∷◌, ◌++◌, refl, sym, subst, append_assoc, append-nil, Reference, Sign, Plus, Minus, Tree, Trees, Symbol, numeral, text_literal, open_parenthesis, close_parenthesis, separator, infix_mark, sign_mark, percent_mark, what_if_name, name, bad_token, is_sign, pair_symbols, loosest, Spells, a_number, a_text, a_cell, a_rectangle, in_parentheses, one_input, two_inputs, a_call, with_sign, with_percent, tighter, joined, SpellsAll, SpellsMore, no_parameter, parameters, last_parameter, another_parameter}

-- an operand may begin with the symbol
abbrev pub begins : Symbol → Bool
begins close_parenthesis = false
begins separator = false
begins percent_mark = false
begins (bad_token e) = false
begins (infix_mark op) = is_sign (infix_mark op)
begins s = true

-- the symbol may stand after an operand
abbrev pub follows : Symbol → Bool
follows close_parenthesis = true
follows separator = true
follows percent_mark = true
follows (infix_mark op) = true
follows s = false

-- an operand stands first
abbrev pub at_operand : List Symbol → Bool
at_operand [] = false
at_operand (s ∷ ts) = begins s

-- nothing is left, or what may stand after an operand
abbrev pub after_operand : List Symbol → Bool
after_operand [] = true
after_operand (s ∷ ts) = follows s

-- a parenthesis opens first
abbrev pub at_parenthesis : List Symbol → Bool
at_parenthesis (open_parenthesis ∷ ts) = true
at_parenthesis ts = false

-- The symbol may stand before these: its text does not go on with theirs. A refused one, which has no text, stands nowhere.
abbrev pub stands_before : Symbol → List Symbol → Bool
stands_before (numeral x) ts = after_operand ts
stands_before (text_literal s) ts = after_operand ts
stands_before (infix_mark op) ts = at_operand ts
stands_before what_if_name ts = at_parenthesis ts
stands_before (name f) ts = at_parenthesis ts
stands_before (bad_token e) ts = false
stands_before s ts = true

-- each may stand before those that follow it
abbrev pub IsApart : List Symbol → Type 0
IsApart [] = Unit {0}
IsApart (s ∷ ts) = (stands_before s ts ≡ true) × IsApart ts

-- ---- symbols that spell an operand, before others that may stand after it

record Stands (ts : List Symbol) : Type 0 where
  first : at_operand ts ≡ true
  apart : IsApart ts

-- what follows an operand inside a parenthesis
record Closes (ts : List Symbol) : Type 0 where
  first : after_operand ts ≡ true
  apart : IsApart ts

sign_begins : (s : Sign) → begins (sign_mark s) ≡ true
sign_begins Plus = refl
sign_begins Minus = refl

pair_apart : (p : Reference × Reference) (rest : List Symbol) → IsApart rest → IsApart (pair_symbols p ++ rest)
pair_apart p rest a = (refl, (refl, (refl, (refl, a))))

mutual
  stands : {k : ℕ} {t : Tree} {ts : List Symbol} → Spells k t ts → (rest : List Symbol) → after_operand rest ≡ true → IsApart rest → Stands (ts ++ rest)
  stands (a_number x) rest e a = record { first = refl; apart = (e, a) }
  stands (a_text s) rest e a = record { first = refl; apart = (e, a) }
  stands (a_cell r) rest e a = record { first = refl; apart = (refl, a) }
  stands (a_rectangle c) rest e a = record { first = refl; apart = (refl, a) }
  stands (in_parentheses t ts s) rest e a =
      let inside = stands s (close_parenthesis ∷ rest) refl (refl, a) in
      record { first = refl; apart = (refl, subst IsApart (sym (append_assoc ts (close_parenthesis ∷ []) rest)) inside.apart) }
  stands (one_input f p) rest e a = record { first = refl; apart = (refl, (refl, (refl, pair_apart p (close_parenthesis ∷ rest) (refl, a)))) }
  stands (two_inputs f p q) rest e a = record { first = refl; apart = (refl, (refl, (refl, pair_apart p (pair_symbols q ++ close_parenthesis ∷ rest) (pair_apart q (close_parenthesis ∷ rest) (refl, a))))) }
  stands (a_call f all ts s) rest e a = record { first = refl; apart = (refl, (refl, all_stand s rest e a)) }
  stands (with_sign s t ts o) rest e a =
      let inside = stands o rest e a in
      record { first = sign_begins s; apart = (inside.first, inside.apart) }
  stands (with_percent t ts s) rest e a = subst Stands (sym (append_assoc ts (percent_mark ∷ []) rest)) (stands s (percent_mark ∷ rest) refl (refl, a))
  stands (tighter k t ts s) rest e a = stands s rest e a
  stands (joined k op l r ls rs is s u) rest e a =
      let right = stands u rest e a in
      subst Stands (sym (append_assoc ls (infix_mark op ∷ rs) rest)) (stands s (infix_mark op ∷ rs ++ rest) refl (right.first, right.apart))

  all_stand : {all : Trees} {ts : List Symbol} → SpellsAll all ts → (rest : List Symbol) → after_operand rest ≡ true → IsApart rest → IsApart (ts ++ rest)
  all_stand no_parameter rest e a = (refl, a)
  all_stand (parameters t all ts us s u) rest e a =
      let more = more_stand u rest e a in
      subst IsApart (sym (append_assoc ts us rest)) (stands s (us ++ rest) more.first more.apart).apart

  more_stand : {all : Trees} {ts : List Symbol} → SpellsMore all ts → (rest : List Symbol) → after_operand rest ≡ true → IsApart rest → Closes (ts ++ rest)
  more_stand last_parameter rest e a = record { first = refl; apart = (refl, a) }
  more_stand (another_parameter t all ts us s u) rest e a =
      let more = more_stand u rest e a in
      record { first = refl; apart = (refl, subst IsApart (sym (append_assoc ts us rest)) (stands s (us ++ rest) more.first more.apart).apart) }

-- symbols that spell a tree stand apart
pub spelled_apart : (t : Tree) (ts : List Symbol) → Spells loosest t ts → IsApart ts
spelled_apart t ts s = subst IsApart (append-nil ts) (stands s [] refl tt).apart
