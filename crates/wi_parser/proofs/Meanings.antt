-- A text means a symbol where it is a token that stands for it.
use Rattle.wi_parser.proofs.Words.{◌≡◌, ◌↔◌, ℕ, ◌⊎◌, inl, inr, List, Option, Some, None, refl, sym, ap, ap₂, ◌∙◌, subst, Number as Numbers, read_decimal, WritesNumber, IsDecimalText, reads_what_is_written, quoted, Kind, Text, Rectangle, Mark, Name, OpenParenthesis, CloseParenthesis, Semicolon, Asterisk, Slash, Caret, Percent, Ampersand, Equal, NotEqual, Less, LessOrEqual, Greater, GreaterOrEqual, WrittenCell, IsCell, mark_text, IsRectangle, two_cells, rectangle_text, IsReference, one_cell, reference_text, IsText, of_content, IsToken, reference_of_complete, rectangle_of_complete, text_reads_back, Operator, OutOfSheet, number_symbol, cell_symbol, reference_symbol, corners_symbol, rectangle_symbol, mark_symbol, symbol_of, reference_to, operator_text, Symbol, text_literal, bad_token, infix_mark, Means}
use Rattle.wi_lexer.specs.declared.token.Kind.TheVariants.{Number, Reference}
use Rattle.wi_lexer.specs.declared.token.Mark as mark
use Rattle.wi_lexer.specs.declared.token.Mark.TheVariants.{Plus, Minus}
use Rattle.wi_parser.specs.declared.expr.Operator.TheVariants as operator
use Rattle.wi_parser.specs.declared.expr.Reference as references
use Rattle.std.specs.Char.{to_ascii_uppercase}
use Rattle.std.specs.Prelude.{Bool, true, false, codes, if◌then◌else◌, map}
use Rattle.std.specs.Str.{str_eq_ignore_ascii_case}
use Rattle.wi_lexer.specs.Name.{IsName}
use Rattle.wi_parser.specs.declared.fault.ParseFault.TheVariants.{Memory, NumberRange, Syntax, TooDeep, TooLong}
use Rattle.wi_parser.specs.Symbol.{close_parenthesis, corners, name, numeral, open_parenthesis, percent_mark, reference, separator, what_if_name}

-- ---- a token means what it stands for

value_means : (text : List ℕ) (o : Option Numbers) → WritesNumber text o → Means text (number_symbol o)
value_means text None w = w
value_means text (Some x) w = w

number_means : (text : List ℕ) → IsDecimalText text → Means text (number_symbol (read_decimal text))
number_means text w = subst (λ o. Means text (number_symbol o)) (sym (reads_what_is_written.value text w.0 w.1)) (value_means text w.0 w.1)

text_means : (text : List ℕ) → IsText text → Means text (symbol_of Text text)
text_means text (of_content content) = subst (λ c. Means (quoted content) (text_literal c)) (sym (text_reads_back content)) refl

cell_means : (c : WrittenCell) → IsCell c → (o : Option references.Reference) → reference_to c ≡ o → Means (reference_text c) (cell_symbol o)
cell_means c is None e = inl (c, is, refl, e)
cell_means c is (Some r) e = (c, is, refl, e)

reference_means : (text : List ℕ) → IsReference text → Means text (symbol_of Reference text)
reference_means text (one_cell c is) =
    subst (λ o. Means (reference_text c) (reference_symbol o)) (sym (reference_of_complete c is)) (cell_means c is (reference_to c) refl)

corners_mean : (c d : WrittenCell) → IsCell c → IsCell d → (o p : Option references.Reference) → reference_to c ≡ o → reference_to d ≡ p → Means (rectangle_text c d) (corners_symbol o p)
corners_mean c d i j None p e f = inr (c, d, i, j, refl, inl e)
corners_mean c d i j (Some r) None e f = inr (c, d, i, j, refl, inr f)
corners_mean c d i j (Some r) (Some s) e f = (c, d, i, j, refl, e, f)

rectangle_means : (text : List ℕ) → IsRectangle text → Means text (symbol_of Rectangle text)
rectangle_means text (two_cells c d i j) =
    subst (λ o. Means (rectangle_text c d) (rectangle_symbol o)) (sym (rectangle_of_complete c d i j)) (corners_mean c d i j (reference_to c) (reference_to d) refl refl)

mark_means : (m : mark.Mark) → Means (mark_text m) (mark_symbol m)
mark_means OpenParenthesis = refl
mark_means m = refl

name_means : (text : List ℕ) → IsName text → (b : Bool) → str_eq_ignore_ascii_case text (codes "MULTIPLE.OPERATIONS") ≡ b → Means text (if b then what_if_name else name (map to_ascii_uppercase text))
name_means text n true e = (n, e)
name_means text n false e = (n, e, refl)

pub token_means : (k : Kind) (text : List ℕ) → IsToken k text → Means text (symbol_of k text)
token_means Number text h = number_means text h
token_means Text text h = text_means text h
token_means Reference text h = reference_means text h
token_means Rectangle text h = rectangle_means text h
token_means (Mark m) text h = subst (λ t. Means t (mark_symbol m)) (sym h) (mark_means m)
token_means Name text h = name_means text h (str_eq_ignore_ascii_case text (codes "MULTIPLE.OPERATIONS")) refl

-- ---- and nothing else means anything

no_corners : (o p : Option references.Reference) → (o ≡ None) ⊎ (p ≡ None) → corners_symbol o p ≡ bad_token OutOfSheet
no_corners None p h = refl
no_corners (Some r) None h = refl
no_corners (Some r) (Some s) (inl e) = cc
no_corners (Some r) (Some s) (inr e) = cc

-- the token of an operator
abbrev pub mark_of : Operator → mark.Mark
mark_of operator.Add = Plus
mark_of operator.Subtract = Minus
mark_of operator.Multiply = Asterisk
mark_of operator.Divide = Slash
mark_of operator.Power = Caret
mark_of operator.Join = Ampersand
mark_of operator.Equal = Equal
mark_of operator.NotEqual = NotEqual
mark_of operator.Less = Less
mark_of operator.LessOrEqual = LessOrEqual
mark_of operator.Greater = Greater
mark_of operator.GreaterOrEqual = GreaterOrEqual

pub operator_is : (op : Operator) → operator_text op ≡ mark_text (mark_of op)
operator_is operator.Add = refl
operator_is op = refl

pub operator_means : (op : Operator) → mark_symbol (mark_of op) ≡ infix_mark op
operator_means operator.Add = refl
operator_means op = refl

-- the text is a token of some kind, and stands for the symbol
abbrev pub StandsFor : List ℕ → Symbol → Type 0
StandsFor text s = (k : Kind) × IsToken k text × (symbol_of k text ≡ s)

pub means_token : (text : List ℕ) (s : Symbol) → Means text s → StandsFor text s
means_token text (numeral x) h = (Number, (Some x, h), ap number_symbol (reads_what_is_written.value text (Some x) h))
means_token text (text_literal content) h = subst (λ t. StandsFor t (text_literal content)) (sym h) (Text, of_content content, ap text_literal (text_reads_back content))
means_token text (reference r) h =
    subst (λ t. StandsFor t (reference r)) (sym h.2) (Reference, one_cell h.0 h.1, ap reference_symbol (reference_of_complete h.0 h.1) ∙ ap cell_symbol h.3)
means_token text (corners p) h =
    subst (λ t. StandsFor t (corners p)) (sym h.4)
    (Rectangle, two_cells h.0 h.1 h.2 h.3, ap rectangle_symbol (rectangle_of_complete h.0 h.1 h.2 h.3) ∙ ap₂ corners_symbol h.5 h.6)
means_token text open_parenthesis h = (Mark OpenParenthesis, h, refl)
means_token text close_parenthesis h = (Mark CloseParenthesis, h, refl)
means_token text separator h = (Mark Semicolon, h, refl)
means_token text percent_mark h = (Mark Percent, h, refl)
means_token text (infix_mark op) h = (Mark (mark_of op), h ∙ operator_is op, operator_means op)
means_token text what_if_name h = (Name, h.0, ap (λ (b : Bool). if b then what_if_name else name (map to_ascii_uppercase text)) h.1)
means_token text (name f) h = (Name, h.0, ap (λ (b : Bool). if b then what_if_name else name (map to_ascii_uppercase text)) h.1 ∙ ap name h.2)
means_token text (bad_token NumberRange) h = (Number, (None, h), ap number_symbol (reads_what_is_written.value text None h))
means_token text (bad_token OutOfSheet) (inl h) =
    subst (λ t. StandsFor t (bad_token OutOfSheet)) (sym h.2) (Reference, one_cell h.0 h.1, ap reference_symbol (reference_of_complete h.0 h.1) ∙ ap cell_symbol h.3)
means_token text (bad_token OutOfSheet) (inr h) =
    subst (λ t. StandsFor t (bad_token OutOfSheet)) (sym h.4)
    (Rectangle, two_cells h.0 h.1 h.2 h.3, ap rectangle_symbol (rectangle_of_complete h.0 h.1 h.2 h.3) ∙ no_corners (reference_to h.0) (reference_to h.1) h.5)
means_token text (bad_token Syntax) h = absurd h
means_token text (bad_token TooDeep) h = absurd h
means_token text (bad_token TooLong) h = absurd h
means_token text (bad_token Memory) h = absurd h

meant : (text : List ℕ) (s : Symbol) → StandsFor text s → Means text s
meant text s h = subst (Means text) h.2 (token_means h.0 text h.1)

pub what_tokens_mean : (text : List ℕ) (s : Symbol) → Means text s ↔ StandsFor text s
what_tokens_mean text s = (means_token text s, meant text s)
