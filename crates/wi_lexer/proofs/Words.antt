-- The words of the library, of the crates below and of this crate's definitions that its proofs are written in.
pub use Rattle.std.proofs.Common.{Bool, Bor, IsUtf8, List, MatchOption, None, Option, Some, [], ap, append-nil, append_assoc, ap₂, arith, cond, drop, eq-eqb, false, get_or, inl, inr, is_some, length, length-append, length-drop, not, pos, refl, rules, string_bytes, subst, suc, sym, take, true, unwrap_or, zero, ℕ, ℤ, ◌&&◌, ◌++◌, ◌+◌, ◌-◌, ◌<◌, ◌==◌, ◌||◌, ◌↔◌, ◌∙◌, ◌∷◌, ◌≡◌, ◌≢◌, ◌≤◌, ◌⊎◌}
pub use Rattle.std.proofs.Math.Seq.{drop-append_seam, take-add, take-append-add, take-append_seam, take-length}
pub use Rattle.std.proofs.lemmas.Bool.{and_from, and_parts, cases_Bool, eqb-true, lt-ltb, ltb-false, ltb-true, ne_eqb, not-true, true≢false}
pub use Rattle.std.proofs.lemmas.Bool.Decides.{nat_tests}
pub use Rattle.std.proofs.lemmas.List.{at_drop_more, drop-drop, drop_all, get_or-append-add, get_or-take, get_or_push, length-take, length-take-le, nil_from_length, take-append-drop, take_more}
pub use Rattle.std.proofs.lemmas.List.Folds.{list_all-append}
pub use Rattle.std.proofs.lemmas.List.Sums.{AllPass-from_list_all, prefix_len-le-length, prefix_len_passes}
pub use Rattle.std.proofs.lemmas.Option.{same_Some}
pub use Rattle.std.proofs.lemmas.Str.{IsCharBoundary-after_ascii, IsCharBoundary-end, IsCharBoundary-start}
pub use Rattle.std.proofs.lemmas.Str.Pattern.{IsSplitOnceResult, split_once_first, strip_prefix_char}
pub use Rattle.std.specs.Char.{is_ascii_alphabetic, is_ascii_digit}
pub use Rattle.std.specs.List.{after_first, before_first, flat_map, list_all, position_or_len, prefix_len}
pub use Rattle.std.specs.Option.{option_or}
pub use Rattle.std.specs.Prelude.{nat_lt, slice_index}
pub use Rattle.std.specs.Str.{IsCharBoundary}
pub use Rattle.std.specs.Str.Parse.{AllDigits, IsNumeral}
pub use Rattle.wi_fraction.proofs.Scanning.{digits_before, digits_same, own}
pub use Rattle.wi_fraction.proofs.Written.{capital_from_letter, letter_from_capital, letter_no_digit, letter_no_point}
pub use Rattle.wi_fraction.specs.Inner.Signs.{is_exponent_letter}
pub use Rattle.wi_fraction.specs.Spelled.{IsSign, WritesDigits, minus, no_sign, plain, plus, point}
pub use Rattle.wi_fraction.specs.Written.{IsDecimalText, WritesNumber, WritesExponent, none, power, writes}
pub use Rattle.wi_lexer.specs.Cell.{WrittenCell, IsCell, cell_text, dollar}
pub use Rattle.wi_lexer.specs.Inner.Cell.{after_dollar, begins_with_dollar, cut, cut_column, cut_row, dollar_len, if_cell, is_cell, is_row, past_dollar}
unfoldable pub use Rattle.wi_lexer.specs.Inner.Cell.{cell_len, cell_of, column_len, row_len}
pub use Rattle.wi_lexer.specs.Inner.Ends.{ends}
unfoldable pub use Rattle.wi_lexer.specs.Inner.Mark.{mark_at, one_byte_mark, two_byte_mark}
unfoldable pub use Rattle.wi_lexer.specs.Inner.Name.{name_len}
pub use Rattle.wi_lexer.specs.Inner.Number.{is_sign_byte}
unfoldable pub use Rattle.wi_lexer.specs.Inner.Number.{decimal_len, decimals_len, exponent_len, number_len, signed_len}
pub use Rattle.wi_lexer.specs.Inner.Rectangle.{begins_second, both_cells, cells_beside}
unfoldable pub use Rattle.wi_lexer.specs.Inner.Rectangle.{corner_cells, rectangle_len, rectangle_of, second_len}
pub use Rattle.wi_lexer.specs.Inner.Reference.{inside, is_bracketed}
unfoldable pub use Rattle.wi_lexer.specs.Inner.Reference.{first_len, reference_len, reference_of}
pub use Rattle.wi_lexer.specs.Inner.Runs.{IsRunOf, before_colon_len, digits_len, is_before_colon, letters_len, one_longer}
pub use Rattle.wi_lexer.specs.Inner.Text.{text_len}
unfoldable pub use Rattle.wi_lexer.specs.Inner.Text.{content_from, quoted_len, text_content}
pub use Rattle.wi_lexer.specs.Inner.Token.{brackets_at, mark_token, of_length}
unfoldable pub use Rattle.wi_lexer.specs.Inner.Token.{token_at}
pub use Rattle.wi_lexer.specs.Inner.Tokens.{tokens_ahead, tokens_from}
unfoldable pub use Rattle.wi_lexer.specs.Inner.Tokens.{tokens, tokens_within}
pub use Rattle.wi_lexer.specs.Lexing.{IsNextToken, ahead}
pub use Rattle.wi_lexer.specs.Mark.{mark_text}
pub use Rattle.wi_lexer.specs.Name.{IsName, is_name_part, is_name_start}
pub use Rattle.wi_lexer.specs.Quoted.{doubled, quoted}
pub use Rattle.wi_lexer.specs.Rectangle.{IsRectangle, rectangle_text, two_cells}
pub use Rattle.wi_lexer.specs.Reference.{IsReference, one_cell}
pub use Rattle.wi_lexer.specs.Runs.{blanks_len, is_blank}
pub use Rattle.wi_lexer.specs.Scan.{Scan}
pub use Rattle.wi_lexer.specs.Text.{IsText, of_content}
pub use Rattle.wi_lexer.specs.Token.{IsLongest, IsToken, NoToken, after_blanks}
pub use Rattle.wi_lexer.specs.Tokens.{AreTokens, Tokens, bad, bad_token, ended, more, no_tokens, then_tokens}
pub use Rattle.wi_lexer.specs.declared.lexer.Token.{Token}
pub use Rattle.wi_lexer.specs.declared.token.Kind.{Kind}
pub use Rattle.wi_lexer.specs.declared.token.Kind.TheVariants.{Mark, Name, Number, Rectangle, Reference, Text}
pub use Rattle.wi_lexer.specs.declared.token.Mark.TheVariants.{Ampersand, Asterisk, Caret, CloseParenthesis, Equal, Greater, GreaterOrEqual, Less, LessOrEqual, Minus, NotEqual, OpenParenthesis, Percent, Plus, Semicolon, Slash}
pub use denote.Shadow.{shadow}
pub use denote.Text.{Utf8}
