-- The words of the library, of the crates below and of this crate's definitions that its proofs are written in.
pub use Rattle.std.proofs.Common.{All, Bool, Bor, Box, Err, Global, IfOk, List, MatchOption, None, Ok, OnOk, Option, Result, Some, Vec, [], ap, append-nil, append_assoc, ap₂, arith, codes, cond, drop, drop-cons, false, get_or, if◌then◌else◌, inl, inr, is_ok, is_some, length, length-append, map, max, min, nat_le, nat_lt, negsuc, not, of_z, ok_or, option_and_then, option_map, pos, refl, rules, string_bytes, subst, suc, sym, take, tests, to_z, true, unsigned_abs, unwrap_or, w64, zero, ℕ, ℤ, ⊎_elim, ◌%◌, ◌&&◌, ◌*◌, ◌++◌, ◌+ℤ◌, ◌+◌, ◌-◌, ◌/◌, ◌<◌, ◌==◌, ◌^◌, ◌||◌, ◌↔◌, ◌∙◌, ◌∷◌, ◌≡◌, ◌≢◌, ◌≤◌, ◌⊎◌}
pub use Rattle.std.proofs.Math.Bool.{and-true, and_assoc, or-false}
pub use Rattle.std.proofs.Math.ListN.{drop_of_length-le}
pub use Rattle.std.proofs.Math.Nat.{lt_of_lt_of_le, lt_trans}
pub use Rattle.std.proofs.Math.Seq.{drop-append_seam, take-append_seam}
pub use Rattle.std.proofs.Transfers.{starts_with_of_append, starts_with_of_eq, starts_with_trans}
pub use Rattle.std.proofs.lemmas.Bool.{and_from, and_parts, cases_lt, eq-eqb, eqb-true, false_from_ne_true, le-ltb, leb-false, leb-true, lt-leb, lt-ltb, ltb-false, ltb-true, ne_eqb, or_parts}
pub use Rattle.std.proofs.lemmas.Bool.Decides.{nat_tests}
pub use Rattle.std.proofs.lemmas.Fmt.{decimal_is_IsNumeral, first_decimal}
pub use Rattle.std.proofs.lemmas.Grind.{common_steps, flat_map-append}
pub use Rattle.std.proofs.lemmas.Int.{ints, to_z-of_z}
pub use Rattle.std.proofs.lemmas.Iterator.{YieldsList-from_slice}
pub use Rattle.std.proofs.lemmas.Iterator.Search.{all_from_yields_List, any_from_yields_List}
pub use Rattle.std.proofs.lemmas.List.{length-map, length-take-le, map-append, take-append-drop, take_all, take_more}
pub use Rattle.std.proofs.lemmas.List.Elements.{All-append, All-cons, All-head, All-map, All-nil, All-tail, All-weaker}
pub use Rattle.std.proofs.lemmas.List.Folds.{list_all-append, list_all-map, list_any-append}
pub use Rattle.std.proofs.lemmas.Option.{cond_some, same_Some}
pub use Rattle.std.proofs.lemmas.Result.{IfOk-from_err, err_from_is_err_and, on_ok_weaker}
pub use Rattle.std.proofs.lemmas.Str.{IsUtf8-string_bytes}
pub use Rattle.std.proofs.lemmas.Str.Ascii.{lowercase-uppercase, uppercase-uppercase}
pub use Rattle.std.proofs.lemmas.Str.Pattern.{IsSplitOnceResult}
pub use Rattle.std.specs.Char.{is_ascii_alphabetic, is_ascii_digit, to_ascii_uppercase}
pub use Rattle.std.specs.Fmt.{decimal}
pub use Rattle.std.specs.Io.{StartsWith}
pub use Rattle.std.specs.List.{flat_map, list_all, list_any, prefix_len}
pub use Rattle.std.specs.Prelude.{IsTrue}
pub use Rattle.std.specs.Str.{IsCharBoundary, bytes_eq, str_eq_ignore_ascii_case, str_to_ascii_lowercase}
pub use Rattle.std.specs.Str.Parse.{AllDigits, digits_value}
pub use Rattle.std.specs.Str.Pattern.{FindsTextPrefix, StripsPrefix}
pub use Rattle.wi_fraction.proofs.Decimals.{starts_joined}
pub use Rattle.wi_fraction.proofs.DecimalsReadBack.{decimal_few, decimals_read_back}
pub use Rattle.wi_fraction.proofs.Numerals.{read_decimal-numeral}
pub use Rattle.wi_fraction.proofs.Padded.{digits_padded, length-padded}
pub use Rattle.wi_fraction.proofs.Places.{all_none}
pub use Rattle.wi_fraction.proofs.ReadsBack.{div_small}
pub use Rattle.wi_fraction.proofs.Values.{then_some}
pub use Rattle.wi_fraction.proofs.Written.{reads_what_is_written}
pub use Rattle.wi_fraction.specs.Decimal.{IsUnsignedDecimal}
unfoldable pub use Rattle.wi_fraction.specs.Decimal.{decimal_text}
pub use Rattle.wi_fraction.specs.Inner.Reading.{read_decimal}
pub use Rattle.wi_fraction.specs.Inner.Signs.{sign_text}
pub use Rattle.wi_fraction.specs.Number.{Number, max_size}
pub use Rattle.wi_fraction.specs.Text.{padded, places}
unfoldable pub use Rattle.wi_fraction.specs.Text.{size_text}
pub use Rattle.wi_fraction.specs.Spelled.{WritesDigits, plain, point}
pub use Rattle.wi_fraction.specs.Written.{IsDecimalText, WritesNumber}
pub use Rattle.wi_fraction.specs.declared.Fraction.{Fraction}
pub use Rattle.wi_lexer.proofs.CallerLemmas.{found_ahead, next_shortens, token_is, token_shortens, tokens_are, tokens_bad, tokens_end, tokens_next}
pub use Rattle.wi_lexer.proofs.DecimalLemmas.{SomeDigits}
pub use Rattle.wi_lexer.proofs.EndLemmas.{no_blanks, token_and_rest, token_no_blank}
pub use Rattle.wi_lexer.proofs.NumberLemmas.{digits_alone}
pub use Rattle.wi_lexer.proofs.QuoteLemmas.{no_quote_left, piece_before, text_reads_back}
pub use Rattle.wi_lexer.proofs.RectangleLemmas.{rectangle_of_complete}
pub use Rattle.wi_lexer.proofs.ReferenceLemmas.{reference_of_complete}
pub use Rattle.wi_lexer.proofs.RunLemmas.{cell_from_runs, digits_all, digits_run, run_more, run_stops}
pub use Rattle.wi_lexer.proofs.TextLemmas.{by_length, tokens_hold}
pub use Rattle.wi_lexer.proofs.TokenLemmas.{none_begins, none_found, token_complete, token_some, token_sound}
pub use Rattle.wi_lexer.specs.Cell.{WrittenCell, IsCell}
unfoldable pub use Rattle.wi_lexer.specs.Inner.Cell.{cell_len, cell_of, column_len, row_len}
pub use Rattle.wi_lexer.specs.Inner.Ends.{ends, goes_on}
unfoldable pub use Rattle.wi_lexer.specs.Inner.Mark.{mark_at, one_byte_mark, two_byte_mark}
unfoldable pub use Rattle.wi_lexer.specs.Inner.Name.{name_len}
unfoldable pub use Rattle.wi_lexer.specs.Inner.Number.{decimal_len, decimals_len, exponent_len, number_len, signed_len}
unfoldable pub use Rattle.wi_lexer.specs.Inner.Rectangle.{corner_cells, rectangle_len, rectangle_of, second_len}
unfoldable pub use Rattle.wi_lexer.specs.Inner.Reference.{first_len, reference_len, reference_of}
unfoldable pub use Rattle.wi_lexer.specs.Inner.Text.{quoted_len}
unfoldable pub use Rattle.wi_lexer.specs.Inner.Token.{token_at}
pub use Rattle.wi_lexer.specs.Inner.Tokens.{tokens_ahead, tokens_from}
unfoldable pub use Rattle.wi_lexer.specs.Inner.Tokens.{tokens, tokens_within}
pub use Rattle.wi_lexer.specs.Lexing.{IsDone, IsNextToken, ahead}
pub use Rattle.wi_lexer.specs.Mark.{mark_text}
pub use Rattle.wi_lexer.specs.Name.{IsName, is_name_part, is_name_start}
pub use Rattle.wi_lexer.specs.Quoted.{doubled, quoted}
pub use Rattle.wi_lexer.specs.Rectangle.{IsRectangle, rectangle_text, two_cells}
pub use Rattle.wi_lexer.specs.Reference.{IsReference, one_cell, reference_text}
pub use Rattle.wi_lexer.specs.Inner.Runs.{IsRunOf}
pub use Rattle.wi_lexer.specs.Runs.{blanks_len, is_blank}
pub use Rattle.wi_lexer.specs.Scan.{Scan}
pub use Rattle.wi_lexer.specs.Text.{IsText, of_content}
pub use Rattle.wi_lexer.specs.Token.{IsLongest, IsToken, NoToken, after_blanks}
pub use Rattle.wi_lexer.specs.Tokens.{AreTokens, Tokens, bad, ended, more}
pub use Rattle.wi_lexer.specs.declared.lexer.Token.{Token}
pub use Rattle.wi_lexer.specs.declared.token.Kind.{Kind}
pub use Rattle.wi_lexer.specs.declared.token.Kind.TheVariants.{Mark, Name, Rectangle, Text}
pub use Rattle.wi_lexer.specs.declared.token.Mark.TheVariants.{Ampersand, Asterisk, Caret, CloseParenthesis, Equal, Greater, GreaterOrEqual, Less, LessOrEqual, NotEqual, OpenParenthesis, Percent, Semicolon, Slash}
pub use Rattle.wi_parser.specs.Capitals.{in_capitals}
pub use Rattle.wi_parser.specs.Contents.{HasSymbols, IsConstantText, IsContent, IsFormulaText, IsNoFormulaText, IsTextOf, IsTooLong, a_constant, a_formula, a_long_constant, a_long_formula, a_long_text}
pub use Rattle.wi_parser.specs.Grammar.{AreGrammatical, IsGrammatical, level_of, tree_level}
pub use Rattle.wi_parser.specs.Inner.Answered.{HasFault, IsAnsweredAs, IsFirstFault, faults}
pub use Rattle.wi_parser.specs.Inner.Deepest.{deepest, most_signs}
pub use Rattle.wi_parser.specs.Inner.FormulaText.{IsFrontOf, after, after_equals, after_prefix, cell_symbol, corners_symbol, mark_symbol, name_symbol, number_symbol, rectangle_symbol, reference_symbol, symbol_of, symbols_by, symbols_of, symbols_with}
unfoldable pub use Rattle.wi_parser.specs.Inner.FormulaText.{formula_symbols}
pub use Rattle.wi_parser.specs.Inner.Levels.{Spells, SpellsAll, SpellsMore, a_call, a_cell, a_number, a_rectangle, a_text, another_parameter, in_parentheses, joined, last_parameter, loosest, no_parameter, one_input, parameters, tighter, two_inputs, with_percent, with_sign}
pub use Rattle.wi_parser.specs.Inner.Moves.{all_references, column_moved, leaf_references, map_references, map_references_in, row_moved}
unfoldable pub use Rattle.wi_parser.specs.Inner.Moves.{moved, stays}
pub use Rattle.wi_parser.specs.Inner.Outcome.{Fails, Finds, FindsMore, before, put_before}
pub use Rattle.wi_parser.specs.Inner.Parsed.{AreJudged, IsParsed, a_tree, as_judged, at_fault, no_tree, too_long}
pub use Rattle.wi_parser.specs.Inner.PrintedParts.{pairs_text}
pub use Rattle.wi_parser.specs.Inner.Reader.{Parse, ParseAll, Read, ReadAll, after_close, after_open, after_parameter, after_percent, after_separator, and_then_all, as_call, called, chain_step, first_parameter, if_last, inputs_at, one_or_two, operator_at, operator_within, parameter_at, percents, prefix_step, prefixed, put_first, read_then, reference_at, sign_at, sign_of, signed_read, then_close, unless_closed, whole}
unfoldable pub use Rattle.wi_parser.specs.Inner.Reader.{atom, chain, expression, level, more_parameters, pair_at, parameters_at, what_if_at}
pub use Rattle.wi_parser.specs.Inner.Reading.{IsWithinLimits, ReadsAs, as_content, constant_read, is_too_long, judged, taken_as_text, unless_refused}
unfoldable pub use Rattle.wi_parser.specs.Inner.Reading.{content_read, parsed}
pub use Rattle.wi_parser.specs.Inner.Refusals.{is_out_of_sheet, is_refused, is_unfit, refusal_of}
pub use Rattle.wi_parser.specs.Inner.SymbolCode.{all_meant, meant_by}
pub use Rattle.wi_parser.specs.Inner.SymbolLists.{symbols_text, tree_text}
pub use Rattle.wi_parser.specs.Inner.WhatIf.{pair_symbols, what_if_symbols}
pub use Rattle.wi_parser.specs.Leaves.{Leaf, all_leaves, cell_leaf, leaves, rectangle_leaf, what_if_leaf}
pub use Rattle.wi_parser.specs.Limits.{max_formula}
pub use Rattle.wi_parser.specs.Nesting.{depth, greatest_depth, is_sign, is_too_deep, max_depth, opened}
pub use Rattle.wi_parser.specs.Printing.{written_cell, operator_text, printed, symbol_text}
pub use Rattle.wi_parser.specs.Reads.{cell_area, inputs_of, leaf_inputs, leaf_reads, leaf_rectangles, reads, rectangles_of}
pub use Rattle.wi_parser.specs.Shift.{in_sheet, mapped_pairs, mapped_tree, mapped_trees, part, shifted, shifted_reference, within}
pub use Rattle.wi_parser.specs.Spelling.{HasSpelling, IsSpelling, spelling, spelling_of_all, spelling_of_more}
pub use Rattle.wi_parser.specs.Symbol.{Symbol, bad_token, close_parenthesis, corners, infix_mark, name, numeral, open_parenthesis, percent_mark, reference, separator, sign_mark, text_literal, what_if_name, written_as}
pub use Rattle.wi_parser.specs.Symbols.{AreSymbols, Means, NoneLonger, a_token, at_the_end, no_token, reference_to, white_space}
pub use Rattle.wi_parser.specs.Tree.{Tree, Trees, binary, call, cell, more_trees, no_trees, number, parenthesized, percent, rectangle, signed, text, trees_of, what_if, area_of}
pub use Rattle.wi_parser.specs.View.{all_of, layer_tree, pair_of, tree_of}
pub use Rattle.wi_parser.specs.Writable.{IsFormulaTree, IsFunctionName, IsWritable}
pub use Rattle.wi_parser.specs.declared.content.Content.{Content}
pub use Rattle.wi_parser.specs.declared.content.Content.TheVariants.{Constant, Formula}
pub use Rattle.wi_parser.specs.declared.expr.Corners.{Corners}
pub use Rattle.wi_parser.specs.declared.expr.Expr.{Expr, Expr-F, fold-roll-Expr}
pub use Rattle.wi_parser.specs.declared.expr.Operator.{Operator}
pub use Rattle.wi_parser.specs.declared.expr.Operator.TheVariants.{Add, Power, Subtract}
pub use Rattle.wi_parser.specs.declared.expr.Pair.{Pair}
pub use Rattle.wi_parser.specs.declared.expr.Reference.{Reference}
pub use Rattle.wi_parser.specs.declared.expr.Sign.{Sign}
pub use Rattle.wi_parser.specs.declared.expr.Sign.TheVariants.{Minus, Plus}
pub use Rattle.wi_parser.specs.declared.expr.WhatIf.{WhatIf}
pub use Rattle.wi_parser.specs.declared.fault.ParseFault.{ParseFault}
pub use Rattle.wi_parser.specs.declared.fault.ParseFault.TheVariants.{Memory, NumberRange, OutOfSheet, Syntax, TooDeep, TooLong}
pub use Rattle.wi_parser.specs.declared.formula.Lists.{Lists}
pub use Rattle.wi_parser.specs.declared.front.Front.{Front}
pub use Rattle.wi_values.proofs.Imports.{imported_exactly}
pub use Rattle.wi_values.proofs.Lists.{one_less}
pub use Rattle.wi_values.proofs.Order.{is_itself}
pub use Rattle.wi_values.proofs.ReadsBack.{addresses_read_back, column_are_letters, column_some}
pub use Rattle.wi_values.proofs.Within.{within_between}
pub use Rattle.wi_values.specs.Address.{Area, column_letters, column_of, columns, is_row_number, is_within, is_within_one, letters_value, place, row_of, rows}
unfoldable pub use Rattle.wi_values.specs.Address.{address_text}
pub use Rattle.wi_values.specs.AddressReading.{cell_at}
unfoldable pub use Rattle.wi_values.specs.AddressReading.{address_at, read_address}
pub use Rattle.wi_values.specs.Import.{max_text}
pub use Rattle.wi_values.specs.Imported.{IsImported}
pub use Rattle.wi_values.specs.Inner.Import.{imported}
pub use Rattle.wi_values.specs.declared.address.AddressFault.TheVariants.{Outside, Shape}
pub use Rattle.wi_values.specs.declared.value.Value.{Value}
pub use denote.Shadow.{shadow}
pub use denote.Text.{Utf8}
pub use mir.Val.{SFits}
