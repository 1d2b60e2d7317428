-- A what-if of two inputs, read.
use Rattle.std.specs.Prelude.{◌≡◌, ℕ, false, [], ◌∷◌, Ok, codes, refl}
use Rattle.wi_parser.proofs.Words.{place, address_at, number_len, decimal_len, decimals_len, signed_len, exponent_len, quoted_len, column_len, row_len, cell_len, cell_of, first_len, second_len, reference_of, reference_len, rectangle_len, rectangle_of, corner_cells, mark_at, two_byte_mark, one_byte_mark, name_len, token_at, tokens, tokens_within, Reference, what_if, pair_at, what_if_at, atom, chain, level, expression, formula_symbols, parsed}

-- a reference to the cell at a row and a column, both counted from 0
abbrev relative : ℕ → ℕ → Reference
relative row column = record { at = place row column; column_is_absolute = false; row_is_absolute = false }

two_inputs_read : parsed (codes "=MULTIPLE.OPERATIONS([.B2];[.B1];[.A4];[.C1];[.A5])") ≡ Ok (what_if (relative 1 1) ((relative 0 1, relative 3 0) ∷ (relative 0 2, relative 4 0) ∷ []))
unfolding parsed formula_symbols tokens tokens_within token_at number_len decimal_len decimals_len signed_len exponent_len quoted_len mark_at two_byte_mark one_byte_mark column_len row_len cell_len first_len second_len reference_len reference_of cell_of rectangle_len rectangle_of corner_cells name_len address_at pair_at what_if_at atom chain level expression
two_inputs_read = refl
