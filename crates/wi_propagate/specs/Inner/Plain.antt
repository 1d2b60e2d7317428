-- What a plain calculator is seen as, and what it marks.
use Rattle.std.specs.Prelude.{ℕ, Bool, ◌||◌, List}
use Rattle.wi_values.specs.Address.{is_one_of}
use Rattle.wi_parser.specs.Sheet.{Sheet, content_of, has_formula}
use Rattle.wi_functions.specs.Counts.{Counts}
use Rattle.wi_store.specs.Store.{Stored}
use Rattle.wi_propagate.specs.declared.plain.PlainCalculator.{PlainCalculator}

-- its sheet, with the count of accepted edits and the limits of both
abbrev pub stored_of : PlainCalculator → Stored
stored_of c = c.store

-- how many formulas it has evaluated, and how many evaluations were begun again
abbrev pub counts_of : PlainCalculator → Counts
counts_of c = c.meter

-- the cell has a formula, or is one of these
abbrev pub has_formula_or_is_one_of : Sheet → List ℕ → ℕ → Bool
has_formula_or_is_one_of s cells c = has_formula (content_of s c) || is_one_of cells c
