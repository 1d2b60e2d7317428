-- The inputs of a what-if, taken one after another.
use Rattle.wi_sheet.proofs.Words.{◌≡◌, ◌+◌, ◌<◌, ℕ, List, [], ◌∷◌, ◌++◌, map, take, length, get_or, arith, common_steps, Value, Replacement, Pair, pair_of, Sheet, put_all, addresses, replacements, cell_value}

-- one input more has the value of its replacement cell
pub one_more_input : (s : Sheet) (w : List Replacement) (ps : List Pair) (i : ℕ) (p : Pair) (v : Value) (xs ys : List Replacement) → i < length ps → p ≡ get_or ps i p → xs ≡ replacements (cell_value (put_all s w)) (map addresses (map pair_of (take i ps))) →
    v ≡ cell_value (put_all s w) p.replacement.at → ys ≡ xs ++ record { at = p.input.at; value = v } ∷ [] → ys ≡ replacements (cell_value (put_all s w)) (map addresses (map pair_of (take (i + 1) ps)))
one_more_input s w ps i p v xs ys there e before is after = grind (arith, common_steps)
