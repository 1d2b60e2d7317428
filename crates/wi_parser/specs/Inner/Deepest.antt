-- How deep symbols nest, from the first to the last, as the code counts it.
use Rattle.std.specs.Prelude.{ℕ, suc, ◌-◌, max, List, [], ◌∷◌, if◌then◌else◌}
use Rattle.wi_parser.specs.Nesting.{is_sign}
use Rattle.wi_parser.specs.Symbol.{Symbol, open_parenthesis, close_parenthesis}

-- The most parentheses open at once, where h are open before. One that closes none counts for nothing.
abbrev pub deepest : ℕ → List Symbol → ℕ
deepest h [] = h
deepest h (open_parenthesis ∷ ts) = deepest (suc h) ts
deepest h (close_parenthesis ∷ ts) = max h (deepest (h - 1) ts)
deepest h (s ∷ ts) = deepest h ts

-- the most signs that stand one after another, where n stand before
abbrev pub most_signs : ℕ → List Symbol → ℕ
most_signs n [] = n
most_signs n (x ∷ ts) = if is_sign x then most_signs (suc n) ts else max n (most_signs 0 ts)
