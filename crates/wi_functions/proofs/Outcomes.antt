-- What follows where an evaluation is done.
use Rattle.wi_functions.proofs.Words.{◌≡◌, ℕ, List, Option, sym, ap, ◌∙◌, Value, Tree, Assignment, AgreesWith, meaning, zero_for_empty, ByAll, IsValueOf}

module _ {K : Type 0} (known_cell : K → ℕ → Option Value) (known_what_if : K → ℕ → List (ℕ × ℕ) → Option Value) (known : K) (t : Tree) (v : Value)
    (is : IsValueOf known_cell known_what_if known t v) where
  -- by each assignment that agrees with what is known the value is the tree's meaning, with Empty turned to 0
  pub value_by_all : ByAll known_cell known_what_if known (λ a. v ≡ zero_for_empty (meaning t a.cells a.what_ifs))
  value_by_all a agrees = is.value ∙ ap zero_for_empty (is.one_meaning a agrees)

  -- and by any two of them the tree means the same
  pub same_by_all : (a b : Assignment) → AgreesWith (known_cell known) (known_what_if known) a → AgreesWith (known_cell known) (known_what_if known) b →
      meaning t a.cells a.what_ifs ≡ meaning t b.cells b.what_ifs
  same_by_all a b f g = sym (is.one_meaning a f) ∙ is.one_meaning b g
