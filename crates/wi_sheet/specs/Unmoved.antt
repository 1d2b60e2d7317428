-- Which cells keep what they show where others change, and what is so of a test that marks all that may not.
use Rattle.std.specs.Prelude.{◌≡◌, ◌⊎◌, ◌||◌, ℕ, Bool, true, false, List, [], ◌∷◌}
use Rattle.wi_values.specs.declared.replacement.Replacement.{Replacement}
use Rattle.wi_values.specs.Replacements.{last_for}
use Rattle.wi_values.specs.Address.{is_one_of}
use Rattle.wi_parser.specs.Sheet.{Sheet, content_of, has_formula}
use Rattle.wi_graph.specs.Reach.{SameOff}
use Rattle.wi_sheet.specs.Shown.{shown}

-- both lists of replacements say the same of all cells but these, replaced and not replaced alike
abbrev pub SayTheSameOff : List Replacement → List Replacement → List ℕ → Type 0
SayTheSameOff p q cells = (d : ℕ) → is_one_of cells d ≡ false → last_for p d ≡ last_for q d

-- The cell shows one value in all sheets that are s but for these cells, under all replacements that are the same but
-- for them.
abbrev pub IsUnmoved : Sheet → List ℕ → ℕ → Type 0
IsUnmoved s cells c = (t u : Sheet) (p q : List Replacement) → SameOff s t cells → SameOff s u cells → SayTheSameOff p q cells → shown t p c ≡ shown u q c

-- What is so of a test that marks cells where some change: no other cell moves, each marked one is one of these or has
-- a formula, and what a marked cell marks is marked too. A cell marks after an edit what it marked before, or what the
-- edited cells mark.
pub record IsMarking (marked : Sheet → List ℕ → ℕ → Bool) : Type 0 where
  pub unmoved : (s : Sheet) (xs : List ℕ) (c : ℕ) → marked s xs c ≡ false → IsUnmoved s xs c
  pub formulas : (s : Sheet) (xs : List ℕ) (c : ℕ) → marked s xs c ≡ true → (has_formula (content_of s c) || is_one_of xs c) ≡ true
  pub further : (s : Sheet) (xs : List ℕ) (a c : ℕ) → marked s xs a ≡ true → marked s (a ∷ []) c ≡ true → marked s xs c ≡ true
  pub edited : (s t : Sheet) (xs : List ℕ) (a c : ℕ) → SameOff s t xs → marked t (a ∷ []) c ≡ true → (marked s (a ∷ []) c ≡ true) ⊎ (marked s xs c ≡ true)
