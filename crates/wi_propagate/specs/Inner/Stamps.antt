-- Generations that are stamped late.
use Rattle.std.specs.Prelude.{◌≡◌, ◌≤◌, ◌==◌, ◌++◌, ◌∷◌, ◌⊎◌, ℕ, max, List, [], map, Option, None, IfSome, IsSome, if◌then◌else◌}
use Rattle.std.specs.Map.{keys_of}
use Rattle.wi_parser.specs.Sheet.{Sheet, cells_with_formula}
use Rattle.wi_values.specs.Address.{is_one_of}
use Rattle.wi_graph.specs.Reach.{in_cone}
use Rattle.wi_graph.specs.Latest.{AreDirty, latest_among}
use Rattle.wi_propagate.specs.KeptSheet.{Generations, generation_in}

-- Numbers by cells. Where there is a head, the cells of its cone have the greatest, and no others.
pub record HeadedNumbers : Type 0 where
  pub numbers : Generations
  pub head : Option ℕ
  pub cone : List ℕ

-- The greatest number may count as a later one.
abbrev pub renewed : ℕ → ℕ → ℕ → ℕ
renewed greatest counts_as n = if n == greatest then counts_as else n

abbrev pub renewed_all : ℕ → ℕ → Generations → Generations
renewed_all greatest counts_as ns = map (λ e. (e.0, renewed greatest counts_as e.1)) ns

-- So numbers are held: where the greatest counts as another, it is that of the head's cone alone.
pub record IsHeaded (ns : Generations) (head : Option ℕ) (cone : List ℕ) (greatest counts_as : ℕ) : Type 0 where
  pub most : (c : ℕ) → generation_in ns c ≤ greatest
  pub no_less : greatest ≤ counts_as
  pub none : head ≡ None → greatest ≡ counts_as
  pub some : IsSome head → 1 ≤ greatest
  pub cone_has : IsSome head → (c : ℕ) → is_one_of cone c ≡ (generation_in ns c == greatest)

-- Cells that edits named, each with the number of the last that did; cells that were stamped with the number of an edit
-- that named what they reach, of the head's cone the greatest; and the dirty cells, whose dependents aren't stamped with
-- their last edits yet.
pub record Stamps : Type 0 where
  pub edited_at : Generations
  pub valid_since : Generations
  pub head : Option ℕ
  pub cone : List ℕ
  pub dirty : List ℕ

-- what a cell is stamped with, its own edits included
abbrev pub stamped_in : Generations → Generations → ℕ → ℕ
stamped_in edited_at valid_since c = max (generation_in edited_at c) (generation_in valid_since c)

-- the generations that these numbers tell of a sheet's cells
unfoldable pub flushed : Sheet → Generations → Generations
flushed s ns = map (λ c. (c, latest_among s (generation_in ns) (keys_of ns) c)) (keys_of ns ++ cells_with_formula s)

-- the head, if there is one, has this cone
abbrev pub IsHeadOf : Sheet → Option ℕ → List ℕ → Type 0
IsHeadOf s head cone = IfSome head (λ d. (c : ℕ) → is_one_of cone c ≡ in_cone s (d ∷ []) c)

-- each cell is stamped with its generation or reaches a dirty one
pub record AreStamped (s : Sheet) (g : Stamps) : Type 0 where
  pub dirty : AreDirty s (generation_in g.edited_at) g.dirty (stamped_in g.edited_at g.valid_since)
  pub head : IsHeadOf s g.head g.cone

-- and the numbers are of edits that were accepted
pub record AreKeptUp (s : Sheet) (edits : ℕ) (g : Stamps) : Type 0 where
  pub past : (c : ℕ) → generation_in g.edited_at c ≤ edits
  pub stamped : AreStamped s g

-- and none is dirty
pub record AreAllStamped (s : Sheet) (edits : ℕ) (g : Stamps) : Type 0 where
  pub kept_up : AreKeptUp s edits g
  pub none_dirty : g.dirty ≡ []
