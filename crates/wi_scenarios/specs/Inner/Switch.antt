-- What there is room for where a scenario that puts in something else takes the place of one.
use Rattle.std.specs.Prelude.{◌≡◌, ◌≢◌, ◌||◌, ◌∷◌}
use Rattle.wi_scenarios.specs.Words.{ℕ, Bool, true, false, List, [], not, filter, map, Option, Some, None, Value, replaced, is_one_of, Sheet, shown, Scenario, effective, same_value}
use Rattle.wi_values.specs.declared.replacement.Replacement.{Replacement}
use Rattle.wi_sessions.specs.Roster.{Roster, session_at, pending_of, vacant_of}
use Rattle.wi_scenarios.specs.Pending.{IsMarked}

-- both are none, or one value
abbrev pub same_option : Option Value → Option Value → Bool
same_option None None = true
same_option (Some v) (Some w) = same_value v w
same_option v w = false

-- of these replacements, the cells whose replacement isn't the same in two lists
abbrev pub differing : List Replacement → List Replacement → List Replacement → List ℕ
differing before after among =
    filter (λ a. not (same_option (replaced before a) (replaced after a))) (map (λ r. r.at) among)

-- the replacement of a cell is another
abbrev pub Differs : List Replacement → List Replacement → ℕ → Type 0
Differs before after a = replaced before a ≢ replaced after a

-- The cells whose replacement is another are these.
pub record AreDiffering (before after : List Replacement) (cells : List ℕ) : Type 0 where
  pub each : (a : ℕ) → is_one_of cells a ≡ true → Differs before after a
  pub others : (a : ℕ) → is_one_of cells a ≡ false → replaced before a ≡ replaced after a

-- There is room for cells alone that are marked for some whose replacement is another, and with each of them for those
-- that it marks, where they aren't pending. A cell that is neither one of them nor pending shows the same.
pub record HasRoom (marked : Sheet → List ℕ → ℕ → Bool) (sheet : Sheet) (before after : List Replacement) (pending vacant : List ℕ) : Type 0 where
  pub marks : (a : ℕ) → is_one_of vacant a ≡ true → IsMarked marked sheet (Differs before after) a
  pub further : (a c : ℕ) → is_one_of vacant a ≡ true → marked sheet (a ∷ []) c ≡ true → (is_one_of pending c || is_one_of vacant c) ≡ true
  pub others : (a : ℕ) → is_one_of pending a ≡ false → is_one_of vacant a ≡ false → shown sheet before a ≡ shown sheet after a

-- there is room for the cells of the i-th session, as HasRoom says, where other scenarios take the place of all
abbrev pub HasRoomFor : (Sheet → List ℕ → ℕ → Bool) → Sheet → List Scenario → List Scenario → Roster → ℕ → Type 0
HasRoomFor marked sheet before after r i =
    let name = (session_at r i).scenario in
    HasRoom marked sheet (effective before name) (effective after name) (pending_of r i) (vacant_of r i)
