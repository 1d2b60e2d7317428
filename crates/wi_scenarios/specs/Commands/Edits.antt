-- What the commands that edit the sheet name and put.
use Rattle.std.specs.Prelude.{◌≡◌, ◌+◌, ◌-ℤ◌, ◌∷◌, ◌++◌}
use Rattle.wi_scenarios.specs.Words.{ℕ, ℤ, pos, Bool, false, List, [], map, filter, Option, Some, None, option_map, AllZip, concat, keys_of, Bytes, Area, is_within, cells_of, row_of, column_of, Content, IsContent, Sheet, content_of, recs, Field, fields_from, areas_from, edited, without_empty, State}
use Rattle.wi_parser.specs.declared.content.Content.TheVariants.{Constant, Formula}
use Rattle.wi_parser.specs.Shift.{shifted}
use Rattle.wi_import.specs.Imports.{IsChange}
use Rattle.wi_scenarios.specs.Commands.Operands.{Cell, address, area}
use Rattle.wi_scenarios.specs.Commands.Command.{Command, Set, Clear, Fill, Csv}

abbrev pub is_forced : Command → Bool
is_forced (Set force at text) = force
is_forced (Clear force rect) = force
is_forced (Fill force at rect) = force
is_forced (Csv force at n lines) = force
is_forced c = false

abbrev pub fields : Cell → List Bytes → List Field
fields at lines = fields_from at.row at.column (recs (concat lines))

abbrev pub named : Command → List Area
named (Set force at text) = area (at, at) ∷ []
named (Clear force rect) = area rect ∷ []
named (Fill force at rect) = area rect ∷ []
named (Csv force (Some at) n lines) = areas_from at.row at.column (recs (concat lines))
named c = []

-- the copy of a content so far down and to the right; none of a formula that can't be shifted so
abbrev pub copied : ℤ → ℤ → Option Content → Option (Option Content)
copied down right None = Some None
copied down right (Some (Constant v)) = Some (Some (Constant v))
copied down right (Some (Formula t)) = option_map (λ u. Some (Formula u)) (shifted down right t)

abbrev pub Put : Type 0
Put = ℕ × Option Content

module _ (s : State) where
  abbrev pub copy_in : ℕ → ℕ → Option (Option Content)
  copy_in from to =
      copied (pos (row_of to) -ℤ pos (row_of from)) (pos (column_of to) -ℤ pos (column_of from)) (content_of s.stored.sheet from)

  abbrev pub Puts : Command → List Put → Type 0
  Puts (Set force at text) puts = (c : Content) × IsContent text c × (puts ≡ (address at, Some c) ∷ [])
  Puts (Clear force rect) puts = puts ≡ map (λ a. (a, None)) (filter (is_within (area rect)) (keys_of s.stored.sheet))
  Puts (Fill force from rect) puts =
      AllZip (λ to put. (put.0 ≡ to) × (copy_in (address from) to ≡ Some put.1)) (cells_of (area rect)) puts
  Puts (Csv force (Some at) n lines) puts = AllZip IsChange (fields at lines) puts
  Puts c puts = ⊥

  abbrev pub sheet_with : List Put → Sheet
  sheet_with puts = edited s.stored.sheet (map (λ p. (p.0, without_empty p.1)) puts)

  abbrev pub after_edit : Command → List Put → State
  after_edit c puts = record s {
    stored = record { sheet = sheet_with puts; edits = s.stored.edits + 1; limits = s.stored.limits };
    log = s.log ++ record { session = s.current; areas = named c } ∷ [];
  }
