-- The command that a text spells, by the forms of commands.
use Rattle.wi_scenarios.specs.Commands.Command.{Set, Clear, Fill, Scenario, Drop, Base, Use, As, Show, Export, Changes, Compare, Table, Formula}
use Rattle.std.specs.Prelude.{if◌then◌else◌, ◌∷◌}
use Rattle.wi_cli.specs.Words.{Bool, Bytes, Cell, Command, CornerCells, List, None, Option, Some, Unknown, [], after_word, bytes_eq, codes, false, first_word, option_map, read_name, true}
use Rattle.wi_cli.specs.Inner.Operands.{is_all_spaces, both, spelled_cell, spelled_rect, read_side}

-- ---- words

pub data Kind : Type 0 where
  A_CELL A_RECT A_NAME A_SESSION A_SIDE : Kind

-- what stands behind a name: nothing; a content, which is all that is left; a word and more; or nothing, or that
pub data Words : Type 0 where
  END TEXT : Words
  AND MAYBE : Kind → Words → Words

abbrev pub Value : Kind → Type 0
Value A_CELL = Cell
Value A_RECT = CornerCells
Value A_NAME = Bytes
Value A_SESSION = Bytes
Value A_SIDE = Option Bytes

abbrev pub Values : Words → Type 0
Values END = Unit {0}
Values TEXT = Bytes
Values (AND k ws) = Value k × Values ws
Values (MAYBE k ws) = Option (Value k × Values ws)

abbrev pub read_word : (k : Kind) → Bytes → Option (Value k)
read_word A_CELL word = spelled_cell word
read_word A_RECT word = spelled_rect word
read_word A_NAME word = read_name word
read_word A_SESSION word = read_name word
read_word A_SIDE word = read_side word

abbrev pub read_words : (ws : Words) → Bytes → Option (Values ws)
read_words END text = if is_all_spaces text then Some tt else None
read_words TEXT text = Some text
read_words (AND k ws) text = both (read_word k (first_word text)) (read_words ws (after_word text))
read_words (MAYBE k ws) text =
    if is_all_spaces text then Some None else option_map (λ v. Some v) (both (read_word k (first_word text)) (read_words ws (after_word text)))

-- ---- forms

-- a command's name, what stands behind it, and the command
pub record Form : Type 0 where
  pub name : Bytes
  pub words : Words
  pub make : Values words → Command

abbrev pub made : {X : Type 0} → Option X → (X → Command) → Command
made (Some x) make = make x
made None make = Unknown

-- The commands without data lines. Of those that may be forced it is told whether they are.
pub data Verb : Type 0 where
  SET CLEAR FILL : Bool → Verb
  SCENARIO DROP BASE USE AS SHOW EXPORT CHANGES COMPARE TABLE FORMULA : Verb

abbrev pub form_of : Verb → Form
form_of (SET force) = record { name = codes "set"; words = AND A_CELL TEXT; make = λ v. Set force v.0 v.1 }
form_of (CLEAR force) = record { name = codes "clear"; words = AND A_RECT END; make = λ v. Clear force v.0 }
form_of (FILL force) = record { name = codes "fill"; words = AND A_CELL (AND A_RECT END); make = λ v. Fill force v.0 v.1.0 }
form_of SCENARIO = record { name = codes "scenario"; words = AND A_NAME (AND A_CELL TEXT); make = λ v. Scenario v.0 v.1.0 v.1.1 }
form_of DROP = record { name = codes "drop"; words = AND A_NAME END; make = λ v. Drop v.0 }
form_of BASE = record { name = codes "base"; words = AND A_NAME (MAYBE A_NAME END); make = λ v. Base v.0 (option_map (λ x. x.0) v.1) }
form_of USE = record { name = codes "use"; words = MAYBE A_NAME END; make = λ v. Use (option_map (λ x. x.0) v) }
form_of AS = record { name = codes "as"; words = AND A_SESSION END; make = λ v. As v.0 }
form_of SHOW = record { name = codes "show"; words = AND A_RECT END; make = λ v. Show v.0 }
form_of EXPORT = record { name = codes "export"; words = AND A_RECT END; make = λ v. Export v.0 }
form_of CHANGES = record { name = codes "changes"; words = END; make = λ v. Changes }
form_of COMPARE = record { name = codes "compare"; words = AND A_SIDE (AND A_SIDE (AND A_RECT END)); make = λ v. Compare v.0 v.1.0 v.1.1.0 }
form_of TABLE = record {
  name = codes "table";
  words = AND A_CELL (AND A_CELL (AND A_RECT (MAYBE A_CELL (AND A_RECT END))));
  make = λ v. Table v.0 v.1.0 v.1.1.0 (option_map (λ y. (y.0, y.1.0)) v.1.1.1);
}
form_of FORMULA = record { name = codes "formula"; words = AND A_CELL END; make = λ v. Formula v.0 }

-- the command of these operands
unfoldable pub spelled : Verb → Bytes → Command
spelled verb operands = made (read_words (form_of verb).words operands) (form_of verb).make

-- the commands that may be forced, and all
abbrev pub edits : Bool → List Verb
edits force = SET force ∷ CLEAR force ∷ FILL force ∷ []

abbrev pub verbs : List Verb
verbs = SCENARIO ∷ DROP ∷ BASE ∷ USE ∷ AS ∷ SHOW ∷ EXPORT ∷ CHANGES ∷ COMPARE ∷ TABLE ∷ FORMULA ∷ edits false

-- ---- a text

-- the command of this name
abbrev pub named_in : List Verb → Bytes → Bytes → Command
named_in [] name operands = Unknown
named_in (v ∷ vs) name operands = if bytes_eq name (form_of v).name then spelled v operands else named_in vs name operands

-- `force` stands before the name of an edit
abbrev pub named_command : Bytes → Bytes → Command
named_command name operands =
    if bytes_eq name (codes "force") then named_in (edits true) (first_word operands) (after_word operands) else named_in verbs name operands

-- the command that a text spells
unfoldable pub spelled_command : Bytes → Command
spelled_command text = named_command (first_word text) (after_word text)
