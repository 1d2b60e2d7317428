-- What the words of the program state.
use Rattle.std.specs.Prelude.{ℕ, true, List, map, Option, Some, None, String, string_bytes, codes, pos}
use Rattle.std.specs.Global.{Global}
use Rattle.std.specs.Str.Parse.{digits_value, without_leading_plus}
use Rattle.clap.specs.Words.{App, Row, Rule, Text, first_of, matches_of, new_app, new_rule}
use Rattle.clap.specs.Words.{with_rule, without_minus}
use Rattle.clap.specs.declared.builder.action.ArgAction.TheVariants.{Set}
use Rattle.clap.specs.declared.builder.value_parser.ValueParser.TheVariants.{Signed}

-- the words as texts
abbrev pub spelled : List (String Global) → List Text
spelled words = map (λ (word : String Global). string_bytes word) words

-- ---- what clap is told: whatif [--load FILE] [--keep N]

-- the most values that can be kept
abbrev pub most_kept : ℕ
most_kept = 1000000

-- how many values are kept where the words don't say
abbrev pub usual_kept : ℕ
usual_kept = 65536

-- an option with a long name and one value
abbrev pub option : Text → Rule
option name = record (new_rule name) { long = Some name; action = Some Set; value_names = 1 }

abbrev pub load_option : Rule
load_option = option (codes "load")

-- a number from 1 on
abbrev pub keep_option : Rule
keep_option = record (option (codes "keep")) { parser = Some (Signed (pos 1) (pos most_kept)) }

-- a command that tells its version
abbrev pub with_version : App → App
with_version app = record app { top = record app.top { has_version = true } }

abbrev pub whatif : App
whatif = with_rule (with_rule (with_version (new_app (codes "whatif"))) load_option) keep_option

-- ---- what clap states

unfoldable pub stated : List (String Global) → List Row
stated words = matches_of whatif (spelled words)

-- the value of `--load`, if there is one
abbrev pub stated_load : List (String Global) → Option Text
stated_load words = first_of (codes "load") (stated words)

-- the value of `--keep`, if there is one
abbrev pub stated_keep : List (String Global) → Option Text
stated_keep words = first_of (codes "keep") (stated words)

-- the number that a text spells
abbrev pub spelled_number : Text → ℕ
spelled_number text = digits_value 10 (without_leading_plus (without_minus text))

-- the number that is stated, or else the usual one
abbrev pub number_or : ℕ → Option Text → ℕ
number_or usual None = usual
number_or usual (Some text) = spelled_number text
