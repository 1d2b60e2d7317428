-- What the code reads of a parse.
use Rattle.std.specs.Prelude.{◌≡◌, true, false, is_some, [], Some, codes, pos}
use Rattle.clap.specs.Built.{IsPlainArg}
use Rattle.clap.specs.Words.{IsSignedIn, Rule, Text, app_of, args_of, first_value, found_of, groups_of}
use Rattle.clap.specs.Words.{new_app, one_text, rule_of, without_minus}
use Rattle.clap.specs.declared.builder.arg.Arg.{Arg}
use Rattle.clap.specs.declared.builder.command.Command.{Command}
use Rattle.clap.specs.declared.builder.command.Command.TheViews.{out-Command as fields_of}
use Rattle.clap.specs.declared.parser.matches.ArgMatches.{ArgMatches}
use Rattle.clap.specs.declared.parser.matches.Found.{Found}
use Rattle.wi_options.specs.Stated.{most_kept, with_version}

-- the first value under this id is a number in the range, and is read without a minus
abbrev pub ReadsNumber : Found → Text → Type 0
ReadsNumber found id = (text : Text) × (first_value found id ≡ Some text)
    × (one_text found id ≡ Some (without_minus text)) × IsSignedIn (pos 1) (pos most_kept) text

-- where there is a value of `--keep`, it is such a number
abbrev pub ReadsKeep : ArgMatches → Type 0
ReadsKeep m = is_some (first_value (found_of m) (codes "keep")) ≡ true
    → ReadsNumber (found_of m) (codes "keep")

-- the option has these rules, and neither excludes nor joins others
abbrev pub IsPlainly : Rule → Arg → Type 0
IsPlainly rule option = (rule_of option ≡ rule) × IsPlainArg option × (option.global ≡ false)

-- the program, without options
pub record IsBare (command : Command) : Type 0 where
  pub app : app_of command ≡ with_version (new_app (codes "whatif"))
  pub args : args_of command ≡ []
  pub groups : groups_of command ≡ []
  pub globals : (fields_of command).has_globals ≡ false
