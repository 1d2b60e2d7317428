-- How one evaluation of the formula of a key ends, over the values that were found for it.
use Rattle.std.specs.Prelude.{◌≡◌}
use Rattle.wi_values.specs.declared.value.Value.{Value}
use Rattle.wi_parser.specs.Sheet.{Sheet, put_all}
use Rattle.wi_functions.specs.declared.evaluation.Want.{Want}
use Rattle.wi_functions.specs.declared.evaluation.Outcome.{Outcome}
use Rattle.wi_functions.specs.declared.evaluation.Outcome.TheVariants.{Done, Needs}
use Rattle.wi_cache.specs.declared.key.Key.{Key}
use Rattle.wi_sheet.specs.CellValue.{cell_value}
use Rattle.wi_engine.specs.Inner.Attempt.{AsksAt, IsLacking}
use Rattle.wi_engine.specs.Inner.SettledFrames.{HasOneMeaning}
use Rattle.wi_engine.specs.declared.findings.Findings.{Findings}

-- what the cell shows, and what was found leaves its formula one meaning
pub record IsValueAt (s : Sheet) (k : Key) (f : Findings) (v : Value) : Type 0 where
  pub value : v ≡ cell_value (put_all s k.world) k.cell
  pub one_meaning : HasOneMeaning s k.world k.cell f

-- what the formula asks for, and was not found
pub record IsLackingAt (s : Sheet) (k : Key) (f : Findings) (w : Want) : Type 0 where
  pub asked : AsksAt s k.world k.cell w
  pub lacking : IsLacking s k.world f w

-- it ends with the value, or at what it lacks
abbrev pub IsAttemptOf : Sheet → Key → Findings → Outcome → Type 0
IsAttemptOf s k f (Done v) = IsValueAt s k f v
IsAttemptOf s k f (Needs w) = IsLackingAt s k f w
