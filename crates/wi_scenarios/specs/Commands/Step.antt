-- A step as the calls of a workbook tell it, which refuse by `Refusal`.
use Rattle.std.specs.Prelude.{◌≡◌, ◌≤◌, ◌⊎◌, ◌∷◌}
use Rattle.wi_scenarios.specs.Words.{ℕ, Bool, List, [], length, map, Some, Ok, Err, All, concat, Bytes, Refusal, State}
use Rattle.wi_scenarios.specs.declared.refusal.Refusal.TheVariants as refusal
use Rattle.wi_scenarios.specs.Answer.{Answer}
use Rattle.wi_scenarios.specs.Commands.Operands.{cell, max_line, without_lf}
use Rattle.wi_scenarios.specs.Commands.Command.{Command, Csv}
use Rattle.wi_scenarios.specs.Commands.Causes.{Cause, BadLine, BadCommand, CutShort, Outside, TooLarge, NoScenario, InUse, TooMany, BadField, TooLong, OutOfSheet, NumberRange, TooDeep, Syntax, LeavesSheet, Stale, Loop, Full, EditLimit, order, Holds, stale_cell}
use Rattle.wi_scenarios.specs.Commands.Does.{Does}

-- the refusal for a cause, which for a stale edit names the first stale cell
abbrev pub Tells : State → Command → Cause → Refusal → Type 0
Tells s c BadLine e = e ≡ refusal.BadLine
Tells s c BadCommand e = e ≡ refusal.BadCommand
Tells s c CutShort e = e ≡ refusal.CutShort
Tells s c Outside e = e ≡ refusal.OutOfSheet
Tells s c TooLarge e = e ≡ refusal.TooLarge
Tells s c NoScenario e = e ≡ refusal.NoScenario
Tells s c InUse e = e ≡ refusal.InUse
Tells s c TooMany e = e ≡ refusal.TooMany
Tells s c BadField e = e ≡ refusal.BadField
Tells s c TooLong e = e ≡ refusal.TooLong
Tells s c OutOfSheet e = e ≡ refusal.OutOfSheet
Tells s c NumberRange e = e ≡ refusal.NumberRange
Tells s c TooDeep e = e ≡ refusal.TooDeep
Tells s c Syntax e = e ≡ refusal.Syntax
Tells s c LeavesSheet e = e ≡ refusal.LeavesSheet
Tells s c Stale e = (at : ℕ) × (stale_cell s c ≡ Some at) × (e ≡ refusal.Stale at)
Tells s c Loop e = e ≡ refusal.Loop
Tells s c Full e = e ≡ refusal.Full
Tells s c EditLimit e = e ≡ refusal.EditLimit

-- the causes in their order, and the first that holds
abbrev pub causes : List Cause
causes = map (λ x. x.0) order

abbrev pub IsFirstOf : State → Command → List Cause → Cause → Type 0
IsFirstOf s c [] cause = ⊥
IsFirstOf s c (x ∷ xs) cause = (Holds s x c × (cause ≡ x)) ⊎ ((Holds s x c → ⊥) × IsFirstOf s c xs cause)

abbrev pub IsStep : State → Command → Answer → Type 0
IsStep s c (Err e) = (cause : Cause) × IsFirstOf s c causes cause × Tells s c cause e
IsStep s c (Ok done) = ((cause : Cause) → Holds s cause c → ⊥) × Does s c done

-- A text is cut into these data lines, of which none is too long, and of those asked for none is missing.
pub record AreDataLines (text : Bytes) (n : ℕ) (lines : List Bytes) : Type 0 where
  pub joined : concat lines ≡ text
  pub short : All (λ line. length (without_lf line) ≤ max_line) lines
  pub come : n ≤ length lines

-- the answer to `csv` with the data lines of a text, however it is cut
abbrev pub IsImportStep : State → Bool → ℕ → Bytes → Answer → Type 0
IsImportStep s force at text a = (n : ℕ) (lines : List Bytes) → AreDataLines text n lines → IsStep s (Csv force (Some (cell at)) n lines) a
