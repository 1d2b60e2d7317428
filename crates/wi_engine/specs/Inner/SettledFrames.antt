-- What was found for a formula, where it is settled.
use Rattle.std.specs.Prelude.{◌≡◌, ℕ, Bool, List, Some, IfSome, Contains}
use Rattle.wi_values.specs.declared.replacement.Replacement.{Replacement}
use Rattle.wi_parser.specs.Tree.{Tree}
use Rattle.wi_parser.specs.declared.content.Content.TheVariants.{Formula}
use Rattle.wi_parser.specs.Sheet.{Sheet, content_of, put_all}
use Rattle.wi_arguments.specs.Assignment.{Assignment, AgreesWith}
use Rattle.wi_functions.specs.Meaning.{meaning}
use Rattle.wi_sheet.specs.Demand.{what_ifs_of}
use Rattle.wi_sheet.specs.Settled.{IsSettled, IsWhatIfSettled}
use Rattle.wi_engine.specs.Inner.Attempt.{cell_known}
use Rattle.wi_engine.specs.Inner.Findings.{found_value, what_if_found}
use Rattle.wi_engine.specs.declared.findings.Findings.{Findings}
use Rattle.wi_engine.specs.declared.frame.Frame.{Frame}

-- what was found for a formula is of settled cells and of its settled what-ifs
pub record AreFoundSettled (s : Sheet) (kept : ℕ → List Replacement → Bool) (w : List Replacement) (t : Tree) (f : Findings) : Type 0 where
  pub cells : (c : ℕ) → IfSome (found_value f c) (λ v. IsSettled s kept w c)
  pub what_ifs : (c : ℕ) (pairs : List (ℕ × ℕ)) → IfSome (what_if_found f c pairs) (λ v. Contains (what_ifs_of t) (c, pairs) × IsWhatIfSettled s kept w (c, pairs))

-- what was found for a frame is settled
abbrev pub IsFrameSettled : Sheet → (ℕ → List Replacement → Bool) → Frame → Type 0
IsFrameSettled s kept f = (t : Tree) → content_of (put_all s f.key.world) f.key.cell ≡ Some (Formula t) → AreFoundSettled s kept f.key.world t f.found

-- the formula in c means one value by all values of cells and of what-ifs that agree with what is known
abbrev pub HasOneMeaning : Sheet → List Replacement → ℕ → Findings → Type 0
HasOneMeaning s w c f = (t : Tree) (a b : Assignment) → content_of (put_all s w) c ≡ Some (Formula t) → AgreesWith (cell_known s w f) (what_if_found f) a → AgreesWith (cell_known s w f) (what_if_found f) b →
    meaning t a.cells a.what_ifs ≡ meaning t b.cells b.what_ifs
