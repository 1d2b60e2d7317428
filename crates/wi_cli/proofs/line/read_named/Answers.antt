use Rattle.wi_cli.proofs.Vocabulary.{◌≡◌, List, Some, ap, codes, false, refl, true, ℕ, Command, IsAsked, Line, csv_by_name, csv_named, edits, named_command, named_in}
use Rattle.wi_cli.proofs.AskedLemmas.{asked_same, not_name}
use Rattle.wi_cli.proofs.line.read_named.Goals as goal

pub returns-in-force : goal.returns-in-force
returns-in-force c = rw c.in-force.is c.read_forced.ensures

pub returns-in-scenario : goal.returns-in-scenario
returns-in-scenario c = rw c.in-scenario.is (refl, (_, refl, c.read_scenario.ensures))

pub returns-in-drop : goal.returns-in-drop
returns-in-drop c = rw c.in-drop.is (refl, (_, refl, c.read_drop.ensures))

pub returns-in-base : goal.returns-in-base
returns-in-base c = rw c.in-base.is (refl, (_, refl, c.read_base.ensures))

pub returns-in-use : goal.returns-in-use
returns-in-use c = rw c.in-use.is (refl, (_, refl, c.read_use.ensures))

pub returns-in-as : goal.returns-in-as
returns-in-as c = rw c.in-as.is (refl, (_, refl, c.read_as.ensures))

pub returns-in-show : goal.returns-in-show
returns-in-show c = rw c.in-show.is (refl, (_, refl, c.read_show.ensures))

pub returns-in-export : goal.returns-in-export
returns-in-export c = rw c.in-export.is (refl, (_, refl, c.read_export.ensures))

pub returns-in-changes : goal.returns-in-changes
returns-in-changes c = rw c.in-changes.is (refl, (_, refl, c.read_changes.ensures))

pub returns-in-compare : goal.returns-in-compare
returns-in-compare c = rw c.in-compare.is (refl, (_, refl, c.read_compare.ensures))

pub returns-in-table : goal.returns-in-table
returns-in-table c = rw c.in-table.is (refl, (_, refl, c.read_table.ensures))

pub returns-in-formula : goal.returns-in-formula
returns-in-formula c = rw c.in-formula.is (refl, (_, refl, c.read_formula.ensures))

-- a name that is none of the others is an edit's
others_asked : (word operands : List ℕ) (r : Line)
    → (word ≡ codes "force" → ⊥) → (word ≡ codes "scenario" → ⊥) → (word ≡ codes "drop" → ⊥) → (word ≡ codes "base" → ⊥)
    → (word ≡ codes "use" → ⊥) → (word ≡ codes "as" → ⊥) → (word ≡ codes "show" → ⊥) → (word ≡ codes "export" → ⊥)
    → (word ≡ codes "changes" → ⊥) → (word ≡ codes "compare" → ⊥) → (word ≡ codes "table" → ⊥) → (word ≡ codes "formula" → ⊥)
    → IsAsked (csv_named false word operands) true (Some (named_in (edits false) word operands)) r → IsAsked (csv_by_name word operands) true (Some (named_command word operands)) r
others_asked word operands r a b c d e f g h i j k l asked =
    let named : named_command word operands ≡ named_in (edits false) word operands =
    rw (not_name word (codes "force") a, not_name word (codes "scenario") b, not_name word (codes "drop") c, not_name word (codes "base") d, not_name word (codes "use") e, not_name word (codes "as") f, not_name word (codes "show") g, not_name word (codes "export") h, not_name word (codes "changes") i, not_name word (codes "compare") j, not_name word (codes "table") k, not_name word (codes "formula") l) refl in
    asked_same _ _ true true _ _ r (rw (not_name word (codes "force") a) refl) refl (ap (λ (c : Command). Some c) named) asked

pub returns-in_default : goal.returns-in_default
returns-in_default c =
    let f = c.in_default in
    others_asked c.args.name.now c.args.operands.now c.read_edit.result f.not-force f.not-scenario f.not-drop f.not-base f.not-use f.not-as f.not-show f.not-export f.not-changes f.not-compare f.not-table f.not-formula c.read_edit.ensures
