use Rattle.wi_cli.proofs.Vocabulary.{◌≡◌, Err, List, None, Some, ap, codes, refl, ℕ, Bool, Command, Unknown, IsAsked, csv_named, edits, named_in, true}
use Rattle.wi_scenarios.specs.declared.refusal.Refusal.TheVariants.{BadCommand}
use Rattle.wi_cli.specs.declared.line.Line.TheVariants as read
use Rattle.wi_cli.proofs.AskedLemmas.{asked_refused, no_command, not_name}
use Rattle.wi_cli.proofs.edit_commands.read_edit.Goals as goal

pub returns-in-set : goal.returns-in-set
returns-in-set c = rw c.in-set.is (refl, (_, refl, c.read_set.ensures))

pub returns-in-clear : goal.returns-in-clear
returns-in-clear c = rw c.in-clear.is (refl, (_, refl, c.read_clear.ensures))

pub returns-in-fill : goal.returns-in-fill
returns-in-fill c = rw c.in-fill.is (refl, (_, refl, c.read_fill.ensures))

pub returns-in-csv : goal.returns-in-csv
returns-in-csv c = rw c.in-csv.is c.read_import.ensures

-- an edit of no name
no_edit : (force : Bool) (word operands : List ℕ) → (word ≡ codes "set" → ⊥) → (word ≡ codes "clear" → ⊥) → (word ≡ codes "fill" → ⊥) → (word ≡ codes "csv" → ⊥)
    → IsAsked (csv_named force word operands) true (Some (named_in (edits force) word operands)) (read.Command (Err BadCommand))
no_edit force word operands a b c d =
    let none : csv_named force word operands ≡ None = rw (not_name word (codes "csv") d) refl in
    let bad : named_in (edits force) word operands ≡ Unknown = rw (not_name word (codes "set") a, not_name word (codes "clear") b, not_name word (codes "fill") c) refl in
    asked_refused _ true _ Unknown BadCommand none (ap (λ (c : Command). Some c) bad) no_command

pub returns-in_default : goal.returns-in_default
returns-in_default c =
    let f = c.in_default in
    no_edit c.args.force c.args.name.now c.args.operands.now f.not-set f.not-clear f.not-fill f.not-csv
