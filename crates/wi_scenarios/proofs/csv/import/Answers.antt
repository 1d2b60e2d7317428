use Rattle.wi_scenarios.proofs.Words.{rules, refl, subst, sym, fields_at, AreChanges, book_by, state_of}
use Rattle.wi_import.specs.declared.fault.ImportFault.TheVariants as import
use Rattle.wi_scenarios.proofs.CallLemmas.{unchanged, as_step}
use Rattle.wi_scenarios.proofs.CsvSteps.{csv_refused, csv_edited, imported_are}
use Rattle.wi_scenarios.proofs.csv.import.Goals as goal

pub returns-in_err-found-clause-edit : goal.returns-in_err-found-clause-edit
returns-in_err-found-clause-edit g c =
    let old = book_by g.C.Calculator.stored g.C.Calculator.evaluated g.C.Calculator.restarted c.args.calculator.now c.args.desk.now in
    unchanged _ old (csv_refused c.from_residual.result old.state c.args.force c.args.at c.args.text.now c.in_err-found.field-0.0 c.is_placed.ensures c.from_residual.ensures.1 (search rules))

pub returns-in_err-named-clause-edit : goal.returns-in_err-named-clause-edit
returns-in_err-named-clause-edit g c =
    let old = book_by g.C.Calculator.stored g.C.Calculator.evaluated g.C.Calculator.restarted c.args.calculator.now c.args.desk.now in
    unchanged _ old
    (csv_refused c.from_residual-in_err-named.result old.state c.args.force c.args.at c.args.text.now import.Memory c.is_placed.ensures c.from_residual-in_err-named.ensures.1 (λ apart. absurd (apart refl)))

pub returns-clause-edit : goal.returns-clause-edit
returns-clause-edit g c =
    let are = subst (AreChanges (fields_at c.args.at c.args.text.now)) (sym c.deref_mut.ensures.value) (search rules) in
    as_step (imported_are c.args.at c.args.text.now c.deref_mut.result.now are)
    (csv_edited c.apply_edit.result (state_of (g.C.Calculator.stored c.args.calculator.now) c.args.desk.now) (state_of (g.C.Calculator.stored c.apply_edit.new.calculator) c.apply_edit.new.desk)
    c.args.force c.args.at c.args.text.now c.is_placed.ensures c.in_ok-named.named c.deref_mut.result.now (search rules) are)
    c.apply_edit.ensures.edit
