use Rattle.wi_import.proofs.Words.{◌≡◌, ◌≢◌, ◌∙◌, sym, ap, map, Result, Ok, Err, IfErr, IsErrAnd, IfOk-from_err, row_of, column_of, fields_from, fields_at, areas_from, IsFault, ImportFault, Memory, change_of, fault_among, all_bytes}
use Rattle.wi_import.proofs.FieldLemmas.{none_faulty, none_outside}
use Rattle.wi_import.proofs.ImportLemmas.{refused, all_changed}
use Rattle.wi_import.proofs.importing.import.Goals as goal

-- of an error that is Memory nothing is told
memory_alone : {T : Type 0} (P : ImportFault → Type 0) (r : Result T ImportFault) → IsErrAnd r (λ fault. fault ≡ Memory) → IfErr r (λ fault. fault ≢ Memory → P fault)
memory_alone P (Ok x) h = absurd h
memory_alone P (Err fault) h = λ n. absurd (n h)

pub returns-in-Some-clause-fault : goal.returns-in-Some-clause-fault
returns-in-Some-clause-fault c = λ fault.
    let there = ap (λ rs. fields_from (row_of c.args.at) (column_of c.args.at) (all_bytes rs)) c.deref.ensures.value
    ∙ ap (fields_from (row_of c.args.at) (column_of c.args.at)) c.in_ok-records.ensures in
    refused (fields_at c.args.at c.args.text.now) c.in-Some.fault (ap fault_among (sym there) ∙ sym c.first_fault.ensures ∙ c.in-Some.is)

pub changes-requires : goal.changes-requires
changes-requires c =
    let same = c.deref-2.ensures.value ∙ sym c.deref.ensures.value in
    none_faulty (fields_from (row_of c.args.at) (column_of c.args.at) (all_bytes c.deref-2.result.now))
    (ap (λ rs. fault_among (fields_from (row_of c.args.at) (column_of c.args.at) (all_bytes rs))) same ∙ sym c.first_fault.ensures ∙ c.in_default.is)

pub returns-clause-changes : goal.returns-clause-changes
returns-clause-changes c =
    let there = ap (λ rs. fields_from (row_of c.args.at) (column_of c.args.at) (all_bytes rs)) c.deref-2.ensures.value
    ∙ ap (fields_from (row_of c.args.at) (column_of c.args.at)) c.in_ok-records.ensures in
    let same = c.deref-2.ensures.value ∙ sym c.deref.ensures.value in
    let none = ap (λ rs. fault_among (fields_from (row_of c.args.at) (column_of c.args.at) (all_bytes rs))) same ∙ sym c.first_fault.ensures ∙ c.in_default.is in
    all_changed (fields_at c.args.at c.args.text.now) c.in_ok-changes.changes.items (ap fault_among (sym there) ∙ none)
    (c.in_ok-changes.ensures ∙ ap (map change_of) there)

pub areas-requires : goal.areas-requires
areas-requires c =
    let same = c.deref-3.ensures.value ∙ sym c.deref.ensures.value in
    none_outside (fields_from (row_of c.args.at) (column_of c.args.at) (all_bytes c.deref-3.result.now))
    (ap (λ rs. fault_among (fields_from (row_of c.args.at) (column_of c.args.at) (all_bytes rs))) same ∙ sym c.first_fault.ensures ∙ c.in_default.is)

pub returns-clause-named : goal.returns-clause-named
returns-clause-named c =
    c.in_ok-named.ensures ∙ ap (λ rs. areas_from (row_of c.args.at) (column_of c.args.at) (all_bytes rs)) c.deref-3.ensures.value
    ∙ ap (areas_from (row_of c.args.at) (column_of c.args.at)) c.in_ok-records.ensures

pub returns-clause-fault : goal.returns-clause-fault
returns-clause-fault c = tt

pub returns-in_err-records-clause-fault : goal.returns-in_err-records-clause-fault
returns-in_err-records-clause-fault c = memory_alone (IsFault (fields_at c.args.at c.args.text.now)) c.from_residual.result c.from_residual.ensures.1

pub returns-in_err-changes-clause-fault : goal.returns-in_err-changes-clause-fault
returns-in_err-changes-clause-fault c =
    memory_alone (IsFault (fields_at c.args.at c.args.text.now)) c.from_residual-in_err-changes.result c.from_residual-in_err-changes.ensures.1

pub returns-in_err-named-clause-fault : goal.returns-in_err-named-clause-fault
returns-in_err-named-clause-fault c =
    memory_alone (IsFault (fields_at c.args.at c.args.text.now)) c.from_residual-in_err-named.result c.from_residual-in_err-named.ensures.1

pub returns-in_err-records-clause-changes : goal.returns-in_err-records-clause-changes
returns-in_err-records-clause-changes c = IfOk-from_err c.from_residual.result _ c.from_residual.ensures.0

pub returns-in_err-records-clause-named : goal.returns-in_err-records-clause-named
returns-in_err-records-clause-named c = IfOk-from_err c.from_residual.result _ c.from_residual.ensures.0

pub returns-in_err-changes-clause-changes : goal.returns-in_err-changes-clause-changes
returns-in_err-changes-clause-changes c = IfOk-from_err c.from_residual-in_err-changes.result _ c.from_residual-in_err-changes.ensures.0

pub returns-in_err-changes-clause-named : goal.returns-in_err-changes-clause-named
returns-in_err-changes-clause-named c = IfOk-from_err c.from_residual-in_err-changes.result _ c.from_residual-in_err-changes.ensures.0

pub returns-in_err-named-clause-changes : goal.returns-in_err-named-clause-changes
returns-in_err-named-clause-changes c = IfOk-from_err c.from_residual-in_err-named.result _ c.from_residual-in_err-named.ensures.0

pub returns-in_err-named-clause-named : goal.returns-in_err-named-clause-named
returns-in_err-named-clause-named c = IfOk-from_err c.from_residual-in_err-named.result _ c.from_residual-in_err-named.ensures.0
