use Rattle.wi_cli.proofs.Vocabulary.{◌∙◌, ap, subst, [], None, Some, rules, err_from_is_err_and, command_of_csv, Book, Told, spelled_cell}
use Rattle.wi_cli.proofs.TakenLemmas.{first_broke, data_broke, csv_block, data_of}
use Rattle.wi_cli.proofs.DataLemmas.{csv_read}
use Rattle.wi_cli.proofs.Ties.Addresses.{same_addr}
use Rattle.wi_cli.proofs.TurnLemmas.{answered, answered_reads, asked_block, passed, stopped, broke_no_memory}
use Rattle.wi_cli.proofs.runs.turn.Goals as goal

pub returns-in_err-whole-clause-done : goal.returns-in_err-whole-clause-done
returns-in_err-whole-clause-done g c =
    let p = err_from_is_err_and c.from_residual.result c.from_residual.ensures.1 in
    rw (p.1, p.2) (stopped _ _ _ (first_broke _ _ _ c.requires.few c.in_err-whole.ensures.took) (search rules) (search rules))

pub returns-in_err-whole-clause-reads : goal.returns-in_err-whole-clause-reads
returns-in_err-whole-clause-reads g c =
    let p = err_from_is_err_and c.from_residual.result c.from_residual.ensures.1 in
    rw (p.1, p.2) c.in_err-whole.ensures.reads

pub returns-in_err-whole-clause-no_memory : goal.returns-in_err-whole-clause-no_memory
returns-in_err-whole-clause-no_memory g c =
    let p = err_from_is_err_and c.from_residual.result c.from_residual.ensures.1 in
    broke_no_memory _ _ _ _ _ _ _ _ p.1 p.2 c.in_err-whole.ensures.took

pub returns-in-Passed-clause-done : goal.returns-in-Passed-clause-done
returns-in-Passed-clause-done g c =
    passed _ _ (asked_block _ _ _ _ _ None c.requires.few c.in_ok-whole.ensures.took c.deref.ensures.value c.in-Passed.ensures.0 c.in-Passed.ensures.1) (search rules) (search rules)

pub returns-in-Command-clause-done : goal.returns-in-Command-clause-done
returns-in-Command-clause-done g c =
    let a = c.in-Command.ensures in
    answered c.answer.result _ _ _ c.serve-reply.result c.serve-reply.new.out.items
    (asked_block _ _ _ _ _ (Some a.1.0) c.requires.few c.in_ok-whole.ensures.took c.deref.ensures.value a.0 a.1.1)
    (c.serve-reply.ensures a.1.0 a.1.2) (rw c.deref-in-Command.ensures.value at c.answer.ensures.done)

pub returns-in-Command-clause-reads : goal.returns-in-Command-clause-reads
returns-in-Command-clause-reads g c = answered_reads c.answer.result _ _ _ _ _ c.answer.ensures.done c.in_ok-whole.ensures.reads

pub returns-in-Err-clause-done : goal.returns-in-Err-clause-done
returns-in-Err-clause-done g c =
    let k = c.in_ok-whole.ensures.took in
    let a = c.in-Csv.ensures in
    let is = csv_read _ k.took.content (c.deref.ensures.value ∙ k.took.kept) c.in-Csv.csv a.0 a.1 in
    stopped _ _ _ (data_broke c.in_ok-whole.whole _ _ _ _ _ c.requires.few k c.in-Csv.csv is c.in-Err.ensures.took) (ap (λ (b : Book). b.state) c.read_data.ensures.book) (search rules)

pub returns-in-Ok-clause-done : goal.returns-in-Ok-clause-done
returns-in-Ok-clause-done g c =
    let k = c.in_ok-whole.ensures.took in
    let a = c.in-Csv.ensures in
    let is = csv_read _ k.took.content (c.deref.ensures.value ∙ k.took.kept) c.in-Csv.csv a.0 a.1 in
    let h = c.in-Ok.ensures.took in
    let d = c.read_data.new.data_lines in
    answered c.answer-in-Csv.result _ _ _ c.serve_csv-reply.result []
    (csv_block c.in_ok-whole.whole c.in-Ok.end _ _ _ _ c.requires.few k c.in-Csv.csv is d h c.in-Ok.ensures.all)
    (subst (λ (b : Book). Told (Some (command_of_csv c.in-Csv.csv (spelled_cell is.word) (data_of h.took))) c.serve_csv-reply.result b.state c.serve_csv-reply.new.book.state []) c.read_data.ensures.book
    (c.serve_csv-reply.ensures (spelled_cell is.word) (data_of h.took) (is.at ∙ (same_addr is.word).read) c.in-Ok.ensures.wanted h.held h.missing)) c.answer-in-Csv.ensures.done

pub returns-in-Ok-clause-reads : goal.returns-in-Ok-clause-reads
returns-in-Ok-clause-reads g c = answered_reads c.answer-in-Csv.result _ _ _ _ _ c.answer-in-Csv.ensures.done c.in-Ok.ensures.reads
