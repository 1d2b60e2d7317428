use Rattle.wi_cli.proofs.Vocabulary.{command_of_csv}
use Rattle.wi_cli.proofs.CsvLemmas.{told_put, told_not_put}
use Rattle.wi_cli.proofs.serve_csv.serve_csv.Goals as goal

pub returns-in-Ok-import_twice : goal.returns-in-Ok-import_twice
returns-in-Ok-import_twice g c = λ o lines at wanted held count.
    told_put (command_of_csv c.args.csv.now o lines) c.args.csv.now.force c.args.data_lines.now.bytes.items c.args.book.now.state c.import_twice.new.book.state c.in-Ok.at
    (c.in-Ok.ensures o lines at wanted held count) (rw c.deref.ensures.value at c.in-Ok-import_twice.ensures)

pub returns-in-Err-import_twice : goal.returns-in-Err-import_twice
returns-in-Err-import_twice g c = λ o lines at wanted held count.
    told_not_put (command_of_csv c.args.csv.now o lines) c.args.csv.now.force c.args.data_lines.now.bytes.items c.args.book.now.state c.import_twice.new.book.state c.in-Ok.at c.in-Err-import_twice.refusal
    (c.in-Ok.ensures o lines at wanted held count) (rw c.deref.ensures.value at c.in-Err-import_twice.ensures)
