use Rattle.wi_cli.proofs.CsvLemmas.{unread, too_long, are_all}
use Rattle.wi_cli.proofs.serve_csv.target.Goals as goal

pub returns-then-not-csv : goal.returns-then-not-csv
returns-then-not-csv c = λ o lines at wanted held count. unread c.args.csv.now o lines c.args.data_lines.now at wanted held count c.if-not-csv.true

pub returns-in-TooLong : goal.returns-in-TooLong
returns-in-TooLong c = λ o lines at wanted held count.
    too_long c.args.csv.now o lines c.args.data_lines.now at wanted held count c.if-not-csv.false c.in-TooLong.is

pub returns-in-All : goal.returns-in-All
returns-in-All c = λ o lines at wanted held count.
    are_all c.args.csv.now o lines c.args.data_lines.now at wanted held count c.if-not-csv.false c.in-All.is c.target_of.result c.target_of.ensures
