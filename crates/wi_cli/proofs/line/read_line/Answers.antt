use Rattle.wi_cli.proofs.Vocabulary.{arith}
use Rattle.wi_cli.proofs.AskedLemmas.{long_asked, good_asked, bad_asked}
use Rattle.wi_cli.proofs.line.read_line.Goals as goal

pub returns-then-line-gt-MAX_LINE : goal.returns-then-line-gt-MAX_LINE
returns-then-line-gt-MAX_LINE c = long_asked c.args.line.now (omega arith)

pub returns-in-Ok : goal.returns-in-Ok
returns-in-Ok c =
    good_asked c.args.line.now c.without_cr-bytes.result.now _ c.read_text.result (omega arith) c.without_cr-bytes.ensures c.in-Ok.ensures.cases.0 c.in-Ok.ensures.cases.1 c.read_text.ensures

pub returns-in-Err : goal.returns-in-Err
returns-in-Err c =
    bad_asked c.args.line.now c.without_cr-bytes.result.now c.read_bytes.result (omega arith) c.without_cr-bytes.ensures c.in-Err.ensures.cases.0 c.read_bytes.ensures
