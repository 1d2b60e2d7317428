use Rattle.wi_cli.proofs.Vocabulary.{ap, rules, Book}
use Rattle.wi_cli.proofs.ServeLemmas.{served_from}
use Rattle.wi_cli.proofs.serve.execute_again.Goals as goal

pub returns : goal.returns
returns g c =
    let e = c.execute.ensures in
    let done = served_from _ c.execute.result c.args.book.now.state c.forget.new.book.state c.execute.new.book.state c.free_bytes.new.bytes.items c.execute.new.out.items e.0 (ap (λ (b : Book). b.state) c.forget.ensures) c.free_bytes.ensures e.1 e.2 in
    search (rules, done)
