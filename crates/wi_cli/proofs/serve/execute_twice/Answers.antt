use Rattle.wi_cli.proofs.Vocabulary.{refl}
use Rattle.wi_cli.proofs.ServeLemmas.{served_again, served_from}
use Rattle.wi_cli.proofs.serve.execute_twice.Goals as goal

pub returns-then-lacks_memory : goal.returns-then-lacks_memory
returns-then-lacks_memory g c =
    let e = c.execute-done.ensures in
    served_again _ c.execute-done.result c.execute_again.result c.args.book.now.state c.execute-done.new.book.state c.execute_again.new.book.state e.0 c.execute_again.new.out.items
    (c.lacks_memory.ensures.0 c.if-lacks_memory.true) e.2 c.execute_again.ensures

pub returns : goal.returns
returns g c =
    let e = c.execute-done.ensures in
    served_from _ c.execute-done.result c.args.book.now.state c.args.book.now.state c.execute-done.new.book.state c.clear.new.self.items c.execute-done.new.out.items e.0 refl c.clear.ensures.items e.1 e.2
