use Rattle.wi_cli.proofs.Vocabulary.{ap, Book}
use Rattle.wi_cli.proofs.ServeLemmas.{imported_again}
use Rattle.wi_cli.proofs.serve_csv.import_twice.Goals as goal

pub returns-then-lacks_memory : goal.returns-then-lacks_memory
returns-then-lacks_memory g c =
    imported_again c.args.force c.args.at c.args.text.now c.import-done.result c.import.result c.args.book.now.state c.import-done.new.self.state c.forget.new.book.state c.import.new.self.state
    (c.lacks_memory.ensures.0 c.if-lacks_memory.true) c.import-done.ensures.step (ap (λ (b : Book). b.state) c.forget.ensures) c.import.ensures.step
