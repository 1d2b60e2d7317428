use Rattle.wi_ranges.proofs.Words.{subst, IfOk-weaker}
use Rattle.wi_ranges.specs.Inner.Telling.{Telling, telling, readers_told, Answers}
use Rattle.wi_ranges.proofs.TellLemmas.{answers_all}
use Rattle.wi_ranges.proofs.search.ReaderSearch.first_readers.Goals as goal

pub returns : goal.returns
returns c =
    let s = telling c.self.inside.index.now (readers_told c.self.inside.left c.self.inside.pieces.now.keys) in
    IfOk-weaker c.readers_of.result _ (λ list. Answers c.args.self.now s c.args.at list.items)
    (λ list h. subst (λ (t : Telling). Answers t s c.args.at list.items) c.self.view_is (answers_all s c.args.at list.items h)) c.readers_of.ensures.readers
