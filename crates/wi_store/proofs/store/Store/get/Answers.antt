use Rattle.wi_store.proofs.Words.{sym, ap, ◌∙◌, Option, None, unwrap_or, content_of, Content, Stored}
use Rattle.wi_store.proofs.RoomLemmas.{Ascends-from_order, content_of-sheet_in}
use Rattle.wi_store.proofs.store.Store.get.Goals as goal

pub returns-in-Some : goal.returns-in-Some
returns-in-Some c =
    c.content.ensures
    ∙ ap (λ (o : Option (Option Content)). unwrap_or o None) c.in-Some.ensures
    ∙ sym (content_of-sheet_in c.args.at c.self.inside.rooms.entries (Ascends-from_order c.self.inside.rooms.entries c.self.invariant.0.order))
    ∙ ap (λ (s : Stored). content_of s.sheet c.args.at) c.self.view_is

pub returns-in-None : goal.returns-in-None
returns-in-None c =
    ap (λ (o : Option (Option Content)). unwrap_or o None) c.in-None.ensures
    ∙ sym (content_of-sheet_in c.args.at c.self.inside.rooms.entries (Ascends-from_order c.self.inside.rooms.entries c.self.invariant.0.order))
    ∙ ap (λ (s : Stored). content_of s.sheet c.args.at) c.self.view_is
