use Rattle.wi_store.proofs.Words.{sym, ap, ◌∙◌, length, Stored}
use Rattle.wi_store.proofs.RoomLemmas.{length-sheet_in}
use Rattle.wi_store.proofs.store.Store.occupied.Goals as goal

pub returns : goal.returns
returns c =
    c.len.ensures.len
    ∙ sym (length-sheet_in c.self.inside.rooms.entries c.self.invariant.0)
    ∙ ap (λ (s : Stored). length s.sheet) c.self.view_is
