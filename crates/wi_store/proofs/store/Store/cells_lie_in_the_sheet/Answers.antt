use Rattle.wi_store.proofs.Words.{◌<◌, ◌*◌, subst, All, keys_of, rows, columns, Stored}
use Rattle.wi_store.proofs.RoomLemmas.{within-sheet_in}
use Rattle.wi_store.proofs.store.Store.cells_lie_in_the_sheet.Goals as goal

pub returns : goal.returns
returns c =
    subst (λ (s : Stored). All (λ a. a < rows * columns) (keys_of s.sheet)) c.self.view_is
    (within-sheet_in (rows * columns) c.self.inside.rooms.entries c.len.ensures.sheet)
