use Rattle.wi_store.proofs.Words.{subst, keys_of, IsStrictlyIncreasing, IsStrictlyIncreasing-from_sorted, Stored, sheet_in}
use Rattle.wi_store.proofs.RoomLemmas.{Ascends-from_order, Ascends-sheet_in, order-from_Ascends}
use Rattle.wi_store.proofs.store.Store.cells_stand_in_order.Goals as goal

pub returns : goal.returns
returns c =
    let rooms = c.self.inside.rooms.entries in
    subst (λ (s : Stored). IsStrictlyIncreasing (keys_of s.sheet)) c.self.view_is
    (IsStrictlyIncreasing-from_sorted _ (order-from_Ascends (sheet_in rooms) (Ascends-sheet_in rooms (Ascends-from_order rooms c.self.invariant.0.order))))
