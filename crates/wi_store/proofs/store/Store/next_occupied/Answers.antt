use Rattle.wi_store.proofs.Words.{ap, Stored}
use Rattle.wi_store.proofs.NextRoom.{sought_in}
use Rattle.wi_store.proofs.store.Store.next_occupied.Goals as goal

pub returns : goal.returns
returns c =
    sought_in c.args.area c.args.from c.self.inside.rooms.entries c.args.self.now.sheet c.next_in.result c.self.invariant.0
    (ap (λ (s : Stored). s.sheet) c.self.view_is) c.next_in.ensures
