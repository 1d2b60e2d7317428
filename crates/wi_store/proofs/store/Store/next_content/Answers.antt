use Rattle.wi_store.proofs.Words.{ap, rules, Stored}
use Rattle.wi_store.proofs.NextRoom.{sought_in, stands_in}
use Rattle.wi_store.proofs.store.Store.next_content.Goals as goal

pub returns-in-Some-content-clause-cell : goal.returns-in-Some-content-clause-cell
returns-in-Some-content-clause-cell c =
    sought_in c.args.area c.args.from c.self.inside.rooms.entries c.args.self.now.sheet _ c.self.invariant.0
    (ap (λ (s : Stored). s.sheet) c.self.view_is) (search rules)

pub returns-in-Some-content-clause-content : goal.returns-in-Some-content-clause-content
returns-in-Some-content-clause-content c =
    stands_in c.self.inside.rooms.entries c.args.self.now.sheet _ _ c.self.invariant.0.order (ap (λ (s : Stored). s.sheet) c.self.view_is) (search rules)

pub returns-in-None-clause-cell : goal.returns-in-None-clause-cell
returns-in-None-clause-cell c =
    sought_in c.args.area c.args.from c.self.inside.rooms.entries c.args.self.now.sheet _ c.self.invariant.0
    (ap (λ (s : Stored). s.sheet) c.self.view_is) (search rules)
