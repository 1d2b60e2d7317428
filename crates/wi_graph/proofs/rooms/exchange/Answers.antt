use Rattle.wi_graph.proofs.Words.{ℕ, List, Some, refl, rules, sym, subst, IsStrictlySortedBy, nat_cmp, get, items_of}
use Rattle.wi_tiles.proofs.MapSteps.{found-replaced, keys-replaced}
use Rattle.wi_graph.proofs.RoomSteps.{had_room, has_room, none_come, put_others, put_room}
use Rattle.wi_graph.proofs.rooms.exchange.Goals as goal

pub returns-then-is_none-clause-rooms : goal.returns-then-is_none-clause-rooms
returns-then-is_none-clause-rooms c = none_come c.args.rooms.now c.take_room.new.rooms c.args.at c.args.room c.is_none.result c.is_none.ensures c.if-is_none.true c.take_room.ensures.rooms

pub returns-clause-ordered : goal.returns-clause-ordered
returns-clause-ordered c =
    subst (λ (cells : List ℕ). IsStrictlySortedBy nat_cmp cells) (sym (keys-replaced c.args.rooms.now.entries c.replace.new.self.entries c.args.at _ c.replace.ensures.entries)) c.requires.ordered

pub returns-clause-rooms : goal.returns-clause-rooms
returns-clause-rooms c =
    let there = has_room c.args.rooms.now c.args.at c.args.room c.is_none.result c.is_none.ensures c.if-is_none.false c.requires.room in
    put_room c.args.rooms.now c.replace.new.self c.args.at (Some c.args.room) (items_of c.args.room) refl
    (found-replaced c.args.rooms.now.entries c.replace.new.self.entries c.args.at c.args.room (search rules) there)

pub returns-clause-others : goal.returns-clause-others
returns-clause-others c =
    let there = has_room c.args.rooms.now c.args.at c.args.room c.is_none.result c.is_none.ensures c.if-is_none.false c.requires.room in
    put_others c.args.rooms.now c.replace.new.self c.args.at _
    (found-replaced c.args.rooms.now.entries c.replace.new.self.entries c.args.at _ c.replace.ensures.entries there)

pub returns-clause-stood : goal.returns-clause-stood
returns-clause-stood c = had_room (get nat_cmp c.args.rooms.now c.args.at) c.flatten.result c.replace.result c.replace.ensures.stood c.flatten.ensures
