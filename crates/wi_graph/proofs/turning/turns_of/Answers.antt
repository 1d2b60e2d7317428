use Rattle.wi_graph.proofs.Words.{◌≡◌, ◌∷◌, [], ℕ, List, length, subst, sym, arith, common_steps, nil_from_length, keys_of, IsConeOf}
use Rattle.wi_graph.proofs.SearchSteps.{lone_cone}
use Rattle.wi_graph.proofs.TurningSteps.{nothing_turns, cone_is}
use Rattle.wi_graph.proofs.turning.turns_of.Goals as goal

pub returns-then-is_empty : goal.returns-then-is_empty
returns-then-is_empty c =
    let none : length c.args.edit.now.next.now ≡ 0 = grind (arith, common_steps) in
    nothing_turns c.args.edit.now.rooms.now c.args.edit.now.next.now c.args.edit.now.cyclic.now c.no_turns.result c.requires.graph.circular (nil_from_length c.args.edit.now.next.now none) c.no_turns.ensures.became c.no_turns.ensures.ceased

pub turns_in_cone-requires-clause-cyclic : goal.turns_in_cone-requires-clause-cyclic
turns_in_cone-requires-clause-cyclic c = c.requires.graph.circular

pub turns_in_cone-requires-clause-order : goal.turns_in_cone-requires-clause-order
turns_in_cone-requires-clause-order c = (lone_cone c.args.edit.now.readers.now c.in-Some.cell c.in-Some.ensures.unread).order

pub turns_in_cone-requires-clause-cone : goal.turns_in_cone-requires-clause-cone
turns_in_cone-requires-clause-cone c =
    let cell = c.in-Some.cell in
    let own = subst (λ (xs : List ℕ). IsConeOf c.args.edit.now.readers.now xs (cell ∷ [])) (sym c.in-Some.ensures.alone) (lone_cone c.args.edit.now.readers.now cell c.in-Some.ensures.unread) in
    record {
      order = c.requires.order;
      changes = c.args.edit.now.changes.now;
      brings = c.requires.brings;
      is_cone = cone_is c.args.edit.now.rooms.now c.args.edit.now.readers.now (keys_of c.args.edit.now.changes.now) (cell ∷ []) c.requires.graph.ordered c.requires.graph.pairs own;
    }
