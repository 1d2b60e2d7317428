use Rattle.wi_graph.proofs.Words.{◌∙◌, sym, as_set, has_key}
use Rattle.wi_graph.proofs.ClosingSteps.{none_turn}
use Rattle.wi_graph.proofs.turning.turns_in_cone.Goals as goal

pub returns-then-not-closes_cycle : goal.returns-then-not-closes_cycle
returns-then-not-closes_cycle c =
    none_turn c.args.edit.now.rooms.now c.args.edit.now.next.now c.args.edit.now.cyclic.now (as_set c.args.cone.now) c.no_turns.result c.requires.cyclic (record {
      order = c.requires.cone.order;
      changes = c.requires.cone.changes;
      brings = c.requires.cone.brings;
      is_cone = λ s h d. has_key c.args.cone.now d ∙ c.requires.cone.is_cone s h d;
    }) (sym c.meets_cyclic.ensures ∙ c.if-not-meets_cyclic.true) (sym c.closes_cycle.ensures ∙ c.if-not-closes_cycle.true) c.no_turns.ensures.became c.no_turns.ensures.ceased

pub turns_by_stripping-requires-clause-cone : goal.turns_by_stripping-requires-clause-cone
turns_by_stripping-requires-clause-cone c = record { order = c.requires.cone.order; changes = c.requires.cone.changes; brings = c.requires.cone.brings; is_cone = λ s h d. c.in_ok-cone.ensures d ∙ c.requires.cone.is_cone s h d }
