use Rattle.wi_graph.proofs.TurningSteps.{cone_turns}
use Rattle.wi_graph.proofs.turning.turns_by_stripping.Goals as goal

pub returns : goal.returns
returns c =
    cone_turns c.args.edit.now.rooms.now c.args.edit.now.next.now c.args.edit.now.cyclic.now c.args.cone.now c.in_ok-rest.rest _ c.requires.cyclic c.requires.cone c.in_ok-rest.ensures.found_cyclic c.in_ok-rest.ensures.within (c.in_ok-became.ensures, c.in_ok-ceased.ensures)
