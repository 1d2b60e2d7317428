use Rattle.wi_graph.proofs.Words.{rules}
use Rattle.wi_graph.proofs.changes.room_for.Goals as goal

pub returns-in_ok-areas-in-Some-Formula : goal.returns-in_ok-areas-in-Some-Formula
returns-in_ok-areas-in-Some-Formula c = search rules
