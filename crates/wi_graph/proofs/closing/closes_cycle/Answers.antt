use Rattle.wi_graph.proofs.Words.{◌∙◌, arith, rules}
use Rattle.wi_graph.proofs.ClosingSteps.{lone_cell_reads}
use Rattle.wi_graph.proofs.closing.closes_cycle.Goals as goal

pub returns-in-len1 : goal.returns-in-len1
returns-in-len1 c = c.reads_cell.ensures ∙ lone_cell_reads c.args.next.now c.args.cone.now c.cell-item.result (omega arith) (search rules)
