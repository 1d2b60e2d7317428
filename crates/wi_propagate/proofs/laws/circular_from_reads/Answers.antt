use Rattle.wi_propagate.proofs.Words.{stripped, put_circular_back, reads_circular}
use Rattle.wi_propagate.proofs.laws.circular_from_reads.Goals as goal

pub returns-clause-above : goal.returns-clause-above
returns-clause-above c = reads_circular

pub returns-clause-reads : goal.returns-clause-reads
returns-clause-reads c = stripped

pub returns-clause-puts : goal.returns-clause-puts
returns-clause-puts c = put_circular_back
