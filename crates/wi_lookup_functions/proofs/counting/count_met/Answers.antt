use Rattle.wi_lookup_functions.proofs.Words.{refl, cells_of}
use Rattle.wi_lookup_functions.proofs.Counts.{all_counted}
use Rattle.wi_lookup_functions.proofs.counting.count_met.Goals as goal

pub returns-clause-count : goal.returns-clause-count
returns-clause-count g c = λ cells k. all_counted cells (record { criterion = c.args.criterion; count = 0 }) c.take_cells.new.taker (cells_of c.args.area) (c.in_ok-take_cells.ensures.taken cells k) refl
