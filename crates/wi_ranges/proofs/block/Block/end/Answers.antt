use Rattle.wi_ranges.proofs.BlockLemmas.{small_level}
use Rattle.wi_ranges.proofs.block.Block.end.Goals as goal

pub overflow_shl-result : goal.overflow_shl-result
overflow_shl-result c = small_level c.args.self.now.first c.args.self.now.level c.requires
