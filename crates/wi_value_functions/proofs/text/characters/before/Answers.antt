use Rattle.wi_value_functions.proofs.Counting.{cut_at, front_chars}
use Rattle.wi_value_functions.proofs.text.characters.before.Goals as goal

pub split_at-requires : goal.split_at-requires
split_at-requires c = cut_at c.args.text.now c.after.result.now c.after.ensures.whole c.after.utf8

pub returns : goal.returns
returns c = front_chars c.args.text.now c.after.result.now c.split_at.result.0.now c.args.count c.after.ensures.whole c.utf8.text c.after.utf8 c.after.ensures.back c.split_at.ensures.front
