use Rattle.wi_cache.specs.Entries.{all_put}
use Rattle.wi_cache.proofs.Went.{bits_of_none}
use Rattle.wi_cache.proofs.given_up.GivenUp.clear.Goals as goal

pub invariant_of-self : goal.invariant_of-self
invariant_of-self c = bits_of_none (all_put c.clear_table.new.table.entries c.clear_list.new.list.items) 0 (λ i. all_put (c.clear_table.ensures i) (c.clear_list.ensures i))

pub returns : goal.returns
returns c = λ i. all_put (c.clear_table.ensures i) (c.clear_list.ensures i)
