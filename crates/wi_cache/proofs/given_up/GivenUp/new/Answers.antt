use Rattle.std.proofs.Common.{◌≡◌, [], rules}
use Rattle.wi_cache.specs.Entries.{all_put}
use Rattle.wi_cache.proofs.Went.{bits_of_none}
use Rattle.wi_cache.proofs.given_up.GivenUp.new.Goals as goal

pub returns : goal.returns
returns c =
    let none : all_put c.new.result.entries c.new-2.result.items ≡ [] = λ i. all_put (c.new.ensures.empty i) (c.new-2.ensures.items i) in
    search (rules, none)

pub invariant_of-result : goal.invariant_of-result
invariant_of-result c = bits_of_none (all_put c.new.result.entries c.new-2.result.items) 0 (λ i. all_put (c.new.ensures.empty i) (c.new-2.ensures.items i))
