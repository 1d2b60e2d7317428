use Rattle.wi_engine.proofs.Words.{◌≡◌, drop, map, pair_of, addresses, first_for}
use Rattle.wi_engine.proofs.lists.Lists.what_if.Given as goal

abbrev pub invariant-loop-found : goal.invariant-loop-found
invariant-loop-found l =
    first_for (drop l.found-index l.self.what_ifs.items) l.at (map addresses (map pair_of l.pairs))
    ≡ first_for l.self.what_ifs.items l.at (map addresses (map pair_of l.pairs))
