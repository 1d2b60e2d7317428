use Rattle.wi_lookup_functions.proofs.Words.{ℕ, ap, Result, NoValue, Stop}
use Rattle.wi_fraction.specs.Number.{Number}
use Rattle.wi_lookup_functions.proofs.Sums.{no_sum_stays}
use Rattle.wi_lookup_functions.proofs.summing.SummingTakesCells.take.Goals as goal

pub returns-in-Some-clause-broken : goal.returns-in-Some-clause-broken
returns-in-Some-clause-broken g c =
    let s = c.args.self.now in
    λ e d v. ap (λ (t : Result Number (NoValue (Stop ℕ))). record s { so_far = t }) (no_sum_stays (g.L.Lookup.known_cell s.lookup.now) s.criterion.now s.area s.added c.add_there.new.so_far (c.add_there.ensures.broken e) d v)
