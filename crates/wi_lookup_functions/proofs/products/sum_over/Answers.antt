use Rattle.wi_lookup_functions.proofs.Words.{sym, ◌∙◌}
use Rattle.wi_lookup_functions.proofs.ProductEnds.{none_summed, sizes_differ, through_is}
use Rattle.wi_lookup_functions.proofs.products.sum_over.Goals as goal

pub returns-in_default : goal.returns-in_default
returns-in_default g c = none_summed (g.L.Lookup.known_cell c.args.lookup.now) c.args.areas.now c.zero.result c.in_default.ensures c.zero.ensures

pub returns-then-not-have_one_size : goal.returns-then-not-have_one_size
returns-then-not-have_one_size g c = sizes_differ (g.L.Lookup.known_cell c.args.lookup.now) c.args.areas.now c.in-Some.first c.in-Some.ensures (sym c.have_one_size.ensures ∙ c.if-not-have_one_size.true)

pub returns : goal.returns
returns g c = through_is (g.L.Lookup.known_cell c.args.lookup.now) c.args.areas.now c.in-Some.first c.in-Some.ensures c.sum_of_products.result (sym c.have_one_size.ensures ∙ c.if-not-have_one_size.false) c.sum_of_products.ensures
