use Rattle.wi_lookup_functions.proofs.Words.{◌≡◌, ◌∙◌, rules}
use Rattle.wi_fraction.specs.Order.{same_parts}
use Rattle.wi_fraction.specs.Order.Laws.{cross_same_parts}
use Rattle.wi_lookup_functions.proofs.search.is_equal.Goals as goal

pub returns-in-Number-Number : goal.returns-in-Number-Number
returns-in-Number-Number c =
    let x = c.in-Number-Number.x in
    let y = c.in-Number-Number.y in
    let told : c.eq.result ≡ same_parts x y = search rules in
    rw (c.in-Number-Number.is-0, c.in-Number-Number.is-1) (told ∙ cross_same_parts x y)
