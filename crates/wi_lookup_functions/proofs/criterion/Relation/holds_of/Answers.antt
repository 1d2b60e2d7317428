use Rattle.wi_lookup_functions.proofs.Words.{◌≡◌, ap, ◌∙◌, rules, holds}
use Rattle.std.specs.Ordering.{int_cmp}
use Rattle.wi_fraction.proofs.Sizes.{like_cmp}
use Rattle.wi_lookup_functions.proofs.criterion.Relation.holds_of.Goals as goal

pub returns-then-denominator : goal.returns-then-denominator
returns-then-denominator c =
    let x = c.args.x.now in
    let y = c.args.y.now in
    let told : c.holds_between.result ≡ holds c.args.self (int_cmp x.num y.num) = search rules in
    let same : x.den ≡ y.den = search rules in
    told ∙ ap (holds c.args.self) (like_cmp x y same)
