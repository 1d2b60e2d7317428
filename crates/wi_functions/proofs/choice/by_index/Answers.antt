use Rattle.wi_functions.proofs.Words.{◌≡◌, ℤ, ◌<◌, length, ap, ◌∙◌, subst, arith, rules, FitsSigned, pos, ◌≤ℤ◌, unsigned_abs, w128, to_z-of_z}
use Rattle.wi_functions.proofs.Choosing.{chosen_there, of_place}
use Rattle.wi_functions.proofs.choice.by_index.Goals as goal

pub returns-in-Ok-try_from : goal.returns-in-Ok-try_from
returns-in-Ok-try_from c = λ args n h.
    let k = c.in-Ok.k in
    let place = c.in-Ok-try_from.place in
    let fits : FitsSigned w128 k = search rules in
    let same = to_z-of_z w128 k fits in
    let is_place : k ≡ pos place = of_place k place (subst (λ (z : ℤ). pos 0 ≤ℤ z) same c.in-Ok-try_from.ensures.0.0) (c.in-Ok-try_from.ensures.1 ∙ ap unsigned_abs same) in
    let within : place < length args = omega (arith, n) in
    chosen_there args c.args.index.now k place h c.in-Ok.ensures is_place (search rules) within
