use Rattle.wi_engine.proofs.Words.{◌≡◌, ℕ, Some, rules, subst, arith, nat_tests, lookup, is_at, nat_cmp}
use Rattle.wi_engine.proofs.rising.BinarySearch.{last_found}
use Rattle.wi_engine.proofs.rising.Rising.last_value.Goals as goal

pub returns : goal.returns
returns c =
    let last = c.in_ok-last.last.now in
    let same : last.0 ≡ c.args.at = grind (arith, nat_tests) in
    subst (λ (a : ℕ). Some last.1 ≡ lookup (is_at (nat_cmp a)) c.args.self.now) same
    (last_found c.args.self.now c.cells-all.result.now last c.cells-all.ensures.order c.cells-all.ensures.value (search rules))
