use Rattle.wi_tiles.proofs.Words.{rules, arith, ℕ, ◌≡◌, ◌<◌, sym, subst, true, IsSome, IfSome, IfNone, MatchOption, bit_at, w64, trailing_zeros, slot, CountsFirst, IsFirstLeft}
use Rattle.wi_tiles.proofs.Counts.{filled_small, filled_below}
use Rattle.wi_tiles.proofs.Firsts.{first_bit, first_value}
use Rattle.wi_tiles.proofs.within.first_left.Goals as goal

pub place_of-place-requires-clause-within : goal.place_of-place-requires-clause-within
place_of-place-requires-clause-within g c =
    let small : c.args.left < 18446744073709551616 = search rules in
    (first_bit c.args.left c.if-left-eq0.false small).0

pub place_of-place-requires-clause-counted : goal.place_of-place-requires-clause-counted
place_of-place-requires-clause-counted g c = λ all.
    let small : c.args.left < 18446744073709551616 = search rules in
    let first = first_bit c.args.left c.if-left-eq0.false small in
    subst (λ o. IfSome o (λ t. c.args.whole ≡ true → CountsFirst t.now c.args.left c.args.before)) c.in-Some.is c.requires.counted all (trailing_zeros w64 c.args.left) first.0 first.1 first.2

pub value_at-requires : goal.value_at-requires
value_at-requires g c =
    let small : c.args.left < 18446744073709551616 = search rules in
    let first = first_bit c.args.left c.if-left-eq0.false small in
    let there = subst (λ o. IfSome o (λ t. (i : ℕ) → i < 64 → bit_at c.args.left i ≡ 1 → IsSome (slot t.now i))) c.in-Some.is c.requires.there (trailing_zeros w64 c.args.left) first.0 first.1 in
    omega (arith, c.place_of-place.ensures, filled_below c.in-Some.tile.now (trailing_zeros w64 c.args.left) first.0 there)

pub returns-clause-some : goal.returns-clause-some
returns-clause-some g c =
    let small : c.args.left < 18446744073709551616 = search rules in
    let first = first_bit c.args.left c.if-left-eq0.false small in
    let there = subst (λ o. IfSome o (λ t. (i : ℕ) → i < 64 → bit_at c.args.left i ≡ 1 → IsSome (slot t.now i))) c.in-Some.is c.requires.there (trailing_zeros w64 c.args.left) first.0 first.1 in
    let count = sym c.place_of-place.ensures in
    subst (λ o. MatchOption o ⊥ (λ t. IsFirstLeft t.now c.args.left (trailing_zeros w64 c.args.left) c.place_of-place.result c.value_at.result.now)) (sym c.in-Some.is)
    (first_value c.in-Some.tile.now c.args.left c.place_of-place.result c.value_at.result.now c.if-left-eq0.false small count (c.value_at.ensures (trailing_zeros w64 c.args.left) first.0 there count))

pub returns-clause-small : goal.returns-clause-small
returns-clause-small g c =
    let small : c.args.left < 18446744073709551616 = search rules in
    omega (arith, c.place_of-place.ensures, filled_small c.in-Some.tile.now (trailing_zeros w64 c.args.left), (first_bit c.args.left c.if-left-eq0.false small).0)

pub unreachable-requires : goal.unreachable-requires
unreachable-requires g c = c.if-left-eq0.false (subst (λ o. IfNone o (c.args.left ≡ 0)) c.in-None.is c.requires.nothing)
