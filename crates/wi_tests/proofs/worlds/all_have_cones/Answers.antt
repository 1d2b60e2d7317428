use Rattle.std.proofs.Common.{◌≡◌, ◌∙◌, ◌+◌, ◌<◌, ℕ, zero, suc, IsSome, List, [], ◌∷◌, length, get_or, refl, sym, ap, subst, arith, ⊎_elim}
use Rattle.std.specs.Ordering.{nat_cmp}
use Rattle.std.specs.BTreeSet.{BTreeSet}
use Rattle.std.specs.BTreeMap.{BTreeMap, get}
use Rattle.std.proofs.lemmas.Bool.{cases_eq}
use Rattle.wi_values.specs.declared.replacement.Replacement.{Replacement}
use Rattle.wi_tests.proofs.worlds.all_have_cones.Goals as goal

same_element : (rs : List Replacement) (i : ℕ) (d e : Replacement) → i < length rs → get_or rs i d ≡ get_or rs i e
same_element [] i d e l = absurd (omega arith)
same_element (r ∷ rs) zero d e l = refl
same_element (r ∷ rs) (suc i) d e l = same_element rs i d e (omega arith)

-- one more has its cone
one_more : (cones : BTreeMap ℕ (BTreeSet ℕ)) (rs : List Replacement) (i : ℕ) (r : Replacement) → i < length rs → r ≡ get_or rs i r → IsSome (get nat_cmp cones r.at)
    → ((k : ℕ) (d : Replacement) → k < i → IsSome (get nat_cmp cones (get_or rs k d).at))
    → (k : ℕ) (d : Replacement) → k < i + 1 → IsSome (get nat_cmp cones (get_or rs k d).at)
one_more cones rs i r m is here h =
    λ k d l. ⊎_elim (λ p. subst (λ (j : ℕ). IsSome (get nat_cmp cones (get_or rs j d).at)) (sym p) (subst (λ (x : Replacement). IsSome (get nat_cmp cones x.at)) (is ∙ same_element rs i r d m) here))
    (λ apart. h k d (omega arith)) (cases_eq k i)

pub loop-replacement-preserved : goal.loop-replacement-preserved
loop-replacement-preserved c =
    one_more c.args.cones.now c.replacements-replacement-items.result.now c.loop-replacement.replacement-index c.replacement-item.result
    c.loop-replacement-test.true c.replacement-item.is
    (sym c.contains_key.ensures ∙ c.if-not-contains_key.false)
    c.loop-replacement.invariant

pub returns : goal.returns
returns c =
    λ t k d l.
    let all = c.loop-replacement-test.false in
    let same : c.replacements-replacement-items.result.now ≡ c.args.world.now = c.replacements-replacement-items.ensures.value in
    let long : length c.replacements-replacement-items.result.now ≡ length c.args.world.now = ap length same in
    subst (λ (rs : List Replacement). IsSome (get nat_cmp c.args.cones.now (get_or rs k d).at)) same (c.loop-replacement.invariant k d (omega (arith, all, long)))
