use Rattle.wi_propagate.proofs.Words.{◌≡◌, ◌≤◌, ◌∙◌, ℕ, List, max, ap, cond, sym, subst, is_one_of, HeadedNumbers, generation_in}
use Rattle.wi_propagate.proofs.HeadSteps.{lifted_head, seen_as_held, seen_most}
use Rattle.wi_propagate.proofs.late_stamps.LateStamps.lift_cone.Goals as goal

pub invariant_of-self : goal.invariant_of-self
invariant_of-self c =
    let i = c.self.inside in
    let l = c.self-2.inside in
    let before = c.args.self.now.numbers in
    let alike : l.greatest ≡ l.counts_as = c.self-2.invariant.none (ap (λ (v : HeadedNumbers). v.head) c.self-2.view_is ∙ c.lift.ensures.head) in
    let most = subst (λ (v : HeadedNumbers). (d : ℕ) → generation_in v.numbers d ≤ i.counts_as) c.self.view_is (seen_most i.numbers.entries i.head i.cone.items i.greatest i.counts_as c.self.invariant) in
    let after : (d : ℕ) → generation_in l.numbers.entries d ≡ cond (is_one_of c.args.cone.items d) (max (generation_in before d) c.args.number) (generation_in before d) = λ d.
    sym (seen_as_held l.greatest l.counts_as l.numbers.entries d alike) ∙ ap (λ (v : HeadedNumbers). generation_in v.numbers d) c.self-2.view_is ∙ c.in_ok-lift.ensures.numbers d
    ∙ ap (λ (xs : List ℕ). cond (is_one_of xs d) (max (generation_in before d) c.args.number) (generation_in before d)) c.deref.ensures.value in
    lifted_head before l.numbers.entries c.args.cone.items i.counts_as c.args.number c.args.cell most c.if-is_latest.true after
