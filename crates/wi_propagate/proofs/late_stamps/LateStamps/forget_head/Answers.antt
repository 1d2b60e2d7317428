use Rattle.wi_propagate.proofs.Words.{◌≡◌, ◌∙◌, ℕ, List, ap, cond, subst, is_one_of, HeadedNumbers, generation_in, renewed_all}
use Rattle.wi_propagate.proofs.HeadSteps.{settled_numbers}
use Rattle.wi_propagate.proofs.late_stamps.LateStamps.forget_head.Goals as goal
use Rattle.wi_propagate.proofs.late_stamps.LateStamps.forget_head.Goals.{then-self, else-self}

pub returns-clause-numbers : goal.returns-clause-numbers
returns-clause-numbers c =
    let i = c.self.inside in
    let then = c.if-self.self-inside in
    let same : (d : ℕ) → generation_in (renewed_all then.greatest then.counts_as then.numbers.entries) d ≡ generation_in (renewed_all i.greatest i.counts_as i.numbers.entries) d = elim c.if-self.branch [
      | then-self w ↦ λ d.
          ap (λ v. generation_in (renewed_all v.greatest v.counts_as v.numbers.entries) d) w.self-inside-is
          ∙ settled_numbers i.numbers.entries i.head i.cone.items i.greatest i.counts_as c.self.invariant w.raise.new.generations.entries w.if-self.true
          (λ e. w.raise.ensures e ∙ ap (λ (xs : List ℕ). cond (is_one_of xs e) i.counts_as (generation_in i.numbers.entries e)) w.deref.ensures.value) d
      | else-self w ↦ λ d. ap (λ v. generation_in (renewed_all v.greatest v.counts_as v.numbers.entries) d) w.self-inside-is
    ] in
    subst (λ (v : HeadedNumbers). (d : ℕ) → generation_in (renewed_all then.greatest then.counts_as then.numbers.entries) d ≡ generation_in v.numbers d) c.self.view_is same
