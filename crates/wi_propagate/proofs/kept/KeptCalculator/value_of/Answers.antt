use Rattle.wi_propagate.proofs.Words.{Some, is_ok, ◌≡◌, ◌∙◌, inl, inr, IfOk, OnOk, List, false, true, refl, ap, sym, subst, IfOk-weaker, Replacement, content_of, has_formula, put_all, circular, shown, case_of, reaching, demanded, HasCase, demands_itself, different_closed, shown_circular, shown_value, KeptSheet, Stored, generation_in, IsAtHand, is_kept, flushed, stamped_in, Owes}
use Rattle.wi_propagate.proofs.StampSteps.{all_stamped}
use Rattle.wi_propagate.proofs.HeadSteps.{stamped_over}
use Rattle.wi_propagate.proofs.Questions.{AlwaysPlans, but_plans, with_plans, begins, begun_right, may_be_read, asked_kept, at_hand_is, owes_none, owes_flushed, owes_spent, flushed_view, settled_right, holds_asked, holds_settled}
use Rattle.wi_propagate.proofs.kept.KeptCalculator.value_of.Goals as goal

pub returns-then-is_circular-clause-value : goal.returns-then-is_circular-clause-value
returns-then-is_circular-clause-value c =
    let is : circular c.self.inside.store.sheet c.args.at ≡ true = sym (c.is_circular.ensures c.self.inside.store.sheet c.self.invariant.1) ∙ c.if-is_circular.true in
    sym (shown_circular c.args.self.now.stored.sheet c.args.replacements.now c.args.at (ap (λ (k : KeptSheet). circular k.stored.sheet c.args.at) (sym c.self.view_is) ∙ is))

pub returns-then-is_circular-clause-kept : goal.returns-then-is_circular-clause-kept
returns-then-is_circular-clause-kept c =
    let is : circular c.self.inside.store.sheet c.args.at ≡ true = sym (c.is_circular.ensures c.self.inside.store.sheet c.self.invariant.1) ∙ c.if-is_circular.true in
    λ h. absurd (h (inl (ap (λ (k : KeptSheet). circular k.stored.sheet c.args.at) (sym c.self.view_is) ∙ is)))

-- ---- what no formula gives

pub returns-in-Value-clause-value : goal.returns-in-Value-clause-value
returns-in-Value-clause-value c =
    let s = c.self.inside.store.sheet in
    let o : circular s c.args.at ≡ false = sym (c.is_circular.ensures s c.self.invariant.1) ∙ c.if-is_circular.false in
    let there = rw c.in-Value.is at c.in_ok-value.ensures in
    subst (λ (x : KeptSheet). c.in-Value.value ≡ shown x.stored.sheet c.args.replacements.now c.args.at) c.self.view_is
    (shown_value s c.args.replacements.now c.args.replacements.now c.args.at c.in-Value.value o refl there.0)

pub returns-in-Value-clause-easy : goal.returns-in-Value-clause-easy
returns-in-Value-clause-easy c = λ h. refl

pub returns-in-Value-clause-owes : goal.returns-in-Value-clause-owes
returns-in-Value-clause-owes c = owes_none c.args.self.now _ _

pub returns-in-Value-clause-kept : goal.returns-in-Value-clause-kept
returns-in-Value-clause-kept c =
    let there = rw c.in-Value.is at c.in_ok-value.ensures in
    let none = ap (λ (k : KeptSheet). has_formula (content_of (put_all k.stored.sheet c.args.replacements.now) c.args.at)) (sym c.self.view_is) ∙ there.1 in
    λ h. absurd (h (inr (inl none)))

-- ---- what a formula gives

pub planned_cell-result-requires-clause-formula : goal.planned_cell-result-requires-clause-formula
planned_cell-result-requires-clause-formula c =
    let there = rw c.in-Formula.is at c.in_ok-value.ensures in
    ap (λ (p : List Replacement). content_of (put_all c.self.inside.store.sheet p) c.args.at) c.in_ok-world.ensures ∙ there

pub new-memo-requires-clause-right : goal.new-memo-requires-clause-right
new-memo-requires-clause-right c =
    begun_right c.self.inside.store (flushed c.self.inside.store.sheet c.flush.new.self.edited_at) c.self.inside.carried c.self.inside.meter _ c.take_carried-carried.ensures.values (settled_right {s = c.self.inside.store} c.in_ok-flush.ensures.edited_at c.self.inside.carried c.self.inside.meter c.self.invariant.3)

pub planned_cell-result-requires-clause-read : goal.planned_cell-result-requires-clause-read
planned_cell-result-requires-clause-read c =
    let i = c.self.inside in
    let o : circular i.store.sheet c.args.at ≡ false = sym (c.is_circular.ensures i.store.sheet c.self.invariant.1) ∙ c.if-is_circular.false in
    let q = begins i.store (flushed i.store.sheet c.flush.new.self.edited_at) i.carried i.meter _ c.new-memo.result c.take_carried-carried.ensures.values c.new-memo.ensures.value c.new-memo.ensures.placed in
    may_be_read q c.args.at o

pub invariant_of-self-2 : goal.invariant_of-self-2
invariant_of-self-2 c =
    let i = c.self.inside in
    let e = c.planned_cell-result.ensures.values in
    subst (λ (s : Stored). AlwaysPlans (Some c.into_carried.result) i.graph s c.flush.new.self c.planned_cell-result.new.question.meter c.planned_cell-result.new.plans) (sym c.index_searched.ensures)
    (with_plans (Some c.into_carried.result) i.graph i.store c.flush.new.self c.planned_cell-result.new.question.meter c.planned_cell-result.new.plans (holds_asked i.carried i.graph i.store c.flush.new.self i.meter c.planned_cell-result.new.question.meter c.new-memo.result c.planned_cell-result.new.question.memo c.into_carried.result
    (begins i.store (flushed i.store.sheet c.flush.new.self.edited_at) i.carried i.meter _ c.new-memo.result c.take_carried-carried.ensures.values c.new-memo.ensures.value c.new-memo.ensures.placed)
    e.spends.same c.into_carried.ensures.kept e.spends.right.sheet c.into_carried.ensures.right c.into_carried.ensures.cones
    (holds_settled i.carried i.graph i.store i.generations c.flush.new.self i.meter c.in_ok-flush.ensures.edited_at (c.in_ok-flush.ensures.stamped i.store.sheet c.self.invariant.1) (but_plans i.carried i.graph i.store i.generations i.meter i.plans c.self.invariant))) c.planned_cell-result.ensures.plans)

pub returns-clause-value : goal.returns-clause-value
returns-clause-value c =
    let i = c.self.inside in
    let o : circular i.store.sheet c.args.at ≡ false = sym (c.is_circular.ensures i.store.sheet c.self.invariant.1) ∙ c.if-is_circular.false in
    subst (λ (x : KeptSheet). IfOk c.planned_cell-result.result (λ v. v ≡ shown x.stored.sheet c.args.replacements.now c.args.at)) c.self.view_is
    (IfOk-weaker c.planned_cell-result.result _ _ (λ v e. shown_value i.store.sheet c.in_ok-world.world c.args.replacements.now c.args.at v o c.in_ok-world.ensures e) c.planned_cell-result.ensures.values.value)

pub returns-clause-easy : goal.returns-clause-easy
returns-clause-easy c =
    let i = c.self.inside in
    let view = flushed_view {s = i.store} c.in_ok-flush.ensures.edited_at i.carried i.meter c.args.self.now c.self.view_is in
    let o : circular i.store.sheet c.args.at ≡ false = sym (c.is_circular.ensures i.store.sheet c.self.invariant.1) ∙ c.if-is_circular.false in
    let q = begins i.store (flushed i.store.sheet c.flush.new.self.edited_at) i.carried i.meter _ c.new-memo.result c.take_carried-carried.ensures.values c.new-memo.ensures.value c.new-memo.ensures.placed in
    subst (λ (x : KeptSheet). IsAtHand x c.args.replacements.now c.args.at → c.planned_cell-result.new.question.meter ≡ x.counts) view
    (λ h. c.planned_cell-result.ensures.values.uncounted (at_hand_is q c.in_ok-world.world c.args.replacements.now c.args.at o c.in_ok-world.ensures h))

pub returns-clause-kept : goal.returns-clause-kept
returns-clause-kept c =
    let i = c.self.inside in
    let view = flushed_view {s = i.store} c.in_ok-flush.ensures.edited_at i.carried i.meter c.args.self.now c.self.view_is in
    let o : circular i.store.sheet c.args.at ≡ false = sym (c.is_circular.ensures i.store.sheet c.self.invariant.1) ∙ c.if-is_circular.false in
    let q = begins i.store (flushed i.store.sheet c.flush.new.self.edited_at) i.carried i.meter _ c.new-memo.result c.take_carried-carried.ensures.values c.new-memo.ensures.value c.new-memo.ensures.placed in
    let new : Stored → KeptSheet = λ s. record { stored = s; generations = flushed s.sheet c.flush.new.self.edited_at; values = c.into_carried.result.value.kept; counts = c.planned_cell-result.new.question.meter } in
    let e = c.planned_cell-result.ensures.values in
    subst (λ (s : Stored). OnOk c.planned_cell-result.result ((IsAtHand c.args.self.now c.args.replacements.now c.args.at → ⊥) → is_kept (new s) c.args.at (reaching c.args.self.now.stored.sheet c.args.at c.args.replacements.now) ≡ true)) (sym c.index_searched.ensures)
    (subst (λ (x : KeptSheet). OnOk c.planned_cell-result.result ((IsAtHand x c.args.replacements.now c.args.at → ⊥) → is_kept (new i.store) c.args.at (reaching x.stored.sheet c.args.at c.args.replacements.now) ≡ true)) view
    (IfOk-weaker c.planned_cell-result.result _ _ (λ v h. asked_kept q c.in_ok-world.world c.args.replacements.now c.args.at o c.in_ok-world.ensures c.planned_cell-result.new.question.memo c.into_carried.result.value.kept c.planned_cell-result.new.question.meter
    e.spends.same c.into_carried.ensures.kept c.self.invariant.3.space h) e.kept))

pub new-memo-requires-clause-cones : goal.new-memo-requires-clause-cones
new-memo-requires-clause-cones c = c.take_carried-carried.ensures.cones c.self.inside.store.sheet c.self.invariant.4

pub returns-then-is_circular-clause-easy : goal.returns-then-is_circular-clause-easy
returns-then-is_circular-clause-easy c = λ h. refl

pub returns-in_err-value-clause-easy : goal.returns-in_err-value-clause-easy
returns-in_err-value-clause-easy c = λ h. refl

pub returns-in_err-world-clause-easy : goal.returns-in_err-world-clause-easy
returns-in_err-world-clause-easy c = λ h. refl

pub planned_cell-result-requires-clause-memo : goal.planned_cell-result-requires-clause-memo
planned_cell-result-requires-clause-memo c = c.new-memo.ensures.memo

pub returns-then-is_circular-clause-owes : goal.returns-then-is_circular-clause-owes
returns-then-is_circular-clause-owes c = owes_none c.args.self.now _ _

pub returns-in_err-value-clause-owes : goal.returns-in_err-value-clause-owes
returns-in_err-value-clause-owes c = owes_none c.args.self.now _ _

pub returns-in_err-world-clause-owes : goal.returns-in_err-world-clause-owes
returns-in_err-world-clause-owes c = owes_none c.args.self.now _ _

pub returns-clause-owes : goal.returns-clause-owes
returns-clause-owes c =
    let i = c.self.inside in
    let view = flushed_view {s = i.store} c.in_ok-flush.ensures.edited_at i.carried i.meter c.args.self.now c.self.view_is in
    let o : circular i.store.sheet c.args.at ≡ false = sym (c.is_circular.ensures i.store.sheet c.self.invariant.1) ∙ c.if-is_circular.false in
    let q = begins i.store (flushed i.store.sheet c.flush.new.self.edited_at) i.carried i.meter _ c.new-memo.result c.take_carried-carried.ensures.values c.new-memo.ensures.value c.new-memo.ensures.placed in
    let has = demands_itself i.store.sheet c.in_ok-world.world c.args.replacements.now c.args.at o c.in_ok-world.ensures in
    let closed = different_closed i.store.sheet (case_of i.store.sheet c.args.replacements.now c.args.at) in
    let Has = HasCase i.store.sheet c.in_ok-world.world c.args.at in
    let new : Stored → KeptSheet = λ s. record { stored = s; generations = flushed s.sheet c.flush.new.self.edited_at; values = c.into_carried.result.value.kept; counts = c.planned_cell-result.new.question.meter } in
    subst (λ (s : Stored). Owes c.args.self.now (new s) (demanded c.args.self.now.stored.sheet c.args.replacements.now c.args.at) (is_ok c.planned_cell-result.result)) (sym c.index_searched.ensures)
    (subst (λ (x : KeptSheet). Owes x (new i.store) (demanded x.stored.sheet c.args.replacements.now c.args.at) (is_ok c.planned_cell-result.result)) view
    (owes_spent q c.planned_cell-result.new.question.memo c.into_carried.result.value.kept c.planned_cell-result.new.question.meter c.into_carried.ensures.kept c.into_carried.ensures.within Has (demanded i.store.sheet c.args.replacements.now c.args.at) closed has _ c.planned_cell-result.ensures.values.spends))

pub flush-requires-clause-stamped : goal.flush-requires-clause-stamped
flush-requires-clause-stamped c = λ s a. stamped_over c.self.inside.graph.now c.self.inside.store.sheet s c.self.inside.generations c.self.invariant.1 a c.self.invariant.5.stamped

pub new-memo-requires-clause-valid_since : goal.new-memo-requires-clause-valid_since
new-memo-requires-clause-valid_since c =
    all_stamped c.self.inside.store.sheet c.self.inside.store.edits c.self.inside.generations c.flush.new.self c.in_ok-flush.ensures.edited_at (c.in_ok-flush.ensures.stamped c.self.inside.store.sheet c.self.invariant.1) c.in_ok-flush.ensures.clean c.self.invariant.5

pub returns-in_err-flush-clause-owes : goal.returns-in_err-flush-clause-owes
returns-in_err-flush-clause-owes c =
    owes_flushed c.args.self.now _ _ _ (flushed_view {s = c.self.inside.store} c.flush.ensures.edited_at c.self.inside.carried c.self.inside.meter c.args.self.now c.self.view_is)

pub returns-in_err-flush-clause-easy : goal.returns-in_err-flush-clause-easy
returns-in_err-flush-clause-easy c = λ h. ap (λ (k : KeptSheet). k.counts) c.self.view_is

pub invariant_of-self : goal.invariant_of-self
invariant_of-self c =
    let i = c.self.inside in
    with_plans i.carried i.graph i.store c.flush.new.self i.meter i.plans (holds_settled i.carried i.graph i.store i.generations c.flush.new.self i.meter c.flush.ensures.edited_at (c.flush.ensures.stamped i.store.sheet c.self.invariant.1) (but_plans i.carried i.graph i.store i.generations i.meter i.plans c.self.invariant)) c.self.invariant.6

pub planned_cell-result-requires-clause-plans : goal.planned_cell-result-requires-clause-plans
planned_cell-result-requires-clause-plans c = c.self.invariant.6
