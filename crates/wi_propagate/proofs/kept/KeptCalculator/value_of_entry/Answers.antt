use Rattle.wi_propagate.proofs.Words.{Some, is_ok, get_or, ◌≡◌, All, IfOk, OnOk, false, ℕ, List, ap, sym, subst, IfOk-weaker, circular, HasEntry, table_entry, entry_demanded, IsWhatIfSettled, table_closed, entry_has, entry_shown, KeptSheet, Stored, generation_in, HasSpaceFor, is_kept, flushed, stamped_in, state_in, Owes}
use Rattle.wi_propagate.proofs.StampSteps.{all_stamped}
use Rattle.wi_propagate.proofs.HeadSteps.{stamped_over}
use Rattle.wi_propagate.proofs.Questions.{AlwaysPlans, but_plans, with_plans, begins, begun_right, may_be_read, asked_where, asked_settled, circular_entry, circular_clash, open_cells, owes_none, owes_flushed, owes_spent, flushed_view, settled_right, holds_asked, holds_settled}
use Rattle.wi_propagate.proofs.kept.KeptCalculator.value_of_entry.Goals as goal

pub returns-then-entry_is_circular-clause-value : goal.returns-then-entry_is_circular-clause-value
returns-then-entry_is_circular-clause-value c =
    circular_entry c.self.inside.store.sheet c.args.self.now.stored.sheet c.args.replacements.now c.args.formula_cell c.args.pairs.now c.entry_is_circular.result (ap (λ (x : KeptSheet). x.stored.sheet) c.self.view_is) (c.entry_is_circular.ensures c.self.inside.store.sheet c.self.invariant.1) c.if-entry_is_circular.true

pub returns-then-entry_is_circular-clause-settled : goal.returns-then-entry_is_circular-clause-settled
returns-then-entry_is_circular-clause-settled c = λ space one all.
    circular_clash c.self.inside.store.sheet c.args.self.now.stored.sheet c.args.formula_cell c.args.pairs.now c.entry_is_circular.result (ap (λ (x : KeptSheet). x.stored.sheet) c.self.view_is) (c.entry_is_circular.ensures c.self.inside.store.sheet c.self.invariant.1) c.if-entry_is_circular.true one all

pub new-memo-requires-clause-right : goal.new-memo-requires-clause-right
new-memo-requires-clause-right c =
    begun_right c.self.inside.store (flushed c.self.inside.store.sheet c.flush.new.self.edited_at) c.self.inside.carried c.self.inside.meter _ c.take_carried-carried.ensures.values (settled_right {s = c.self.inside.store} c.in_ok-flush.ensures.edited_at c.self.inside.carried c.self.inside.meter c.self.invariant.3)

pub planned_entry-result-requires-clause-entry : goal.planned_entry-result-requires-clause-entry
planned_entry-result-requires-clause-entry c =
    let i = c.self.inside in
    let q = begins i.store (flushed i.store.sheet c.flush.new.self.edited_at) i.carried i.meter _ c.new-memo.result c.take_carried-carried.ensures.values c.new-memo.ensures.value c.new-memo.ensures.placed in
    let s = i.store.sheet in
    let o = open_cells s c.args.formula_cell c.args.pairs.now c.entry_is_circular.result (c.entry_is_circular.ensures s c.self.invariant.1) c.if-entry_is_circular.false in
    record {
      memo = c.new-memo.ensures.memo;
      formula_cell = may_be_read q c.args.formula_cell o.0;
      replacing = λ j x less. may_be_read q (get_or c.args.pairs.now j x).1 (o.1 j x less);
    }

pub invariant_of-self-2 : goal.invariant_of-self-2
invariant_of-self-2 c =
    let i = c.self.inside in
    let e = c.planned_entry-result.ensures in
    subst (λ (s : Stored). AlwaysPlans (Some c.into_carried.result) i.graph s c.flush.new.self c.planned_entry-result.new.question.meter c.planned_entry-result.new.plans) (sym c.index_searched.ensures)
    (with_plans (Some c.into_carried.result) i.graph i.store c.flush.new.self c.planned_entry-result.new.question.meter c.planned_entry-result.new.plans (holds_asked i.carried i.graph i.store c.flush.new.self i.meter c.planned_entry-result.new.question.meter c.new-memo.result c.planned_entry-result.new.question.memo c.into_carried.result
    (begins i.store (flushed i.store.sheet c.flush.new.self.edited_at) i.carried i.meter _ c.new-memo.result c.take_carried-carried.ensures.values c.new-memo.ensures.value c.new-memo.ensures.placed)
    e.spends.same c.into_carried.ensures.kept e.spends.right.sheet c.into_carried.ensures.right c.into_carried.ensures.cones
    (holds_settled i.carried i.graph i.store i.generations c.flush.new.self i.meter c.in_ok-flush.ensures.edited_at (c.in_ok-flush.ensures.stamped i.store.sheet c.self.invariant.1) (but_plans i.carried i.graph i.store i.generations i.meter i.plans c.self.invariant))) c.planned_entry-result.ensures.plans)

pub returns-clause-value : goal.returns-clause-value
returns-clause-value c =
    let s = c.self.inside.store.sheet in
    let o = open_cells s c.args.formula_cell c.args.pairs.now c.entry_is_circular.result (c.entry_is_circular.ensures s c.self.invariant.1) c.if-entry_is_circular.false in
    subst (λ (x : KeptSheet). IfOk c.planned_entry-result.result (λ v. v ≡ table_entry x.stored.sheet c.args.replacements.now c.args.formula_cell c.args.pairs.now)) c.self.view_is
    (IfOk-weaker c.planned_entry-result.result _ _ (λ v e. entry_shown s c.in_ok-world.world c.args.replacements.now c.args.formula_cell c.args.pairs.now v o c.in_ok-world.ensures c.requires e) c.planned_entry-result.ensures.value)

pub returns-clause-settled : goal.returns-clause-settled
returns-clause-settled c =
    let i = c.self.inside in
    let view = flushed_view {s = i.store} c.in_ok-flush.ensures.edited_at i.carried i.meter c.args.self.now c.self.view_is in
    let q = begins i.store (flushed i.store.sheet c.flush.new.self.edited_at) i.carried i.meter _ c.new-memo.result c.take_carried-carried.ensures.values c.new-memo.ensures.value c.new-memo.ensures.placed in
    let s = i.store.sheet in
    let o = open_cells s c.args.formula_cell c.args.pairs.now c.entry_is_circular.result (c.entry_is_circular.ensures s c.self.invariant.1) c.if-entry_is_circular.false in
    let cases = entry_demanded s c.args.replacements.now c.args.formula_cell c.args.pairs.now in
    let has = entry_has s c.in_ok-world.world c.args.replacements.now c.args.formula_cell c.args.pairs.now o c.in_ok-world.ensures in
    let closed = table_closed s c.args.replacements.now c.args.formula_cell c.args.pairs.now in
    let Has = HasEntry s c.in_ok-world.world c.args.formula_cell c.args.pairs.now in
    let new : Stored → KeptSheet = λ s. record { stored = s; generations = flushed s.sheet c.flush.new.self.edited_at; values = c.into_carried.result.value.kept; counts = c.planned_entry-result.new.question.meter } in
    let e = c.planned_entry-result.ensures in
    let x : ℕ × List (ℕ × ℕ) = (c.args.formula_cell, c.args.pairs.now) in
    subst (λ (t : Stored). OnOk c.planned_entry-result.result (HasSpaceFor c.args.self.now (entry_demanded c.args.self.now.stored.sheet c.args.replacements.now c.args.formula_cell c.args.pairs.now) → circular c.args.self.now.stored.sheet c.args.formula_cell ≡ false → All (λ p. circular c.args.self.now.stored.sheet p.1 ≡ false) c.args.pairs.now
    → IsWhatIfSettled c.args.self.now.stored.sheet (is_kept (new t)) c.args.replacements.now x)) (sym c.index_searched.ensures)
    (subst (λ (y : KeptSheet). OnOk c.planned_entry-result.result (HasSpaceFor y (entry_demanded y.stored.sheet c.args.replacements.now c.args.formula_cell c.args.pairs.now) → circular y.stored.sheet c.args.formula_cell ≡ false → All (λ p. circular y.stored.sheet p.1 ≡ false) c.args.pairs.now
    → IsWhatIfSettled y.stored.sheet (is_kept (new i.store)) c.args.replacements.now x)) view
    (IfOk-weaker c.planned_entry-result.result _ _ (λ v g space a b. asked_settled q c.planned_entry-result.new.question.memo c.into_carried.result.value.kept c.planned_entry-result.new.question.meter e.spends.same c.into_carried.ensures.kept c.in_ok-world.world c.args.replacements.now x c.in_ok-world.ensures
    (asked_where q (λ ks. IsWhatIfSettled s (state_in c.planned_entry-result.new.question.memo).kept c.in_ok-world.world x) cases Has g closed has space)) e.settled))

pub new-memo-requires-clause-cones : goal.new-memo-requires-clause-cones
new-memo-requires-clause-cones c = c.take_carried-carried.ensures.cones c.self.inside.store.sheet c.self.invariant.4

pub returns-then-entry_is_circular-clause-owes : goal.returns-then-entry_is_circular-clause-owes
returns-then-entry_is_circular-clause-owes c = owes_none c.args.self.now _ _

pub returns-in_err-world-clause-owes : goal.returns-in_err-world-clause-owes
returns-in_err-world-clause-owes c = owes_none c.args.self.now _ _

pub returns-clause-owes : goal.returns-clause-owes
returns-clause-owes c =
    let i = c.self.inside in
    let view = flushed_view {s = i.store} c.in_ok-flush.ensures.edited_at i.carried i.meter c.args.self.now c.self.view_is in
    let q = begins i.store (flushed i.store.sheet c.flush.new.self.edited_at) i.carried i.meter _ c.new-memo.result c.take_carried-carried.ensures.values c.new-memo.ensures.value c.new-memo.ensures.placed in
    let s = i.store.sheet in
    let o = open_cells s c.args.formula_cell c.args.pairs.now c.entry_is_circular.result (c.entry_is_circular.ensures s c.self.invariant.1) c.if-entry_is_circular.false in
    let cases = entry_demanded s c.args.replacements.now c.args.formula_cell c.args.pairs.now in
    let has = entry_has s c.in_ok-world.world c.args.replacements.now c.args.formula_cell c.args.pairs.now o c.in_ok-world.ensures in
    let closed = table_closed s c.args.replacements.now c.args.formula_cell c.args.pairs.now in
    let Has = HasEntry s c.in_ok-world.world c.args.formula_cell c.args.pairs.now in
    let new : Stored → KeptSheet = λ s. record { stored = s; generations = flushed s.sheet c.flush.new.self.edited_at; values = c.into_carried.result.value.kept; counts = c.planned_entry-result.new.question.meter } in
    subst (λ (t : Stored). Owes c.args.self.now (new t) (entry_demanded c.args.self.now.stored.sheet c.args.replacements.now c.args.formula_cell c.args.pairs.now) (is_ok c.planned_entry-result.result)) (sym c.index_searched.ensures)
    (subst (λ (x : KeptSheet). Owes x (new i.store) (entry_demanded x.stored.sheet c.args.replacements.now c.args.formula_cell c.args.pairs.now) (is_ok c.planned_entry-result.result)) view
    (owes_spent q c.planned_entry-result.new.question.memo c.into_carried.result.value.kept c.planned_entry-result.new.question.meter c.into_carried.ensures.kept c.into_carried.ensures.within Has cases closed has _ c.planned_entry-result.ensures.spends))

pub flush-requires-clause-stamped : goal.flush-requires-clause-stamped
flush-requires-clause-stamped c = λ s a. stamped_over c.self.inside.graph.now c.self.inside.store.sheet s c.self.inside.generations c.self.invariant.1 a c.self.invariant.5.stamped

pub new-memo-requires-clause-valid_since : goal.new-memo-requires-clause-valid_since
new-memo-requires-clause-valid_since c =
    all_stamped c.self.inside.store.sheet c.self.inside.store.edits c.self.inside.generations c.flush.new.self c.in_ok-flush.ensures.edited_at (c.in_ok-flush.ensures.stamped c.self.inside.store.sheet c.self.invariant.1) c.in_ok-flush.ensures.clean c.self.invariant.5

pub returns-in_err-flush-clause-owes : goal.returns-in_err-flush-clause-owes
returns-in_err-flush-clause-owes c =
    owes_flushed c.args.self.now _ _ _ (flushed_view {s = c.self.inside.store} c.flush.ensures.edited_at c.self.inside.carried c.self.inside.meter c.args.self.now c.self.view_is)

pub invariant_of-self : goal.invariant_of-self
invariant_of-self c =
    let i = c.self.inside in
    with_plans i.carried i.graph i.store c.flush.new.self i.meter i.plans (holds_settled i.carried i.graph i.store i.generations c.flush.new.self i.meter c.flush.ensures.edited_at (c.flush.ensures.stamped i.store.sheet c.self.invariant.1) (but_plans i.carried i.graph i.store i.generations i.meter i.plans c.self.invariant)) c.self.invariant.6

pub planned_entry-result-requires-clause-plans : goal.planned_entry-result-requires-clause-plans
planned_entry-result-requires-clause-plans c = c.self.invariant.6
