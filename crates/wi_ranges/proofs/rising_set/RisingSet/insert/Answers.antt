use Rattle.wi_ranges.proofs.Words.{◌∙◌, ℕ, List, ap, sym, subst, not, IfOk-from_err, BTreeSet, IsStrictlyIncreasing, on_err, is_one_of, as_set, ends_before, StandApart}
use Rattle.wi_ranges.proofs.RisingLemmas.{apart_more, new_behind, apart_still, has_more, same_rising, same_others, has_behind, has_already, has_no_more, new_among_others}
use Rattle.wi_ranges.proofs.rising_set.RisingSet.insert.Goals as goal

pub invariant_of-self : goal.invariant_of-self
invariant_of-self c = subst (λ (xs : List ℕ). StandApart xs c.self.inside.others) (sym c.in_err-push.ensures.items) c.self.invariant

pub returns-in_err-push-clause-added : goal.returns-in_err-push-clause-added
returns-in_err-push-clause-added c = IfOk-from_err c.from_residual.result _ c.from_residual.ensures.0

pub returns-in_err-push-clause-has : goal.returns-in_err-push-clause-has
returns-in_err-push-clause-has c = IfOk-from_err c.from_residual.result _ c.from_residual.ensures.0

pub returns-in_err-push-clause-err : goal.returns-in_err-push-clause-err
returns-in_err-push-clause-err c =
    on_err c.from_residual.result (same_rising c.self.inside.rising.items c.push.new.self.items c.self.inside.others c.args.self.now c.in_err-push.ensures.items c.self.view_is)

pub invariant_of-self-then-ends_before : goal.invariant_of-self-then-ends_before
invariant_of-self-then-ends_before c =
    let after = c.if-ends_before.ensures ∙ ap (λ (xs : List ℕ). ends_before xs c.args.cell) c.deref.ensures.value in
    apart_more c.self.inside.rising.items c.push.new.self.items c.self.inside.others c.args.cell c.self.invariant after c.in_ok-push.ensures.items

pub returns-then-ends_before-clause-added : goal.returns-then-ends_before-clause-added
returns-then-ends_before-clause-added c =
    let after = c.if-ends_before.ensures ∙ ap (λ (xs : List ℕ). ends_before xs c.args.cell) c.deref.ensures.value in
    new_behind c.self.inside.rising.items c.self.inside.others c.args.self.now c.args.cell c.self.invariant after (ap (λ (s : BTreeSet ℕ). s.keys) (sym c.self.view_is))

pub returns-then-ends_before-clause-has : goal.returns-then-ends_before-clause-has
returns-then-ends_before-clause-has c =
    has_behind c.self.inside.rising.items c.push.new.self.items c.self.inside.others c.args.self.now c.args.cell c.self.view_is c.in_ok-push.ensures.items

pub is_among-requires : goal.is_among-requires
is_among-requires c = subst IsStrictlyIncreasing (sym c.deref-2.ensures.value) c.self.invariant.0

pub returns-then-is_among-clause-added : goal.returns-then-is_among-clause-added
returns-then-is_among-clause-added c =
    let among = c.if-is_among.ensures ∙ ap (λ (xs : List ℕ). is_one_of xs c.args.cell) c.deref-2.ensures.value in
    ap not (sym (has_already c.self.inside.rising.items c.self.inside.others c.args.self.now c.args.cell c.self.view_is among))

pub returns-then-is_among-clause-has : goal.returns-then-is_among-clause-has
returns-then-is_among-clause-has c =
    let among = c.if-is_among.ensures ∙ ap (λ (xs : List ℕ). is_one_of xs c.args.cell) c.deref-2.ensures.value in
    has_no_more c.args.self.now c.args.cell (has_already c.self.inside.rising.items c.self.inside.others c.args.self.now c.args.cell c.self.view_is among)

pub invariant_of-self-in_err-insert : goal.invariant_of-self-in_err-insert
invariant_of-self-in_err-insert c = subst (λ (ks : List ℕ). StandApart c.self.inside.rising.items (as_set ks)) (sym c.in_err-insert.ensures.err) c.self.invariant

pub returns-in_err-insert-clause-added : goal.returns-in_err-insert-clause-added
returns-in_err-insert-clause-added c = IfOk-from_err c.from_residual-in_err-insert.result _ c.from_residual-in_err-insert.ensures.0

pub returns-in_err-insert-clause-has : goal.returns-in_err-insert-clause-has
returns-in_err-insert-clause-has c = IfOk-from_err c.from_residual-in_err-insert.result _ c.from_residual-in_err-insert.ensures.0

pub returns-in_err-insert-clause-err : goal.returns-in_err-insert-clause-err
returns-in_err-insert-clause-err c =
    on_err c.from_residual-in_err-insert.result (same_others c.self.inside.rising.items c.self.inside.others c.insert.new.self c.args.self.now c.in_err-insert.ensures.err c.self.view_is)

pub invariant_of-self-2 : goal.invariant_of-self-2
invariant_of-self-2 c =
    let not_after = c.if-ends_before.ensures ∙ ap (λ (xs : List ℕ). ends_before xs c.args.cell) c.deref.ensures.value in
    apart_still c.self.inside.rising.items c.self.inside.others c.insert.new.self c.args.cell c.self.invariant not_after c.in_ok-insert.ensures.updates.0

pub returns-clause-added : goal.returns-clause-added
returns-clause-added c =
    let apart = c.if-is_among.ensures ∙ ap (λ (xs : List ℕ). is_one_of xs c.args.cell) c.deref-2.ensures.value in
    c.in_ok-insert.ensures.added ∙ ap not (new_among_others c.self.inside.rising.items c.self.inside.others c.args.self.now c.args.cell c.self.view_is apart)

pub returns-clause-has : goal.returns-clause-has
returns-clause-has c =
    has_more c.self.inside.rising.items c.self.inside.others c.insert.new.self c.args.self.now c.args.cell (ap (λ (s : BTreeSet ℕ). s.keys) (sym c.self.view_is)) c.in_ok-insert.ensures.updates.0
