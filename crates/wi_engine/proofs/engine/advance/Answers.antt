use Rattle.wi_engine.proofs.Words.{◌-◌, Ok, ap, refl, sym, subst, arith, ◌∙◌, put_all, Counts, one_more, Key, cell_value, never_fall-same, never_fall-then, MemoState, IsMemoOf, IsFrame, IsWaitedFor, IsFrameValue}
use Rattle.wi_engine.proofs.engine.NextValues.{one_more_at_most}
use Rattle.wi_engine.proofs.engine.SettledFindings.{done_settled}
use Rattle.wi_engine.proofs.engine.Steps.{steps_err, steps_then, steps_less, steps_wait, counts_none, counts_want, counts_done, counts_then}
use Rattle.wi_engine.proofs.engine.advance.Goals as goal

-- ---- the rounds

pub rounds-init : goal.rounds-init
rounds-init g c = record { steps = steps_less (omega arith) c.in_ok-ahead.ensures.steps; evaluations = refl; counts = never_fall-same c.args.meter.now }

pub resolve-requires-clause-memo : goal.resolve-requires-clause-memo
resolve-requires-clause-memo g c = subst (λ (x : MemoState). IsMemoOf c.args.store.now.sheet x) (sym c.rounds.invariant.steps.same) c.requires.memo

pub resolve-requires-clause-frame : goal.resolve-requires-clause-frame
resolve-requires-clause-frame g c = subst (λ (x : MemoState). IsFrame c.args.store.now.sheet x c.rounds.frame) (sym c.rounds.invariant.steps.same) (c.rounds.invariant.steps.frame refl)

pub attempt-requires-clause-open : goal.attempt-requires-clause-open
attempt-requires-clause-open g c = (c.in_ok-first.ensures.steps.frame refl).key.open_cell

pub attempt-requires-clause-formula : goal.attempt-requires-clause-formula
attempt-requires-clause-formula g c = (c.in_ok-first.ensures.steps.frame refl).formula

pub attempt-requires-clause-right : goal.attempt-requires-clause-right
attempt-requires-clause-right g c = (c.in_ok-first.ensures.steps.frame refl).found

pub wait_for-requires-clause-asks : goal.wait_for-requires-clause-asks
wait_for-requires-clause-asks g c = let wanted = rw c.in-Needs.is at c.in_ok-value.ensures.outcome in wanted.asked

pub wait_for-requires-clause-lacking : goal.wait_for-requires-clause-lacking
wait_for-requires-clause-lacking g c = let wanted = rw c.in-Needs.is at c.in_ok-value.ensures.outcome in wanted.lacking

pub wait_for-requires-clause-formula : goal.wait_for-requires-clause-formula
wait_for-requires-clause-formula g c = (c.in_ok-first.ensures.steps.frame refl).formula

pub rounds-smaller : goal.rounds-smaller
rounds-smaller g c =
    let nothing = c.in_ok-first.ensures.settled (ap (λ o. Ok o) c.in_default-2.is) in
    let less = (steps_wait c.in_ok-first.ensures.steps refl nothing c.in_ok-wait_for-in-Needs.ensures.awaits c.in_ok-wait_for-in-Needs.ensures.waits).fewer refl in
    omega (arith, less)

pub rounds-preserved : goal.rounds-preserved
rounds-preserved g c =
    let i = c.rounds.invariant in
    let nothing = c.in_ok-first.ensures.settled (ap (λ o. Ok o) c.in_default-2.is) in
    let counted = rw c.in-Needs.is at c.in_ok-value.ensures.counted in
    let more = one_more_at_most c.rounds.meter.restarts c.attempt.new.meter.restarts (ap (λ (n : Counts). n.restarts) counted) in
    record {
      steps = steps_then (omega (arith, more)) i.steps (steps_wait c.in_ok-first.ensures.steps refl nothing c.in_ok-wait_for-in-Needs.ensures.awaits c.in_ok-wait_for-in-Needs.ensures.waits);
      evaluations = ap (λ (n : Counts). n.evaluations) counted ∙ i.evaluations;
      counts = never_fall-then _ _ _ i.counts c.attempt.ensures.counts;
    }

-- ---- what the frame gives

pub returns-in-Some-clause-gives : goal.returns-in-Some-clause-gives
returns-in-Some-clause-gives g c = (rw c.in-Some.is at c.in_ok-ahead.ensures.next, refl)

pub returns-in-Some-2-clause-gives : goal.returns-in-Some-2-clause-gives
returns-in-Some-2-clause-gives g c =
    let next = subst (λ (x : MemoState). IsWaitedFor c.args.store.now.sheet x c.resolve.new.frame c.in-Some-2.first) c.rounds.invariant.steps.same (rw c.in-Some-2.is at c.in_ok-first.ensures.next) in
    (next, c.rounds.invariant.evaluations)

pub returns-in-Done-clause-gives : goal.returns-in-Done-clause-gives
returns-in-Done-clause-gives g c =
    let s = c.args.store.now.sheet in
    let steps = steps_then {k = 0} (omega arith) c.rounds.invariant.steps c.in_ok-first.ensures.steps in
    let found = rw c.in-Done.is at c.in_ok-value.ensures.outcome in
    let counted = rw c.in-Done.is at c.in_ok-value.ensures.counted in
    let value : IsFrameValue s (g.M.Memo.state c.args.memo.now) c.args.frame.now c.in-Done.value = record {
      value = found.value ∙ ap (λ (k : Key). cell_value (put_all s k.world) k.cell) steps.key;
      rests = done_settled s (g.M.Memo.state c.args.memo.now) c.args.frame.now c.resolve.new.frame steps.key (steps.frame refl).found found.one_meaning (steps.settled refl);
    } in
    (value, search (ap (λ (m : Counts). m.evaluations) counted ∙ ap one_more c.rounds.invariant.evaluations))

-- ---- what it leaves

pub returns-in_err-ahead-clause-steps : goal.returns-in_err-ahead-clause-steps
returns-in_err-ahead-clause-steps g c = steps_err c.from_residual.result c.from_residual.ensures.0 c.look_ahead.ensures.steps.same c.look_ahead.ensures.steps.key

pub returns-in-Some-clause-steps : goal.returns-in-Some-clause-steps
returns-in-Some-clause-steps g c = steps_less (omega arith) c.in_ok-ahead.ensures.steps

pub returns-in_err-first-clause-steps : goal.returns-in_err-first-clause-steps
returns-in_err-first-clause-steps g c =
    let i = c.rounds.invariant.steps in
    let first = c.resolve.ensures.steps in
    steps_err c.from_residual-in_err-first.result c.from_residual-in_err-first.ensures.0 (first.same ∙ i.same) (first.key ∙ i.key)

pub returns-in-Some-2-clause-steps : goal.returns-in-Some-2-clause-steps
returns-in-Some-2-clause-steps g c = steps_then (omega arith) c.rounds.invariant.steps c.in_ok-first.ensures.steps

pub returns-in_err-value-clause-steps : goal.returns-in_err-value-clause-steps
returns-in_err-value-clause-steps g c =
    let i = c.rounds.invariant.steps in
    let first = c.resolve.ensures.steps in
    steps_err c.from_residual-in_err-value.result c.from_residual-in_err-value.ensures.0 (first.same ∙ i.same) (first.key ∙ i.key)

pub returns-in-Done-clause-steps : goal.returns-in-Done-clause-steps
returns-in-Done-clause-steps g c =
    let counted = rw c.in-Done.is at c.in_ok-value.ensures.counted in
    let same = ap (λ (m : Counts). m.restarts) counted in
    steps_then (omega (arith, same)) c.rounds.invariant.steps c.in_ok-first.ensures.steps

pub returns-in_err-wait_for-in-Needs-clause-steps : goal.returns-in_err-wait_for-in-Needs-clause-steps
returns-in_err-wait_for-in-Needs-clause-steps g c =
    let i = c.rounds.invariant.steps in
    let first = c.resolve.ensures.steps in
    steps_err c.from_residual-in_err-wait_for-in-Needs.result c.from_residual-in_err-wait_for-in-Needs.ensures.0 (first.same ∙ i.same) (c.wait_for.ensures.awaits.key ∙ first.key ∙ i.key)

-- ---- what it counts

pub returns-in_err-ahead-clause-counts : goal.returns-in_err-ahead-clause-counts
returns-in_err-ahead-clause-counts g c = counts_none

pub returns-in-Some-clause-counts : goal.returns-in-Some-clause-counts
returns-in-Some-clause-counts g c = counts_none

pub returns-in_err-first-clause-counts : goal.returns-in_err-first-clause-counts
returns-in_err-first-clause-counts g c = counts_then c.rounds.invariant.steps c.rounds.invariant.counts c.rounds.invariant.evaluations counts_none

pub returns-in-Some-2-clause-counts : goal.returns-in-Some-2-clause-counts
returns-in-Some-2-clause-counts g c = counts_then c.rounds.invariant.steps c.rounds.invariant.counts c.rounds.invariant.evaluations counts_none

pub returns-in_err-value-clause-counts : goal.returns-in_err-value-clause-counts
returns-in_err-value-clause-counts g c =
    let i = c.rounds.invariant in
    rw c.in_err-value.ensures.err (counts_then i.steps i.counts i.evaluations counts_none)

pub returns-in-Done-clause-counts : goal.returns-in-Done-clause-counts
returns-in-Done-clause-counts g c =
    let i = c.rounds.invariant in
    let counted = rw c.in-Done.is at c.in_ok-value.ensures.counted in
    counts_then i.steps i.counts i.evaluations (counts_done c.attempt.ensures.counts (ap (λ (m : Counts). m.evaluations) counted) (ap (λ (m : Counts). m.restarts) counted))

pub returns-in_err-wait_for-in-Needs-clause-counts : goal.returns-in_err-wait_for-in-Needs-clause-counts
returns-in_err-wait_for-in-Needs-clause-counts g c =
    let i = c.rounds.invariant in
    let nothing = c.in_ok-first.ensures.settled (ap (λ o. Ok o) c.in_default-2.is) in
    let counted = rw c.in-Needs.is at c.in_ok-value.ensures.counted in
    let wanted = rw c.in-Needs.is at c.in_ok-value.ensures.outcome in
    let steps = steps_then {k = c.rounds.meter.restarts - c.args.meter.now.restarts} (omega arith) i.steps c.in_ok-first.ensures.steps in
    counts_then steps i.counts i.evaluations (counts_want c.in-Needs.want wanted.asked wanted.lacking nothing c.attempt.ensures.counts (ap (λ (m : Counts). m.evaluations) counted) (ap (λ (m : Counts). m.restarts) counted))
