use Rattle.wi_edit_log.proofs.Words.{◌<◌, ◌-◌, arith, rules}
use Rattle.wi_edit_log.proofs.Wide.{narrow_stepped_over, none_wide_after_all, run_stepped_over, wide_looked_at}
use Rattle.wi_edit_log.proofs.edit.first_of_wide.Goals as goal

pub loop-place-init : goal.loop-place-init
loop-place-init c = record {
  begins = c.requires.from;
  within = omega arith;
  first = none_wide_after_all c.args.edits.now c.args.session _ c.args.wanted.now (omega arith);
}

pub loop-place-smaller-then-narrow-gt0 : goal.loop-place-smaller-then-narrow-gt0
loop-place-smaller-then-narrow-gt0 c =
    let i = c.loop-place.invariant in
    let low : c.max-place.result < c.loop-place.place =
    (narrow_stepped_over c.args.edits.now c.index-edits-place.result c.args.session c.args.from c.loop-place.place _ c.max-place.result c.args.wanted.now c.loop-place.first
    (c.requires.counts.each (c.loop-place.place - 1) _ (omega (arith, c.loop-place-test.true, i.within))) c.loop-place-test.true i.within c.if-narrow-gt0.true (omega (arith, c.max-place.ensures, c.saturating_sub.ensures)) i.first).0 in
    omega (arith, low, c.max-place.ensures, c.loop-place-test.true)

pub loop-place-preserved-then-narrow-gt0 : goal.loop-place-preserved-then-narrow-gt0
loop-place-preserved-then-narrow-gt0 c =
    let i = c.loop-place.invariant in
    let next =
    narrow_stepped_over c.args.edits.now c.index-edits-place.result c.args.session c.args.from c.loop-place.place _ c.max-place.result c.args.wanted.now c.loop-place.first
    (c.requires.counts.each (c.loop-place.place - 1) _ (omega (arith, c.loop-place-test.true, i.within))) c.loop-place-test.true i.within c.if-narrow-gt0.true (omega (arith, c.max-place.ensures, c.saturating_sub.ensures)) i.first in
    record { begins = omega (arith, c.max-place.ensures); within = omega (arith, next.0, i.within); first = next.1 }

pub loop-place-smaller-then-edit-session : goal.loop-place-smaller-then-edit-session
loop-place-smaller-then-edit-session c =
    let i = c.loop-place.invariant in
    let low : c.max-place-then-edit-session.result < c.loop-place.place =
    (run_stepped_over c.args.edits.now c.index-edits-place.result c.args.session c.args.from c.loop-place.place c.max-place-then-edit-session.result c.args.wanted.now c.loop-place.first
    c.requires.runs c.loop-place-test.true i.within c.index-edits-place.is c.if-edit-session.true c.max-place-then-edit-session.ensures i.first).0 in
    omega (arith, low, c.max-place-then-edit-session.ensures, c.loop-place-test.true)

pub loop-place-preserved-then-edit-session : goal.loop-place-preserved-then-edit-session
loop-place-preserved-then-edit-session c =
    let i = c.loop-place.invariant in
    let next =
    run_stepped_over c.args.edits.now c.index-edits-place.result c.args.session c.args.from c.loop-place.place c.max-place-then-edit-session.result c.args.wanted.now c.loop-place.first
    c.requires.runs c.loop-place-test.true i.within c.index-edits-place.is c.if-edit-session.true c.max-place-then-edit-session.ensures i.first in
    record { begins = omega (arith, c.max-place-then-edit-session.ensures); within = omega (arith, next.0, i.within); first = next.1 }

pub loop-place-preserved : goal.loop-place-preserved
loop-place-preserved c =
    let i = c.loop-place.invariant in
    record {
      begins = omega (arith, c.loop-place-test.true);
      within = omega (arith, i.within);
      first = wide_looked_at c.args.edits.now c.index-edits-place.result c.args.session c.loop-place.place (c.loop-place.place - 1) _ c.args.wanted.now
          c.loop-place.first c.first_shared.result _ (c.requires.counts.each (c.loop-place.place - 1) _ (omega (arith, c.loop-place-test.true, i.within))) c.if-narrow-gt0.false (omega (arith, c.loop-place-test.true)) i.within c.index-edits-place.is
          (omega (arith, c.loop-place-test.true)) c.if-edit-session.false (search rules) i.first c.first_shared.ensures;
    }
