use Rattle.wi_edit_log.proofs.Words.{◌≡◌, ◌<◌, ◌∙◌, ap, arith, refl, row_of}
use Rattle.wi_edit_log.proofs.Below.{ends_above, meets, meets_none, passes_by}
use Rattle.wi_edit_log.proofs.rising.first_met.Goals as goal

pub loop-area-init : goal.loop-area-init
loop-area-init c = λ a w. refl

pub returns-then-row : goal.returns-then-row
returns-then-row c =
    let last : c.row.result ≡ row_of c.args.one.last = c.row.ensures.value ∙ ap row_of c.last.ensures in
    let first : c.row-in-loop-area.result ≡ row_of c.area-item.result.first = c.row-in-loop-area.ensures.value ∙ ap row_of c.first.ensures in
    let above : row_of c.args.one.last < row_of c.area-item.result.first = rw (← last, ← first) c.if-row.true in
    ends_above c.args.one c.args.areas.now c.loop-area.area-index c.area-item.result (omega arith) c.area-item.is c.requires c.loop-area.invariant above

pub returns-in-Some : goal.returns-in-Some
returns-in-Some c =
    meets c.args.one c.args.areas.now c.loop-area.area-index c.area-item.result (omega arith) c.area-item.is c.requires c.loop-area.invariant
    c.first_in_both.result c.in-Some.at c.first_in_both.ensures c.in-Some.is

pub loop-area-preserved : goal.loop-area-preserved
loop-area-preserved c =
    passes_by c.args.one c.args.areas.now c.loop-area.area-index c.area-item.result (omega arith) c.area-item.is c.requires c.loop-area.invariant
    c.first_in_both.result c.first_in_both.ensures c.in_default.is

pub returns : goal.returns
returns c = meets_none c.args.one c.args.areas.now c.loop-area.area-index (omega arith) c.loop-area.invariant
