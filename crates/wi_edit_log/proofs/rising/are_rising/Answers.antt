use Rattle.wi_edit_log.proofs.Words.{◌≡◌, ◌+◌, ℕ, drop, ap, arith, refl, subst, sym, ◌∙◌, row_of, are_rising, rise_from}
use Rattle.wi_edit_log.proofs.Below.{rises_all, rises_no_more, rises_on}
use Rattle.wi_edit_log.proofs.rising.are_rising.Goals as goal

pub loop-area-init : goal.loop-area-init
loop-area-init c = refl

pub returns-then-not-begins_from : goal.returns-then-not-begins_from
returns-then-not-begins_from c =
    rises_no_more c.loop-area.next c.args.areas.now c.loop-area.area-index c.area-item.result c.begins_from.result (are_rising c.args.areas.now)
    (omega arith) c.area-item.is c.begins_from.ensures c.if-not-begins_from.true c.loop-area.invariant

pub loop-area-preserved : goal.loop-area-preserved
loop-area-preserved c =
    let rs = c.args.areas.now in
    let i = c.loop-area.area-index in
    let row : c.row-next.result ≡ row_of c.area-item.result.last = c.row-next.ensures.value ∙ ap row_of c.last.ensures in
    subst (λ (n : ℕ). are_rising rs ≡ rise_from (n + 1) (drop (i + 1) rs)) (sym row)
    (rises_on c.loop-area.next rs i c.area-item.result c.begins_from.result (are_rising rs)
    (omega arith) c.area-item.is c.begins_from.ensures c.if-not-begins_from.false c.loop-area.invariant)

pub returns : goal.returns
returns c = rises_all c.loop-area.next c.args.areas.now c.loop-area.area-index (are_rising c.args.areas.now) (omega arith) c.loop-area.invariant
