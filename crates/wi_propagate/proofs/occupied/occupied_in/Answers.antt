use Rattle.wi_propagate.proofs.Words.{◌++◌, sym, ◌∙◌, ap, Some, cells_ahead, all_ahead, none_ahead, one_ahead, fewer}
use Rattle.wi_propagate.proofs.occupied.occupied_in.Goals as goal

pub loop-ahead-init : goal.loop-ahead-init
loop-ahead-init g c =
    let sheet = (g.C.Calculator.stored c.args.calculator.now).sheet in
    ap (λ x. c.new-found.result.items ++ cells_ahead sheet c.args.area (Some x)) c.first.ensures ∙ all_ahead sheet c.args.area c.new-found.result.items c.new-found.ensures.items

pub returns-in_default-next_occupied : goal.returns-in_default-next_occupied
returns-in_default-next_occupied g c =
    let sheet = (g.C.Calculator.stored c.args.calculator.now).sheet in
    none_ahead sheet c.args.area c.loop-ahead.found.items c.loop-ahead.ahead c.in-Some.from c.in-Some.is (sym c.in_default-next_occupied.is ∙ c.next_occupied.ensures.first) c.loop-ahead.invariant

pub loop-ahead-smaller : goal.loop-ahead-smaller
loop-ahead-smaller g c =
    let sheet = (g.C.Calculator.stored c.args.calculator.now).sheet in
    fewer sheet c.args.area c.loop-ahead.ahead c.successor-ahead.result c.in-Some.from c.in-Some-next_occupied.cell c.last.result c.in-Some.is
    (sym c.in-Some-next_occupied.is ∙ c.next_occupied.ensures.first) c.last.ensures c.successor-ahead.ensures.some

pub loop-ahead-preserved : goal.loop-ahead-preserved
loop-ahead-preserved g c =
    let sheet = (g.C.Calculator.stored c.args.calculator.now).sheet in
    one_ahead sheet c.args.area c.loop-ahead.found.items c.push.new.self.items c.loop-ahead.ahead c.successor-ahead.result c.in-Some.from c.in-Some-next_occupied.cell c.last.result
    c.next_occupied.ensures.order c.in-Some.is (sym c.in-Some-next_occupied.is ∙ c.next_occupied.ensures.first) c.in_ok-push.ensures.items c.last.ensures
    c.successor-ahead.ensures.some c.successor-ahead.ensures.none c.loop-ahead.invariant
