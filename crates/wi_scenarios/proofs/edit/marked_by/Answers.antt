use Rattle.wi_scenarios.proofs.Words.{length, is_pending_for_all, ◌≡◌, ◌<◌, arith, common_steps, keys_of, rules}
use Rattle.wi_scenarios.proofs.EditLemmas.{none_marked, some_marked, if_ok_both}
use Rattle.wi_scenarios.proofs.edit.marked_by.Goals as goal

pub returns-then-is_empty : goal.returns-then-is_empty
returns-then-is_empty g c =
    let contents = c.args.contents.now in
    none_marked g.C.Calculator.marked (g.C.Calculator.stored c.args.calculator.now).sheet (is_pending_for_all c.args.sessions.now) contents c.new.result.items
    (let none : length contents ≡ 0 = grind (arith, common_steps) in none) c.new.ensures.items

pub mark_beyond-requires : goal.mark_beyond-requires
mark_beyond-requires g c = c.requires

pub returns : goal.returns
returns g c =
    let contents = c.args.contents.now in
    let some : 0 < length contents = grind (arith, common_steps) in
    let keys : c.as_slice.result.now ≡ keys_of contents = search rules in
    if_ok_both _ _ _ c.mark_beyond.result
    (λ found m o. some_marked g.C.Calculator.marked (g.C.Calculator.stored c.args.calculator.now).sheet (is_pending_for_all c.args.sessions.now) contents c.as_slice.result.now found.items some keys m o)
    c.mark_beyond.ensures.marked c.mark_beyond.ensures.others
