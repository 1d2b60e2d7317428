use Rattle.wi_ranges.proofs.Words.{◌∙◌, Some, cond, false, refl, ap, sym, is_some, is_at, on_ok_weaker, block_cmp}
use Rattle.std.specs.BTreeMap.{get}
use Rattle.wi_ranges.specs.Inner.Telling.{Left, is_gone, untold}
use Rattle.wi_ranges.proofs.TellLemmas.{clash, tells_by_block, gone_was_told}
use Rattle.wi_ranges.proofs.telling.tell_at.Goals as goal

pub returns-in-Some : goal.returns-in-Some
returns-in-Some c =
    let x = c.args.block.now in
    let old = c.args.left.now in
    let new = c.tell_left.new.left in
    let put = (c.get_mut.follows.holds new).3 (ap is_some (sym c.in-Some.ensures.value)) in
    on_ok_weaker c.tell_left.result
    (λ t. tells_by_block c.args.pieces.now.keys x c.args.at old (c.get_mut.follows.lender new) (is_gone x c.in-Some.areas.now.items) new c.args.readers.now c.tell_left.new.readers
    (λ q h s. gone_was_told old x c.in-Some.areas.now (sym c.in-Some.ensures.value) q s) put.0 t)
    c.tell_left.ensures

pub returns : goal.returns
returns c =
    let x = c.args.block.now in
    let old = c.args.left.now in
    let rest = c.in_ok-areas.areas in
    tells_by_block c.args.pieces.now.keys x c.args.at old c.insert.new.self untold rest c.args.readers.now c.tell_first.new.readers (λ q h s. clash false s refl)
    (λ y. c.in_ok-insert.ensures.updates.0 y ∙ ap (λ (m : Left). cond (is_at (block_cmp x) y) (Some rest) (get block_cmp m y)) c.get_mut.follows.holds-at-none)
    c.in_ok-areas.ensures
