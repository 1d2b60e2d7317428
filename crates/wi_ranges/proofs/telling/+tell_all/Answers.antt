use Rattle.wi_ranges.proofs.Words.{List, subst, sym, arith, Block, blocks_with}
use Rattle.wi_ranges.specs.Inner.Telling.{was_told, Tells}
use Rattle.wi_ranges.proofs.BlockLemmas.{half_of, blocks_with-row}
use Rattle.wi_ranges.proofs.TellLemmas.{tells_both}
use Rattle.wi_ranges.proofs.telling.+tell_all.Goals as goal

pub returns-in_ok-tell_all : goal.returns-in_ok-tell_all
returns-in_ok-tell_all t c =
    let x = c.args.block.now in
    let h = c.half_with.result in
    let next = half_of c.args.row x h c.half_with.ensures.value c.if-block-gt0.true in
    tells_both c.args.pieces.now.keys x (blocks_with c.args.row h.level h.first) (blocks_with c.args.row x.level x.first) c.args.at
    (was_told c.args.left.now) (was_told c.tell_at.new.left) (was_told c.tell_all.new.left) c.args.readers.now c.tell_at.new.readers c.tell_all.new.readers
    next c.in_ok-tell_at.ensures c.in_ok-tell_all.ensures

pub returns-else-block-gt0 : goal.returns-else-block-gt0
returns-else-block-gt0 t c =
    let x = c.args.block.now in
    subst (λ (xs : List Block). Tells c.args.pieces.now.keys xs c.args.at (was_told c.args.left.now) (was_told c.tell_at.new.left) c.args.readers.now c.tell_at.new.readers)
    (sym (blocks_with-row c.args.row x.level x.first (omega (arith, c.if-block-gt0.false)))) c.in_ok-tell_at.ensures
