use Rattle.wi_ranges.proofs.Words.{◌∙◌, ◌||◌, List, ap, sym, arith, nat_cmp, list_any, contains, Block, blocks_with, reads_at}
use Rattle.wi_ranges.proofs.BlockLemmas.{half_of, blocks_with-row}
use Rattle.wi_ranges.proofs.ReaderLemmas.{readers_more}
use Rattle.wi_ranges.proofs.readers.+add_all_readers.Goals as goal

pub returns-in_ok-add_all_readers : goal.returns-in_ok-add_all_readers
returns-in_ok-add_all_readers t c =
    let x = c.args.block.now in
    let h = c.half_with.result in
    let next = half_of c.args.row x h c.half_with.ensures.value c.if-block-gt0.true in
    λ r. readers_more x (blocks_with c.args.row h.level h.first) (blocks_with c.args.row x.level x.first) c.args.at r c.args.pieces.now.keys
    (contains nat_cmp c.args.readers.now r) (contains nat_cmp c.add_readers.new.readers r) (contains nat_cmp c.add_all_readers.new.readers r)
    next (c.in_ok-add_readers.ensures r) (c.in_ok-add_all_readers.ensures r)

pub returns-else-block-gt0 : goal.returns-else-block-gt0
returns-else-block-gt0 t c =
    let x = c.args.block.now in
    λ r. c.in_ok-add_readers.ensures r
    ∙ ap (λ (xs : List Block). contains nat_cmp c.args.readers.now r || list_any (reads_at xs c.args.at r) c.args.pieces.now.keys)
    (sym (blocks_with-row c.args.row x.level x.first (omega (arith, c.if-block-gt0.false))))
