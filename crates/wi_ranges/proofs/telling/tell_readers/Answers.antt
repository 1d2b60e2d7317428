use Rattle.wi_ranges.proofs.Words.{◌≡◌, ◌∙◌, ℕ, ap, list_any, nil_from_length, on_ok_weaker, row_of, blocks_with, reads_at}
use Rattle.wi_ranges.specs.Inner.Telling.{was_told}
use Rattle.wi_ranges.proofs.TellLemmas.{tells_readers, tells_nothing}
use Rattle.wi_ranges.proofs.telling.tell_readers.Goals as goal

pub returns-then-is_empty-clause-told : goal.returns-then-is_empty-clause-told
returns-then-is_empty-clause-told c =
    tells_nothing c.args.pieces.now.keys (blocks_with (row_of c.args.at) 20 0) c.args.at (was_told c.args.left.now) c.args.readers.now (nil_from_length c.args.pieces.now.keys (c.is_empty.ensures.0 c.if-is_empty.true))

pub returns-clause-told : goal.returns-clause-told
returns-clause-told c =
    let a = c.args.at in
    let ks = c.args.pieces.now.keys in
    let around = c.highest_block-block.result in
    let same : (r : ℕ) → list_any (reads_at (blocks_with c.row-row.result around.level around.first) a r) ks ≡ list_any (reads_at (blocks_with (row_of a) 20 0) a r) ks = λ r.
    c.highest_block-block.ensures.all a r ∙ ap (λ (n : ℕ). list_any (reads_at (blocks_with n 20 0) a r) ks) c.row-row.ensures.value in
    on_ok_weaker c.tell_all.result
    (λ t. tells_readers ks (blocks_with c.row-row.result around.level around.first) (blocks_with (row_of a) 20 0) a (was_told c.args.left.now) (was_told c.tell_all.new.left) c.args.readers.now c.tell_all.new.readers same t)
    c.tell_all.ensures
