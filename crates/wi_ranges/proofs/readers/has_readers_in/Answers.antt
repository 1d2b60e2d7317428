use Rattle.wi_ranges.proofs.Words.{◌≡◌, ◌∙◌, ℕ, List, ap, sym, list_any, true≢false, nil_from_length, row_of, blocks_with, Piece, reads_at}
use Rattle.wi_ranges.proofs.readers.has_readers_in.Goals as goal

pub returns-then-is_empty-clause-read : goal.returns-then-is_empty-clause-read
returns-then-is_empty-clause-read c =
    let none = nil_from_length c.args.pieces.now.keys (c.is_empty.ensures.0 c.if-is_empty.true) in (
      λ t. absurd (true≢false (sym t)),
      λ h. absurd (true≢false (sym h.1 ∙ ap (λ (ps : List Piece). list_any (reads_at (blocks_with (row_of c.args.at) 20 0) c.args.at h.0) ps) none)),
    )

pub returns-clause-read : goal.returns-clause-read
returns-clause-read c =
    let a = c.args.at in
    let ks = c.args.pieces.now.keys in
    let around = c.highest_block-block.result in
    let same : (r : ℕ) → list_any (reads_at (blocks_with c.row-row.result around.level around.first) a r) ks ≡ list_any (reads_at (blocks_with (row_of a) 20 0) a r) ks = λ r.
    c.highest_block-block.ensures.all a r ∙ ap (λ (n : ℕ). list_any (reads_at (blocks_with n 20 0) a r) ks) c.row-row.ensures.value in (
      λ t. let one = c.has_readers_within.ensures.0 t in (one.0, sym (same one.0) ∙ one.1),
      λ h. c.has_readers_within.ensures.1 (h.0, same h.0 ∙ h.1),
    )
