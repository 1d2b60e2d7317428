use Rattle.wi_ranges.proofs.Words.{◌∙◌, ◌∷◌, [], List, true, false, ap, sym, refl, arith, list_any, true≢false, or_right, Block, blocks_with, reads_at}
use Rattle.wi_ranges.proofs.BlockLemmas.{half_of, blocks_with-row}
use Rattle.wi_ranges.proofs.Found.{first_with}
use Rattle.wi_ranges.proofs.ReaderLemmas.{readers_more, passes_not}
use Rattle.wi_ranges.proofs.readers.+has_readers_within.Goals as goal

pub returns-then-has_readers_at : goal.returns-then-has_readers_at
returns-then-has_readers_at t c =
    let x = c.args.block.now in
    let zs = blocks_with c.args.row x.level x.first in
    let next = first_with c.args.row x.level x.first in
    let one = c.has_readers_at.ensures.0 c.if-has_readers_at.true in
    (λ u. (one.0, sym (readers_more x next.0 zs c.args.at one.0 c.args.pieces.now.keys false true true next.1 (sym one.1) refl)), λ h. refl)

pub returns-then-block-gt0 : goal.returns-then-block-gt0
returns-then-block-gt0 t c =
    let x = c.args.block.now in
    let a = c.args.at in
    let ks = c.args.pieces.now.keys in
    let half = c.half_with.result in
    let xs = blocks_with c.args.row half.level half.first in
    let zs = blocks_with c.args.row x.level x.first in
    let next = half_of c.args.row x half c.half_with.ensures.value c.if-block-gt0.true in
    let none = passes_not (λ r. list_any (reads_at (x ∷ []) a r) ks) c.has_readers_at.result c.has_readers_at.ensures c.if-has_readers_at.false in (
      λ u. let one = c.has_readers_within.ensures.0 u in
          (one.0, sym (readers_more x xs zs a one.0 ks false (list_any (reads_at (x ∷ []) a one.0) ks) true next refl (sym (or_right _ _ one.1)))),
      λ h. c.has_readers_within.ensures.1 (h.0, readers_more x xs zs a h.0 ks false false (list_any (reads_at xs a h.0) ks) next (sym (none h.0)) refl ∙ h.1),
    )

pub returns : goal.returns
returns t c =
    let x = c.args.block.now in
    let a = c.args.at in
    let ks = c.args.pieces.now.keys in
    let none = passes_not (λ r. list_any (reads_at (x ∷ []) a r) ks) c.has_readers_at.result c.has_readers_at.ensures c.if-has_readers_at.false in (
      λ u. absurd (true≢false (sym u)),
      λ h. absurd (true≢false (sym h.1 ∙ ap (λ (us : List Block). list_any (reads_at us a h.0) ks) (blocks_with-row c.args.row x.level x.first (omega (arith, c.if-block-gt0.false))) ∙ none h.0)),
    )
