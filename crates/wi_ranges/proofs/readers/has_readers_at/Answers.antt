use Rattle.wi_ranges.proofs.Words.{◌∷◌, [], ◌∙◌, true, false, ap, sym, subst, refl, filter, true≢false, eq-eqb, list_any, range_contains, Included, Unbounded, one_less, Numbered, piece_cmp, reads_at}
use Rattle.wi_ranges.proofs.ReaderLemmas.{AreFirst, come_first, found_all, found_to_block, found_no_more, found_one_more, read_here, first_left}
use Rattle.wi_ranges.proofs.readers.has_readers_at.Goals as goal

pub loop-place-init : goal.loop-place-init
loop-place-init c =
    let x = c.args.block.now in
    let ks = c.args.pieces.now.keys in
    let between = c.into_iter-place-iterator.ensures.into_iter_gives ∙ c.range-place-items.ensures.between tt
    ∙ ap (λ (p : Numbered). filter (range_contains piece_cmp (Included (x, p)) Unbounded) ks) c.lowest.ensures in
    (subst (AreFirst x) (sym between) (come_first x ks c.range-place-items.ensures.ordered), λ r. refl)

pub returns-in-None : goal.returns-in-None
returns-in-None c =
    let x = c.args.block.now in
    let ks = c.args.pieces.now.keys in
    let between = c.into_iter-place-iterator.ensures.into_iter_gives ∙ c.range-place-items.ensures.between tt
    ∙ ap (λ (p : Numbered). filter (range_contains piece_cmp (Included (x, p)) Unbounded) ks) c.lowest.ensures in (
      λ t. absurd (true≢false (sym t)),
      λ h. absurd (true≢false (sym h.1 ∙ sym (found_all x c.args.at h.0 c.loop-place.place-iterator c.into_iter-place-iterator.result ks false false
          between c.in-None.ensures.steps.0 (c.loop-place.invariant.1 h.0)))),
    )

pub returns-then-ne : goal.returns-then-ne
returns-then-ne c =
    let x = c.args.block.now in
    let ks = c.args.pieces.now.keys in
    let between = c.into_iter-place-iterator.ensures.into_iter_gives ∙ c.range-place-items.ensures.between tt
    ∙ ap (λ (p : Numbered). filter (range_contains piece_cmp (Included (x, p)) Unbounded) ks) c.lowest.ensures in (
      λ t. absurd (true≢false (sym t)),
      λ h. absurd (true≢false (sym h.1 ∙ sym (found_to_block x c.args.at h.0 c.in-Some.field-0.now c.next.new.self c.loop-place.place-iterator c.into_iter-place-iterator.result ks false false
          between c.in-Some.ensures.steps c.if-ne.ensures c.loop-place.invariant.0 (c.loop-place.invariant.1 h.0)))),
    )

pub returns-then-has : goal.returns-then-has
returns-then-has c =
    let x = c.args.block.now in
    let ks = c.args.pieces.now.keys in
    let between = c.into_iter-place-iterator.ensures.into_iter_gives ∙ c.range-place-items.ensures.between tt
    ∙ ap (λ (p : Numbered). filter (range_contains piece_cmp (Included (x, p)) Unbounded) ks) c.lowest.ensures in
    let q = c.in-Some.field-0.now in
    let r = q.1.pair.reader in
    let all = c.into_iter-place-iterator.result in
    let there = found_one_more x c.args.at r q c.next.new.self c.loop-place.place-iterator false true (list_any (reads_at (x ∷ []) c.args.at r) all)
    c.in-Some.ensures.steps c.if-ne.ensures c.if-has.ensures (sym (eq-eqb r r refl)) (c.loop-place.invariant.1 r) in
    (λ t. (r, read_here x c.args.at r all ks between there), λ h. refl)

pub loop-place-smaller : goal.loop-place-smaller
loop-place-smaller c = one_less c.loop-place.place-iterator c.next.new.self c.in-Some.field-0.now c.in-Some.ensures.steps

pub loop-place-preserved : goal.loop-place-preserved
loop-place-preserved c =
    let x = c.args.block.now in (
      first_left x c.in-Some.field-0.now c.next.new.self c.loop-place.place-iterator c.in-Some.ensures.steps c.loop-place.invariant.0,
      λ r. found_no_more x c.args.at r c.in-Some.field-0.now c.next.new.self c.loop-place.place-iterator false
          (list_any (reads_at (x ∷ []) c.args.at r) c.into_iter-place-iterator.result)
          c.in-Some.ensures.steps c.if-has.ensures (c.loop-place.invariant.1 r),
    )
