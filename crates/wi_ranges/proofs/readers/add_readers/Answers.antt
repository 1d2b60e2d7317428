use Rattle.wi_ranges.proofs.Words.{◌||◌, ◌∷◌, [], ◌∙◌, ap, sym, subst, refl, filter, IfOk-from_err, nat_cmp, contains, list_any, range_contains, Included, Unbounded, one_less, Numbered, piece_cmp, reads_at}
use Rattle.wi_ranges.proofs.ReaderLemmas.{AreFirst, come_first, found_all, found_to_block, found_no_more, found_one_more, first_left}
use Rattle.wi_ranges.proofs.readers.add_readers.Goals as goal

pub loop-place-init : goal.loop-place-init
loop-place-init c =
    let x = c.args.block.now in
    let ks = c.args.pieces.now.keys in
    let between = c.into_iter-place-iterator.ensures.into_iter_gives ∙ c.range-place-items.ensures.between tt
    ∙ ap (λ (p : Numbered). filter (range_contains piece_cmp (Included (x, p)) Unbounded) ks) c.lowest.ensures in
    (subst (AreFirst x) (sym between) (come_first x ks c.range-place-items.ensures.ordered), λ r. refl)

pub returns-in-None : goal.returns-in-None
returns-in-None c =
    let x = c.args.block.now in
    let ks = c.args.pieces.now.keys in
    let between = c.into_iter-place-iterator.ensures.into_iter_gives ∙ c.range-place-items.ensures.between tt
    ∙ ap (λ (p : Numbered). filter (range_contains piece_cmp (Included (x, p)) Unbounded) ks) c.lowest.ensures in
    λ r. found_all x c.args.at r c.loop-place.place-iterator c.into_iter-place-iterator.result ks (contains nat_cmp c.args.readers.now r) (contains nat_cmp c.loop-place.readers r)
    between c.in-None.ensures.steps.0 (c.loop-place.invariant.1 r)

pub returns-then-ne : goal.returns-then-ne
returns-then-ne c =
    let x = c.args.block.now in
    let ks = c.args.pieces.now.keys in
    let between = c.into_iter-place-iterator.ensures.into_iter_gives ∙ c.range-place-items.ensures.between tt
    ∙ ap (λ (p : Numbered). filter (range_contains piece_cmp (Included (x, p)) Unbounded) ks) c.lowest.ensures in
    λ r. found_to_block x c.args.at r c.in-Some.field-0.now c.next.new.self c.loop-place.place-iterator c.into_iter-place-iterator.result ks (contains nat_cmp c.args.readers.now r) (contains nat_cmp c.loop-place.readers r)
    between c.in-Some.ensures.steps c.if-ne.ensures c.loop-place.invariant.0 (c.loop-place.invariant.1 r)

pub loop-place-smaller-in_ok-insert : goal.loop-place-smaller-in_ok-insert
loop-place-smaller-in_ok-insert c = one_less c.loop-place.place-iterator c.next.new.self c.in-Some.field-0.now c.in-Some.ensures.steps

pub loop-place-preserved-in_ok-insert : goal.loop-place-preserved-in_ok-insert
loop-place-preserved-in_ok-insert c =
    let x = c.args.block.now in (
      first_left x c.in-Some.field-0.now c.next.new.self c.loop-place.place-iterator c.in-Some.ensures.steps c.loop-place.invariant.0,
      λ r. found_one_more x c.args.at r c.in-Some.field-0.now c.next.new.self c.loop-place.place-iterator (contains nat_cmp c.loop-place.readers r) (contains nat_cmp c.insert.new.self r)
          (contains nat_cmp c.args.readers.now r || list_any (reads_at (x ∷ []) c.args.at r) c.into_iter-place-iterator.result)
          c.in-Some.ensures.steps c.if-ne.ensures c.if-has.ensures (c.in_ok-insert.ensures.has r) (c.loop-place.invariant.1 r),
    )

pub returns-in_err-insert : goal.returns-in_err-insert
returns-in_err-insert c = IfOk-from_err c.from_residual.result _ c.from_residual.ensures.0

pub loop-place-smaller : goal.loop-place-smaller
loop-place-smaller c = one_less c.loop-place.place-iterator c.next.new.self c.in-Some.field-0.now c.in-Some.ensures.steps

pub loop-place-preserved : goal.loop-place-preserved
loop-place-preserved c =
    let x = c.args.block.now in (
      first_left x c.in-Some.field-0.now c.next.new.self c.loop-place.place-iterator c.in-Some.ensures.steps c.loop-place.invariant.0,
      λ r. found_no_more x c.args.at r c.in-Some.field-0.now c.next.new.self c.loop-place.place-iterator (contains nat_cmp c.loop-place.readers r)
          (contains nat_cmp c.args.readers.now r || list_any (reads_at (x ∷ []) c.args.at r) c.into_iter-place-iterator.result)
          c.in-Some.ensures.steps c.if-has.ensures (c.loop-place.invariant.1 r),
    )
