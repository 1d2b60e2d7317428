use Rattle.wi_ranges.proofs.Words.{◌∙◌, ap, sym, subst, filter, IfOk-from_err, range_contains, Included, Unbounded, one_less, Numbered, piece_cmp}
use Rattle.wi_ranges.proofs.ReaderLemmas.{another}
use Rattle.wi_ranges.proofs.AreaLemmas.{ComeFirst, at_block, block_run, come_first_by, rest_first}
use Rattle.wi_ranges.proofs.TellLemmas.{misses_start, misses_none, misses_none_behind, misses_less}
use Rattle.wi_ranges.proofs.telling.add_areas.Goals as goal

pub loop-place-init : goal.loop-place-init
loop-place-init c =
    let x = c.args.block.now in
    let ks = c.args.pieces.now.keys in
    let between = c.into_iter-place-iterator.ensures.into_iter_gives ∙ c.range-place-items.ensures.between tt
    ∙ ap (λ (p : Numbered). filter (range_contains piece_cmp (Included (x, p)) Unbounded) ks) c.lowest.ensures in (
      subst (ComeFirst (at_block x)) (sym between) (come_first_by _ (at_block x) ks (block_run x) c.range-place-items.ensures.ordered),
      misses_start x ks c.into_iter-place-iterator.result c.args.areas.now.items between,
    )

pub returns-in-None : goal.returns-in-None
returns-in-None c = misses_none c.args.block.now c.args.pieces.now.keys c.loop-place.areas.items c.loop-place.place-iterator c.in-None.ensures.steps.0 c.loop-place.invariant.1

pub returns-then-ne : goal.returns-then-ne
returns-then-ne c =
    let x = c.args.block.now in
    let q = c.in-Some.field-0.now in
    misses_none_behind x c.args.pieces.now.keys c.loop-place.areas.items q c.next.new.self c.loop-place.place-iterator c.in-Some.ensures.steps (another x q.0 c.if-ne.ensures) c.loop-place.invariant.0 c.loop-place.invariant.1

pub loop-place-smaller : goal.loop-place-smaller
loop-place-smaller c = one_less c.loop-place.place-iterator c.next.new.self c.in-Some.field-0.now c.in-Some.ensures.steps

pub loop-place-preserved : goal.loop-place-preserved
loop-place-preserved c =
    let x = c.args.block.now in
    let q = c.in-Some.field-0.now in (
      rest_first (at_block x) q c.next.new.self c.loop-place.place-iterator c.in-Some.ensures.steps c.loop-place.invariant.0,
      misses_less x c.args.pieces.now.keys c.loop-place.areas.items c.add_area.new.areas.items q c.next.new.self c.loop-place.place-iterator c.in-Some.ensures.steps
          c.in_ok-add_area.ensures.stays c.in_ok-add_area.ensures.there c.loop-place.invariant.1,
    )

pub returns-in_err-add_area : goal.returns-in_err-add_area
returns-in_err-add_area c = IfOk-from_err c.from_residual.result _ c.from_residual.ensures.0
