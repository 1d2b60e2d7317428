use Rattle.wi_ranges.proofs.Words.{◌||◌, ◌∙◌, ap, sym, subst, refl, filter, IfOk-from_err, nat_cmp, contains, list_any, range_contains, Included, Unbounded, one_less, Numbered, piece_cmp}
use Rattle.wi_ranges.specs.Inner.Telling.{reads_for, stands_for}
use Rattle.wi_ranges.proofs.AreaLemmas.{ComeFirst, area_run, come_first_by, rest_first, area_all, area_to_end, area_one_more}
use Rattle.wi_ranges.proofs.telling.add_readers_for.Goals as goal

pub loop-place-init : goal.loop-place-init
loop-place-init c =
    let x = c.args.block.now in
    let p = c.args.area.now in
    let ks = c.args.pieces.now.keys in
    let between = c.into_iter-place-iterator.ensures.into_iter_gives ∙ c.range-place-items.ensures.between tt
    ∙ ap (λ (m : Numbered). filter (range_contains piece_cmp (Included (x, m)) Unbounded) ks) c.first_numbered.ensures in
    (subst (ComeFirst (stands_for x p)) (sym between) (come_first_by _ (stands_for x p) ks (area_run x p) c.range-place-items.ensures.ordered), λ r. refl)

pub returns-in-None : goal.returns-in-None
returns-in-None c =
    let x = c.args.block.now in
    let p = c.args.area.now in
    let ks = c.args.pieces.now.keys in
    let between = c.into_iter-place-iterator.ensures.into_iter_gives ∙ c.range-place-items.ensures.between tt
    ∙ ap (λ (m : Numbered). filter (range_contains piece_cmp (Included (x, m)) Unbounded) ks) c.first_numbered.ensures in
    λ r. area_all x p r c.loop-place.place-iterator c.into_iter-place-iterator.result ks (contains nat_cmp c.args.readers.now r) (contains nat_cmp c.loop-place.readers r)
    between c.in-None.ensures.steps.0 (c.loop-place.invariant.1 r)

pub returns-then-not-stands_for : goal.returns-then-not-stands_for
returns-then-not-stands_for c =
    let x = c.args.block.now in
    let p = c.args.area.now in
    let q = c.in-Some.field-0.now in
    let ks = c.args.pieces.now.keys in
    let between = c.into_iter-place-iterator.ensures.into_iter_gives ∙ c.range-place-items.ensures.between tt
    ∙ ap (λ (m : Numbered). filter (range_contains piece_cmp (Included (x, m)) Unbounded) ks) c.first_numbered.ensures in
    λ r. area_to_end x p r q c.next.new.self c.loop-place.place-iterator c.into_iter-place-iterator.result ks (contains nat_cmp c.args.readers.now r) (contains nat_cmp c.loop-place.readers r)
    between c.in-Some.ensures.steps (c.if-not-stands_for.ensures q.1.number) c.loop-place.invariant.0 (c.loop-place.invariant.1 r)

pub loop-place-smaller : goal.loop-place-smaller
loop-place-smaller c = one_less c.loop-place.place-iterator c.next.new.self c.in-Some.field-0.now c.in-Some.ensures.steps

pub loop-place-preserved : goal.loop-place-preserved
loop-place-preserved c =
    let x = c.args.block.now in
    let p = c.args.area.now in
    let q = c.in-Some.field-0.now in (
      rest_first (stands_for x p) q c.next.new.self c.loop-place.place-iterator c.in-Some.ensures.steps c.loop-place.invariant.0,
      λ r. area_one_more x p r q c.next.new.self c.loop-place.place-iterator (contains nat_cmp c.loop-place.readers r) (contains nat_cmp c.insert.new.self r)
          (contains nat_cmp c.args.readers.now r || list_any (reads_for x p r) c.into_iter-place-iterator.result)
          c.in-Some.ensures.steps (c.if-not-stands_for.ensures q.1.number) (c.in_ok-insert.ensures.has r) (c.loop-place.invariant.1 r),
    )

pub returns-in_err-insert : goal.returns-in_err-insert
returns-in_err-insert c = IfOk-from_err c.from_residual.result _ c.from_residual.ensures.0
