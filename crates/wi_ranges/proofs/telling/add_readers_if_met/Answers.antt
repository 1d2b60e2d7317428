use Rattle.wi_ranges.proofs.Words.{◌∙◌, ◌&&◌, ◌||◌, ap, sym, nat_cmp, list_any, contains, or-false, on_ok_weaker}
use Rattle.wi_ranges.specs.Inner.Telling.{reads_for}
use Rattle.wi_ranges.proofs.telling.add_readers_if_met.Goals as goal

pub returns-then-not-has : goal.returns-then-not-has
returns-then-not-has c = λ r.
    sym (ap (λ b. contains nat_cmp c.args.readers.now r || (b && list_any (reads_for c.args.block.now c.args.area.now r) c.args.pieces.now.keys)) (sym c.if-not-has.ensures) ∙ or-false (contains nat_cmp c.args.readers.now r))

pub returns : goal.returns
returns c =
    on_ok_weaker c.add_readers_for.result
    (λ found r. found r ∙ ap (λ b. contains nat_cmp c.args.readers.now r || (b && list_any (reads_for c.args.block.now c.args.area.now r) c.args.pieces.now.keys)) c.if-not-has.ensures)
    c.add_readers_for.ensures
