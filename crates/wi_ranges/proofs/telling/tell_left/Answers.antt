use Rattle.wi_ranges.proofs.Words.{◌∙◌, ◌∷◌, [], List, ap, sym, subst, not, filter, list_any, pair_area, is_within, RangePair}
use Rattle.wi_ranges.specs.Inner.Telling.{is_gone, Tells}
use Rattle.wi_ranges.proofs.TellLemmas.{tells_none, tells_apart_left}
use Rattle.wi_ranges.proofs.telling.tell_left.Goals as goal

pub returns-then-not-any_has : goal.returns-then-not-any_has
returns-then-not-any_has c =
    tells_none c.args.pieces.now.keys c.args.block.now c.args.at c.args.left.now.items c.args.readers.now
    (ap (λ (ps : List RangePair). list_any (λ p. is_within (pair_area p) c.args.at) ps) (sym c.deref.ensures.value) ∙ sym c.if-not-any_has.ensures)

pub returns : goal.returns
returns c =
    let x = c.args.block.now in
    let left = c.args.left.now.items in
    let met = subst (λ (ps : List RangePair). Tells c.args.pieces.now.keys (x ∷ []) c.args.at (is_gone x ps) (is_gone x ps) c.args.readers.now c.add_readers_of_met.new.readers)
    c.deref-2.ensures.value c.in_ok-add_readers_of_met.ensures in
    tells_apart_left c.args.pieces.now.keys x c.args.at left c.in_ok-rest.rest.items c.args.readers.now c.add_readers_of_met.new.readers
    (c.in_ok-rest.ensures ∙ ap (λ (ps : List RangePair). filter (λ p. not (is_within (pair_area p) c.args.at)) ps) c.deref-3.ensures.value) met
