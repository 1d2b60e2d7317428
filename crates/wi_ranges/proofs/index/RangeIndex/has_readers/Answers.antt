use Rattle.wi_ranges.proofs.Words.{rules, ◌≡◌, false, has_cell, ◌∙◌, refl, sym, subst, ⊎_elim, list_any, true≢false, or_cases, row_of, blocks_with, Bag, IsReader, bag_of, reads_at}
use Rattle.wi_ranges.proofs.Found.{reader_found, found_reader}
use Rattle.wi_ranges.proofs.Joined.{reader_by_cell, reader_in_bag, reader_in_either}
use Rattle.wi_ranges.proofs.index.RangeIndex.has_readers.Goals as goal

pub returns-then-has_readers : goal.returns-then-has_readers
returns-then-has_readers c =
    let a = c.args.at in
    let one = c.has_readers.ensures.0 c.if-has_readers.true in
    (λ t. (one.0, subst (λ (b : Bag). IsReader b a one.0) c.self.view_is (reader_by_cell c.self.inside.singles (bag_of c.self.inside.pieces.keys) a one.0 one.1)), λ h. refl)

pub returns-then-not-has_cell : goal.returns-then-not-has_cell
returns-then-not-has_cell c =
    let bag = bag_of c.self.inside.pieces.keys in
    let around = c.self.inside.around in
    let a = c.args.at in
    let apart : has_cell around a ≡ false = search rules in (
      λ t. absurd (true≢false (sym t)),
      λ h. absurd (⊎_elim (λ e. true≢false (sym (c.has_readers.ensures.1 (h.0, e)) ∙ c.if-has_readers.false)) (λ e. true≢false (sym e ∙ apart))
          (or_cases _ _ (reader_in_either c.self.inside.singles bag a h.0 (has_cell around a) (λ g. c.self.invariant.1 g.0 a g.2 g.3)
          (subst (λ (b : Bag). IsReader b a h.0) (sym c.self.view_is) h.1)))),
    )

pub returns : goal.returns
returns c =
    let singles = c.self.inside.singles in
    let ks = c.self.inside.pieces.keys in
    let bag = bag_of ks in
    let a = c.args.at in
    let xs = blocks_with (row_of a) 20 0 in (
      λ t. let one = c.has_readers_in.ensures.read.0 t in
          (one.0, subst (λ (b : Bag). IsReader b a one.0) c.self.view_is (reader_in_bag singles bag a one.0 (reader_found bag ks xs a one.0 c.self.invariant.0.0 one.1))),
      λ h. ⊎_elim (λ e. absurd (true≢false (sym (c.has_readers.ensures.1 (h.0, e)) ∙ c.if-has_readers.false))) (λ e. c.has_readers_in.ensures.read.1 (h.0, e))
          (or_cases _ _ (reader_in_either singles bag a h.0 (list_any (reads_at xs a h.0) ks) (λ g. found_reader bag ks (row_of a) a h.0 refl c.has_readers_in.ensures.row c.self.invariant.0.0 g)
          (subst (λ (b : Bag). IsReader b a h.0) (sym c.self.view_is) h.1))),
    )
