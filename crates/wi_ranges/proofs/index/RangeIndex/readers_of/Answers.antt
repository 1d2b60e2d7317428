use Rattle.wi_ranges.proofs.Words.{rules, has_cell, true≢false, ◌≡◌, ◌∙◌, ◌||◌, ◌↔◌, ℕ, List, refl, sym, ap, subst, true, false, ⊎_elim, nat_cmp, Contains, list_any, contains, or_cases, IfOk-weaker, is_at, row_of, blocks_with, Bag, IsReader, bag_of, pair_reads, reads_at}
use Rattle.wi_ranges.proofs.Found.{reader_found, found_reader}
use Rattle.wi_ranges.proofs.Joined.{reader_by_cell, reader_in_bag, reader_in_either}
use Rattle.wi_ranges.proofs.index.RangeIndex.readers_of.Goals as goal

pub returns-clause-readers : goal.returns-clause-readers
returns-clause-readers c =
    let set = c.add_readers_of.new.readers in
    let singles = c.self.inside.singles in
    let ks = c.self.inside.pieces.keys in
    let bag = bag_of ks in
    let a = c.args.at in
    let xs = blocks_with (row_of a) 20 0 in
    let none : (r : ℕ) → contains nat_cmp c.new-readers.result r ≡ false = λ r. ap (λ (us : List ℕ). list_any (λ k. is_at (nat_cmp r) k) us) c.new-readers.ensures in
    let found : (r : ℕ) → contains nat_cmp set r ≡ (list_any (pair_reads a r) singles || list_any (reads_at xs a r) ks) = λ r.
    c.in_ok-add_readers_of.ensures.found r
    ∙ ap (λ b. b || list_any (reads_at xs a r) ks) (c.in_ok-add_readers.ensures r ∙ ap (λ b. b || list_any (pair_reads a r) singles) (none r)) in
    let reader : (r : ℕ) → contains nat_cmp set r ≡ true → IsReader c.args.self.now a r = λ r h.
    subst (λ (b : Bag). IsReader b a r) c.self.view_is
    (⊎_elim (λ e. reader_by_cell singles bag a r e) (λ e. reader_in_bag singles bag a r (reader_found bag ks xs a r c.self.invariant.0.0 e)) (or_cases _ _ (sym (found r) ∙ h))) in
    let read : (r : ℕ) → IsReader c.args.self.now a r → contains nat_cmp set r ≡ true = λ r h.
    found r
    ∙ reader_in_either singles bag a r (list_any (reads_at xs a r) ks) (λ g. found_reader bag ks (row_of a) a r refl c.add_readers_of.ensures.row c.self.invariant.0.0 g)
    (subst (λ (b : Bag). IsReader b a r) (sym c.self.view_is) h) in
    IfOk-weaker c.into_list-2.result (λ list. (r : ℕ) → Contains list.items r ↔ (contains nat_cmp set r ≡ true)) (λ list. (r : ℕ) → Contains list.items r ↔ IsReader c.args.self.now a r)
    (λ list h r. (
      λ m. reader r ((h r).0 m),
      λ m. (h r).1 (read r m),
    )) c.into_list-2.ensures.cells

-- a cell apart from the rectangle around all that is read by rectangles
pub returns-then-not-has_cell-clause-readers : goal.returns-then-not-has_cell-clause-readers
returns-then-not-has_cell-clause-readers c =
    let set = c.add_readers.new.set in
    let singles = c.self.inside.singles in
    let bag = bag_of c.self.inside.pieces.keys in
    let around = c.self.inside.around in
    let a = c.args.at in
    let apart : has_cell around a ≡ false = search rules in
    let none : (r : ℕ) → contains nat_cmp c.new-readers.result r ≡ false = λ r. ap (λ (us : List ℕ). list_any (λ k. is_at (nat_cmp r) k) us) c.new-readers.ensures in
    let found : (r : ℕ) → contains nat_cmp set r ≡ list_any (pair_reads a r) singles = λ r.
    c.in_ok-add_readers.ensures r ∙ ap (λ b. b || list_any (pair_reads a r) singles) (none r) in
    let reader : (r : ℕ) → contains nat_cmp set r ≡ true → IsReader c.args.self.now a r = λ r h.
    subst (λ (b : Bag). IsReader b a r) c.self.view_is (reader_by_cell singles bag a r (sym (found r) ∙ h)) in
    let read : (r : ℕ) → IsReader c.args.self.now a r → contains nat_cmp set r ≡ true = λ r h.
    found r
    ∙ ⊎_elim (λ e. e) (λ e. absurd (true≢false (sym e ∙ apart)))
    (or_cases _ _ (reader_in_either singles bag a r (has_cell around a) (λ g. c.self.invariant.1 g.0 a g.2 g.3)
    (subst (λ (b : Bag). IsReader b a r) (sym c.self.view_is) h))) in
    IfOk-weaker c.into_list.result (λ list. (r : ℕ) → Contains list.items r ↔ (contains nat_cmp set r ≡ true)) (λ list. (r : ℕ) → Contains list.items r ↔ IsReader c.args.self.now a r)
    (λ list h r. (
      λ m. reader r ((h r).0 m),
      λ m. (h r).1 (read r m),
    )) c.into_list.ensures.cells
