use Rattle.wi_ranges.proofs.Words.{◌∙◌, ◌||◌, List, ap, sym, nat_cmp, list_any, contains, or-false, on_ok_weaker, RangePair, pair_reads}
use Rattle.wi_ranges.proofs.ByCell.{distinct, reads_of_few, reads_without}
use Rattle.wi_ranges.proofs.singles.Singles.add_readers.Goals as goal

pub returns-in-Some : goal.returns-in-Some
returns-in-Some c =
    let a = c.args.at in
    on_ok_weaker c.add_to.result
    (λ found r. found r ∙ ap (λ b. contains nat_cmp c.args.set.now r || b)
    (sym (reads_of_few a r c.in-Some.few.now c.self.inside.readers.entries (distinct c.self.inside.readers.entries c.len.ensures.ordered) (sym c.in-Some.ensures)) ∙ ap (λ (ps : List RangePair). list_any (pair_reads a r) ps) c.self.view_is))
    c.add_to.ensures

pub returns-in-None : goal.returns-in-None
returns-in-None c =
    let a = c.args.at in
    λ r. sym
    (ap (λ b. contains nat_cmp c.args.set.now r || b)
    (ap (λ (ps : List RangePair). list_any (pair_reads a r) ps) (sym c.self.view_is) ∙ reads_without a r c.self.inside.readers.entries (distinct c.self.inside.readers.entries c.len.ensures.ordered) (sym c.in-None.ensures))
    ∙ or-false (contains nat_cmp c.args.set.now r))
