use Rattle.wi_ranges.proofs.Words.{◌∙◌, List, refl, ap, sym, list_any, true≢false, RangePair, pair_reads}
use Rattle.wi_ranges.proofs.ByCell.{distinct, reads_of_few, reads_without}
use Rattle.wi_ranges.proofs.singles.Singles.has_readers.Goals as goal

pub returns-in-Some : goal.returns-in-Some
returns-in-Some c =
    let a = c.args.at in
    let one = c.has_one.ensures in
    let read = sym (ap (λ (ps : List RangePair). list_any (pair_reads a one.0) ps) c.self.view_is)
    ∙ reads_of_few a one.0 c.in-Some.few.now c.self.inside.readers.entries (distinct c.self.inside.readers.entries c.len.ensures.ordered) (sym c.in-Some.ensures) ∙ one.1 in
    (λ t. (one.0, read), λ h. refl)

pub returns-in-None : goal.returns-in-None
returns-in-None c =
    let a = c.args.at in (
      λ t. absurd (true≢false (sym t)),
      λ h. absurd (true≢false (sym h.1 ∙ sym (ap (λ (ps : List RangePair). list_any (pair_reads a h.0) ps) c.self.view_is)
          ∙ reads_without a h.0 c.self.inside.readers.entries (distinct c.self.inside.readers.entries c.len.ensures.ordered) (sym c.in-None.ensures))),
    )
