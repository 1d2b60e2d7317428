use Rattle.wi_ranges.proofs.Words.{◌≡◌, ◌∙◌, IsTrue, false, ap, sym, IfOk-weaker, on_err_weaker, pairs_of, HasPairMore, lookup}
use Rattle.wi_ranges.proofs.ByCell.{Entries, same, more_of_few, more_of_new, put_back, put_new, put_none, same_few, single_is}
use Rattle.wi_ranges.proofs.singles.add_reader.Goals as goal

pub returns-then-branch-clause-more : goal.returns-then-branch-clause-more
returns-then-branch-clause-more c =
    let p = c.args.pair.now in
    let new = put_new p.first c.one.result c.args.readers.now.entries c.in_ok-put_new.ensures.new c.if-branch.true c.in_ok-put_new.ensures.entries in
    λ t. more_of_new p (single_is p (sym c.if-not-is_single.ensures.value)) c.one.result c.args.readers.now.entries c.put_new.new.self.entries new.0 c.one.ensures new.1

-- ---- where the cell has readers already: they are taken out, get one more, and are put back

pub returns-in-Some-clause-more : goal.returns-in-Some-clause-more
returns-in-Some-clause-more c =
    let p = c.args.pair.now in
    let w = c.add-added.new.self in
    let es = c.args.readers.now.entries in
    let fs = c.replace-in-Some.new.self.entries in
    let kept = put_none p.first c.one.result es c.in_ok-put_new.ensures.new c.if-branch.false c.in_ok-put_new.ensures.entries in
    let stood = ap (λ (l : Entries). lookup (same p.first) l) (sym kept) ∙ sym c.in-Some.ensures.stood in
    let back = put_back p.first c.one-2.result w es c.replace.new.self.entries fs (rw kept at c.replace.ensures.entries) c.replace-in-Some.ensures.entries in
    IfOk-weaker c.add-added.result _ (λ added. IsTrue added → HasPairMore p (pairs_of es) (pairs_of fs))
    (λ added h t. more_of_few p (single_is p (sym c.if-not-is_single.ensures.value)) c.in-Some.few w es fs stood (h t) back) c.add-added.ensures.more

pub returns-in-Some-clause-same : goal.returns-in-Some-clause-same
returns-in-Some-clause-same c =
    let p = c.args.pair.now in
    let w = c.add-added.new.self in
    let es = c.args.readers.now.entries in
    let fs = c.replace-in-Some.new.self.entries in
    let kept = put_none p.first c.one.result es c.in_ok-put_new.ensures.new c.if-branch.false c.in_ok-put_new.ensures.entries in
    let stood = ap (λ (l : Entries). lookup (same p.first) l) (sym kept) ∙ sym c.in-Some.ensures.stood in
    let back = put_back p.first c.one-2.result w es c.replace.new.self.entries fs (rw kept at c.replace.ensures.entries) c.replace-in-Some.ensures.entries in
    IfOk-weaker c.add-added.result _ (λ added. added ≡ false → pairs_of fs ≡ pairs_of es)
    (λ added h f. same_few p.first c.in-Some.few w es fs stood (h f) back) c.add-added.ensures.same

pub returns-in-Some-clause-err : goal.returns-in-Some-clause-err
returns-in-Some-clause-err c =
    let p = c.args.pair.now in
    let w = c.add-added.new.self in
    let es = c.args.readers.now.entries in
    let fs = c.replace-in-Some.new.self.entries in
    let kept = put_none p.first c.one.result es c.in_ok-put_new.ensures.new c.if-branch.false c.in_ok-put_new.ensures.entries in
    let stood = ap (λ (l : Entries). lookup (same p.first) l) (sym kept) ∙ sym c.in-Some.ensures.stood in
    let back = put_back p.first c.one-2.result w es c.replace.new.self.entries fs (rw kept at c.replace.ensures.entries) c.replace-in-Some.ensures.entries in
    on_err_weaker c.add-added.result (λ e. same_few p.first c.in-Some.few w es fs stood e back) c.add-added.ensures.err
