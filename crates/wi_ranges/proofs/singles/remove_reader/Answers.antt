use Rattle.wi_ranges.proofs.Words.{refl, sym}
use Rattle.wi_ranges.proofs.ByCell.{distinct, less_of_few, less_of_one, no_single, none_in_few, none_without, put_back, same_few, same_without, single_is}
use Rattle.wi_ranges.proofs.singles.remove_reader.Goals as goal

pub returns-then-not-is_single-clause-none : goal.returns-then-not-is_single-clause-none
returns-then-not-is_single-clause-none c = λ f. no_single c.args.pair.now (sym c.if-not-is_single.ensures.value) c.args.readers.now.entries

pub returns-then-is_only-clause-less : goal.returns-then-is_only-clause-less
returns-then-is_only-clause-less c =
    let p = c.args.pair.now in
    λ t. less_of_one p (single_is p (sym c.if-not-is_single.ensures.value)) c.args.readers.now.entries c.remove.new.self.entries (c.if-is_only.ensures.0 refl) c.remove.ensures.entries

-- ---- where the cell has others too: they are taken out, lose one, and are put back

pub returns-in-Some-clause-less : goal.returns-in-Some-clause-less
returns-in-Some-clause-less c =
    let p = c.args.pair.now in
    let w = c.remove-removed.new.self in
    let es = c.args.readers.now.entries in
    let fs = c.replace-in-Some.new.self.entries in
    let back = put_back p.first c.one.result w es c.replace.new.self.entries fs c.replace.ensures.entries c.replace-in-Some.ensures.entries in
    λ t. less_of_few p (single_is p (sym c.if-not-is_single.ensures.value)) c.in-Some.few w es fs (sym c.in-Some.ensures.stood) (c.remove-removed.ensures.less t) back

pub returns-in-Some-clause-none : goal.returns-in-Some-clause-none
returns-in-Some-clause-none c =
    let p = c.args.pair.now in
    let es = c.args.readers.now.entries in
    λ f. none_in_few p (single_is p (sym c.if-not-is_single.ensures.value)) c.in-Some.few es (distinct es c.len.ensures.ordered) (sym c.in-Some.ensures.stood) (c.remove-removed.ensures.none f)

pub returns-in-Some-clause-same : goal.returns-in-Some-clause-same
returns-in-Some-clause-same c =
    let p = c.args.pair.now in
    let w = c.remove-removed.new.self in
    let es = c.args.readers.now.entries in
    let fs = c.replace-in-Some.new.self.entries in
    let back = put_back p.first c.one.result w es c.replace.new.self.entries fs c.replace.ensures.entries c.replace-in-Some.ensures.entries in
    λ f. same_few p.first c.in-Some.few w es fs (sym c.in-Some.ensures.stood) (c.remove-removed.ensures.same f) back

pub returns-in-None-clause-none : goal.returns-in-None-clause-none
returns-in-None-clause-none c =
    let p = c.args.pair.now in
    let es = c.args.readers.now.entries in
    λ f. none_without p (single_is p (sym c.if-not-is_single.ensures.value)) es (distinct es c.len.ensures.ordered) (sym c.in-None.ensures.stood)

pub returns-in-None-clause-same : goal.returns-in-None-clause-same
returns-in-None-clause-same c = λ f. same_without c.args.pair.now.first c.one.result c.args.readers.now.entries c.replace.new.self.entries (sym c.in-None.ensures.stood) c.replace.ensures.entries
