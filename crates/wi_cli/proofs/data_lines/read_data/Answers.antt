use Rattle.wi_cli.proofs.Vocabulary.{◌∙◌, refl, sym, and_parts, ltb-true, err_from_is_err_and}
use Rattle.wi_cli.proofs.DataLemmas.{data_begun, data_more, data_stopped, still_few, fewer}
use Rattle.wi_cli.proofs.data_lines.read_data.Goals as goal

pub taking-init : goal.taking-init
taking-init g c =
    record {
      taken = data_begun c.args.csv.now.lines c.begin.new.self c.args.whole _ c.requires.few c.requires.at_end c.begin.ensures.missing c.begin.ensures.held;
      wanted = c.begin.ensures.wanted;
      few = c.requires.few;
      reads = c.requires.reads;
      book = refl;
    }

pub returns-in_err-whole-clause-took : goal.returns-in_err-whole-clause-took
returns-in_err-whole-clause-took g c =
    let p = err_from_is_err_and c.from_residual.result c.from_residual.ensures.1 in
    let old = c.taking.invariant in
    let on = sym c.goes_on.ensures ∙ c.taking-test.true in
    rw (p.1, p.2) (data_stopped _ _ c.args.whole _ _ _ _ old.few
    (rw ((and_parts c.taking.whole _ on).0) at old.taken) (ltb-true 0 _ (and_parts c.taking.whole _ on).1) c.in_err-whole.ensures.took)

pub returns-in_err-whole-clause-reads : goal.returns-in_err-whole-clause-reads
returns-in_err-whole-clause-reads g c =
    let p = err_from_is_err_and c.from_residual.result c.from_residual.ensures.1 in
    rw (p.1, p.2) c.in_err-whole.ensures.reads

pub taking-smaller : goal.taking-smaller
taking-smaller g c =
    let k = c.in_ok-whole.ensures.took in
    let more = c.add.ensures.added k.took.content k.took.no_lf (c.deref.ensures.value ∙ k.took.kept) in
    fewer c.taking.whole c.in_ok-whole.whole _ _ k.took.content k.took.no_lf (sym c.goes_on.ensures ∙ c.taking-test.true) more.missing

pub taking-preserved : goal.taking-preserved
taking-preserved g c =
    let old = c.taking.invariant in
    let on = sym c.goes_on.ensures ∙ c.taking-test.true in
    let k = c.in_ok-whole.ensures.took in
    let more = c.add.ensures.added k.took.content k.took.no_lf (c.deref.ensures.value ∙ k.took.kept) in
    let taken = data_more _ _ c.add.new.self c.args.whole c.in_ok-whole.whole _ _ _ c.next_line.new.script.line.items old.few
    (rw ((and_parts c.taking.whole _ on).0) at old.taken) k more in
    record {
      taken = taken;
      wanted = more.wanted ∙ old.wanted;
      few = still_few taken;
      reads = c.in_ok-whole.ensures.reads;
      book = c.add.ensures.book ∙ old.book;
    }
