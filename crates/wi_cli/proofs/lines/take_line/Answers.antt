use Rattle.wi_cli.proofs.Vocabulary.{rules, err_from_is_err_and}
use Rattle.wi_cli.proofs.ReadingLemmas.{begun, went_on, ended, failed, came, limited, stops_unread, stops_limited}
use Rattle.wi_cli.proofs.lines.take_line.Goals as goal

pub returns-in_err-fill-clause-reads : goal.returns-in_err-fill-clause-reads
returns-in_err-fill-clause-reads g c =
    let p = err_from_is_err_and c.from_residual.result c.from_residual.ensures.1 in
    rw (p.1, p.2) (stops_unread (search rules) c.in_err-fill.ensures.failed)

pub returns-then-not-branch-clause-reads : goal.returns-then-not-branch-clause-reads
returns-then-not-branch-clause-reads g c = record { works = c.in_ok-fill.ensures.failed; headroom = search rules }

pub returns-then-not-allowed-clause-reads : goal.returns-then-not-allowed-clause-reads
returns-then-not-allowed-clause-reads g c = search (rules, stops_limited)

pub returns-then-not-branch-clause-took : goal.returns-then-not-branch-clause-took
returns-then-not-branch-clause-took g c =
    ended _ _ _ _ _ _ (begun _ _ _ _ _ _ c.clear.ensures.items c.fill.ensures.kept) (c.in_ok-fill.ensures.end c.if-not-branch.true)

pub returns-then-not-allowed-clause-took : goal.returns-then-not-allowed-clause-took
returns-then-not-allowed-clause-took g c =
    let left = g.R.Source.remaining in
    limited c.args.allowed c.args.chunk.now (left c.args.source.now) c.fill.new.self (left c.fill.new.source) c.skip.new.self
    c.fill.ensures.kept (c.in_ok-fill.ensures.some c.if-not-branch.false) c.skip.ensures c.if-not-allowed.true

pub loop-chunk-init : goal.loop-chunk-init
loop-chunk-init g c =
    record {
      within = begun _ _ _ _ _ _ c.clear.ensures.items c.fill.ensures.kept;
      some = c.in_ok-fill.ensures.some c.if-not-branch.false;
      works = c.in_ok-fill.ensures.failed;
      headroom = search rules;
      may = search rules;
    }

pub loop-chunk-preserved : goal.loop-chunk-preserved
loop-chunk-preserved g c =
    let old = c.loop-chunk.invariant in
    record {
      within = went_on _ _ _ _ _ _ _ _ _ _ old.within c.loop-chunk-test.ensures.took old.may c.fill-in-loop-chunk.ensures.kept;
      some = c.in_ok-fill-2.ensures.some c.if-not-branch-2.false;
      works = c.in_ok-fill-2.ensures.failed;
      headroom = c.take_part.ensures.headroom;
      may = old.may;
    }

pub returns-then-not-branch-2-clause-took : goal.returns-then-not-branch-2-clause-took
returns-then-not-branch-2-clause-took g c =
    let old = c.loop-chunk.invariant in
    ended _ _ _ _ _ _ (went_on _ _ _ _ _ _ _ _ _ _ old.within c.loop-chunk-test.ensures.took old.may c.fill-in-loop-chunk.ensures.kept)
    (c.in_ok-fill-2.ensures.end c.if-not-branch-2.true)

pub returns-in_err-fill-2-clause-took : goal.returns-in_err-fill-2-clause-took
returns-in_err-fill-2-clause-took g c =
    let left = g.R.Source.remaining in
    let old = c.loop-chunk.invariant in
    let p = err_from_is_err_and c.from_residual-in_err-fill-2.result c.from_residual-in_err-fill-2.ensures.1 in
    rw (p.1, p.2, c.in_err-fill-2.ensures.fault)
    (failed c.args.allowed c.args.chunk.now (left c.args.source.now) c.fill-in-loop-chunk.new.self (left c.fill-in-loop-chunk.new.source) c.take_part.new.line.items
    (went_on _ _ _ _ _ _ _ _ _ _ old.within c.loop-chunk-test.ensures.took old.may c.fill-in-loop-chunk.ensures.kept) c.in_err-fill-2.ensures.empty)

pub returns-then-not-branch-2-clause-reads : goal.returns-then-not-branch-2-clause-reads
returns-then-not-branch-2-clause-reads g c = record { works = c.in_ok-fill-2.ensures.failed; headroom = c.take_part.ensures.headroom }

pub returns-in_err-fill-2-clause-reads : goal.returns-in_err-fill-2-clause-reads
returns-in_err-fill-2-clause-reads g c =
    let p = err_from_is_err_and c.from_residual-in_err-fill-2.result c.from_residual-in_err-fill-2.ensures.1 in
    rw (p.1, p.2) (stops_unread c.take_part.ensures.headroom c.in_err-fill-2.ensures.failed)

pub returns-clause-reads : goal.returns-clause-reads
returns-clause-reads g c = record { works = c.loop-chunk.invariant.works; headroom = search rules }

pub returns-clause-took : goal.returns-clause-took
returns-clause-took g c =
    let old = c.loop-chunk.invariant in
    came _ _ _ _ _ _ _ _ old.within c.loop-chunk-test.ensures.took old.may
