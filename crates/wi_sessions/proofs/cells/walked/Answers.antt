use Rattle.wi_sessions.proofs.Words.{◌≡◌, ◌≤◌, ap, length, arith}
use Rattle.wi_sessions.proofs.WordLemmas.{walk_begins, walk_ends, walk_more, none_left, one_left}
use Rattle.wi_sessions.proofs.NoneLemmas.{fails_so, walk_finds}
use Rattle.wi_sessions.proofs.cells.walked.Goals as goal

pub loop-init : goal.loop-init
loop-init c =
    let whole : length c.iter-rest.result ≡ length c.args.words.now.entries = ap (λ es. length es) c.iter-rest.ensures.entries in
    record {
      cells = walk_begins c.new-found.result.items c.iter-rest.result c.args.words.now.entries c.args.i c.new-found.ensures.items c.iter-rest.ensures.entries;
      left = omega (arith, whole);
    }

pub loop-preserved : goal.loop-preserved
loop-preserved c =
    record {
      cells = walk_more c.loop.found.items c.push_with.new.found.items _ c.next.new.self c.loop.rest c.args.words.now.entries c.args.i
          c.in_ok-push_with.ensures c.in-Some.ensures.steps c.loop.invariant.cells;
      left = one_left _ c.next.new.self c.loop.rest c.loop.counter (length c.args.words.now.entries) c.in-Some.ensures.steps c.loop.invariant.left;
    }

pub returns-in_default : goal.returns-in_default
returns-in_default c = walk_ends c.loop.found.items c.loop.rest c.args.words.now.entries c.args.i c.in_default.ensures.steps.0 c.loop.invariant.cells

pub returns : goal.returns
returns c =
    let ended : length c.args.words.now.entries ≤ c.loop.counter = omega arith in
    walk_ends c.loop.found.items c.loop.rest c.args.words.now.entries c.args.i (none_left c.loop.rest c.loop.counter (length c.args.words.now.entries) c.loop.invariant.left ended) c.loop.invariant.cells

pub returns-in_err-push_with : goal.returns-in_err-push_with
returns-in_err-push_with c =
    fails_so _ _ _ c.from_residual.result c.from_residual.ensures.1
    (λ error. walk_finds c.loop.found.items _ c.next.new.self c.loop.rest c.args.words.now.entries c.args.i c.in_err-push_with.ensures c.in-Some.ensures.steps c.loop.invariant.cells)
