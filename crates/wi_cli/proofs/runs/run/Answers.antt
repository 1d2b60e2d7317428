use Rattle.wi_cli.proofs.Vocabulary.{refl, rules, arith, err_from_is_err_and}
use Rattle.wi_cli.proofs.OutcomeLemmas.{going_none, going_on, ends_sent, ends_stopped, still_few, all_read, run_is}
use Rattle.wi_cli.proofs.ExitLemmas.{not_run}
use Rattle.wi_cli.proofs.ReadingLemmas.{failed_unread}
use Rattle.wi_cli.proofs.runs.run.Goals as goal

pub turns-init : goal.turns-init
turns-init g c =
    record {
      going = rw c.new-chunk.ensures (going_none _ _ _);
      few = omega arith;
      reads = record { works = c.requires.reads; headroom = search rules };
      writes = c.requires.writes;
    }

pub turns-preserved : goal.turns-preserved
turns-preserved g c =
    let turned = rw c.if-branch.true at c.in_ok-turn.ensures.done in
    record {
      going = going_on _ _ _ _ _ c.turns.invariant.going turned;
      few = still_few _ _ _ turned;
      reads = c.in_ok-turn.ensures.reads;
      writes = c.in_ok-turn.ensures.writes;
    }

pub turns-smaller : goal.turns-smaller
turns-smaller g c =
    let turned = rw c.if-branch.true at c.in_ok-turn.ensures.done in
    let old = c.turns.invariant in
    let more = turned.0.block.grows refl in
    let few = still_few _ _ _ turned in
    omega arith

pub returns-in_default : goal.returns-in_default
returns-in_default g c = record { runs = not_run _ _ _ _ _ _ _ _ }

pub returns-in_err-turn : goal.returns-in_err-turn
returns-in_err-turn g c =
    let p = err_from_is_err_and c.from_residual.result c.from_residual.ensures.1 in
    record {
      runs =
          run_is _ _ _ _ _ _ _ _ _ _ _ _ (rw (p.1, p.2) (ends_stopped _ _ _ _ _ c.turns.invariant.going _ c.in_err-turn.ensures.done))
          (search rules) (search rules) (search rules) (search rules) (failed_unread _ _ _ p.1 p.2 c.in_err-turn.ensures.reads) (search rules) (search rules) (search rules);
    }

pub returns : goal.returns
returns g c =
    let turned = rw c.if-branch.false at c.in_ok-turn.ensures.done in
    record {
      runs =
          run_is _ _ _ _ _ _ _ _ _ _ _ _ (ends_sent _ _ _ _ _ c.turns.invariant.going _ _ turned c.send.ensures.bytes c.send.ensures.fault)
          (all_read _ _ _ turned) (search rules) (search rules) (search rules) (search rules) (search rules) (search rules) (search rules);
    }
