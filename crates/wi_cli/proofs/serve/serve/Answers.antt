use Rattle.wi_cli.proofs.ServeLemmas.{told_done, told_refused, told_bad}
use Rattle.wi_cli.proofs.serve.serve.Goals as goal

pub returns-in-Ok-execute_twice : goal.returns-in-Ok-execute_twice
returns-in-Ok-execute_twice g c = λ named h. told_done named _ _ _ c.execute_twice.new.out.items (rw c.in-Ok.is at h) c.in-Ok-execute_twice.ensures

pub returns-in-Err-execute_twice : goal.returns-in-Err-execute_twice
returns-in-Err-execute_twice g c = λ named h.
    told_refused named _ _ _ _ c.execute_twice.new.out.items c.execute_twice.new.out.items (rw c.in-Ok.is at h) c.in-Err-execute_twice.ensures

pub returns-in-Err : goal.returns-in-Err
returns-in-Err g c = λ named h. told_bad named _ _ c.args.out.now.items (rw c.in-Err.is at h)
