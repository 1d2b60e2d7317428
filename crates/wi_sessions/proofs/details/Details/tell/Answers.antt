use Rattle.wi_sessions.proofs.Words.{ℕ, List, ap, Value, with_name, on_err}
use Rattle.wi_sessions.proofs.details.Details.tell.Goals as goal

pub returns-clause-told : goal.returns-clause-told
returns-clause-told c =
    λ name. ap (λ (p : List (ℕ × Value)). with_name name (record c.args.self.now { picture = p; seen = c.args.seen })) c.in_ok-apply.ensures.done

pub returns-in_err-apply-clause-some : goal.returns-in_err-apply-clause-some
returns-in_err-apply-clause-some c = on_err c.from_residual.result c.in_err-apply.ensures.some
