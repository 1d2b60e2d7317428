use Rattle.wi_sessions.proofs.Words.{on_ok_weaker, subst, SamePending}
use Rattle.std.proofs.lemmas.Result.{on_err_weaker}
use Rattle.wi_sessions.proofs.WordLemmas.{Words}
use Rattle.wi_sessions.proofs.PendingLemmas.{same_bits}
use Rattle.wi_sessions.proofs.pending.add_bits.Goals as goal

pub returns-clause-put : goal.returns-clause-put
returns-clause-put c = on_ok_weaker c.stage.result (λ made. made.put) c.stage.ensures.room

pub returns-clause-refused : goal.returns-clause-refused
returns-clause-refused c =
    on_err_weaker c.stage.result
    (same_bits c.args.words.now.entries c.stage.new.words.entries c.stage.new.staged.items
    (subst (λ (rs : Words). SamePending c.args.words.now.entries rs c.stage.new.words.entries c.stage.new.staged.items) c.new-rooms.ensures.items c.stage.ensures.pending)) c.stage.ensures.refused
