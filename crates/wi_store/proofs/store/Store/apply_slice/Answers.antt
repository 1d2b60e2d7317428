use Rattle.wi_store.proofs.Words.{ℕ, List, Option, subst, Content, accepted, Applies}
use Rattle.wi_store.proofs.ChangeLemmas.{brought_alone}
use Rattle.wi_store.proofs.store.Store.apply_slice.Goals as goal

pub returns-then-changes-eq1 : goal.returns-then-changes-eq1
returns-then-changes-eq1 c =
    subst (λ (es : List (ℕ × Option Content)). Applies (accepted c.args.self.now es) c.bring.result c.args.self.now c.bring.new.self)
    (brought_alone c.args.changes.now c.index-changes-0.result _ c.if-changes-eq1.true (search c.in_ok-room_for.ensures)) c.bring.ensures
