use Rattle.wi_propagate.proofs.RightValues.{begun_is_memo}
use Rattle.wi_propagate.proofs.Words.{[], sym, subst, Carried, keeping, ArePlaced, IsKeepingRight, flushed}
use Rattle.wi_propagate.proofs.keeping.Keeping.new.Goals as goal

pub returns-clause-placed : goal.returns-clause-placed
returns-clause-placed c = subst (λ (h : Carried). ArePlaced h.kept) c.deref.ensures (record { within = c.len.ensures.within; one_each = c.len.ensures.one_each })

pub returns-clause-memo : goal.returns-clause-memo
returns-clause-memo c =
    let s = c.args.store.now in
    let gs = flushed s.sheet c.args.generations.now.edited_at in
    begun_is_memo s.sheet s.edits gs c.clear.new.self.entries c.deref_mut-inner.result.now.kept c.clear.ensures
    (subst (λ (h : Carried). IsKeepingRight (keeping s.sheet s.edits gs [] h.kept)) (sym c.deref_mut-inner.ensures.value) c.requires.right)
