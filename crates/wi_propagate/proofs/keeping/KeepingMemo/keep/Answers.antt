use Rattle.wi_propagate.proofs.Words.{◌≤◌, Option, IfSome, sym, subst, Value, Key, going, AreAllCones, Carried, TakesOver, keeping, flushed, refl}
use Rattle.wi_propagate.proofs.KeepSteps.{KeepsIn}
use Rattle.wi_propagate.proofs.ValuesAtHand.{KeptAtHand, Remembers, given_over, kept_at_hand, keeps_right, out_of_memory}
use Rattle.wi_propagate.proofs.keeping.KeepingMemo.keep.Goals as goal

-- ---- the value is kept

keeps : (c : goal.After-self-2-1) → KeepsIn c.deref_mut-carried.result.now.kept c.keep.new.self c.args.key c.args.value
keeps c =
    let e = c.in_ok-gone.ensures in
    record { found = e.found; stays = e.stays; goes = e.one_goes; len = e.len; going = e.going; capacity = e.capacity }

kept : (c : goal.After-self-2-1) → KeptAtHand c.args.self.now (keeping c.self.inside.store.now.sheet c.self.inside.store.now.edits (flushed c.self.inside.store.now.sheet c.self.inside.generations.now.edited_at) c.give_up.new.given_up.entries c.keep.new.self) c.args.key c.args.value
kept c =
    let i = c.self.inside in
    let carried = c.deref_mut-carried.result.now in
    let takes : TakesOver (going carried.kept c.args.key) carried.given_up.entries c.give_up.new.given_up.entries = given_over c.give_up.new.given_up.entries c.in_ok-gone.ensures.gone c.make_space.ensures.entries c.give_up.ensures in
    kept_at_hand i.store.now.sheet i.store.now.edits (flushed i.store.now.sheet i.generations.now.edited_at) carried i.carried.value c.args.self.now c.deref_mut-carried.ensures.value c.self.view_is c.args.key c.args.value c.keep.new.self (keeps c) c.requires.generation c.give_up.new.given_up.entries c.len.ensures.one_each takes

pub returns-clause-keeps : goal.returns-clause-keeps
returns-clause-keeps c = (kept c).remembers.keeps

pub returns-clause-found : goal.returns-clause-found
returns-clause-found c = (kept c).found

pub returns-clause-there : goal.returns-clause-there
returns-clause-there c = λ l. (kept c).there

pub returns-clause-stays : goal.returns-clause-stays
returns-clause-stays c = (kept c).remembers.stays

pub give_up-requires : goal.give_up-requires
give_up-requires c =
    let space = c.in_ok-make_space.ensures.space c.args.key in
    subst (λ (o : Option (Key × Value)). IfSome o (λ _. 1 ≤ c.make_space.new.given_up.space)) (sym c.in_ok-gone.ensures.gone) space

pub invariant_of-self-2 : goal.invariant_of-self-2
invariant_of-self-2 c =
    let i = c.self.inside in
    let s = i.store.now in
    let carried = c.deref_mut-carried.result.now in
    let h = c.self.invariant in (
      h.0,
      h.1,
      subst (λ (x : Carried). AreAllCones s.sheet x.cones) (sym c.deref_mut-carried.ensures.value) h.2,
      keeps_right s.sheet s.edits (flushed s.sheet i.generations.now.edited_at) carried i.carried.value c.args.self.now c.deref_mut-carried.ensures.value c.self.view_is c.args.key c.args.value c.keep.new.self (keeps c) c.requires.generation c.give_up.new.given_up.entries h.3 c.requires.open_cell c.requires.right,
      h.4,
    )

-- ---- memory ran out

no_space : (c : goal.Joined-key) → Remembers c.args.self.now (keeping c.self.inside.store.now.sheet c.self.inside.store.now.edits (flushed c.self.inside.store.now.sheet c.self.inside.generations.now.edited_at) c.make_space.new.given_up.entries c.deref_mut-carried.result.now.kept) c.args.key c.args.value
no_space c =
    let i = c.self.inside in
    let carried = c.deref_mut-carried.result.now in
    out_of_memory i.store.now.sheet i.store.now.edits (flushed i.store.now.sheet i.generations.now.edited_at) carried i.carried.value c.args.self.now c.deref_mut-carried.ensures.value c.self.view_is c.args.key c.args.value c.make_space.new.given_up.entries carried.kept c.make_space.ensures.entries refl

pub returns-in_err-make_space-clause-keeps : goal.returns-in_err-make_space-clause-keeps
returns-in_err-make_space-clause-keeps c = (no_space c).keeps

pub returns-in_err-make_space-clause-stays : goal.returns-in_err-make_space-clause-stays
returns-in_err-make_space-clause-stays c = (no_space c).stays

not_kept : (c : goal.After-from_residual-in_err-gone) → Remembers c.args.self.now (keeping c.self.inside.store.now.sheet c.self.inside.store.now.edits (flushed c.self.inside.store.now.sheet c.self.inside.generations.now.edited_at) c.make_space.new.given_up.entries c.keep.new.self) c.args.key c.args.value
not_kept c =
    let i = c.self.inside in
    let carried = c.deref_mut-carried.result.now in
    out_of_memory i.store.now.sheet i.store.now.edits (flushed i.store.now.sheet i.generations.now.edited_at) carried i.carried.value c.args.self.now c.deref_mut-carried.ensures.value c.self.view_is c.args.key c.args.value c.make_space.new.given_up.entries c.keep.new.self c.make_space.ensures.entries c.in_err-gone.ensures.err

pub returns-in_err-gone-clause-keeps : goal.returns-in_err-gone-clause-keeps
returns-in_err-gone-clause-keeps c = (not_kept c).keeps

pub returns-in_err-gone-clause-stays : goal.returns-in_err-gone-clause-stays
returns-in_err-gone-clause-stays c = (not_kept c).stays
