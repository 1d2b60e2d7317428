use Rattle.wi_propagate.proofs.Words.{◌≡◌, ◌≤◌, ℕ, true, List, length, is_some, subst, rules, Replacement, Keeps, HasFound, Keeping, key_in, state_in, value_in, OnOk}
use Rattle.wi_propagate.proofs.PutAside.{remembers_by, found_by}
use Rattle.wi_propagate.proofs.keeping.KeepingMemo.remember.Goals as goal

pub returns-then-branch-clause-keeps : goal.returns-then-branch-clause-keeps
returns-then-branch-clause-keeps c = subst (λ (q : Keeping). Keeps (state_in q) (state_in c.keep.new.self) c.args.key c.args.value) c.in_ok-has_place.ensures.same c.keep.ensures.keeps

pub returns-then-branch-clause-found : goal.returns-then-branch-clause-found
returns-then-branch-clause-found c = subst (λ (q : Keeping). OnOk c.keep.result (HasFound (state_in q) (state_in c.keep.new.self) c.args.key)) c.in_ok-has_place.ensures.same c.keep.ensures.found

pub returns-then-branch-clause-stays : goal.returns-then-branch-clause-stays
returns-then-branch-clause-stays c =
    subst (λ (q : Keeping). (d : ℕ) (w : List Replacement) → is_some (value_in q (key_in q.generations d w)) ≡ true → is_some (value_in c.keep.new.self (key_in c.keep.new.self.generations d w)) ≡ true) c.in_ok-has_place.ensures.same c.keep.ensures.stays

pub returns-clause-keeps : goal.returns-clause-keeps
returns-clause-keeps c =
    let same = c.in_ok-has_place.ensures.same in
    let e = c.put_aside.ensures in
    (remembers_by c.put_aside.result c.args.self.now c.put_aside.new.self c.args.key c.args.value (rw same at e.puts) (rw same at e.same) (rw same at e.err)).keeps

pub returns-clause-found : goal.returns-clause-found
returns-clause-found c =
    let same = c.in_ok-has_place.ensures.same in
    let e = c.put_aside.ensures in
    let full : c.args.self.now.values.capacity ≤ length c.args.self.now.values.entries = search rules in
    found_by c.put_aside.result c.args.self.now c.put_aside.new.self c.args.key c.args.value (rw same at e.puts) (rw same at e.same) c.requires.generation full

pub returns-clause-stays : goal.returns-clause-stays
returns-clause-stays c =
    let same = c.in_ok-has_place.ensures.same in
    let e = c.put_aside.ensures in
    (remembers_by c.put_aside.result c.args.self.now c.put_aside.new.self c.args.key c.args.value (rw same at e.puts) (rw same at e.same) (rw same at e.err)).stays
