use Rattle.wi_sessions.proofs.Words.{◌∙◌, ℕ, List, ap, length, sym, subst, arith, is_one_of, HasPlace}
use Rattle.wi_sessions.proofs.PlaceLemmas.{place_read}
use Rattle.wi_sessions.proofs.WordLemmas.{listed_with}
use Rattle.wi_sessions.proofs.PendingLemmas.{listed_told, within_unread}
use Rattle.wi_sessions.proofs.NoneLemmas.{match_weaker, some_told}
use Rattle.wi_sessions.proofs.pending.Pending.all.Goals as goal

pub index-requires : goal.index-requires
index-requires c =
    let l = within_unread c.self.inside.words.entries c.self.inside.staged.items (length c.self.inside.unread.items) c.args.i c.args.self.now c.self.view_is c.requires in
    omega (arith, l, c.self.inside.unread.ok.0)

pub all_of-requires-clause-order : goal.all_of-requires-clause-order
all_of-requires-clause-order c = c.self.invariant.order

pub all_of-requires-clause-few : goal.all_of-requires-clause-few
all_of-requires-clause-few c =
    let l = within_unread c.self.inside.words.entries c.self.inside.staged.items (length c.self.inside.unread.items) c.args.i c.args.self.now c.self.view_is c.requires in
    omega (arith, l, c.self.invariant.few)

pub all_of-requires-clause-place : goal.all_of-requires-clause-place
all_of-requires-clause-place c =
    let l = within_unread c.self.inside.words.entries c.self.inside.staged.items (length c.self.inside.unread.items) c.args.i c.args.self.now c.self.view_is c.requires in
    subst (λ (xs : List ℕ). HasPlace c.self.inside.words.entries xs c.args.i c.index.result.now) (sym c.deref.ensures.value)
    (place_read c.self.inside.words.entries c.self.inside.changed.items c.self.inside.unread.items c.args.i c.index.result.now c.self.invariant.places l c.index.ensures)

pub returns : goal.returns
returns c =
    let words = c.self.inside.words.entries in
    let staged = c.self.inside.staged.items in
    let n = length c.self.inside.unread.items in
    let l = within_unread words staged n c.args.i c.args.self.now c.self.view_is c.requires in
    match_weaker c.all_of.result
    (λ found is q. ap (λ (ys : List ℕ). is_one_of ys q) is ∙ listed_with words c.args.i c.self.invariant.order q
    ∙ sym (listed_told words staged n c.args.i c.args.self.now c.self.invariant.order c.self.view_is l q)) (some_told words staged n c.args.i c.args.self.now c.self.view_is l) c.all_of.ensures
