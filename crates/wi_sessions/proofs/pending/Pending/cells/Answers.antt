use Rattle.wi_sessions.proofs.Words.{◌≡◌, ℕ, List, length, not, sym, subst, arith, common_steps, IfOk-weaker, on_ok, is_staged, HasPlace, ◌∙◌, on_err}
use Rattle.std.specs.Prelude.{filter}
use Rattle.wi_sessions.proofs.PlaceLemmas.{place_read}
use Rattle.wi_sessions.proofs.PendingLemmas.{all_told, cells_told, within_unread}
use Rattle.wi_sessions.proofs.NoneLemmas.{match_ok, match_err, some_told}
use Rattle.wi_sessions.proofs.pending.Pending.cells.Goals as goal

pub index-requires : goal.index-requires
index-requires c =
    let l = within_unread c.self.inside.words.entries c.self.inside.staged.items (length c.self.inside.unread.items) c.args.i c.args.self.now c.self.view_is c.requires in
    omega (arith, l, c.self.inside.unread.ok.0)

pub all_of-requires-clause-place : goal.all_of-requires-clause-place
all_of-requires-clause-place c =
    let l = within_unread c.self.inside.words.entries c.self.inside.staged.items (length c.self.inside.unread.items) c.args.i c.args.self.now c.self.view_is c.requires in
    subst (λ (xs : List ℕ). HasPlace c.self.inside.words.entries xs c.args.i c.index.result.now) (sym c.deref.ensures.value)
    (place_read c.self.inside.words.entries c.self.inside.changed.items c.self.inside.unread.items c.args.i c.index.result.now c.self.invariant.places l c.index.ensures)

pub without_rooms-requires : goal.without_rooms-requires
without_rooms-requires c =
    let l = within_unread c.self.inside.words.entries c.self.inside.staged.items (length c.self.inside.unread.items) c.args.i c.args.self.now c.self.view_is c.requires in
    omega (arith, l, c.self.invariant.few)

pub all_of-requires-clause-order : goal.all_of-requires-clause-order
all_of-requires-clause-order c = c.self.invariant.order

pub all_of-requires-clause-few : goal.all_of-requires-clause-few
all_of-requires-clause-few c = let l = within_unread c.self.inside.words.entries c.self.inside.staged.items (length c.self.inside.unread.items) c.args.i c.args.self.now c.self.view_is c.requires in omega (arith, l, c.self.invariant.few)

pub returns-then-is_empty-clause-list : goal.returns-then-is_empty-clause-list
returns-then-is_empty-clause-list c =
    let none : length c.self.inside.staged.items ≡ 0 = grind (arith, common_steps) in
    all_told c.self.inside.words.entries c.self.inside.staged.items (length c.self.inside.unread.items) c.args.i c.args.self.now c.in_ok-all.all.items c.self.view_is (within_unread c.self.inside.words.entries c.self.inside.staged.items (length c.self.inside.unread.items) c.args.i c.args.self.now c.self.view_is c.requires) c.in_ok-all.ensures none

pub returns-then-is_empty-clause-order : goal.returns-then-is_empty-clause-order
returns-then-is_empty-clause-order c = c.cells_rise.ensures

pub returns-clause-list : goal.returns-clause-list
returns-clause-list c =
    let l = within_unread c.self.inside.words.entries c.self.inside.staged.items (length c.self.inside.unread.items) c.args.i c.args.self.now c.self.view_is c.requires in
    IfOk-weaker c.without_rooms.result (λ found. found.items ≡ filter (λ q. not (is_staged c.deref-2.result.now c.args.i q)) c.deref-3.result.now) _
    (λ found is. cells_told c.self.inside.words.entries c.self.inside.staged.items c.deref-2.result.now (length c.self.inside.unread.items) c.args.i c.args.self.now c.in_ok-all.all.items c.deref-3.result.now found.items
    c.self.view_is l c.in_ok-all.ensures c.deref-3.ensures.value c.deref-2.ensures.value is) (match_ok _ _ c.without_rooms.result c.without_rooms.ensures)

pub returns-clause-order : goal.returns-clause-order
returns-clause-order c = on_ok c.without_rooms.result c.cells_rise.ensures

pub returns-in_err-all-clause-some : goal.returns-in_err-all-clause-some
returns-in_err-all-clause-some c =
    let words = c.self.inside.words.entries in
    let staged = c.self.inside.staged.items in
    let n = length c.self.inside.unread.items in
    let l = within_unread words staged n c.args.i c.args.self.now c.self.view_is c.requires in
    on_err c.from_residual.result (some_told words staged n c.args.i c.args.self.now c.self.view_is l c.in_err-all.ensures)

pub returns-clause-some : goal.returns-clause-some
returns-clause-some c =
    let words = c.self.inside.words.entries in
    let staged = c.self.inside.staged.items in
    let n = length c.self.inside.unread.items in
    let l = within_unread words staged n c.args.i c.args.self.now c.self.view_is c.requires in
    match_err _ c.without_rooms.result (λ some. some_told words staged n c.args.i c.args.self.now c.self.view_is l (λ none. some (c.deref-3.ensures.value ∙ c.in_ok-all.ensures ∙ none))) c.without_rooms.ensures
