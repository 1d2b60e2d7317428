use Rattle.wi_sessions.proofs.Words.{◌∙◌, ◌++◌, ◌-◌, ℕ, List, ap, arith, drop, filter, length, refl, length-drop, take_all, is_one_of, is_in}
use Rattle.wi_sessions.proofs.CellLemmas.{ascend_rising}
use Rattle.wi_sessions.proofs.WordLemmas.{these_cells}
use Rattle.wi_sessions.proofs.PendingLemmas.{found_cells, if_ok_both}
use Rattle.wi_sessions.proofs.NoneLemmas.{both_ends, some_with}
use Rattle.wi_sessions.proofs.pending.all_of.Goals as goal

pub slice_bounds-behind-start : goal.slice_bounds-behind-start
slice_bounds-behind-start c = c.requires.place.within

pub returns : goal.returns
returns c =
    both_ends _ c.looked_up.result (some_with c.args.words.now.entries c.args.i _ _ c.requires.order) (if_ok_both c.looked_up.result (λ found. found.items) c.looked_up.ensures.order c.looked_up.ensures.same
    (λ xs order same. these_cells c.args.words.now.entries c.args.i xs c.requires.order (ascend_rising xs order)
    (found_cells c.args.words.now.entries c.args.changed.now c.args.i c.args.unread.now _ xs c.requires.place (c.looks_anywhere.ensures c.if-looks_anywhere.false) refl
    (λ q. same q
    ∙ ap (λ (ys : List ℕ). is_one_of (filter (is_in c.args.words.now.entries c.args.i) ys ++ filter (is_in c.args.words.now.entries c.args.i) c.deref.result.now) q)
    (take_all (length c.args.changed.now - c.args.unread.now.from) (drop c.args.unread.now.from c.args.changed.now) (omega (arith, length-drop c.args.unread.now.from c.args.changed.now)))
    ∙ ap (λ (ys : List ℕ). is_one_of (filter (is_in c.args.words.now.entries c.args.i) (drop c.args.unread.now.from c.args.changed.now) ++ filter (is_in c.args.words.now.entries c.args.i) ys) q) c.deref.ensures.value)))) c.looked_up.ensures.some
