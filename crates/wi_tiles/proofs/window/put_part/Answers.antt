use Rattle.wi_tiles.proofs.Words.{rules, ap, ◌∙◌, sym, Some, ◌≡◌, ◌-◌, ◌<◌, ◌≤◌, ◌%◌, ◌/◌, length, cond, refl, subst, slice_index_or, ◌==◌, IfOk, is_some, not, option_or, IsKept, at_part, at_window, span}
use Rattle.wi_tiles.proofs.Outcomes.{on_ok, on_err}
use Rattle.wi_tiles.proofs.Windows.{part_read, window_changed, window_kept}
use Rattle.wi_tiles.proofs.window.put_part.Goals as goal

pub returns-clause-new : goal.returns-clause-new
returns-clause-new g c =
    let reached : c.reach_down.new.first ≤ c.args.path % span = search rules in
    let there : c.args.path % span - c.reach_down.new.first < length c.reach_up.new.parts.items = search rules in
    let kept : at_window g.T.Places.at (c.reach_down.new.first, c.reach_up.new.parts.items) c.args.path ≡ at_window g.T.Places.at (c.args.first.now, c.args.parts.now.items) c.args.path = c.in_ok-reach_up.ensures.kept c.args.path ∙ c.in_ok-reach_down.ensures.kept c.args.path in
    let here = ap (λ x. at_part g.T.Places.at x (c.args.path / span)) (sym (part_read c.reach_down.new.first c.reach_up.new.parts.items (c.args.path % span) (c.args.path % span - c.reach_down.new.first) c.index_mut.result.now reached refl there (search rules))) ∙ kept in
    subst (λ o. IfOk c.put_new.result (λ new. new ≡ not (is_some o))) here c.put_new.ensures.new

pub returns-clause-ok : goal.returns-clause-ok
returns-clause-ok g c =
    let first = c.reach_down.new.first in
    let parts = c.reach_up.new.parts.items in
    let place = c.args.path % span - c.reach_down.new.first in
    let reached : c.reach_down.new.first ≤ c.args.path % span = search rules in
    let there : c.args.path % span - c.reach_down.new.first < length c.reach_up.new.parts.items = search rules in
    let read : c.index_mut.result.now ≡ slice_index_or c.reach_up.new.parts.items (c.args.path % span - c.reach_down.new.first) c.index_mut.result.now = search rules in
    let kept : IsKept (at_window g.T.Places.at) (c.args.first.now, c.args.parts.now.items) (c.reach_down.new.first, c.reach_up.new.parts.items) = λ p. c.in_ok-reach_up.ensures.kept p ∙ c.in_ok-reach_down.ensures.kept p in
    let here : g.T.Places.at c.index_mut.result.now (c.args.path / span) ≡ at_window g.T.Places.at (c.args.first.now, c.args.parts.now.items) c.args.path = ap (λ x. at_part g.T.Places.at x (c.args.path / span)) (sym (part_read first parts (c.args.path % span) place c.index_mut.result.now reached refl there read)) ∙ kept c.args.path in
    on_ok c.put_new.result (λ changed p. window_changed g.T.Places.at first parts c.args.path place c.index_mut.result.now c.put_new.new.self (option_or (g.T.Places.at c.index_mut.result.now (c.args.path / span)) (Some c.args.value)) reached refl there read changed p
    ∙ ap (λ o. cond (p == c.args.path) (option_or (g.T.Places.at c.index_mut.result.now (c.args.path / span)) (Some c.args.value)) o) (kept p)
    ∙ ap (λ o. cond (p == c.args.path) (option_or o (Some c.args.value)) (at_window g.T.Places.at (c.args.first.now, c.args.parts.now.items) p)) here) c.put_new.ensures.ok

pub returns-clause-err : goal.returns-clause-err
returns-clause-err g c =
    let parts = c.reach_up.new.parts.items in
    let place = c.args.path % span - c.reach_down.new.first in
    let reached : c.reach_down.new.first ≤ c.args.path % span = search rules in
    let there : c.args.path % span - c.reach_down.new.first < length c.reach_up.new.parts.items = search rules in
    let read : c.index_mut.result.now ≡ slice_index_or c.reach_up.new.parts.items (c.args.path % span - c.reach_down.new.first) c.index_mut.result.now = search rules in
    let kept : IsKept (at_window g.T.Places.at) (c.args.first.now, c.args.parts.now.items) (c.reach_down.new.first, c.reach_up.new.parts.items) = λ p. c.in_ok-reach_up.ensures.kept p ∙ c.in_ok-reach_down.ensures.kept p in
    on_err c.put_new.result (λ same p. window_kept g.T.Places.at c.reach_down.new.first parts place c.index_mut.result.now c.put_new.new.self there read same p ∙ kept p) c.put_new.ensures.err
