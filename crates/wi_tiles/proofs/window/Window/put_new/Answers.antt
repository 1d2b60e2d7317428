use Rattle.wi_tiles.proofs.Words.{rules, ap, ◌∙◌, sym, Some, ◌≡◌, ◌-◌, ◌<◌, ◌≤◌, ◌%◌, ◌/◌, length, cond, subst, slice_index_or, ◌==◌, IfOk, is_some, not, option_or, at_part, at_window, span, IsTrimmed}
use Rattle.wi_tiles.proofs.Ends.{trimmed_set}
use Rattle.wi_tiles.proofs.Filled.{filled_put, filled_kept}
use Rattle.wi_tiles.proofs.Outcomes.{on_ok, on_err, either_way}
use Rattle.wi_tiles.proofs.Windows.{part_read, window_changed, window_kept}
use Rattle.wi_tiles.proofs.window.Window.put_new.Goals as goal

pub returns-in-Some-clause-new : goal.returns-in-Some-clause-new
returns-in-Some-clause-new g c =
    let there : (c.in-Some.place < length c.self.inside.parts.items) × (c.self.inside.first ≤ c.args.path % span) × (c.in-Some.place ≡ c.args.path % span - c.self.inside.first) = search rules in
    let stood : g.T.Places.at c.index_mut.result.now (c.args.path / span) ≡ at_window g.T.Places.at c.args.self.now c.args.path = ap (λ x. at_part g.T.Places.at x (c.args.path / span)) (sym (part_read c.self.inside.first c.self.inside.parts.items (c.args.path % span) c.in-Some.place c.index_mut.result.now there.1 there.2 there.0 (search rules))) ∙ ap (λ w. at_window g.T.Places.at w c.args.path) c.self.view_is in
    subst (λ o. IfOk c.put_new.result (λ new. new ≡ not (is_some o))) stood c.put_new.ensures.new

pub returns-in-Some-clause-ok : goal.returns-in-Some-clause-ok
returns-in-Some-clause-ok g c =
    let read : c.index_mut.result.now ≡ slice_index_or c.self.inside.parts.items c.in-Some.place c.index_mut.result.now = search rules in
    let there : (c.in-Some.place < length c.self.inside.parts.items) × (c.self.inside.first ≤ c.args.path % span) × (c.in-Some.place ≡ c.args.path % span - c.self.inside.first) = search rules in
    let stood : g.T.Places.at c.index_mut.result.now (c.args.path / span) ≡ at_window g.T.Places.at c.args.self.now c.args.path = ap (λ x. at_part g.T.Places.at x (c.args.path / span)) (sym (part_read c.self.inside.first c.self.inside.parts.items (c.args.path % span) c.in-Some.place c.index_mut.result.now there.1 there.2 there.0 read)) ∙ ap (λ w. at_window g.T.Places.at w c.args.path) c.self.view_is in
    on_ok c.put_new.result (λ changed p. window_changed g.T.Places.at c.self.inside.first c.self.inside.parts.items c.args.path c.in-Some.place c.index_mut.result.now c.put_new.new.self (option_or (g.T.Places.at c.index_mut.result.now (c.args.path / span)) (Some c.args.value)) there.1 there.2 there.0 read changed p
    ∙ ap (λ o. cond (p == c.args.path) (option_or (g.T.Places.at c.index_mut.result.now (c.args.path / span)) (Some c.args.value)) o) (ap (λ w. at_window g.T.Places.at w p) c.self.view_is)
    ∙ ap (λ o. cond (p == c.args.path) (option_or o (Some c.args.value)) (at_window g.T.Places.at c.args.self.now p)) stood) c.put_new.ensures.ok

pub returns-in-Some-clause-err : goal.returns-in-Some-clause-err
returns-in-Some-clause-err g c =
    let read : c.index_mut.result.now ≡ slice_index_or c.self.inside.parts.items c.in-Some.place c.index_mut.result.now = search rules in
    let there : (c.in-Some.place < length c.self.inside.parts.items) × (c.self.inside.first ≤ c.args.path % span) × (c.in-Some.place ≡ c.args.path % span - c.self.inside.first) = search rules in
    on_err c.put_new.result (λ same p. window_kept g.T.Places.at c.self.inside.first c.self.inside.parts.items c.in-Some.place c.index_mut.result.now c.put_new.new.self there.0 read same p ∙ ap (λ w. at_window g.T.Places.at w p) c.self.view_is) c.put_new.ensures.err

pub returns-in-Some-clause-trimmed : goal.returns-in-Some-clause-trimmed
returns-in-Some-clause-trimmed g c = λ trimmed.
    let there : (c.in-Some.place < length c.self.inside.parts.items) × (c.self.inside.first ≤ c.args.path % span) × (c.in-Some.place ≡ c.args.path % span - c.self.inside.first) = search rules in
    trimmed_set g.T.Places.at c.self.inside.parts.items c.in-Some.place c.index_mut.result.now c.put_new.new.self there.0 (search rules)
    (λ has. either_way c.put_new.result (λ put. filled_put g.T.Places.at c.index_mut.result.now c.put_new.new.self (c.args.path / span) c.args.value put) (λ kept. filled_kept g.T.Places.at c.index_mut.result.now c.put_new.new.self kept has) c.put_new.ensures.ok c.put_new.ensures.err)
    (subst (λ w. IsTrimmed g.T.Places.at w.1) (sym c.self.view_is) trimmed)

pub returns-in-None-clause-new : goal.returns-in-None-clause-new
returns-in-None-clause-new g c = subst (λ w. IfOk c.put_part-outcome.result (λ new. new ≡ not (is_some (at_window g.T.Places.at w c.args.path)))) c.self.view_is c.put_part-outcome.ensures.new

pub returns-in-None-clause-ok : goal.returns-in-None-clause-ok
returns-in-None-clause-ok g c = on_ok c.put_part-outcome.result (λ changed p. c.trim.ensures.kept p ∙ changed p ∙ ap (λ w. cond (p == c.args.path) (option_or (at_window g.T.Places.at w c.args.path) (Some c.args.value)) (at_window g.T.Places.at w p)) c.self.view_is) c.put_part-outcome.ensures.ok

pub returns-in-None-clause-err : goal.returns-in-None-clause-err
returns-in-None-clause-err g c = on_err c.put_part-outcome.result (λ same p. c.trim.ensures.kept p ∙ same p ∙ ap (λ w. at_window g.T.Places.at w p) c.self.view_is) c.put_part-outcome.ensures.err

pub returns-in-None-clause-trimmed : goal.returns-in-None-clause-trimmed
returns-in-None-clause-trimmed g c = λ _. c.trim.ensures.trimmed
