use Rattle.wi_tiles.proofs.Words.{rules, ap, ◌∙◌, sym, ◌≡◌, ◌-◌, ◌<◌, ◌≤◌, ◌%◌, ◌/◌, length, cond, subst, slice_index_or, option_map, ◌==◌, at_part, at_window, span, IsTrimmed}
use Rattle.wi_tiles.proofs.Ends.{trimmed_set}
use Rattle.wi_tiles.proofs.Filled.{filled_replaced}
use Rattle.wi_tiles.proofs.Windows.{part_read, window_changed}
use Rattle.wi_tiles.proofs.window.Window.replace.Goals as goal

pub returns-in-Some-clause-put : goal.returns-in-Some-clause-put
returns-in-Some-clause-put g c =
    let read : c.index_mut.result.now ≡ slice_index_or c.self.inside.parts.items c.in-Some.place c.index_mut.result.now = search rules in
    let there : (c.in-Some.place < length c.self.inside.parts.items) × (c.self.inside.first ≤ c.args.path % span) × (c.in-Some.place ≡ c.args.path % span - c.self.inside.first) = search rules in
    let stood : g.T.Places.at c.index_mut.result.now (c.args.path / span) ≡ at_window g.T.Places.at c.args.self.now c.args.path = ap (λ x. at_part g.T.Places.at x (c.args.path / span)) (sym (part_read c.self.inside.first c.self.inside.parts.items (c.args.path % span) c.in-Some.place c.index_mut.result.now there.1 there.2 there.0 read)) ∙ ap (λ w. at_window g.T.Places.at w c.args.path) c.self.view_is in
    λ p. window_changed g.T.Places.at c.self.inside.first c.self.inside.parts.items c.args.path c.in-Some.place c.index_mut.result.now c.replace.new.self (option_map (λ _. c.args.value) (g.T.Places.at c.index_mut.result.now (c.args.path / span))) there.1 there.2 there.0 read c.replace.ensures.put p
    ∙ ap (λ o. cond (p == c.args.path) (option_map (λ _. c.args.value) o) (at_window g.T.Places.at (c.self.inside.first, c.self.inside.parts.items) p)) stood
    ∙ ap (λ o. cond (p == c.args.path) (option_map (λ _. c.args.value) (at_window g.T.Places.at c.args.self.now c.args.path)) o) (ap (λ w. at_window g.T.Places.at w p) c.self.view_is)

pub returns-in-Some-clause-trimmed : goal.returns-in-Some-clause-trimmed
returns-in-Some-clause-trimmed g c = λ trimmed.
    let there : (c.in-Some.place < length c.self.inside.parts.items) × (c.self.inside.first ≤ c.args.path % span) × (c.in-Some.place ≡ c.args.path % span - c.self.inside.first) = search rules in
    trimmed_set g.T.Places.at c.self.inside.parts.items c.in-Some.place c.index_mut.result.now c.replace.new.self there.0 (search rules)
    (λ has. filled_replaced g.T.Places.at c.index_mut.result.now c.replace.new.self (c.args.path / span) c.args.value c.replace.ensures.put has)
    (subst (λ w. IsTrimmed g.T.Places.at w.1) (sym c.self.view_is) trimmed)
