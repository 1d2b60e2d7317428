use Rattle.wi_tiles.proofs.Words.{rules, ap, ◌∙◌, None, sym, ◌≡◌, ◌-◌, ◌<◌, ◌≤◌, ◌%◌, ◌/◌, length, cond, subst, slice_get, slice_set, ◌==◌, at_part, at_window, span, HasSome, IsTrimmed}
use Rattle.wi_tiles.proofs.Ends.{trimmed_cut}
use Rattle.wi_tiles.proofs.Windows.{part_read, window_changed}
use Rattle.wi_tiles.proofs.window.Window.remove.Goals as goal

pub returns-in-Some-clause-value : goal.returns-in-Some-clause-value
returns-in-Some-clause-value g c =
    let there : (c.in-Some.place < length c.self.inside.parts.items) × (c.self.inside.first ≤ c.args.path % span) × (c.in-Some.place ≡ c.args.path % span - c.self.inside.first) = search rules in
    c.remove-value.ensures.value ∙ ap (λ x. at_part g.T.Places.at x (c.args.path / span)) (sym (part_read c.self.inside.first c.self.inside.parts.items (c.args.path % span) c.in-Some.place c.index_mut.result.now there.1 there.2 there.0 (search rules))) ∙ ap (λ w. at_window g.T.Places.at w c.args.path) c.self.view_is

pub returns-in-Some-clause-left : goal.returns-in-Some-clause-left
returns-in-Some-clause-left g c =
    let there : (c.in-Some.place < length c.self.inside.parts.items) × (c.self.inside.first ≤ c.args.path % span) × (c.in-Some.place ≡ c.args.path % span - c.self.inside.first) = search rules in
    λ p. c.drop_vacant.ensures.kept p
    ∙ window_changed g.T.Places.at c.self.inside.first c.self.inside.parts.items c.args.path c.in-Some.place c.index_mut.result.now c.remove-value.new.self None there.1 there.2 there.0 (search rules) c.remove-value.ensures.left p
    ∙ ap (λ o. cond (p == c.args.path) None o) (ap (λ w. at_window g.T.Places.at w p) c.self.view_is)

pub returns-in-Some-clause-trimmed : goal.returns-in-Some-clause-trimmed
returns-in-Some-clause-trimmed g c = λ trimmed.
    let there : (c.in-Some.place < length c.self.inside.parts.items) × (c.self.inside.first ≤ c.args.path % span) × (c.in-Some.place ≡ c.args.path % span - c.self.inside.first) = search rules in
    let left : HasSome g.T.Places.at (slice_get (slice_set c.self.inside.parts.items c.in-Some.place c.remove-value.new.self) c.in-Some.place) → IsTrimmed g.T.Places.at (slice_set c.self.inside.parts.items c.in-Some.place c.remove-value.new.self) = trimmed_cut g.T.Places.at c.self.inside.parts.items c.in-Some.place c.index_mut.result.now c.remove-value.new.self there.0 (search rules) (subst (λ w. IsTrimmed g.T.Places.at w.1) (sym c.self.view_is) trimmed) in
    let ends : IsTrimmed g.T.Places.at c.drop_vacant.new.parts.items = search (c.drop_vacant.ensures.trimmed, left) in
    ends
