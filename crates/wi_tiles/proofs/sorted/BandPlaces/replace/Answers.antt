use Rattle.wi_tiles.proofs.Words.{rules, ap, ◌∙◌, sym, subst, ◌≡◌, ◌<◌, ◌%◌, ◌/◌, length, cond, slice_index_or, ◌==◌, option_map, at_part, slot, at_sorted, groups, key, IsFilled, All-set}
use Rattle.wi_tiles.proofs.Filled.{filled_replaced}
use Rattle.wi_tiles.proofs.Keys.{key_read, Rises-set}
use Rattle.wi_tiles.proofs.Sorts.{part_at, sorted_changed}
use Rattle.wi_tiles.proofs.sorted.BandPlaces.replace.Goals as goal

pub invariant_of-self : goal.invariant_of-self
invariant_of-self g c =
    let read : c.index_mut.result.now ≡ slice_index_or c.self.inside.parts.items c.in-Ok.place c.index_mut.result.now = search rules in
    let there : (c.in-Ok.place < length c.self.inside.parts.items) × (key c.self.inside.parts.items c.in-Ok.place ≡ c.args.path % groups) = search rules in
    let stood : IsFilled slot c.index_mut.result.now = subst (λ t. IsFilled slot t) (sym read) (c.self.invariant.1 c.in-Ok.place c.index_mut.result.now there.0) in
    let filled : IsFilled slot (c.index_mut.result.now.0, c.replace.new.self) = (stood.0, filled_replaced slot c.index_mut.result.now.1 c.replace.new.self (c.args.path / groups) c.args.value c.replace.ensures.put stood.1) in
    (Rises-set c.self.inside.parts.items c.in-Ok.place (c.index_mut.result.now.0, c.replace.new.self) c.self.invariant.0 (key_read c.self.inside.parts.items c.in-Ok.place c.index_mut.result.now there.0 read), All-set (IsFilled slot) c.self.inside.parts.items c.in-Ok.place (c.index_mut.result.now.0, c.replace.new.self) filled c.self.invariant.1)

pub returns-in-Ok-clause-value : goal.returns-in-Ok-clause-value
returns-in-Ok-clause-value g c =
    let there : (c.in-Ok.place < length c.self.inside.parts.items) × (key c.self.inside.parts.items c.in-Ok.place ≡ c.args.path % groups) = search rules in
    c.replace.ensures.value ∙ ap (λ x. at_part slot x (c.args.path / groups)) (sym (part_at c.self.inside.parts.items c.in-Ok.place (c.args.path % groups) c.index_mut.result.now c.self.invariant.0 there.0 there.1 (search rules))) ∙ ap (λ s. at_sorted slot s c.args.path) c.self.view_is

pub returns-in-Ok-clause-put : goal.returns-in-Ok-clause-put
returns-in-Ok-clause-put g c =
    let read : c.index_mut.result.now ≡ slice_index_or c.self.inside.parts.items c.in-Ok.place c.index_mut.result.now = search rules in
    let there : (c.in-Ok.place < length c.self.inside.parts.items) × (key c.self.inside.parts.items c.in-Ok.place ≡ c.args.path % groups) = search rules in
    let stays : c.index_mut.result.now.0 ≡ c.args.path % groups = sym (key_read c.self.inside.parts.items c.in-Ok.place c.index_mut.result.now there.0 read) ∙ there.1 in
    let stood : slot c.index_mut.result.now.1 (c.args.path / groups) ≡ at_sorted slot c.args.self.now c.args.path = ap (λ x. at_part slot x (c.args.path / groups)) (sym (part_at c.self.inside.parts.items c.in-Ok.place (c.args.path % groups) c.index_mut.result.now c.self.invariant.0 there.0 there.1 read)) ∙ ap (λ s. at_sorted slot s c.args.path) c.self.view_is in
    λ p. sorted_changed slot c.self.inside.parts.items c.args.path c.in-Ok.place c.index_mut.result.now (c.index_mut.result.now.0, c.replace.new.self) (option_map (λ _. c.args.value) (slot c.index_mut.result.now.1 (c.args.path / groups))) c.self.invariant.0 there.0 there.1 read stays c.replace.ensures.put p
    ∙ ap (λ o. cond (p == c.args.path) (option_map (λ _. c.args.value) o) (at_sorted slot c.self.inside.parts.items p)) stood
    ∙ ap (λ o. cond (p == c.args.path) (option_map (λ _. c.args.value) (at_sorted slot c.args.self.now c.args.path)) o) (ap (λ s. at_sorted slot s p) c.self.view_is)
