use Rattle.wi_tiles.proofs.Words.{rules, arith, subst, ap, ◌∙◌, sym, None, ◌≡◌, ◌<◌, ◌%◌, ◌/◌, length, cond, slice_index_or, slice_set, ◌==◌, All, remove, at_part, slot, at_sorted, groups, key, IsFilled}
use Rattle.wi_tiles.proofs.Filled.{all_less, remove_set}
use Rattle.wi_tiles.proofs.Keys.{key_read, key-set, Rises-set}
use Rattle.wi_tiles.proofs.Sorts.{part_at, sorted_changed}
use Rattle.wi_tiles.proofs.sorted.BandPlaces.remove.Goals as goal

pub drop_vacant-requires-clause-rises : goal.drop_vacant-requires-clause-rises
drop_vacant-requires-clause-rises g c =
    let there : (c.in-Ok.place < length c.self.inside.parts.items) × (key c.self.inside.parts.items c.in-Ok.place ≡ c.args.path % groups) = search rules in
    Rises-set c.self.inside.parts.items c.in-Ok.place (c.index_mut.result.now.0, c.remove-value.new.self) c.self.invariant.0 (key_read c.self.inside.parts.items c.in-Ok.place c.index_mut.result.now there.0 (search rules))

pub returns-in-Ok-clause-value : goal.returns-in-Ok-clause-value
returns-in-Ok-clause-value g c =
    let there : (c.in-Ok.place < length c.self.inside.parts.items) × (key c.self.inside.parts.items c.in-Ok.place ≡ c.args.path % groups) = search rules in
    c.remove-value.ensures.value ∙ ap (λ x. at_part slot x (c.args.path / groups)) (sym (part_at c.self.inside.parts.items c.in-Ok.place (c.args.path % groups) c.index_mut.result.now c.self.invariant.0 there.0 there.1 (search rules))) ∙ ap (λ s. at_sorted slot s c.args.path) c.self.view_is

pub returns-in-Ok-clause-left : goal.returns-in-Ok-clause-left
returns-in-Ok-clause-left g c =
    let read : c.index_mut.result.now ≡ slice_index_or c.self.inside.parts.items c.in-Ok.place c.index_mut.result.now = search rules in
    let there : (c.in-Ok.place < length c.self.inside.parts.items) × (key c.self.inside.parts.items c.in-Ok.place ≡ c.args.path % groups) = search rules in
    let stays : c.index_mut.result.now.0 ≡ c.args.path % groups = sym (key_read c.self.inside.parts.items c.in-Ok.place c.index_mut.result.now there.0 read) ∙ there.1 in
    λ p. c.drop_vacant.ensures.kept p ∙ sorted_changed slot c.self.inside.parts.items c.args.path c.in-Ok.place c.index_mut.result.now (c.index_mut.result.now.0, c.remove-value.new.self) None c.self.invariant.0 there.0 there.1 read stays c.remove-value.ensures.left p ∙ ap (λ o. cond (p == c.args.path) None o) (ap (λ s. at_sorted slot s p) c.self.view_is)

pub invariant_of-self : goal.invariant_of-self
invariant_of-self g c =
    let there : (c.in-Ok.place < length c.self.inside.parts.items) × (key c.self.inside.parts.items c.in-Ok.place ≡ c.args.path % groups) = search rules in
    let small : key (slice_set c.self.inside.parts.items c.in-Ok.place (c.index_mut.result.now.0, c.remove-value.new.self)) c.in-Ok.place < groups = omega (arith, key-set c.self.inside.parts.items c.in-Ok.place (c.index_mut.result.now.0, c.remove-value.new.self) (key_read c.self.inside.parts.items c.in-Ok.place c.index_mut.result.now there.0 (search rules)) c.in-Ok.place, there.1) in
    let others : All (IsFilled slot) (remove (slice_set c.self.inside.parts.items c.in-Ok.place (c.index_mut.result.now.0, c.remove-value.new.self)) c.in-Ok.place) = subst (λ ts. All (IsFilled slot) ts) (sym (remove_set c.self.inside.parts.items c.in-Ok.place (c.index_mut.result.now.0, c.remove-value.new.self))) (all_less (IsFilled slot) c.self.inside.parts.items c.in-Ok.place c.self.invariant.1) in
    let filled : All (IsFilled slot) c.drop_vacant.new.parts.items = search (c.drop_vacant.ensures.filled, small, others) in
    (c.drop_vacant.ensures.rises, filled)
