use Rattle.wi_tiles.proofs.Words.{rules, ap, ◌∙◌, sym, Some, None, ◌≡◌, ◌<◌, ◌%◌, ◌/◌, length, cond, subst, slice_index_or, ◌==◌, IfOk, is_some, not, option_or, at_part, slot, find, at_sorted, groups, key, IsGap, IsFilled, All-set}
use Rattle.wi_tiles.proofs.Keys.{key_read, Rises-set}
use Rattle.wi_tiles.proofs.Filled.{filled_put, filled_kept}
use Rattle.wi_tiles.proofs.Outcomes.{on_ok, on_err, either_way}
use Rattle.wi_tiles.proofs.Sorts.{part_at, sorted_changed, sorted_kept}
use Rattle.wi_tiles.proofs.sorted.BandPlaces.put_new.Goals as goal

pub returns-in-Ok-clause-new : goal.returns-in-Ok-clause-new
returns-in-Ok-clause-new g c =
    let there : (c.in-Ok.place < length c.self.inside.parts.items) × (key c.self.inside.parts.items c.in-Ok.place ≡ c.args.path % groups) = search rules in
    let stood : slot c.index_mut.result.now.1 (c.args.path / groups) ≡ at_sorted slot c.args.self.now c.args.path = ap (λ x. at_part slot x (c.args.path / groups)) (sym (part_at c.self.inside.parts.items c.in-Ok.place (c.args.path % groups) c.index_mut.result.now c.self.invariant.0 there.0 there.1 (search rules))) ∙ ap (λ s. at_sorted slot s c.args.path) c.self.view_is in
    subst (λ o. IfOk c.put_new.result (λ new. new ≡ not (is_some o))) stood c.put_new.ensures.new

pub invariant_of-self : goal.invariant_of-self
invariant_of-self g c =
    let read : c.index_mut.result.now ≡ slice_index_or c.self.inside.parts.items c.in-Ok.place c.index_mut.result.now = search rules in
    let there : (c.in-Ok.place < length c.self.inside.parts.items) × (key c.self.inside.parts.items c.in-Ok.place ≡ c.args.path % groups) = search rules in
    let stood : IsFilled slot c.index_mut.result.now = subst (λ t. IsFilled slot t) (sym read) (c.self.invariant.1 c.in-Ok.place c.index_mut.result.now there.0) in
    let filled : IsFilled slot (c.index_mut.result.now.0, c.put_new.new.self) = (stood.0, either_way c.put_new.result (λ put. filled_put slot c.index_mut.result.now.1 c.put_new.new.self (c.args.path / groups) c.args.value put) (λ kept. filled_kept slot c.index_mut.result.now.1 c.put_new.new.self kept stood.1) c.put_new.ensures.ok c.put_new.ensures.err) in
    (Rises-set c.self.inside.parts.items c.in-Ok.place (c.index_mut.result.now.0, c.put_new.new.self) c.self.invariant.0 (key_read c.self.inside.parts.items c.in-Ok.place c.index_mut.result.now there.0 read), All-set (IsFilled slot) c.self.inside.parts.items c.in-Ok.place (c.index_mut.result.now.0, c.put_new.new.self) filled c.self.invariant.1)

pub returns-in-Ok-clause-ok : goal.returns-in-Ok-clause-ok
returns-in-Ok-clause-ok g c =
    let read : c.index_mut.result.now ≡ slice_index_or c.self.inside.parts.items c.in-Ok.place c.index_mut.result.now = search rules in
    let there : (c.in-Ok.place < length c.self.inside.parts.items) × (key c.self.inside.parts.items c.in-Ok.place ≡ c.args.path % groups) = search rules in
    let stays : c.index_mut.result.now.0 ≡ c.args.path % groups = sym (key_read c.self.inside.parts.items c.in-Ok.place c.index_mut.result.now there.0 read) ∙ there.1 in
    let stood : slot c.index_mut.result.now.1 (c.args.path / groups) ≡ at_sorted slot c.args.self.now c.args.path = ap (λ x. at_part slot x (c.args.path / groups)) (sym (part_at c.self.inside.parts.items c.in-Ok.place (c.args.path % groups) c.index_mut.result.now c.self.invariant.0 there.0 there.1 read)) ∙ ap (λ s. at_sorted slot s c.args.path) c.self.view_is in
    on_ok c.put_new.result (λ changed p. sorted_changed slot c.self.inside.parts.items c.args.path c.in-Ok.place c.index_mut.result.now (c.index_mut.result.now.0, c.put_new.new.self) (option_or (slot c.index_mut.result.now.1 (c.args.path / groups)) (Some c.args.value)) c.self.invariant.0 there.0 there.1 read stays changed p
    ∙ ap (λ o. cond (p == c.args.path) (option_or (slot c.index_mut.result.now.1 (c.args.path / groups)) (Some c.args.value)) o) (ap (λ s. at_sorted slot s p) c.self.view_is)
    ∙ ap (λ o. cond (p == c.args.path) (option_or o (Some c.args.value)) (at_sorted slot c.args.self.now p)) stood) c.put_new.ensures.ok

pub returns-in-Ok-clause-err : goal.returns-in-Ok-clause-err
returns-in-Ok-clause-err g c =
    let read : c.index_mut.result.now ≡ slice_index_or c.self.inside.parts.items c.in-Ok.place c.index_mut.result.now = search rules in
    let there : (c.in-Ok.place < length c.self.inside.parts.items) × (key c.self.inside.parts.items c.in-Ok.place ≡ c.args.path % groups) = search rules in
    let stays : c.index_mut.result.now.0 ≡ c.args.path % groups = sym (key_read c.self.inside.parts.items c.in-Ok.place c.index_mut.result.now there.0 read) ∙ there.1 in
    on_err c.put_new.result (λ kept p. sorted_kept slot c.self.inside.parts.items (c.args.path % groups) c.in-Ok.place c.index_mut.result.now (c.index_mut.result.now.0, c.put_new.new.self) c.self.invariant.0 there.0 there.1 read stays kept p ∙ ap (λ s. at_sorted slot s p) c.self.view_is) c.put_new.ensures.err

pub put_part-requires-clause-place : goal.put_part-requires-clause-place
put_part-requires-clause-place g c = subst (λ xs. IsGap xs c.in-Err.place (c.args.path % groups)) c.deref.ensures.value c.in-Err.ensures.none.0

pub returns-in-Err-clause-new : goal.returns-in-Err-clause-new
returns-in-Err-clause-new g c =
    let none : at_sorted slot c.self.inside.parts.items c.args.path ≡ None = ap (λ x. at_part slot x (c.args.path / groups)) (subst (λ xs. find (c.args.path % groups) xs ≡ None) c.deref.ensures.value c.in-Err.ensures.none.1) in
    let stood : at_sorted slot c.args.self.now c.args.path ≡ None = ap (λ s. at_sorted slot s c.args.path) (sym c.self.view_is) ∙ none in
    subst (λ o. IfOk c.put_part.result (λ new. new ≡ not (is_some o))) (sym stood) c.put_part.ensures.new

pub returns-in-Err-clause-ok : goal.returns-in-Err-clause-ok
returns-in-Err-clause-ok g c =
    let none : at_sorted slot c.self.inside.parts.items c.args.path ≡ None = ap (λ x. at_part slot x (c.args.path / groups)) (subst (λ xs. find (c.args.path % groups) xs ≡ None) c.deref.ensures.value c.in-Err.ensures.none.1) in
    let stood : at_sorted slot c.args.self.now c.args.path ≡ None = ap (λ s. at_sorted slot s c.args.path) (sym c.self.view_is) ∙ none in
    on_ok c.put_part.result (λ changed p. changed p
    ∙ ap (λ o. cond (p == c.args.path) (Some c.args.value) o) (ap (λ s. at_sorted slot s p) c.self.view_is)
    ∙ ap (λ o. cond (p == c.args.path) (option_or o (Some c.args.value)) (at_sorted slot c.args.self.now p)) (sym stood)) c.put_part.ensures.ok

pub returns-in-Err-clause-err : goal.returns-in-Err-clause-err
returns-in-Err-clause-err g c = on_err c.put_part.result (λ kept p. kept p ∙ ap (λ s. at_sorted slot s p) c.self.view_is) c.put_part.ensures.err
