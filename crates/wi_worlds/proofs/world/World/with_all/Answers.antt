use Rattle.wi_worlds.proofs.Words.{◌≡◌, ◌∙◌, ℕ, List, [], IfOk, Ok, Err, Result, sym, ap, subst, Value, Replacement, option_or, IsInOrder, as_map, last_for, overridden, replaced, overridden-nothing, replaced-overridden}
use Rattle.wi_worlds.proofs.world.World.with_all.Goals as goal

-- the old replacements are put into an empty map, then the others
insert_copies_twice : (v old others w : List Replacement) (none first second : List (ℕ × Value)) → IsInOrder old → old ≡ v
    → none ≡ [] → first ≡ overridden none old → second ≡ overridden first others → as_map w ≡ second
    → as_map w ≡ overridden (as_map v) others
insert_copies_twice v old others w none first second order same empty e f g =
    g ∙ f ∙ ap (λ (es : List (ℕ × Value)). overridden es others)
    (e ∙ ap (λ (es : List (ℕ × Value)). overridden es old) empty ∙ overridden-nothing old order ∙ ap as_map same)

-- what holds of the list that a world is made of holds of the world
list_of : {E : Type 0} (v others w : List Replacement) (r : Result (List Replacement) E) → IfOk r (λ x. x ≡ w)
    → as_map w ≡ overridden (as_map v) others → IfOk r (λ x. as_map x ≡ overridden (as_map v) others)
list_of v others w (Ok x) e h = ap as_map e ∙ h
list_of v others w (Err x) e h = tt

each_of : {E : Type 0} (v others : List Replacement) (r : Result (List Replacement) E) → IfOk r (λ x. as_map x ≡ overridden (as_map v) others)
    → IfOk r (λ x. (a : ℕ) → replaced x a ≡ option_or (last_for others a) (replaced v a))
each_of v others (Ok x) h = replaced-overridden v x others h
each_of v others (Err x) h = tt

pub returns-clause-list : goal.returns-clause-list
returns-clause-list c =
    let old = c.args.self.now in
    list_of old c.args.others.now c.in_ok-replacements.replacements.items c.of.result c.of.ensures
    (insert_copies_twice old c.replacements.result.now c.args.others.now c.in_ok-replacements.replacements.items
    c.new-all.result.entries c.insert_copies.new.map.entries c.insert_copies-2.new.map.entries
    (subst IsInOrder (sym c.replacements.ensures.value) c.replacements.ensures.order) c.replacements.ensures.value
    c.new-all.ensures.empty c.in_ok-insert_copies.ensures c.in_ok-insert_copies-2.ensures c.in_ok-replacements.ensures.value)

pub returns-clause-each : goal.returns-clause-each
returns-clause-each c = each_of c.args.self.now c.args.others.now c.of.result (returns-clause-list c)
