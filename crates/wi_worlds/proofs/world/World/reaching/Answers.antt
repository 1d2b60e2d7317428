use Rattle.wi_worlds.proofs.Words.{◌≡◌, ◌∙◌, List, filter, map, sym, ap, subst, All, IsSome, get, nat_cmp, IsStrictlyIncreasing, Replacement, order_of_filter, cone_has, is_of, is_reached}
use Rattle.wi_worlds.proofs.Filtering.{made_of, each_of, those_of}
use Rattle.wi_worlds.proofs.world.World.reaching.Goals as goal

pub reached_cells-requires : goal.reached_cells-requires
reached_cells-requires c = record {
  cones = subst (All (λ r. IsSome (get nat_cmp c.args.cones.now r.at))) (sym c.replacements.ensures.value) c.requires.cones;
}

pub restricted-requires : goal.restricted-requires
restricted-requires c =
    let p = is_reached c.args.cones.now c.args.at in
    let listed = c.deref.ensures.value ∙ c.in_ok-cells.ensures ∙ ap (λ (rs : List Replacement). map (λ r. r.at) (filter p rs)) c.replacements.ensures.value in
    record { rise = subst IsStrictlyIncreasing (sym listed) (order_of_filter p c.args.self.now c.replacements.ensures.order) }

pub returns-clause-list : goal.returns-clause-list
returns-clause-list c =
    let p = is_reached c.args.cones.now c.args.at in
    let listed = c.deref.ensures.value ∙ c.in_ok-cells.ensures ∙ ap (λ (rs : List Replacement). map (λ r. r.at) (filter p rs)) c.replacements.ensures.value in
    made_of p c.args.self.now (filter (is_of c.deref.result.now) c.args.self.now) c.restricted.result c.restricted.ensures.list
    (those_of (λ a. cone_has c.args.cones.now a c.args.at) c.args.self.now c.deref.result.now listed)

pub returns-clause-each : goal.returns-clause-each
returns-clause-each c = each_of (λ a. cone_has c.args.cones.now a c.args.at) c.args.self.now c.restricted.result (returns-clause-list c)
