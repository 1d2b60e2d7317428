use Rattle.std.proofs.Common.{◌≡◌, ◌≤◌, ◌-◌, ◌++◌, ◌∷◌, [], sym, subst, arith, rules}
use Rattle.std.specs.Vec.{vec_capacity, vec_len}
use Rattle.wi_cache.specs.Entries.{PutsIn, WithSpace, all_put}
use Rattle.wi_cache.proofs.Went.{bits_more, last_put}
use Rattle.wi_cache.proofs.given_up.GivenUp.put.Goals as goal

pub push_reserved-requires : goal.push_reserved-requires
push_reserved-requires c =
    let space : 1 ≤ vec_capacity c.self.inside.list - vec_len c.self.inside.list = subst (λ (m : WithSpace). 1 ≤ m.space) (sym c.self.view_is) c.requires in
    omega (arith, space)

pub invariant_of-self : goal.invariant_of-self
invariant_of-self c =
    let i = c.self.inside in
    let k = c.args.gone.0 in
    let v = c.args.gone.1 in
    let es = all_put i.table.entries i.list.items in
    let fs = all_put i.table.entries c.push_reserved.new.self.items in
    let pushed : c.push_reserved.new.self.items ≡ i.list.items ++ c.args.gone ∷ [] = search rules in
    let puts : PutsIn es fs k v = last_put i.table.entries i.list.items c.push_reserved.new.self.items k v pushed in
    bits_more es fs i.worlds c.world_bit.result k v c.self.invariant puts c.world_bit.ensures.within c.world_bit.ensures.value

pub returns : goal.returns
returns c =
    let i = c.self.inside in
    let pushed : c.push_reserved.new.self.items ≡ i.list.items ++ c.args.gone ∷ [] = search rules in
    subst (λ (m : WithSpace). PutsIn m.entries (all_put i.table.entries c.push_reserved.new.self.items) c.args.gone.0 c.args.gone.1) c.self.view_is
    (last_put i.table.entries i.list.items c.push_reserved.new.self.items c.args.gone.0 c.args.gone.1 pushed)
