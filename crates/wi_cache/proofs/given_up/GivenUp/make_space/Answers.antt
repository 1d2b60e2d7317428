use Rattle.std.proofs.Common.{◌∙◌, ap, sym, subst}
use Rattle.std.proofs.lemmas.Result.{on_ok_weaker}
use Rattle.std.specs.Vec.{vec_capacity, vec_len}
use Rattle.wi_cache.specs.Entries.{Entries, HasBits, WithSpace, all_put}
use Rattle.wi_cache.proofs.Went.{space_left}
use Rattle.wi_cache.proofs.given_up.GivenUp.make_space.Goals as goal

pub invariant_of-self : goal.invariant_of-self
invariant_of-self c = subst (λ (l : Entries). HasBits (all_put c.self.inside.table.entries l) c.self.inside.worlds) (sym c.reserve.ensures.items) c.self.invariant

pub returns-clause-entries : goal.returns-clause-entries
returns-clause-entries c = ap (all_put c.self.inside.table.entries) c.reserve.ensures.items ∙ ap (λ (m : WithSpace). m.entries) c.self.view_is

pub returns-clause-space : goal.returns-clause-space
returns-clause-space c = on_ok_weaker c.reserve.result (space_left (vec_len c.reserve.new.self) (vec_capacity c.reserve.new.self)) c.reserve.ensures.ok
