use Rattle.std.proofs.Common.{◌≡◌, ◌∙◌, ◌==◌, ℕ, ap}
use Rattle.std.specs.Int.{bit_at}
use Rattle.wi_cache.specs.Entries.{Entries, WithSpace, all_put, value_for, world_bit}
use Rattle.wi_cache.proofs.Went.{nothing_there}
use Rattle.wi_cache.proofs.given_up.GivenUp.look.Goals as goal

pub returns-then-has_bit : goal.returns-then-has_bit
returns-then-has_bit c =
    let i = c.self.inside in
    c.look_among.ensures ∙ ap (λ (l : Entries). value_for (all_put i.table.entries l) c.args.key.now) c.as_slice.ensures.value ∙ ap (λ (m : WithSpace). value_for m.entries c.args.key.now) c.self.view_is

pub returns : goal.returns
returns c =
    let i = c.self.inside in
    let told : c.has_bit.result ≡ (bit_at i.worlds (world_bit c.args.key.now.world) == 1) = c.has_bit.ensures ∙ ap (λ (b : ℕ). bit_at i.worlds b == 1) c.world_bit.ensures.value in
    nothing_there (all_put i.table.entries i.list.items) i.worlds c.args.key.now c.has_bit.result c.self.invariant told c.if-has_bit.false ∙ ap (λ (m : WithSpace). value_for m.entries c.args.key.now) c.self.view_is
