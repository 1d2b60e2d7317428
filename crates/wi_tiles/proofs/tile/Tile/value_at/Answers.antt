use Rattle.wi_tiles.proofs.Words.{rules, None, Some, arith, ◌≡◌, ◌<◌, ◌≤◌, ℕ, length, subst, slice_index_or, IsSome, filled}
use Rattle.wi_tiles.proofs.Counts.{filled_within, value_is}
use Rattle.wi_tiles.proofs.tile.Tile.value_at.Goals as goal

pub index-requires : goal.index-requires
index-requires g c =
    let within : filled c.args.self.now 64 ≤ length c.self.inside.values.items = subst (λ s. filled s 64 ≤ length c.self.inside.values.items) c.self.view_is (filled_within c.self.inside.bits c.self.inside.values.items c.self.invariant) in
    let place : c.args.place < length c.self.inside.values.items = omega (arith, within, c.requires) in
    grind (arith, place, c.self.inside.values.ok)

pub returns : goal.returns
returns g c =
    subst (λ s. (i : ℕ) → i < 64 → IsSome (slice_index_or s i None) → filled s i ≡ c.args.place → slice_index_or s i None ≡ Some c.index.result.now) c.self.view_is
    (value_is c.self.inside.bits c.self.inside.values.items c.args.place c.index.result.now c.self.invariant (search rules))
