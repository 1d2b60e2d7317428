use Rattle.wi_tiles.proofs.Words.{None, ◌≡◌, ◌<◌, ℕ, subst, slice_index_or, IsSome, bit_and, bit_at}
use Rattle.wi_tiles.proofs.Firsts.{masked_sound, masked_whole}
use Rattle.wi_tiles.proofs.tile.Tile.bits_of.Goals as goal

pub returns-clause-sound : goal.returns-clause-sound
returns-clause-sound g c =
    subst (λ s. (i : ℕ) → i < 64 → bit_at (bit_and c.self.inside.bits c.args.mask) i ≡ 1 → (bit_at c.args.mask i ≡ 1) × IsSome (slice_index_or s i None)) c.self.view_is
    (λ i u e. masked_sound c.self.inside.bits c.args.mask c.self.inside.values.items i u c.self.invariant e)

pub returns-clause-whole : goal.returns-clause-whole
returns-clause-whole g c =
    subst (λ s. (i : ℕ) → i < 64 → bit_at c.args.mask i ≡ 1 → IsSome (slice_index_or s i None) → bit_at (bit_and c.self.inside.bits c.args.mask) i ≡ 1) c.self.view_is
    (λ i u one there. masked_whole c.self.inside.bits c.args.mask c.self.inside.values.items i u one there)
