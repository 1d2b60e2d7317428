use Rattle.wi_tiles.proofs.Words.{rules, None, ◌≡◌, ℕ, subst, ◌↔◌, IsTrue, ◌==◌, slice_index_or}
use Rattle.wi_tiles.proofs.Firsts.{bits_none}
use Rattle.wi_tiles.proofs.tile.Tile.has_nothing.Goals as goal

pub returns : goal.returns
returns g c =
    let none : IsTrue (c.self.inside.bits == 0) ↔ ((i : ℕ) → slice_index_or c.args.self.now i None ≡ None) = subst (λ s. IsTrue (c.self.inside.bits == 0) ↔ ((i : ℕ) → slice_index_or s i None ≡ None)) c.self.view_is (bits_none c.self.inside.bits c.self.inside.values.items (search rules) c.self.invariant) in
    search none
