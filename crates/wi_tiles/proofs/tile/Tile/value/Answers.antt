use Rattle.wi_tiles.proofs.Words.{rules, ap, ◌∙◌, sym, None, arith, ◌≡◌, ◌<◌, ◌^◌, length, slice_index_or, slice_get_read, rank}
use Rattle.wi_tiles.proofs.Tiles.{none_found, one_found, found_within}
use Rattle.wi_tiles.proofs.tile.Tile.value.Goals as goal

pub returns-then-self-bit-eq0 : goal.returns-then-self-bit-eq0
returns-then-self-bit-eq0 g c = sym (ap (λ s. slice_index_or s c.args.bit None) (sym c.self.view_is) ∙ none_found c.self.inside.bits c.self.inside.values.items c.args.bit c.requires c.if-self-bit-eq0.true)

pub index-requires : goal.index-requires
index-requires g c =
    let below : c.self.inside.bits < 2 ^ 64 = search rules in
    grind (arith, found_within c.self.inside.bits c.self.inside.values.items c.args.bit c.requires below c.self.invariant c.if-self-bit-eq0.false, c.rank-place.ensures, c.self.inside.values.ok)

pub returns : goal.returns
returns g c =
    let within : rank c.self.inside.bits c.args.bit < length c.self.inside.values.items = found_within c.self.inside.bits c.self.inside.values.items c.args.bit c.requires (search rules) c.self.invariant c.if-self-bit-eq0.false in
    let given : c.index.result.now ≡ slice_index_or c.self.inside.values.items (rank c.self.inside.bits c.args.bit) c.index.result.now = search rules in
    sym (ap (λ s. slice_index_or s c.args.bit None) (sym c.self.view_is) ∙ one_found c.self.inside.bits c.self.inside.values.items c.args.bit c.requires c.if-self-bit-eq0.false ∙ slice_get_read c.self.inside.values.items (length c.self.inside.values.items) (rank c.self.inside.bits c.args.bit) c.index.result.now (λ _. length c.self.inside.values.items) within given)
