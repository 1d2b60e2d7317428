use Rattle.wi_tiles.proofs.Words.{rules, ap, ◌∙◌, None, Some, arith, ◌≡◌, ◌<◌, ◌^◌, ◌*◌, ◌%◌, length, slice_index_or, slice_set, bit_or, insert, rank, slots}
use Rattle.wi_tiles.proofs.Tiles.{put_within, slots_put_made, put_full, there_put}
use Rattle.wi_tiles.proofs.tile.Tile.put_value.Goals as goal

pub insert_value-requires : goal.insert_value-requires
insert_value-requires g c =
    let below : c.self.inside.bits < 2 ^ 64 = search rules in
    grind (arith, put_within c.self.inside.bits c.self.inside.values.items c.args.bit c.requires.within below c.self.invariant, c.place_of-place.ensures, c.self.inside.values.ok)

pub invariant_of-self-2 : goal.invariant_of-self-2
invariant_of-self-2 g c =
    let items : c.insert_value.new.values.items ≡ insert c.self.inside.values.items (rank c.self.inside.bits c.args.bit) c.args.value = search rules in
    ap length items ∙ put_full c.self.inside.bits c.args.bit c.self.inside.values.items c.args.value c.requires.within (search rules) c.self.invariant (ap (λ s. slice_index_or s c.args.bit None) c.self.view_is ∙ c.requires.vacant)

pub returns-clause-ok : goal.returns-clause-ok
returns-clause-ok g c =
    let items : c.insert_value.new.values.items ≡ insert c.self.inside.values.items (rank c.self.inside.bits c.args.bit) c.args.value = search rules in
    ap (λ vs. slots (bit_or c.self.inside.bits (1 * 2 ^ c.args.bit % 2 ^ 64)) vs) items ∙ slots_put_made c.self.inside.bits c.args.bit c.self.inside.values.items c.args.value c.requires.within (search rules) c.self.invariant (ap (λ s. slice_index_or s c.args.bit None) c.self.view_is ∙ c.requires.vacant) ∙ ap (λ s. slice_set s c.args.bit (Some c.args.value)) c.self.view_is

pub returns-clause-there : goal.returns-clause-there
returns-clause-there g c =
    let items : c.insert_value.new.values.items ≡ insert c.self.inside.values.items (rank c.self.inside.bits c.args.bit) c.args.value = search rules in
    ap (λ vs. slice_index_or (slots (bit_or c.self.inside.bits (1 * 2 ^ c.args.bit % 2 ^ 64)) vs) c.args.bit None) items ∙ there_put c.self.inside.bits c.args.bit c.self.inside.values.items c.args.value c.requires.within (search rules) c.self.invariant (ap (λ s. slice_index_or s c.args.bit None) c.self.view_is ∙ c.requires.vacant)
