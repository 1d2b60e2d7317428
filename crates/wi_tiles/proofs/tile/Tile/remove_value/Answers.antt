use Rattle.wi_tiles.proofs.Words.{rules, ap, ◌∙◌, sym, None, arith, ◌≡◌, ◌<◌, ◌^◌, ◌*◌, ◌%◌, length, slice_index_or, slice_set, bit_and, bit_not, w64, remove, slice_get_read, rank, slots}
use Rattle.wi_tiles.proofs.Tiles.{none_found, one_found, found_within, slots_cut_made, cut_full, cut_none}
use Rattle.wi_tiles.proofs.tile.Tile.remove_value.Goals as goal

pub returns-then-self-bit-eq0-clause-value : goal.returns-then-self-bit-eq0-clause-value
returns-then-self-bit-eq0-clause-value g c = sym (ap (λ s. slice_index_or s c.args.bit None) (sym c.self.view_is) ∙ none_found c.self.inside.bits c.self.inside.values.items c.args.bit c.requires c.if-self-bit-eq0.true)

pub returns-then-self-bit-eq0-clause-slots : goal.returns-then-self-bit-eq0-clause-slots
returns-then-self-bit-eq0-clause-slots g c = sym c.self.view_is ∙ cut_none c.self.inside.bits c.args.bit c.self.inside.values.items c.requires c.if-self-bit-eq0.true ∙ ap (λ s. slice_set s c.args.bit None) c.self.view_is

pub remove-value-requires : goal.remove-value-requires
remove-value-requires g c =
    let below : c.self.inside.bits < 2 ^ 64 = search rules in
    grind (arith, found_within c.self.inside.bits c.self.inside.values.items c.args.bit c.requires below c.self.invariant c.if-self-bit-eq0.false, c.rank-place.ensures, c.self.inside.values.ok)

pub invariant_of-self : goal.invariant_of-self
invariant_of-self g c =
    let items : c.remove-value.new.self.items ≡ remove c.self.inside.values.items (rank c.self.inside.bits c.args.bit) = search rules in
    ap length items ∙ cut_full c.self.inside.bits c.args.bit c.self.inside.values.items c.requires (search rules) c.self.invariant c.if-self-bit-eq0.false

pub returns-clause-value : goal.returns-clause-value
returns-clause-value g c =
    let within : rank c.self.inside.bits c.args.bit < length c.self.inside.values.items = found_within c.self.inside.bits c.self.inside.values.items c.args.bit c.requires (search rules) c.self.invariant c.if-self-bit-eq0.false in
    let given : c.remove-value.result ≡ slice_index_or c.self.inside.values.items (rank c.self.inside.bits c.args.bit) c.remove-value.result = search rules in
    sym (ap (λ s. slice_index_or s c.args.bit None) (sym c.self.view_is) ∙ one_found c.self.inside.bits c.self.inside.values.items c.args.bit c.requires c.if-self-bit-eq0.false ∙ slice_get_read c.self.inside.values.items (length c.self.inside.values.items) (rank c.self.inside.bits c.args.bit) c.remove-value.result (λ _. length c.self.inside.values.items) within given)

pub returns-clause-slots : goal.returns-clause-slots
returns-clause-slots g c =
    let items : c.remove-value.new.self.items ≡ remove c.self.inside.values.items (rank c.self.inside.bits c.args.bit) = search rules in
    ap (λ vs. slots (bit_and c.self.inside.bits (bit_not w64 (1 * 2 ^ c.args.bit % 2 ^ 64))) vs) items ∙ slots_cut_made c.self.inside.bits c.args.bit c.self.inside.values.items c.requires (search rules) c.self.invariant c.if-self-bit-eq0.false ∙ ap (λ s. slice_set s c.args.bit None) c.self.view_is
