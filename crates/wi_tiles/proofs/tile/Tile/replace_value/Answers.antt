use Rattle.wi_tiles.proofs.Words.{rules, ap, ◌∙◌, sym, Some, None, arith, ◌≡◌, ◌<◌, ◌^◌, ℕ, subst, slice_index_or, slice_set, option_map, ◌==◌, if◌then◌else◌, slots}
use Rattle.wi_tiles.proofs.Tiles.{none_found, found_within}
use Rattle.wi_tiles.proofs.Replaced.{replaced, after_replace, not_replaced}
use Rattle.wi_tiles.proofs.tile.Tile.replace_value.Goals as goal

pub returns-then-self-bit-eq0-clause-value : goal.returns-then-self-bit-eq0-clause-value
returns-then-self-bit-eq0-clause-value g c = sym (ap (λ s. slice_index_or s c.args.bit None) (sym c.self.view_is) ∙ none_found c.self.inside.bits c.self.inside.values.items c.args.bit c.requires c.if-self-bit-eq0.true)

pub returns-then-self-bit-eq0-clause-put : goal.returns-then-self-bit-eq0-clause-put
returns-then-self-bit-eq0-clause-put g c = subst (λ s. (i : ℕ) → slice_index_or s i None ≡ (if i == c.args.bit then option_map (λ _. c.args.value) (slice_index_or s c.args.bit None) else slice_index_or s i None)) c.self.view_is (not_replaced c.self.inside.bits c.args.bit c.self.inside.values.items c.args.value c.requires c.if-self-bit-eq0.true)

pub index_mut-requires : goal.index_mut-requires
index_mut-requires g c =
    let below : c.self.inside.bits < 2 ^ 64 = search rules in
    grind (arith, found_within c.self.inside.bits c.self.inside.values.items c.args.bit c.requires below c.self.invariant c.if-self-bit-eq0.false, c.place_of-place.ensures, c.self.inside.values.ok)

pub returns-clause-value : goal.returns-clause-value
returns-clause-value g c =
    let stood : c.replace.result ≡ c.index_mut.result.now = search rules in
    ap (λ v. Some v) stood ∙ sym (ap (λ s. slice_index_or s c.args.bit None) (sym c.self.view_is) ∙ replaced c.self.inside.bits c.args.bit c.self.inside.values.items c.place_of-place.result c.index_mut.result.now c.place_of-place.ensures c.requires (search rules) c.self.invariant c.if-self-bit-eq0.false (search rules))

pub returns-clause-put : goal.returns-clause-put
returns-clause-put g c =
    let put : c.replace.new.dest ≡ c.args.value = search rules in
    subst (λ w. (i : ℕ) → slice_index_or (slots c.self.inside.bits (slice_set c.self.inside.values.items c.place_of-place.result w)) i None ≡ (if i == c.args.bit then option_map (λ _. c.args.value) (slice_index_or c.args.self.now c.args.bit None) else slice_index_or c.args.self.now i None)) (sym put)
    (subst (λ s. (i : ℕ) → slice_index_or (slots c.self.inside.bits (slice_set c.self.inside.values.items c.place_of-place.result c.args.value)) i None ≡ (if i == c.args.bit then option_map (λ _. c.args.value) (slice_index_or s c.args.bit None) else slice_index_or s i None)) c.self.view_is (after_replace c.self.inside.bits c.args.bit c.self.inside.values.items c.place_of-place.result c.index_mut.result.now c.args.value c.place_of-place.ensures c.requires (search rules) c.self.invariant c.if-self-bit-eq0.false (search rules)))
