-- What a hasher is fed of a key.
use Rattle.std.specs.Prelude.{◌≡◌, ℕ, ◌+◌, ◌*◌, ◌%◌, ◌^◌, ◌==◌, ◌&&◌, true}
use Rattle.std.specs.Hash as fed
use Rattle.std.proofs.Common.{ap}
use Rattle.std.proofs.lemmas.Bool.{and_parts, eqb-true}
use Rattle.wi_values.specs.Replacements.{same_replacements}
use Rattle.wi_values.proofs.Replacements.Same.{same_replacements_Decides}
use Rattle.wi_worlds.specs.Inner.Compared.{digest_of}
use Rattle.wi_cache.specs.declared.key.Key.{Key}
use Rattle.wi_cache.specs.Entries.{same_key}

-- the digest of the replacements, with the low 30 bits of the generation and the 34 of the cell added to it
abbrev pub key_number : Key → ℕ
key_number k = (digest_of k.world + (k.generation % 2 ^ 30 * 2 ^ 34 + k.cell)) % 2 ^ 64

abbrev pub key_input : Key → fed.HashWrites
key_input k = fed.u64 (key_number k)

-- equal keys are one key
pub same_key_means : (a b : Key) → same_key a b ≡ true → a ≡ b
same_key_means a b h =
    let outer = and_parts (a.cell == b.cell) (a.generation == b.generation && same_replacements a.world b.world) h in
    let inner = and_parts (a.generation == b.generation) (same_replacements a.world b.world) outer.1 in
    let cell = eqb-true a.cell b.cell outer.0 in
    let generation = eqb-true a.generation b.generation inner.0 in
    let world = (same_replacements_Decides a.world b.world).0 inner.1 in
    λ i. record { cell = cell i; generation = generation i; world = world i }

pub same_key_hash : (a b : Key) → same_key a b ≡ true → key_input a ≡ key_input b
same_key_hash a b e = ap key_input (same_key_means a b e)
