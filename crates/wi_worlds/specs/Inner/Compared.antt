-- Worlds are compared replacement by replacement, and are equal exactly where they are one world.
use Rattle.std.specs.Prelude.{◌≡◌, ℕ, true, List}
use Rattle.std.specs.Cmp.{IsEquivalence, IsPartialEquivalence, decided, partial_equiv_from_equiv}
use Rattle.std.specs.Hash as fed
use Rattle.std.specs.Hash.FoldHasher as folding
use Rattle.std.specs.List.{fold}
use Rattle.std.proofs.Common.{ap}
use Rattle.wi_values.specs.declared.replacement.Replacement.{Replacement}
use Rattle.wi_values.specs.contracts.replacement.ReplacementHash.TheImpl as hash
use Rattle.wi_values.specs.Replacements.{same_replacements}
use Rattle.wi_values.proofs.Replacements.Same.{same_replacements_Decides}

-- a hash of a list of replacements, by a hasher that always begins alike
unfoldable pub digest_of : List Replacement → ℕ
digest_of rs = folding.finish (fold folding.write folding.initial (fed.slice hash.ghosts.hash_input rs))

-- what a hasher is fed of a list of replacements
abbrev pub world_input : List Replacement → fed.HashWrites
world_input rs = fed.u64 (digest_of rs)

pub same_world_equiv : IsEquivalence same_replacements
same_world_equiv = decided same_replacements same_replacements_Decides

pub same_world_partial : IsPartialEquivalence same_replacements
same_world_partial = partial_equiv_from_equiv same_world_equiv

pub same_world_hash : (v w : List Replacement) → same_replacements v w ≡ true → world_input v ≡ world_input w
same_world_hash v w e = ap world_input ((same_replacements_Decides v w).0 e)
