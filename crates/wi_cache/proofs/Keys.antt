-- Keys are equal where they are one key.
use Rattle.std.proofs.Common.{◌≡◌, ◌==◌, ◌&&◌, true, refl, sym, ap, ◌∙◌}
use Rattle.std.specs.Prelude.{Decides}
use Rattle.std.specs.Cmp.{IsEquivalence, decided}
use Rattle.std.proofs.lemmas.Bool.{and_from, eq-eqb}
use Rattle.wi_values.specs.Replacements.{same_replacements}
use Rattle.wi_values.proofs.Replacements.Same.{same_replacements_Decides}
use Rattle.wi_cache.specs.declared.key.Key.{Key}
use Rattle.wi_cache.specs.Entries.{same_key}
use Rattle.wi_cache.specs.Hashed.{same_key_means}

pub same_key_Decides : (a b : Key) → Decides (same_key a b) (a ≡ b)
same_key_Decides a b = (same_key_means a b, λ e. ap (same_key a) (sym e) ∙ itself)
  where
    itself : same_key a a ≡ true
    itself =
        let world = (same_replacements_Decides a.world a.world).1 refl in
        and_from (a.cell == a.cell) (a.generation == a.generation && same_replacements a.world a.world) (eq-eqb a.cell a.cell refl)
        (and_from (a.generation == a.generation) (same_replacements a.world a.world) (eq-eqb a.generation a.generation refl) world)

pub same_key_equiv : IsEquivalence same_key
same_key_equiv = decided same_key same_key_Decides

pub key_itself : (a b : Key) → a ≡ b → same_key a b ≡ true
key_itself a b = (same_key_Decides a b).1

-- for `search`
pub ruleset alike = (same_key_means, key_itself)
