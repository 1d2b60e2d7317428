use Rattle.std.proofs.Common.{◌≤◌, ◌∙◌, sym, ap, subst, length, arith, rules}
use Rattle.wi_cache.specs.Entries.{HasOneEach, KeptValues}
use Rattle.wi_cache.proofs.Keeping.{latest_each, latest_len}
use Rattle.wi_cache.proofs.kept.Kept.len.Goals as goal

pub returns-clause-len : goal.returns-clause-len
returns-clause-len c =
    let i = c.self.inside in
    let long = sym (latest_len i.oldest i.entries.entries) ∙ ap (λ (m : KeptValues). length m.entries) c.self.view_is in
    search (rules, long)

pub returns-clause-within : goal.returns-clause-within
returns-clause-within c =
    let i = c.self.inside in
    subst (λ (m : KeptValues). length m.entries ≤ m.capacity) c.self.view_is (omega (arith, latest_len i.oldest i.entries.entries, c.self.invariant.0.1))

pub returns-clause-one_each : goal.returns-clause-one_each
returns-clause-one_each c =
    let i = c.self.inside in
    subst (λ (m : KeptValues). HasOneEach m.entries) c.self.view_is (latest_each i.oldest i.entries.entries c.self.invariant.0.0)
