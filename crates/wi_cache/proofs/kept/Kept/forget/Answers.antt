use Rattle.std.proofs.Common.{◌≡◌, refl, sym, ap, arith, length}
use Rattle.wi_cache.specs.Entries.{texts_len}
use Rattle.wi_cache.proofs.kept.Kept.forget.Goals as goal

pub invariant_of-self : goal.invariant_of-self
invariant_of-self c =
    let none : length c.new.result.entries ≡ 0 = ap length c.new.ensures.empty in
    ((c.new.ensures.unique, omega (arith, none), omega (arith, c.self.invariant.0.2), λ l. refl), sym (ap texts_len c.new.ensures.empty))
