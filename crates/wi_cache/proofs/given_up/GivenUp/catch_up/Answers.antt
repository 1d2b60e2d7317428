use Rattle.std.proofs.Common.{◌∙◌, ap, sym, subst}
use Rattle.wi_cache.specs.Entries.{Entries, HasBits, WithSpace}
use Rattle.wi_cache.proofs.given_up.GivenUp.catch_up.Goals as goal

pub invariant_of-self : goal.invariant_of-self
invariant_of-self c = subst (λ (es : Entries). HasBits es c.self.inside.worlds) (sym c.move_all.ensures) c.self.invariant

pub returns-then-are_asked_for : goal.returns-then-are_asked_for
returns-then-are_asked_for c = c.move_all.ensures ∙ ap (λ (m : WithSpace). m.entries) c.self.view_is
