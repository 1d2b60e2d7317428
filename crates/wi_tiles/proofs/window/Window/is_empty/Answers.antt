use Rattle.wi_tiles.proofs.Words.{arith, ◌≡◌, ◌+◌, ◌≤◌, [], length, subst, common_steps, ◌↔◌, IsTrue, ◌==◌, vec_len, span}
use Rattle.wi_tiles.proofs.MapLemmas.{none_counted}
use Rattle.wi_tiles.proofs.window.Window.is_empty.Goals as goal

pub returns-clause-none : goal.returns-clause-none
returns-clause-none g c =
    let counted : vec_len c.self.inside.parts ≡ length c.self.inside.parts.items = grind (arith, common_steps) in
    let none : IsTrue (vec_len c.self.inside.parts == 0) ↔ (c.args.self.now.1 ≡ []) = subst (λ w. IsTrue (vec_len c.self.inside.parts == 0) ↔ (w.1 ≡ [])) c.self.view_is (none_counted (vec_len c.self.inside.parts) c.self.inside.parts.items counted) in
    rw c.is_empty.ensures none

pub returns-clause-bound : goal.returns-clause-bound
returns-clause-bound g c = subst (λ w. w.0 + length w.1 ≤ span) c.self.view_is c.self.invariant
