use Rattle.wi_tiles.proofs.Words.{arith, ◌≡◌, ℕ, None, length, sym, subst, common_steps, ◌↔◌, IsTrue, ◌==◌, vec_len, slot, at_sorted}
use Rattle.wi_tiles.proofs.Filled.{none_filled}
use Rattle.wi_tiles.proofs.sorted.BandPlaces.is_vacant.Goals as goal

pub returns : goal.returns
returns g c =
    let counted : vec_len c.self.inside.parts ≡ length c.self.inside.parts.items = grind (arith, common_steps) in
    let none : IsTrue (vec_len c.self.inside.parts == 0) ↔ ((p : ℕ) → at_sorted slot c.args.self.now p ≡ None) = subst (λ s. IsTrue (vec_len c.self.inside.parts == 0) ↔ ((p : ℕ) → at_sorted slot s p ≡ None)) c.self.view_is (subst (λ n. IsTrue (n == 0) ↔ ((p : ℕ) → at_sorted slot c.self.inside.parts.items p ≡ None)) (sym counted) (none_filled slot c.self.inside.parts.items c.self.invariant.1)) in
    rw c.is_empty.ensures none
