use Rattle.wi_tiles.proofs.Words.{◌≡◌, ℕ, None, subst, ◌↔◌, IsTrue, slot, at_sorted}
use Rattle.wi_tiles.proofs.BareLemmas.{in_bands}
use Rattle.wi_tiles.proofs.Ends.{none_where_none}
use Rattle.wi_tiles.proofs.page.PagePlaces.is_vacant.Goals as goal

pub returns : goal.returns
returns g c =
    let both = none_where_none (at_sorted slot) c.self.inside.bands.0 c.self.inside.bands.1 c.is_empty.ensures.bound c.self.invariant.1 in
    subst (λ w. IsTrue c.is_empty.result ↔ ((p : ℕ) → in_bands w p ≡ None)) c.self.view_is (λ t. both.0 (c.is_empty.ensures.none.0 t), λ nothing. c.is_empty.ensures.none.1 (both.1 nothing))
