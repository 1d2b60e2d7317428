use Rattle.wi_tiles.proofs.Words.{◌≡◌, ℕ, None, ap, length, slot, at_sorted}
use Rattle.wi_tiles.proofs.BareLemmas.{in_bands, columns_none}
use Rattle.wi_tiles.proofs.Ends.{trimmed_none}
use Rattle.wi_tiles.proofs.Windows.{window_none}
use Rattle.wi_tiles.proofs.page.PagePlaces.vacant.Goals as goal

pub invariant_of-result : goal.invariant_of-result
invariant_of-result g c =
    let nothing : (p : ℕ) → in_bands c.new.result p ≡ None = λ p. window_none (at_sorted slot) c.new.result.0 c.new.result.1 (ap (λ ts. length ts) c.new.ensures) p in
    (columns_none c.new.result 0 nothing, trimmed_none (at_sorted slot) c.new.result.1 c.new.ensures)

pub returns : goal.returns
returns g c = λ p. window_none (at_sorted slot) c.new.result.0 c.new.result.1 (ap (λ ts. length ts) c.new.ensures) p
