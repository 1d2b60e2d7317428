use Rattle.wi_tiles.proofs.Words.{rules, Some, ◌≡◌, refl, IfSome_then, band_at}
use Rattle.wi_tiles.proofs.TurnLemmas.{band_tiles}
use Rattle.wi_tiles.proofs.found.turn_down.Goals as goal

pub returns-in-Some : goal.returns-in-Some
returns-in-Some g c =
    let band : band_at c.args.pages.now c.args.row ≡ Some c.parts.result.now = search rules in
    IfSome_then c.turn_to_only.result c.turn_to_only.ensures (λ t so. so c.args.pages.now (band_tiles c.args.pages.now c.args.area c.args.row c.parts.result.now c.parts.result.now band (λ k l u. refl)))
