use Rattle.wi_tiles.proofs.Words.{rules, Some, ◌≡◌, option_or, column_bit}
use Rattle.wi_tiles.proofs.BareLemmas.{in_bands, columns_more}
use Rattle.wi_tiles.proofs.page.PagePlaces.put_new.Goals as goal

pub invariant_of-self-2 : goal.invariant_of-self-2
invariant_of-self-2 g c =
    let bit : c.column_bit.result ≡ column_bit c.args.path = search rules in
    (columns_more c.self.inside.bands c.put_new.new.self c.self.inside.columns c.args.path c.self.invariant.0 (option_or (in_bands c.self.inside.bands c.args.path) (Some c.args.value)) c.column_bit.result c.column_bit.ensures.within bit c.in_ok-new.ensures.ok, c.put_new.ensures.trimmed c.self.invariant.1)
