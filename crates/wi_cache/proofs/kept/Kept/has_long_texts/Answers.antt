use Rattle.std.proofs.Common.{◌/◌, ◌∙◌, sym, ap, nat_le}
use Rattle.wi_cache.specs.Entries.{has_long_texts}
use Rattle.wi_cache.proofs.TextLens.{texts_latest}
use Rattle.wi_cache.proofs.kept.Kept.has_long_texts.Goals as goal

pub returns : goal.returns
returns c =
    let i = c.self.inside in
    ap (λ n. nat_le i.capacity (n / 1024)) (c.self.invariant.1 ∙ sym (texts_latest i.oldest i.entries.entries)) ∙ ap has_long_texts c.self.view_is
