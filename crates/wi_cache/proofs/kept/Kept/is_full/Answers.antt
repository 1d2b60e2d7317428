use Rattle.std.proofs.Common.{◌∙◌, ap, sym, length, nat_le}
use Rattle.wi_cache.specs.Entries.{KeptValues}
use Rattle.wi_cache.proofs.Keeping.{latest_len}
use Rattle.wi_cache.proofs.kept.Kept.is_full.Goals as goal

pub returns : goal.returns
returns c =
    let i = c.self.inside in
    ap (nat_le i.capacity) (c.len.ensures.len ∙ sym (latest_len i.oldest i.entries.entries)) ∙ ap (λ (m : KeptValues). nat_le m.capacity (length m.entries)) c.self.view_is
