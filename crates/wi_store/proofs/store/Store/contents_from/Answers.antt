use Rattle.wi_store.proofs.Words.{ap, ◌∙◌, Stored, is_ahead}
use Rattle.std.specs.Prelude.{Some, filter}
use Rattle.wi_store.proofs.store.Store.contents_from.Goals as goal

pub returns : goal.returns
returns c =
    c.new.ensures ∙ ap (λ (s : Stored). filter (λ e. is_ahead c.args.area (Some c.args.from) e.0) s.sheet) c.self.view_is
