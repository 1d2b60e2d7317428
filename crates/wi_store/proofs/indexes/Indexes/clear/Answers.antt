use Rattle.std.proofs.Common.{All, sym, subst}
use Rattle.std.proofs.lemmas.List.Elements.{All-nil}
use Rattle.wi_store.specs.Inner.Indexes.{IsLineIndexOf}
use Rattle.wi_store.proofs.indexes.Indexes.clear.Goals as goal

pub returns-then-is_empty : goal.returns-then-is_empty
returns-then-is_empty c = λ s. subst (All (IsLineIndexOf s)) (sym (c.is_empty.ensures c.if-is_empty.true)) (All-nil (IsLineIndexOf s))
