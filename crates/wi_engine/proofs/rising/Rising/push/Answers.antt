use Rattle.wi_engine.proofs.Words.{ℕ, ◌<◌, List, All, subst, sym, Value}
use Rattle.wi_engine.proofs.rising.BinarySearch.{rise_more}
use Rattle.wi_engine.proofs.rising.Rising.push.Goals as goal

pub invariant_of-self-2 : goal.invariant_of-self-2
invariant_of-self-2 c =
    rise_more c.self.inside.cells.items c.push.new.self.items c.args.at c.args.value c.self.invariant
    (subst (λ (es : List (ℕ × Value)). All (λ e. e.0 < c.args.at) es) (sym c.self.view_is) c.requires) c.in_ok-push.ensures.items
