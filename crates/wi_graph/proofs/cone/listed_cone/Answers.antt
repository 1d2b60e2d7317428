use Rattle.wi_graph.proofs.Words.{◌≡◌, ℕ, refl, Vec, IfOk-weaker, IsConeOf}
use Rattle.wi_graph.proofs.SearchSteps.{own_cone, found_listed}
use Rattle.wi_graph.proofs.BeyondSteps.{whole_cone}
use Rattle.wi_graph.proofs.cone.listed_cone.Goals as goal

pub returns-then-are_alone : goal.returns-then-are_alone
returns-then-are_alone c =
    let cells = c.args.cells.now in
    IfOk-weaker c.from_slice.result (λ (list : Vec ℕ). list.items ≡ cells) (λ list. IsConeOf c.args.readers.now cells list.items)
    (λ list. own_cone c.args.readers.now cells list.items (c.are_alone.ensures.order c.if-are_alone.true) (c.are_alone.ensures.unread c.if-are_alone.true)) c.from_slice.ensures.items

pub cone_beyond-requires : goal.cone_beyond-requires
cone_beyond-requires c = λ d h. refl

pub returns : goal.returns
returns c = found_listed c.args.readers.now c.args.cells.now c.in_ok-found.found c.into_list.result (whole_cone c.args.readers.now c.args.cells.now c.in_ok-found.found c.in_ok-found.ensures) c.into_list.ensures.order c.into_list.ensures.cells
