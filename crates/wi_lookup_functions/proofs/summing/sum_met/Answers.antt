use Rattle.wi_lookup_functions.proofs.Words.{◌<◌, refl, ap, ◌∙◌, cells_of, row_of, ℕ, Result, NoValue, Stop}
use Rattle.std.specs.Prelude.{Ok}
use Rattle.wi_fraction.specs.Number.{Number}
use Rattle.wi_values.specs.Address.{rows}
use Rattle.wi_lookup_functions.specs.declared.summing.Summing.{Summing}
use Rattle.wi_lookup_functions.specs.Inner.Sums.{with_met_known}
use Rattle.wi_lookup_functions.proofs.Sums.{held_through, sums}
use Rattle.wi_lookup_functions.proofs.summing.sum_met.Goals as goal

pub returns : goal.returns
returns g c =
    let known = g.L.Lookup.known_cell c.args.lookup.now in
    let bottom : row_of c.args.added.last < rows = rw (c.row.ensures.value, c.last.ensures) at c.row.ensures.within in
    sums known c.args.criterion.now c.args.area c.args.added c.requires bottom c.of.result c.number_of.result (c.of.ensures ∙ c.zero.ensures)
    (λ cells k. c.number_of.ensures
    ∙ ap (λ (s : Summing g.row.L.Denot). s.so_far) (c.in_ok-take_cells.ensures.taken cells k)
    ∙ held_through {S = Summing g.row.L.Denot} {T = Result Number (NoValue (Stop ℕ))} (λ s. s.so_far) (λ t. record { criterion = c.args.criterion; area = c.args.area; added = c.args.added; lookup = c.args.lookup; so_far = t })
    (λ s d v. record s { so_far = with_met_known (g.L.Lookup.known_cell s.lookup.now) s.criterion.now s.area s.added s.so_far d v }) (with_met_known known c.args.criterion.now c.args.area c.args.added)
    (λ t d v. refl) (λ t. refl) cells (Ok c.of.result) (cells_of c.args.area))
