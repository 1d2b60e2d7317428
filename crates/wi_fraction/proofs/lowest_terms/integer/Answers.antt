use Rattle.wi_fraction.proofs.Vocabulary.{rules, FitsSigned, w128, to_z-of_z}
use Rattle.wi_fraction.proofs.NearWholes.{whole_is}
use Rattle.wi_fraction.proofs.lowest_terms.integer.Goals as goal

pub invariant_of-parts : goal.invariant_of-parts
invariant_of-parts c =
    let fits : FitsSigned w128 c.args.n = search rules in
    record { is_number = simp to_z-of_z (whole_is c.args.n c.requires) }
