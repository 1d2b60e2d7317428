use Rattle.wi_lookup_functions.proofs.Words.{drop}
use Rattle.wi_lookup_functions.proofs.ProductEnds.{Taken}
use Rattle.wi_lookup_functions.proofs.products.areas_of.Given as goal

abbrev pub invariant-loop-argument : goal.invariant-loop-argument
invariant-loop-argument l = Taken l.arguments l.areas.items (drop l.argument-index l.arguments)
