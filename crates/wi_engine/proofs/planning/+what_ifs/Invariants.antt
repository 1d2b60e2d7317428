use Rattle.wi_engine.proofs.Words.{◌≡◌, drop, list_any}
use Rattle.wi_parser.specs.Leaves.{all_leaves}
use Rattle.wi_parser.specs.View.{all_of}
use Rattle.wi_engine.specs.Inner.Plans.{is_what_if}
use Rattle.wi_engine.proofs.planning.+what_ifs.Given as goal

abbrev pub invariant-have_what_if-loop-tree : goal.invariant-have_what_if-loop-tree
invariant-have_what_if-loop-tree l = list_any is_what_if (all_leaves (all_of (drop l.tree-index l.trees))) ≡ list_any is_what_if (all_leaves (all_of l.trees))
