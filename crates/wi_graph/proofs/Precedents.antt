-- The precedents of a formula are what its leaves read.
use Rattle.wi_graph.proofs.Words.{◌≡◌, ℕ, Bool, ◌||◌, Option, Some, None, refl, sym, ◌∙◌, list_any-append, list_any, Content, Constant, Formula, content_reads}
use Rattle.std.proofs.Math.Bool.{or-false}
use Rattle.wi_parser.specs.Tree.{Tree, Trees, number, text, cell, rectangle, parenthesized, signed, percent, binary, what_if, call, no_trees, more_trees}
use Rattle.wi_parser.specs.Leaves.{Leaf, cell_leaf, rectangle_leaf, what_if_leaf, leaves, all_leaves}
use Rattle.wi_parser.specs.Reads.{leaf_reads, reads}
use Rattle.wi_graph.specs.Precedents.{any_reads_cell, formula_reads, reads_cell}

abbrev read_by : ℕ → Leaf → Bool
read_by a l = leaf_reads l a

mutual
  reads_same : (t : Tree) (a : ℕ) → reads_cell t a ≡ reads t a
  reads_same (number x) a = refl
  reads_same (text s) a = refl
  reads_same (cell r) a = sym (or-false (leaf_reads (cell_leaf r) a))
  reads_same (rectangle c) a = sym (or-false (leaf_reads (rectangle_leaf c) a))
  reads_same (parenthesized t) a = reads_same t a
  reads_same (signed s t) a = reads_same t a
  reads_same (percent t) a = reads_same t a
  reads_same (binary op t u) a = (λ i. reads_same t a i || reads_same u a i) ∙ sym (list_any-append (read_by a) (leaves t) (leaves u))
  reads_same (what_if f pairs) a = sym (or-false (leaf_reads (what_if_leaf f pairs) a))
  reads_same (call f ts) a = any_same ts a

  any_same : (ts : Trees) (a : ℕ) → any_reads_cell ts a ≡ list_any (read_by a) (all_leaves ts)
  any_same no_trees a = refl
  any_same (more_trees t ts) a = (λ i. reads_same t a i || any_same ts a i) ∙ sym (list_any-append (read_by a) (leaves t) (all_leaves ts))

pub reads_as_leaves : (o : Option Content) (a : ℕ) → formula_reads o a ≡ content_reads o a
reads_as_leaves None a = refl
reads_as_leaves (Some (Constant v)) a = refl
reads_as_leaves (Some (Formula t)) a = reads_same t a
