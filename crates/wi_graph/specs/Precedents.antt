-- Which cells a formula reads, its precedents.
use Rattle.std.specs.Prelude.{ℕ, Bool, false, ◌==◌, ◌||◌, Option, Some}
use Rattle.std.specs.List.{list_any}
use Rattle.wi_values.specs.Address.{is_within}
use Rattle.wi_parser.specs.Tree.{Tree, Trees, cell, rectangle, parenthesized, signed, percent, binary, what_if, call, no_trees, more_trees, area_of}
use Rattle.wi_parser.specs.declared.content.Content.{Content}
use Rattle.wi_parser.specs.declared.content.Content.TheVariants.{Formula}

abbrev mutual
  -- Whichever branch is taken. Of a what-if the formula cell and the replacement cells are read; its inputs are only
  -- named.
  pub reads_cell : Tree → ℕ → Bool
  reads_cell (cell r) a = r.at == a
  reads_cell (rectangle c) a = is_within (area_of c) a
  reads_cell (parenthesized t) a = reads_cell t a
  reads_cell (signed s t) a = reads_cell t a
  reads_cell (percent t) a = reads_cell t a
  reads_cell (binary op t u) a = reads_cell t a || reads_cell u a
  reads_cell (what_if f pairs) a = f.at == a || list_any (λ p. p.1.at == a) pairs
  reads_cell (call f ts) a = any_reads_cell ts a
  reads_cell t a = false

  pub any_reads_cell : Trees → ℕ → Bool
  any_reads_cell no_trees a = false
  any_reads_cell (more_trees t ts) a = reads_cell t a || any_reads_cell ts a

abbrev pub formula_reads : Option Content → ℕ → Bool
formula_reads (Some (Formula t)) a = reads_cell t a
formula_reads o a = false
