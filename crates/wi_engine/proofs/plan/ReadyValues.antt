-- A formula whose precedents are found lacks nothing.
use Rattle.wi_engine.proofs.Words.{◌≡◌, ℕ, true, List, Option, Some, is_some, ap, sym, ◌∙◌, true≢false, Value, Replacement, Tree, reads, Sheet, content_of, put_all, content_reads, Formula, Want, asked_cell, here_reads, tree_reads, put_reads, AsksAt, IsLacking, Findings}
use Rattle.wi_functions.specs.declared.evaluation.Want.TheVariants as wanted
use Rattle.wi_engine.specs.Inner.Plans.{IsReady}
use Rattle.wi_engine.proofs.engine.NextCases.{asked_in}

-- what a formula reads under replacements it reads in the sheet
pub read_in_sheet : (s : Sheet) (w : List Replacement) (c d : ℕ) (t : Tree) → content_of (put_all s w) c ≡ Some (Formula t) → reads t d ≡ true → content_reads (content_of s c) d ≡ true
read_in_sheet s w c d t e r = put_reads s w c d (tree_reads (put_all s w) c t d e r)

pub nothing_lacks : (s : Sheet) (w : List Replacement) (c : ℕ) (f : Findings) → IsReady s w c f → (want : Want) → AsksAt s w c want → IsLacking s w f want → ⊥
nothing_lacks s w c f h (wanted.Cell a) asks lacks =
    let there = h.cells a (read_in_sheet s w c a asks.tree asks.is (here_reads asks.tree a (asked_cell asks.tree a asks.asks))) lacks.0 in
    true≢false (sym there ∙ ap (λ (o : Option Value). is_some o) lacks.1)
nothing_lacks s w c f h (wanted.WhatIf g pairs) asks lacks =
    let one = asked_in asks.tree g pairs asks.asks in
    let none = h.what_ifs asks.tree asks.is in
    absurd (rw none at one)
