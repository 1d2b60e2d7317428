-- What a cell shows whose formula is a what-if, which cells may be read for it, and what is so where nothing was done.
use Rattle.wi_engine.proofs.Words.{◌≡◌, ◌∙◌, ℕ, List, map, All, Option, None, Result, Ok, Err, IsErr, get_or, ap, sym, refl, subst, AllocError, Value, Counts, Replacement, Pair, pair_of, Tree, Formula, Some, Sheet, content_of, put_all, has_formula, addresses, TreeAsks, circular, false, true, cell_value, with_what_if, with_what_if_value, value_step, put_not_circular, put_formula, Vec, AsksAt, MemoState, IsMemoOf, MayBeRead, list_any}
use Rattle.wi_parser.specs.Tree.{what_if}
use Rattle.wi_parser.specs.Leaves.{what_if_leaf}
use Rattle.wi_parser.specs.declared.expr.Reference.{Reference}
use Rattle.wi_functions.specs.Meaning.{zero_for_empty}
use Rattle.wi_functions.specs.declared.evaluation.Want.TheVariants as wanted
use Rattle.wi_functions.proofs.Asking.{leaf_asks}
use Rattle.wi_engine.specs.Inner.Plans.{IsWhatIfOf, TriesCell}
use Rattle.wi_engine.proofs.Ledger.{spends_at_most, spends_none}
use Rattle.wi_engine.proofs.engine.NextCases.{here_in_sheet, may_be_read, replacing_reads, what_if_in_sheet}
use Rattle.wi_engine.proofs.engine.Waits.{found_at}

-- the value inside, with Empty turned to 0
pub what_if_shows : {s : Sheet} {w : List Replacement} {c : ℕ} {inside : List Replacement} {root : ℕ} {v u : Value} → IsWhatIfOf s w c inside root → circular s c ≡ false → v ≡ cell_value (put_all s inside) root → u ≡ zero_for_empty v → u ≡ cell_value (put_all s w) c
what_if_shows {s} {w} {c} {inside} {root} {v} {u} x clear is shown =
    let pairs = map addresses x.pairs in
    let there : v ≡ cell_value (put_all s (with_what_if s w pairs)) x.cell.at = is ∙ ap (λ (p : List Replacement). cell_value (put_all s p) root) x.is_inside ∙ ap (λ (f : ℕ). cell_value (put_all s (with_what_if s w pairs)) f) (sym x.is_root) in
    shown ∙ ap zero_for_empty (there ∙ with_what_if_value s w x.cell.at pairs x.order) ∙ sym (value_step (put_all s w) c (what_if x.cell x.pairs) (put_not_circular s w c clear) x.stands)

-- a what-if asks for itself
asks_itself : (s : Sheet) (w : List Replacement) (c : ℕ) (cell : Reference) (pairs : Vec Pair) → content_of (put_all s w) c ≡ Some (Formula (what_if cell (map pair_of pairs.items))) → AsksAt s w c (wanted.WhatIf cell.at pairs)
asks_itself s w c cell pairs stands = record {
  tree = what_if cell (map pair_of pairs.items);
  is = stands;
  asks = leaf_asks (what_if_leaf cell (map pair_of pairs.items)) (wanted.WhatIf cell.at pairs) (refl, refl);
}

-- its formula cell may be read, and so may its replacement cells
module _ (s : Sheet) (m : MemoState) (w : List Replacement) (c : ℕ) (cell : Reference) (pairs : Vec Pair) (stands : content_of (put_all s w) c ≡ Some (Formula (what_if cell (map pair_of pairs.items)))) (h : IsMemoOf s m) (read : MayBeRead s m c) where
  covered : m.covers c ≡ true
  covered = read.covered (put_formula s w c (ap has_formula stands))

  pub formula_cell_readable : MayBeRead s m cell.at
  formula_cell_readable = may_be_read s m c cell.at h read.open_cell covered (what_if_in_sheet s (c, w) cell.at pairs (asks_itself s w c cell pairs stands))

  pub replacing_readable : All (λ p. MayBeRead s m p.replacement.at) pairs.items
  replacing_readable = λ i d l.
      let a = (get_or pairs.items i d).replacement.at in
      may_be_read s m c a h read.open_cell covered (here_in_sheet s (c, w) a (replacing_reads s (c, w) cell.at pairs a (asks_itself s w c cell pairs stands) (found_at pairs.items i d l)))

-- ---- what is so where nothing was done

pub tries_none : {s : Sheet} {m n : MemoState} {w : List Replacement} {c : ℕ} {a b : Counts} → IsMemoOf s m → n ≡ m → b ≡ a → TriesCell s m n w c a b (Ok None)
tries_none {s} {m} {n} {w} {c} {a} {b} h e g = subst (λ (x : Counts). TriesCell s m n w c a x (Ok None)) (sym g) (record { value = tt; none = λ i. (e, refl); spends = spends_at_most (spends_none h e); uncounted = λ easy. refl; kept = tt })

pub tries_err : {s : Sheet} {m n : MemoState} {w : List Replacement} {c : ℕ} {a b : Counts} (r : Result (Option Value) AllocError) → IsErr r → IsMemoOf s m → n ≡ m → b ≡ a → TriesCell s m n w c a b r
tries_err (Ok o) i h e g = cc
tries_err {s} {m} {n} {w} {c} {a} {b} (Err x) i h e g =
    subst (λ (y : Counts). TriesCell s m n w c a y (Err x)) (sym g) (record { value = tt; none = λ j. let z = j in cc; spends = spends_at_most (spends_none h e); uncounted = λ easy. refl; kept = tt })

-- and where the same was done from the same beginning
pub tries_from : {s : Sheet} {m old new : MemoState} {w : List Replacement} {c : ℕ} {a b e : Counts} {r : Result (Option Value) AllocError} → m ≡ old → a ≡ b → TriesCell s m new w c a e r → TriesCell s old new w c b e r
tries_from {s} {m} {old} {new} {w} {c} {a} {b} {e} {r} em ea h = subst (λ (x : MemoState). TriesCell s x new w c b e r) em (subst (λ (x : Counts). TriesCell s m new w c x e r) ea h)
