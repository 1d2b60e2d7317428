-- What a frame waits for, and what it gets.
use Rattle.wi_engine.proofs.Words.{◌≡◌, ◌==◌, ◌+◌, ◌<◌, ◌≤◌, ℕ, zero, suc, true, List, [], ◌∷◌, map, filter, length, get_or, Option, Some, None, Result, Ok, Err, IsErr, is_ok, refl, ap, sym, ◌∙◌, arith, eq-eqb, or_left, or_right, true≢false, list_any, is_none, Vec, Value, Replacement, Pair, pair_of, Tree, Content, Formula, Sheet, content_of, put_all, has_formula, cells_with_formula, TreeAsks, Want, Key, is_one_of, formula_cell, cell_value, what_if_value, what_ifs_of, reads_here, formulas_read_here, of_formula, put_formula, IsIn, is_in, asked_cell, same_tree, MemoState, pairs_of, found_value, what_if_found, AreAllRight, IsWithCell, IsWithWhatIf, AsksAt, IsLacking, lacking, case_at, StandsAt, content_reads_here, Awaits, IsUnvaluedFormula, IsFrame, lacks, waits, FrameWaits, Findings, FoundWhatIf, Frame, Unvalued, Waiting, Nothing, Cells}
use Rattle.wi_functions.specs.declared.evaluation.Want.TheVariants as wanted
use Rattle.wi_sheet.proofs.Members.{in_filter}
use Rattle.wi_engine.specs.declared.frame.Waiting.TheVariants.{WhatIf}
use Rattle.wi_engine.proofs.attempt.LackingCounts.{cell_lacks_fewer, what_if_lacks_fewer}
use Rattle.wi_engine.proofs.engine.NextCases.{named, asked_in, tree_with}

-- ---- a what-if's inputs

-- a pair of a list is found in it by its replacement cell
pub found_at : (ps : List Pair) (i : ℕ) (d : Pair) → i < length ps → list_any (λ p. p.1.at == (get_or ps i d).replacement.at) (map pair_of ps) ≡ true
found_at [] i d h = absurd (omega arith)
found_at (p ∷ ps) zero d h = or_left (p.replacement.at == p.replacement.at) _ (eq-eqb p.replacement.at p.replacement.at refl)
found_at (p ∷ ps) (suc i) d h = or_right (p.replacement.at == (get_or ps i d).replacement.at) _ (found_at ps i d (omega arith))

pub input_unvalued : (s : Sheet) (m n : MemoState) (w : List Replacement) (pairs : List Pair) (i : ℕ) (x : Pair) (u : Unvalued) → i < length pairs → x ≡ get_or pairs i x → n ≡ m → IsUnvaluedFormula s n w x.replacement.at u →
    (list_any (λ p. p.1.at == u.key.cell) (map pair_of pairs) ≡ true) × IsUnvaluedFormula s m w u.key.cell u
input_unvalued s m n w pairs i x u h e en f =
    let same = rw en at f.unvalued in
    (ap (λ (a : ℕ). list_any (λ p. p.1.at == a) (map pair_of pairs)) f.unvalued.cell ∙ ap (λ (y : Pair). list_any (λ p. p.1.at == y.replacement.at) (map pair_of pairs)) e ∙ found_at pairs i x h, record { unvalued = rw (← f.unvalued.cell) at same; stands = f.stands })

-- ---- what a formula asks for

-- a cell that is asked for is read as the sheet stands
pub asked_here : (s : Sheet) (k : Key) (a : ℕ) → AsksAt s k.world k.cell (wanted.Cell a) → content_reads_here (content_of (put_all s k.world) k.cell) a ≡ true
asked_here s k a h = ap (λ (o : Option Content). content_reads_here o a) h.is ∙ asked_cell h.tree a h.asks

pub cell_here : (s : Sheet) (k : Key) (want : Want) (t : Tree) (a : ℕ) → AsksAt s k.world k.cell want → want ≡ wanted.Cell a → StandsAt s k t → reads_here t a ≡ true
cell_here s k want t a h e i =
    let asks = rw e at h.asks in
    ap (λ (u : Tree). reads_here u a) (same_tree t h.tree (content_of (put_all s k.world) k.cell) i h.is) ∙ asked_cell h.tree a asks

pub awaits_cells : (s : Sheet) (k : Key) (f : Findings) (want : Want) (t : Tree) (a : ℕ) (others : Vec ℕ) → AsksAt s k.world k.cell want → IsLacking s k.world f want → want ≡ wanted.Cell a →
    StandsAt s k t → ((d : ℕ) → is_one_of others.items d ≡ true → (reads_here t d ≡ true) × (has_formula (content_of s d) ≡ true)) → Awaits s (case_at k) f (Cells a others)
awaits_cells s k f want t a others h l e i r =
    let lacking = rw e at l in
    let here = λ (d : ℕ). ap (λ (o : Option Content). content_reads_here o d) i in
    (lacking, here a ∙ cell_here s k want t a h e i, put_formula s k.world a lacking.0, λ d m. (here d ∙ (r d m).0, (r d m).1))

-- a cell for which a formula asks, and that is waited for alone
module _ (s : Sheet) (k : Key) (t : Tree) (a : ℕ) (stands : StandsAt s k t) (asks : TreeAsks t (wanted.Cell a)) where
  -- what stands in the cell of the key asks for it
  pub asks_at : AsksAt s k.world k.cell (wanted.Cell a)
  asks_at = record { tree = t; is = stands; asks = asks }

  -- and reads it as the sheet stands
  pub read_at : content_reads_here (content_of (put_all s k.world) k.cell) a ≡ true
  read_at = asked_here s k a asks_at

pub awaits_alone : (s : Sheet) (k : Key) (f : Findings) (a : ℕ) (others : Vec ℕ) → others.items ≡ [] → AsksAt s k.world k.cell (wanted.Cell a) → IsLacking s k.world f (wanted.Cell a) → Awaits s (case_at k) f (Cells a others)
awaits_alone s k f a others e h l = (l, asked_here s k a h, put_formula s k.world a l.0, λ d m. absurd (none d m))
  where
    none : (d : ℕ) → is_one_of others.items d ≡ true → ⊥
    none d m = let z = ap (λ (xs : List ℕ). is_one_of xs d) e in cc

-- ---- how much is lacking

lacks_at : (s : Sheet) (k : Key) (f : Findings) (t : Tree) → content_of (put_all s k.world) k.cell ≡ Some (Formula t) → lacks s k f ≡ lacking s t f
lacks_at s k f t e = ap (λ (o : Option Content). of_formula o 0 (λ u. lacking s u f)) e

in_some : {X : Type 0} (xs : List X) (x : X) → IsIn xs x → 1 ≤ length xs
in_some [] x h = absurd h
in_some (y ∷ xs) x h = omega arith

pub some_cell : (s : Sheet) (k : Key) (f : Findings) (a : ℕ) → found_value f a ≡ None → content_reads_here (content_of (put_all s k.world) k.cell) a ≡ true → has_formula (content_of s a) ≡ true → 1 ≤ lacks s k f
some_cell s k f a l h g =
    let t = tree_with (content_of (put_all s k.world) k.cell) (λ t. reads_here t a) h in
    let read = in_filter (reads_here t.0) (cells_with_formula s) a (is_in (cells_with_formula s) a (formula_cell s a g)) t.2 in
    let n = in_some (filter (λ c. is_none (found_value f c)) (formulas_read_here s t.0)) a (in_filter (λ c. is_none (found_value f c)) (formulas_read_here s t.0) a read (ap (λ (o : Option Value). is_none o) l)) in
    let e = lacks_at s k f t.0 t.1 in
    omega (arith, n, e)

pub some_what_if : (s : Sheet) (k : Key) (f : Findings) (a : ℕ) (pairs : Vec Pair) → what_if_found f a (named a pairs).1 ≡ None → AsksAt s k.world k.cell (wanted.WhatIf a pairs) → 1 ≤ lacks s k f
some_what_if s k f a pairs l h =
    let n = in_some (filter (λ x. is_none (what_if_found f x.0 x.1)) (what_ifs_of h.tree)) (named a pairs)
    (in_filter (λ (x : ℕ × List (ℕ × ℕ)). is_none (what_if_found f x.0 x.1)) (what_ifs_of h.tree) (named a pairs) (asked_in h.tree a pairs h.asks) (ap (λ (o : Option Value). is_none o) l)) in
    let e = lacks_at s k f h.tree h.is in
    omega (arith, n, e)

-- what is waited for is lacking
pub some_lacks : (s : Sheet) (k : Key) (f : Findings) (w : Waiting) → Awaits s (case_at k) f w → waits w ≤ lacks s k f
some_lacks s k f Nothing h = omega arith
some_lacks s k f (Cells a others) h = some_cell s k f a h.0.1 h.1 h.2
some_lacks s k f (WhatIf a pairs) h = some_what_if s k f a pairs h.0 h.1

-- with a cell's value that was lacking, less is lacking
pub cell_falls : (s : Sheet) (k : Key) (f g : Findings) (a : ℕ) (v : Value) → IsWithCell f g a v → found_value f a ≡ None → content_reads_here (content_of (put_all s k.world) k.cell) a ≡ true →
    has_formula (content_of s a) ≡ true → lacks s k g + 1 ≤ lacks s k f
cell_falls s k f g a v more l h i =
    let t = tree_with (content_of (put_all s k.world) k.cell) (λ t. reads_here t a) h in
    let less = cell_lacks_fewer f g a v more s t.0 t.2 i l in
    let e = lacks_at s k f t.0 t.1 in
    let d = lacks_at s k g t.0 t.1 in
    omega (arith, less, e, d)

-- and with a what-if's
pub what_if_falls : (s : Sheet) (k : Key) (f g : Findings) (x : FoundWhatIf) → IsWithWhatIf f g x → AsksAt s k.world k.cell (wanted.WhatIf x.at x.pairs) → what_if_found f x.at (pairs_of x) ≡ None → lacks s k g + 1 ≤ lacks s k f
what_if_falls s k f g x more h l =
    let less = what_if_lacks_fewer f g x more s h.tree h.asks l in
    let e = lacks_at s k f h.tree h.is in
    let d = lacks_at s k g h.tree h.is in
    omega (arith, less, e, d)

-- ---- the same frame with other values or waiting for something else

pub frame_with : (s : Sheet) (m : MemoState) (f g : Frame) → IsFrame s m f → g.key ≡ f.key → g.formula.now ≡ f.formula.now → AreAllRight (cell_value (put_all s f.key.world)) (what_if_value (put_all s f.key.world)) g.found →
    Awaits s (case_at f.key) g.found g.waiting → IsFrame s m g
frame_with s m f g h e t r a = record {
  key = rw e h.key;
  formula = rw (e, t) h.formula;
  found = rw e r;
  waiting = rw e a;
}

-- where memory runs out it waits for nothing more
pub waits_err : {X E : Type 0} {s : Sheet} {f g : Frame} (r : Result X E) → IsErr r → g.key ≡ f.key → g.formula.now ≡ f.formula.now → g.found ≡ f.found → FrameWaits s f g (is_ok r)
waits_err (Ok x) e key formula found = cc
waits_err (Err x) e key formula found = record { key = key; formula = formula; found = found; awaits = λ d. absurd (true≢false (sym d)) }
