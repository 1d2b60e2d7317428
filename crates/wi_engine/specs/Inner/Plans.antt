-- In what order the values of cells are found before that of a cell, the root, which rests on them where some cells,
-- the inputs, are replaced.
use Rattle.std.specs.Prelude.{◌≡◌, ◌==◌, ◌&&◌, ◌||◌, ℕ, ◌+◌, ◌-◌, ◌^◌, ◌≤◌, Bool, not, true, false, List, [], ◌∷◌, ◌++◌, map, All, Option, Some, None, is_some, Result, Ok, IfOk, IfSome, is_ok, ◌⊎◌, Contains}
use Rattle.std.specs.List.{list_any}
use Rattle.std.specs.declared.alloc.AllocError.{AllocError}
use Rattle.wi_values.specs.Address.{is_one_of}
use Rattle.wi_values.specs.declared.value.Value.{Value}
use Rattle.wi_values.specs.declared.replacement.Replacement.{Replacement}
use Rattle.wi_values.specs.Replacements.{IsInOrder}
use Rattle.wi_parser.specs.Leaves.{Leaf, what_if_leaf}
use Rattle.wi_parser.specs.Tree.{Tree, what_if}
use Rattle.wi_parser.specs.declared.expr.Reference.{Reference}
use Rattle.wi_parser.specs.declared.content.Content.TheVariants.{Formula}
use Rattle.wi_parser.specs.Sheet.{Sheet, content_of, has_formula, put_all}
use Rattle.wi_parser.specs.Reads.{content_reads}
use Rattle.wi_arguments.specs.Assignment.{addresses}
use Rattle.wi_functions.specs.Counts.{Counts, one_more}
use Rattle.wi_sheet.specs.CellValue.{cell_value, what_if_value}
use Rattle.wi_sheet.specs.Demand.{Case, case_of, reaching, what_ifs_of, with_what_if}
use Rattle.wi_sheet.specs.Inner.Spending.{HasCase, IsClosed, NeverFall, plus, price}
use Rattle.wi_engine.specs.Inner.MemoState.{IsMemoOf, MemoState}
use Rattle.wi_engine.specs.Inner.Findings.{AreAllRight, found_value, found_what_ifs}
use Rattle.wi_engine.specs.Inner.Frames.{IsDemanded, MayBeRead, content_reads_here}
use Rattle.wi_engine.specs.Inner.Saving.{NeedsNoEvaluation}
use Rattle.wi_engine.specs.Inner.Spends.{SpendsAtMost}
use Rattle.wi_engine.specs.Inner.Placing.{IsPlacedPlan}
use Rattle.wi_engine.specs.declared.findings.Findings.{Findings}
use Rattle.wi_engine.specs.declared.plan.Plan.{Plan}
use Rattle.wi_engine.specs.declared.plan.Planned.{Planned}
use Rattle.wi_engine.specs.declared.planning.Reading.{Reading}

abbrev pub planned_cells : List Planned → List ℕ
planned_cells ps = map (λ p. p.at) ps

-- A cell's formula rests on inputs and on cells that stand before it: each cell with a formula that it reads is one of
-- these, and it has no what-ifs.
pub record RestsOnEarlier (s : Sheet) (inputs front : List ℕ) (c : ℕ) : Type 0 where
  pub cells : (d : ℕ) → content_reads (content_of s c) d ≡ true → has_formula (content_of s d) ≡ true → is_one_of inputs d ≡ false → is_one_of front d ≡ true
  pub what_ifs : (t : Tree) → content_of s c ≡ Some (Formula t) → what_ifs_of t ≡ []

-- A cell may stand between these of a plan: it has a formula, is no input and not the root, stands there once, and is
-- read by the root or by a cell behind it. Unless its value is given, its formula rests on cells before it.
pub record MayBePlanned (s : Sheet) (inputs : List ℕ) (root : ℕ) (front : List ℕ) (p : Planned) (back : List ℕ) : Type 0 where
  pub formula : has_formula (content_of s p.at) ≡ true
  pub kept : is_one_of inputs p.at ≡ false
  pub once : is_one_of front p.at ≡ false
  pub below : (p.at == root) ≡ false
  pub read : list_any (λ d. content_reads_here (content_of s d) p.at) (root ∷ back) ≡ true
  pub rests : p.is_given ≡ false → RestsOnEarlier s inputs front p.at

-- each cell may stand where it stands
abbrev pub IsPlan : Sheet → List ℕ → ℕ → List Planned → Type 0
IsPlan s inputs root ps = (front back : List Planned) (p : Planned) → ps ≡ front ++ p ∷ back → MayBePlanned s inputs root (planned_cells front) p (planned_cells back)

-- and the root's formula rests on inputs and on these cells
pub record IsWholePlan (s : Sheet) (inputs : List ℕ) (root : ℕ) (ps : List Planned) : Type 0 where
  pub cells : IsPlan s inputs root ps
  pub rests : RestsOnEarlier s inputs (planned_cells ps) root

-- A plan is one of the sheet, and where its formulas are placed they are rightly.
pub record IsPlanOf (s : Sheet) (p : Plan) : Type 0 where
  pub whole : IsWholePlan s p.inputs.items p.root p.cells.items
  pub placed : IfSome p.placed (IsPlacedPlan s p.inputs.items p.root p.cells.items)

-- A plan may be followed where its inputs are replaced, and its root may be read.
pub record MayBeFollowed (s : Sheet) (m : MemoState) (w : List Replacement) (p : Plan) : Type 0 where
  pub memo : IsMemoOf s m
  pub read : MayBeRead s m p.root
  pub plan : IsWholePlan s p.inputs.items p.root p.cells.items
  pub inputs : map (λ r. r.at) w ≡ p.inputs.items
  pub placed : IfSome p.placed (IsPlacedPlan s p.inputs.items p.root p.cells.items)

-- ---- what is so while a plan is followed

-- A cell may be valued: it has a formula under the replacements, and may be read.
pub record MayBeValued (s : Sheet) (m : MemoState) (w : List Replacement) (c : ℕ) : Type 0 where
  pub memo : IsMemoOf s m
  pub read : MayBeRead s m c
  pub formula : has_formula (content_of (put_all s w) c) ≡ true

-- The value of the root demands that of a cell with a formula, which may be read.
pub record IsNeeded (s : Sheet) (m : MemoState) (w : List Replacement) (root c : ℕ) : Type 0 where
  pub formula : has_formula (content_of (put_all s w) c) ≡ true
  pub demanded : IsDemanded s (case_of s w root) (case_of s w c)
  pub readable : MayBeRead s m c

-- the values of just these cells were found
pub record AreFound (s : Sheet) (w : List Replacement) (cells : List ℕ) (f : Findings) : Type 0 where
  pub right : AreAllRight (cell_value (put_all s w)) (what_if_value (put_all s w)) f
  pub known : (c : ℕ) → is_some (found_value f c) ≡ is_one_of cells c
  pub what_ifs : found_what_ifs f ≡ []

-- what a formula reads is found, and it has no what-ifs
pub record IsReady (s : Sheet) (w : List Replacement) (c : ℕ) (f : Findings) : Type 0 where
  pub right : AreAllRight (cell_value (put_all s w)) (what_if_value (put_all s w)) f
  pub cells : (d : ℕ) → content_reads (content_of s c) d ≡ true → has_formula (content_of (put_all s w) d) ≡ true → is_some (found_value f d) ≡ true
  pub what_ifs : (t : Tree) → content_of (put_all s w) c ≡ Some (Formula t) → what_ifs_of t ≡ []

-- the values that a plan is to be given are there
abbrev pub AreGiven : Sheet → MemoState → List Replacement → List Planned → Type 0
AreGiven s m w ps = All (λ p. p.is_given ≡ true → NeedsNoEvaluation s m w p.at) ps

-- an evaluation was counted, and no restart
abbrev pub CountsOne : Counts → Counts → Type 0
CountsOne before after = NeverFall before after × (after ≡ record before { evaluations = one_more before.evaluations })

-- none for a value that is given, and one for any other
abbrev pub CountsCell : Bool → Counts → Counts → Type 0
CountsCell true before after = after ≡ before
CountsCell false before after = CountsOne before after

-- What is so where a plan was followed under replacements, as far as memory sufficed: its root's value was found by one
-- evaluation or more, or a value that was to be given wasn't there. No more was counted than the cases cost that the
-- root demands.
pub record Follows (s : Sheet) (w : List Replacement) (root : ℕ) (before after : Counts) (r : Result (Option Value) AllocError) : Type 0 where
  pub value : IfOk r (λ o. IfSome o (λ v. v ≡ cell_value (put_all s w) root))
  pub none : r ≡ Ok None → after ≡ before
  pub counts : NeverFall before after
  pub one : IfOk r (λ o. IfSome o (λ v. (before.evaluations + 1 ≤ after.evaluations) ⊎ (2 ^ 64 - 1 ≤ after.evaluations)))
  pub at_most : (ks : List Case) → IsClosed s ks → Contains ks (case_of s w root) → NeverFall after (plus before (price s ks))

-- the cell has a formula under the replacements, and its value isn't kept
pub record IsUnkept (s : Sheet) (m : MemoState) (w : List Replacement) (c : ℕ) : Type 0 where
  pub formula : has_formula (content_of (put_all s w) c) ≡ true
  pub none : m.kept c (reaching s c w) ≡ false

-- ---- a cell whose formula is a what-if

-- The formula of a cell under replacements is a what-if of the root, and these are the replacements with those of the
-- what-if put in.
pub record IsWhatIfOf (s : Sheet) (w : List Replacement) (c : ℕ) (inside : List Replacement) (root : ℕ) : Type 0 where
  pub order : IsInOrder w
  pub cell : Reference
  pub pairs : List (Reference × Reference)
  pub stands : content_of (put_all s w) c ≡ Some (Formula (what_if cell pairs))
  pub is_root : cell.at ≡ root
  pub is_inside : inside ≡ with_what_if s w (map addresses pairs)

-- What is so where the value of a root was remembered or found by a plan, as far as memory sufficed. No more was counted
-- than the cases cost that the root demands.
pub record FindsRoot (s : Sheet) (w : List Replacement) (root : ℕ) (before after : Counts) (r : Result (Option Value) AllocError) : Type 0 where
  pub value : IfOk r (λ o. IfSome o (λ v. v ≡ cell_value (put_all s w) root))
  pub none : r ≡ Ok None → after ≡ before
  pub counts : NeverFall before after
  pub at_most : (ks : List Case) → IsClosed s ks → HasCase s w root ks → NeverFall after (plus before (price s ks))

-- What is so where a question that ends with a cell has tried to value it by a plan: where it answers none, nothing was
-- done.
pub record TriesCell (s : Sheet) (old new : MemoState) (w : List Replacement) (a : ℕ) (before after : Counts) (r : Result (Option Value) AllocError) : Type 0 where
  pub value : IfOk r (λ o. IfSome o (λ v. v ≡ cell_value (put_all s w) a))
  pub none : r ≡ Ok None → (new ≡ old) × (after ≡ before)
  pub spends : SpendsAtMost s (HasCase s w a) old new before after (is_ok r)
  pub uncounted : NeedsNoEvaluation s old w a → after ≡ before
  pub kept : IfOk r (λ o. IfSome o (λ v. 1 ≤ old.capacity → new.kept a (reaching s a w) ≡ true))

-- ---- how a plan is made

-- the leaf of a what-if
abbrev pub is_what_if : Leaf → Bool
is_what_if (what_if_leaf f pairs) = true
is_what_if l = false

-- a cell with a formula that is none of these
abbrev pub is_unsettled : Sheet → (ℕ → Bool) → ℕ → Bool
is_unsettled s settled c = has_formula (content_of s c) && not (settled c)

-- A cell's formula rests on these cells: each with a formula that it reads is one of them, and it has no what-ifs.
pub record RestsOnSettled (s : Sheet) (settled : ℕ → Bool) (c : ℕ) : Type 0 where
  pub cells : (d : ℕ) → content_reads (content_of s c) d ≡ true → has_formula (content_of s d) ≡ true → settled d ≡ true
  pub what_ifs : (t : Tree) → content_of s c ≡ Some (Formula t) → what_ifs_of t ≡ []

-- a cell is the root, or stands behind another one in a plan: it is one of all cells, is another and doesn't stand
-- before
abbrev pub comes_later : ℕ → (ℕ → Bool) → (ℕ → Bool) → ℕ → ℕ → Bool
comes_later root all settled c reader = reader == root || (all reader && not (settled reader) && not (c == reader))

-- A cell may be the next of a plan, by all its cells, and by those that are settled then: the inputs, and the cells
-- before it.
pub record MayBeNext (s : Sheet) (root : ℕ) (all settled : ℕ → Bool) (p : Planned) : Type 0 where
  pub formula : has_formula (content_of s p.at) ≡ true
  pub once : settled p.at ≡ false
  pub below : (p.at == root) ≡ false
  pub read : (r : ℕ) × (comes_later root all settled p.at r ≡ true) × (content_reads_here (content_of s r) p.at ≡ true)
  pub rests : p.is_given ≡ false → RestsOnSettled s settled p.at

-- a formula that isn't gone through yet
abbrev pub begun_reading : ℕ → Reading
begun_reading c = record { cell = c; rectangle = 0; after = None }
