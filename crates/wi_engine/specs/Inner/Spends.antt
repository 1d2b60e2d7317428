-- What a question spends, and what it leaves. The counts are held against two tables: the values that were found,
-- always, and those that are kept, where there is room.
use Rattle.std.specs.Prelude.{◌≡◌, ◌+◌, ◌≤◌, ℕ, Bool, true, false, List, Result, IfOk, OnOk, is_ok}
use Rattle.std.specs.declared.alloc.AllocError.{AllocError}
use Rattle.wi_values.specs.declared.value.Value.{Value}
use Rattle.wi_values.specs.declared.replacement.Replacement.{Replacement}
use Rattle.wi_parser.specs.Sheet.{Sheet, put_all}
use Rattle.wi_functions.specs.Counts.{Counts}
use Rattle.wi_cache.specs.declared.key.Key.{Key}
use Rattle.wi_sheet.specs.CellValue.{cell_value}
use Rattle.wi_sheet.specs.Demand.{Case, reaching}
use Rattle.wi_sheet.specs.Settled.{IsSettled, RestsOnKept}
use Rattle.wi_sheet.specs.Inner.Spending.{HasCase, IsClosed, NeverFall, SpentOn, plus, price}
use Rattle.wi_engine.specs.Inner.MemoState.{MemoState, IsMemoOf}
use Rattle.wi_engine.specs.Inner.Saving.{not_kept, IsValuedAnew, KeepsFound, NeedsNoEvaluation, WhereSpace, TakesNoMore, GivesUpWhenFull}

-- At least as many free places were filled as values were evaluated. There is still room for the cases that are not
-- kept, and no entry was evicted, stale ones included. The formula of each case that came to be kept means the same,
-- whatever values stand for what isn't settled: that is `RestsOnKept`. (`RestsOn`, by which a list is closed, is
-- another relation: one case's formula asks for the other.)
pub record Saved (s : Sheet) (old new : MemoState) (before after : Counts) (ks : List Case) : Type 0 where
  pub added : after.evaluations + new.space ≤ before.evaluations + old.space
  pub space : not_kept new ks ≤ new.space
  pub stays : (c : ℕ) (w : List Replacement) → old.kept c w ≡ true → new.kept c w ≡ true
  pub stand : (k : Key) → old.stands k ≡ true → new.stands k ≡ true
  pub found : KeepsFound new
  pub rests : (c : ℕ) (w : List Replacement) → new.kept c w ≡ true → old.kept c w ≡ false → RestsOnKept s new.kept (c, w)

-- what a question leaves alone
pub record IsSameBeside (old new : MemoState) : Type 0 where
  pub covers : new.covers ≡ old.covers
  pub generation : new.generation ≡ old.generation
  pub capacity : new.capacity ≡ old.capacity
  pub latest : new.latest ≡ old.latest

-- What is so after a question, or a part of one: where it was done, and also where memory ran out. `Has` says which
-- cases a list is to have, those that were asked for; each closed list that has them bounds the counts. Where memory
-- ran out, these clauses leave open which of the values found on the way are still found; `stays` of `Memo::keep` says
-- that a memory forgets none.
pub record Spends (s : Sheet) (Has : List Case → Type 0) (old new : MemoState) (before after : Counts) (done : Bool) : Type 0 where
  pub right : IsMemoOf s new
  pub same : IsSameBeside old new
  pub counts : NeverFall before after
  pub places : TakesNoMore old new before.evaluations after.evaluations
  pub gives_up : GivesUpWhenFull old new
  pub on_found : (ks : List Case) → IsClosed s ks → Has ks → SpentOn s old.found new.found before after done ks
  pub on_kept : WhereSpace s Has old (λ ks. SpentOn s old.kept new.kept before after done ks)
  pub saved : done ≡ true → WhereSpace s Has old (λ ks. Saved s old new before after ks)

-- What is so after a whole question: of what it evaluates it needn't remember all where there is no room. So each
-- closed list that has what it is to have bounds the counts by what all its cases cost, those too that were found.
pub record SpendsAtMost (s : Sheet) (Has : List Case → Type 0) (old new : MemoState) (before after : Counts) (done : Bool) : Type 0 where
  pub right : IsMemoOf s new
  pub same : IsSameBeside old new
  pub counts : NeverFall before after
  pub places : TakesNoMore old new before.evaluations after.evaluations
  pub gives_up : GivesUpWhenFull old new
  pub at_most : (ks : List Case) → IsClosed s ks → Has ks → NeverFall after (plus before (price s ks))
  pub on_kept : WhereSpace s Has old (λ ks. SpentOn s old.kept new.kept before after done ks)
  pub saved : done ≡ true → WhereSpace s Has old (λ ks. Saved s old new before after ks)

-- What is so where a question has asked for the value of a cell under replacements: where it was found, and also where
-- memory ran out.
pub record ValuesCell (s : Sheet) (old new : MemoState) (w : List Replacement) (a : ℕ) (before after : Counts) (r : Result Value AllocError) : Type 0 where
  pub value : IfOk r (λ v. v ≡ cell_value (put_all s w) a)
  -- what is remembered then is right, and no more is counted than the cases cost whose values were not
  pub spends : Spends s (HasCase s w a) old new before after (is_ok r)
  -- a value that is remembered, and one that no formula gives, is counted for nothing
  pub uncounted : NeedsNoEvaluation s old w a → after ≡ before
  -- The value is kept where anything is. Where there is room for some closed list of cases that has this one, the cell
  -- is settled: which list that is makes no difference, so it is left out.
  pub kept : OnOk r (IsValuedAnew s old w a → 1 ≤ old.capacity → new.kept a (reaching s a w) ≡ true)
  pub settled : OnOk r (WhereSpace s (HasCase s w a) old (λ ks. IsSettled s new.kept w a))

-- As `ValuesCell`, of a question that ends with that: of what it evaluates it needn't remember all.
pub record ValuesAtMost (s : Sheet) (old new : MemoState) (w : List Replacement) (a : ℕ) (before after : Counts) (r : Result Value AllocError) : Type 0 where
  pub value : IfOk r (λ v. v ≡ cell_value (put_all s w) a)
  pub spends : SpendsAtMost s (HasCase s w a) old new before after (is_ok r)
  pub uncounted : NeedsNoEvaluation s old w a → after ≡ before
  pub kept : OnOk r (IsValuedAnew s old w a → 1 ≤ old.capacity → new.kept a (reaching s a w) ≡ true)
