-- What comes to be kept for longer while there is room.
use Rattle.std.specs.Prelude.{◌≡◌, ◌⊎◌, ◌+◌, ◌-◌, ◌^◌, ◌≤◌, ℕ, true, false, not, List, filter, length, is_some}
use Rattle.std.specs.List.{IsDistinct}
use Rattle.wi_values.specs.declared.replacement.Replacement.{Replacement}
use Rattle.wi_parser.specs.Sheet.{Sheet, content_of, put_all, has_formula}
use Rattle.wi_cache.specs.declared.key.Key.{Key}
use Rattle.wi_cache.specs.Entries.{same_key}
use Rattle.wi_sheet.specs.Demand.{Case, reaching}
use Rattle.wi_sheet.specs.Inner.Spending.{IsClosed, left}
use Rattle.wi_engine.specs.Inner.MemoState.{MemoState}

-- how many of these cases are not kept
abbrev pub not_kept : MemoState → List Case → ℕ
not_kept m ks = left (λ k. 1) m.kept ks

-- all that was found is kept
abbrev pub KeepsFound : MemoState → Type 0
KeepsFound m = (c : ℕ) (w : List Replacement) → m.found c w ≡ true → m.kept c w ≡ true

-- This holds of each closed list of cases that has what it is to have, where all that was found is kept and there is
-- room for those of the list that are not. Where `P` leaves its list out, one such list is enough: it only says that
-- there is room.
abbrev pub WhereSpace : Sheet → (List Case → Type 0) → MemoState → (List Case → Type 0) → Type 0
WhereSpace s Has m P = (ks : List Case) → IsClosed s ks → Has ks → KeepsFound m → not_kept m ks ≤ m.space → P ks

-- those of these keys under which no entry stands
abbrev pub vacant : MemoState → List Key → List Key
vacant m ks = filter (λ k. not (m.stands k)) ks

-- Each value that was counted took one place at most: a free one, or that of an evicted entry, stale ones included. So
-- where e values were counted and f free places filled, at most e - f entries were evicted. It is said of any keys
-- without repetition, by how many of them are vacant before and after: `vacant` counts keys, and `space` places of the
-- memory.
abbrev pub TakesPlaces : MemoState → MemoState → ℕ → ℕ → Type 0
TakesPlaces old new before after = (ks : List Key) → IsDistinct same_key ks → length (vacant new ks) + (old.space + before) ≤ length (vacant old ks) + (new.space + after)

-- this, unless the count has come to its greatest value, from which it no longer rises
abbrev pub TakesNoMore : MemoState → MemoState → ℕ → ℕ → Type 0
TakesNoMore old new before after = TakesPlaces old new before after ⊎ (2 ^ 64 - 1 ≤ after)

-- Nothing was evicted while there was room: no more room is left than before, and where some is left, each entry still
-- stands, stale ones too.
pub record GivesUpWhenFull (old new : MemoState) : Type 0 where
  pub space : new.space ≤ old.space
  pub stays : 1 ≤ new.space → (k : Key) → old.stands k ≡ true → new.stands k ≡ true

-- a cell's value needs no evaluation: it has no formula under the replacements, or its value is remembered
abbrev pub NeedsNoEvaluation : Sheet → MemoState → List Replacement → ℕ → Type 0
NeedsNoEvaluation s m w a = (has_formula (content_of (put_all s w) a) ≡ false) ⊎ (is_some (m.known a (reaching s a w)) ≡ true)

-- a cell has a formula under the replacements, and the memory has found no value of it yet
pub record IsValuedAnew (s : Sheet) (m : MemoState) (w : List Replacement) (a : ℕ) : Type 0 where
  pub formula : has_formula (content_of (put_all s w) a) ≡ true
  pub unfound : m.found a (reaching s a w) ≡ false
