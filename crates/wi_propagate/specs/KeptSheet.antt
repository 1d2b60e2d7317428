-- A sheet whose values are kept from one question to the next, and what that saves.
use Rattle.std.specs.Prelude.{◌≡◌, ◌⊎◌, ◌<◌, ◌≤◌, ◌+◌, ◌-◌, ◌^◌, ◌&&◌, ◌||◌, ◌==◌, if◌then◌else◌, ℕ, Bool, true, false, not, List, [], filter, length, is_some}
use Rattle.std.specs.Option.{unwrap_or}
use Rattle.std.specs.Ordering.{nat_cmp}
use Rattle.std.specs.Map.{keys_of, lookup}
use Rattle.std.specs.BTreeMap.{is_at}
use Rattle.wi_values.specs.declared.replacement.Replacement.{Replacement}
use Rattle.wi_parser.specs.Sheet.{content_of, put_all, has_formula}
use Rattle.wi_functions.specs.Counts.{Counts}
use Rattle.wi_store.specs.Store.{Stored}
use Rattle.wi_cache.specs.declared.key.Key.{Key}
use Rattle.wi_cache.specs.Entries.{KeptValues, has_long_texts, kept, texts_len, value_for}
use Rattle.wi_graph.specs.Circular.{circular}
use Rattle.wi_graph.specs.Reach.{in_cone}
use Rattle.wi_sheet.specs.Demand.{Case, reaching}
use Rattle.wi_sheet.specs.Settled.{RestsOnKept}

-- ---- generations

-- cells, each with the number of the last accepted edit in whose cone it was
abbrev pub Generations : Type 0
Generations = List (ℕ × ℕ)

-- the generation of a cell: that number, and 0 where there was none
abbrev pub generation_in : Generations → ℕ → ℕ
generation_in gs c = unwrap_or (lookup (is_at (nat_cmp c)) gs) 0

-- ---- what is kept

-- a sheet, the generations of its cells, the values that are kept, and what was counted
pub record KeptSheet : Type 0 where
  pub stored : Stored
  pub generations : Generations
  pub values : KeptValues
  pub counts : Counts

-- the key of a case: its cell, the cell's generation, its replacements
abbrev pub key_in : Generations → ℕ → List Replacement → Key
key_in gs c w = record { cell = c; generation = generation_in gs c; world = w }

-- a value is kept under the key, of whatever generation
abbrev pub stands : KeptSheet → Key → Bool
stands k q = is_some (value_for k.values.entries q)

-- the value of the case is kept: one stands under its key
abbrev pub is_kept : KeptSheet → ℕ → List Replacement → Bool
is_kept k c w = stands k (key_in k.generations c w)

-- those of these cases whose values are not kept
abbrev pub unkept : KeptSheet → List Case → List Case
unkept k ks = filter (λ x. not (is_kept k x.0 x.1)) ks

-- the keys of all entries that went, of whatever generation
abbrev pub gone : KeptSheet → KeptSheet → List Key
gone old new = filter (λ q. not (stands new q)) (keys_of old.values.entries)

-- each entry that stood stands, of whatever generation
abbrev pub KeepsOld : KeptSheet → KeptSheet → Type 0
KeepsOld old new = (q : Key) → stands old q ≡ true → stands new q ≡ true

-- all values go that are kept, and there is room for as many as before
abbrev pub emptied : KeptSheet → KeptSheet
emptied k = record k { values = kept [] k.values.capacity }

-- the values that are kept have no text, or fewer KiB of it than there may be values
abbrev pub is_light : KeptSheet → Bool
is_light k = texts_len k.values.entries == 0 || not (has_long_texts k.values)

-- where they have as many, all go
abbrev pub lightened : KeptSheet → KeptSheet
lightened k = if has_long_texts k.values then emptied k else k

-- ---- what an edit makes of it

-- An edit of these cells counts nothing and takes no value out. An accepted one is the new generation of each cell of
-- their cone, and of no other; after a refused one each cell has the generation that it had.
pub record IsEdit (old new : KeptSheet) (cells : List ℕ) (accepted : Bool) : Type 0 where
  pub same_counts : new.counts ≡ old.counts
  pub same_values : new.values ≡ old.values
  pub generations : (c : ℕ) → generation_in new.generations c ≡ (if accepted && in_cone old.stored.sheet cells c then new.stored.edits else generation_in old.generations c)

-- ---- what a question counts, and what it keeps

-- a cell's value is at hand: the cell is circular, has no formula under the replacements, or its value is kept
abbrev pub IsAtHand : KeptSheet → List Replacement → ℕ → Type 0
IsAtHand k w c = (circular k.stored.sheet c ≡ true) ⊎ ((has_formula (content_of (put_all k.stored.sheet w) c) ≡ false) ⊎ (is_kept k c (reaching k.stored.sheet c w) ≡ true))

-- there is room for what is kept and these cases together
abbrev pub HasSpaceFor : KeptSheet → List Case → Type 0
HasSpaceFor k ks = length k.values.entries + length (unkept k ks) ≤ k.values.capacity

-- as many values came to be kept as were counted, none went, and each that came rests on kept ones
pub record KeepsAll (old new : KeptSheet) : Type 0 where
  pub added : new.counts.evaluations + length old.values.entries ≤ old.counts.evaluations + length new.values.entries
  pub stays : KeepsOld old new
  pub settled : (c : ℕ) (w : List Replacement) → is_kept new c w ≡ true → is_kept old c w ≡ false → RestsOnKept old.stored.sheet (is_kept new) (c, w)

-- Each evaluation that was counted brought one entry at most, and that took one place: a free one, or that of an entry
-- that went. So no more entries came than were counted, and no more went, stale ones too, than came to a full list,
-- short of the greatest count.
abbrev pub KeepsNoMore : KeptSheet → KeptSheet → Type 0
KeepsNoMore old new = (length new.values.entries + (length (gone old new) + old.counts.evaluations) ≤ length old.values.entries + new.counts.evaluations) ⊎ (2 ^ 64 - 1 ≤ new.counts.evaluations)

-- No fewer values are kept than before. Each entry stays where the list isn't full then, and where what was kept and
-- what was evaluated fill it at most, short of the greatest count.
pub record KeepsWhileSpace (old new : KeptSheet) : Type 0 where
  pub count : length old.values.entries ≤ length new.values.entries
  pub stays : length new.values.entries < new.values.capacity → KeepsOld old new
  pub fits : length old.values.entries + new.counts.evaluations ≤ old.counts.evaluations + new.values.capacity → new.counts.evaluations < 2 ^ 64 - 1 → KeepsOld old new
