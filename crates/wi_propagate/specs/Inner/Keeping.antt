-- What is kept and found in one question.
use Rattle.std.specs.Prelude.{◌≡◌, ◌≤◌, ◌-◌, ℕ, true, [], length, Option, None, Some, IfSome, IsSome, is_some}
use Rattle.std.specs.Option.{option_or}
use Rattle.std.specs.Ordering.{nat_cmp}
use Rattle.std.specs.Global.{Box}
use Rattle.std.specs.Map.{lookup}
use Rattle.std.specs.BTreeMap.{is_at}
use Rattle.wi_values.specs.declared.value.Value.{Value}
use Rattle.wi_parser.specs.Sheet.{Sheet}
use Rattle.wi_functions.specs.Counts.{Counts}
use Rattle.wi_store.specs.Store.{Stored}
use Rattle.wi_cache.specs.declared.key.Key.{Key}
use Rattle.wi_cache.specs.Entries.{Entries, HasOneEach, KeptValues, PutsIn, kept, value_for}
use Rattle.wi_engine.specs.Inner.MemoState.{MemoState}
use Rattle.wi_propagate.specs.KeptSheet.{Generations, KeptSheet, generation_in, key_in}
use Rattle.wi_propagate.specs.Right.{AreRight}
use Rattle.wi_propagate.specs.Inner.Cones.{AreAllCones}
use Rattle.wi_propagate.specs.declared.carried.Carried.{Carried}

-- the cell has a generation
abbrev pub HasGeneration : Generations → ℕ → Type 0
HasGeneration gs c = IsSome (lookup (is_at (nat_cmp c)) gs)

-- what is kept of what is carried, which is there but while a question is answered
abbrev pub values_in : Option (Box Carried) → KeptValues
values_in None = kept [] 1
values_in (Some h) = h.value.kept

-- the cones that are carried are those of the sheet
abbrev pub AreCarriedCones : Sheet → Option (Box Carried) → Type 0
AreCarriedCones s o = IfSome o (λ h. AreAllCones s h.value.cones)

-- what a calculator is seen as that keeps values
abbrev pub kept_sheet : Stored → Generations → Option (Box Carried) → Counts → KeptSheet
kept_sheet s gs o n = record { stored = s; generations = gs; values = values_in o; counts = n }

-- a sheet with its count of edits and its generations, the values that were given up in a question, and those kept
pub record Keeping : Type 0 where
  pub sheet : Sheet
  pub edits : ℕ
  pub generations : Generations
  pub given_up : Entries
  pub values : KeptValues

abbrev pub keeping : Sheet → ℕ → Generations → Entries → KeptValues → Keeping
keeping s n gs es k = record { sheet = s; edits = n; generations = gs; given_up = es; values = k }

-- the value under a key that is kept, or was given up in the question
abbrev pub value_in : Keeping → Key → Option Value
value_in q k = option_or (value_for q.values.entries k) (value_for q.given_up k)

-- a question has begun, and nothing is given up yet
abbrev pub begun : KeptSheet → Keeping
begun k = keeping k.stored.sheet k.stored.edits k.generations [] k.values

abbrev pub state_in : Keeping → MemoState
state_in q = record {
  sheet = q.sheet;
  covers = λ c. true;
  generation = generation_in q.generations;
  known = λ c w. value_in q (key_in q.generations c w);
  found = λ c w. is_some (value_in q (key_in q.generations c w));
  kept = λ c w. is_some (value_for q.values.entries (key_in q.generations c w));
  stands = λ k. is_some (value_for q.values.entries k);
  space = q.values.capacity - length q.values.entries;
  capacity = q.values.capacity;
  latest = q.edits;
}

-- kept values stand under keys of their own, and are no more than there is room for
pub record ArePlaced (v : KeptValues) : Type 0 where
  pub within : length v.entries ≤ v.capacity
  pub one_each : HasOneEach v.entries

-- what is kept is right
pub record IsKeepingRight (q : Keeping) : Type 0 where
  pub past : (c : ℕ) → generation_in q.generations c ≤ q.edits
  pub right : AreRight q.sheet q.edits (generation_in q.generations) q.values.entries

-- a copy of the entry that goes, if one does, is put among those that were given up
abbrev pub TakesOver : Option (Key × Value) → Entries → Entries → Type 0
TakesOver None old new = new ≡ old
TakesOver (Some e) old new = PutsIn old new e.0 e.1
