-- What is remembered in one question.
use Rattle.std.specs.Prelude.{◌≡◌, ℕ, true, false, List, is_some, IfSome}
use Rattle.std.specs.Ordering.{nat_cmp}
use Rattle.std.specs.BTreeMap.{BTreeMap, get}
use Rattle.std.specs.BTreeSet.{BTreeSet, contains}
use Rattle.wi_values.specs.declared.replacement.Replacement.{Replacement}
use Rattle.wi_parser.specs.Sheet.{Sheet}
use Rattle.wi_cache.specs.declared.key.Key.{Key}
use Rattle.wi_cache.specs.Entries.{Entries, value_for}
use Rattle.wi_values.specs.Address.{is_one_of}
use Rattle.wi_graph.specs.Reach.{reaches}
use Rattle.wi_engine.specs.Inner.MemoState.{MemoState}

-- a sheet, some of its cells, and the values found of these
pub record OneQuestion : Type 0 where
  pub sheet : Sheet
  pub cells : List ℕ
  pub values : Entries

abbrev pub remembered : Sheet → List ℕ → Entries → OneQuestion
remembered s cells values = record { sheet = s; cells = cells; values = values }

-- no value changes within a question
abbrev pub key_of : ℕ → List Replacement → Key
key_of c w = record { cell = c; generation = 0; world = w }

abbrev pub question_state : OneQuestion → MemoState
question_state q = record {
  sheet = q.sheet;
  covers = is_one_of q.cells;
  generation = λ c. 0;
  known = λ c w. value_for q.values (key_of c w);
  found = λ c w. is_some (value_for q.values (key_of c w));
  kept = λ c w. false;
  stands = λ k. false;
  space = 0;
  capacity = 0;
  latest = 0;
}

-- each cone has, of these cells, those that reach its address
abbrev pub AreCones : Sheet → List ℕ → BTreeMap ℕ (BTreeSet ℕ) → Type 0
AreCones s cells cones = (a c : ℕ) → is_one_of cells c ≡ true → IfSome (get nat_cmp cones a) (λ cone. contains nat_cmp cone c ≡ reaches s c a)
