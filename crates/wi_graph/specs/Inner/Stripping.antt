-- Cells that are taken away, again and again, where they read none that is still there.
use Rattle.std.specs.Prelude.{◌≡◌, ◌⊎◌, ℕ, Bool, true, false, List, [], Option, Some, None}
use Rattle.std.specs.Ordering.{nat_cmp}
use Rattle.std.specs.Global.{Vec}
use Rattle.std.specs.BTreeMap.{BTreeMap, get}
use Rattle.std.specs.BTreeSet.{BTreeSet, contains}
use Rattle.wi_values.specs.Address.{Area, is_one_of, is_within_one}

-- what is there, or nothing
abbrev pub items_there : {X : Type 0} → Option (Vec X) → List X
items_there None = []
items_there (Some v) = v.items

-- the formula of c reads d
abbrev pub reads_in : BTreeMap ℕ (Vec Area) → ℕ → ℕ → Bool
reads_in areas c d = is_within_one (items_there (get nat_cmp areas c)) d

-- each formula reads the same cells of the set
abbrev pub KeepsReads : BTreeSet ℕ → BTreeMap ℕ (Vec Area) → BTreeMap ℕ (Vec Area) → Type 0
KeepsReads rest old new = (c d : ℕ) → contains nat_cmp rest d ≡ true → reads_in new c d ≡ reads_in old c d

-- the cells that wait for d
abbrev pub waiting_for : BTreeMap ℕ (Vec ℕ) → ℕ → List ℕ
waiting_for waiting d = items_there (get nat_cmp waiting d)

-- c waits for d
abbrev pub waits_for : BTreeMap ℕ (Vec ℕ) → ℕ → ℕ → Bool
waits_for waiting d c = is_one_of (waiting_for waiting d) c

-- c reads none of the set
abbrev pub ReadsNone : BTreeMap ℕ (Vec Area) → BTreeSet ℕ → ℕ → Type 0
ReadsNone areas rest c = (d : ℕ) → reads_in areas c d ≡ true → contains nat_cmp rest d ≡ false

-- c reads one of the set
pub record ReadsOne (areas : BTreeMap ℕ (Vec Area)) (rest : BTreeSet ℕ) (c : ℕ) : Type 0 where
  pub cell : ℕ
  pub read : reads_in areas c cell ≡ true
  pub there : contains nat_cmp rest cell ≡ true

-- each cell of the set that is not pinned reads one of the set
abbrev pub EachReadsOne : BTreeMap ℕ (Vec Area) → BTreeSet ℕ → BTreeSet ℕ → Type 0
EachReadsOne areas pinned rest = (c : ℕ) → contains nat_cmp rest c ≡ true → contains nat_cmp pinned c ≡ false → ReadsOne areas rest c

-- this goes over from what a cell reads to the cell, for each of these cells that is not pinned
abbrev pub GoesUp : BTreeMap ℕ (Vec Area) → BTreeSet ℕ → BTreeSet ℕ → (ℕ → Bool) → Type 0
GoesUp areas pinned all p = (c : ℕ) → contains nat_cmp all c ≡ true → contains nat_cmp pinned c ≡ false →
    ((d : ℕ) → reads_in areas c d ≡ true → contains nat_cmp all d ≡ true → p d ≡ true) → p c ≡ true

-- what goes over so holds of each of these cells that is gone
abbrev pub AreStripped : BTreeMap ℕ (Vec Area) → BTreeSet ℕ → BTreeSet ℕ → BTreeSet ℕ → Type 0
AreStripped areas pinned all rest = (p : ℕ → Bool) → GoesUp areas pinned all p → (c : ℕ) → contains nat_cmp all c ≡ true → contains nat_cmp rest c ≡ false → p c ≡ true

-- each cell of rest is one of all
abbrev pub IsWithin : BTreeSet ℕ → BTreeSet ℕ → Type 0
IsWithin rest all = (c : ℕ) → contains nat_cmp rest c ≡ true → contains nat_cmp all c ≡ true

-- ---- how far it has come

-- c waits for one of the set, which it reads
pub record Waits (areas : BTreeMap ℕ (Vec Area)) (rest : BTreeSet ℕ) (waiting : BTreeMap ℕ (Vec ℕ)) (c : ℕ) : Type 0 where
  pub cell : ℕ
  pub waits : waits_for waiting cell c ≡ true
  pub read : reads_in areas c cell ≡ true
  pub there : contains nat_cmp rest cell ≡ true

-- each cell of the set that is not pinned, but for one, is still to be looked at, or waits for one of the set
pub record IsTracking (areas : BTreeMap ℕ (Vec Area)) (pinned rest : BTreeSet ℕ) (work : List ℕ) (waiting : BTreeMap ℕ (Vec ℕ)) (apart : Option ℕ) : Type 0 where
  pub each : (c : ℕ) → contains nat_cmp rest c ≡ true → contains nat_cmp pinned c ≡ false → (apart ≡ Some c) ⊎ ((is_one_of work c ≡ true) ⊎ Waits areas rest waiting c)
  pub work_unheld : (c : ℕ) → is_one_of work c ≡ true → contains nat_cmp pinned c ≡ false
  pub waiting_unheld : (d c : ℕ) → waits_for waiting d c ≡ true → contains nat_cmp pinned c ≡ false

-- a cell of the set that is not pinned and reads none of it
pub record IsFree (areas : BTreeMap ℕ (Vec Area)) (pinned rest : BTreeSet ℕ) (c : ℕ) : Type 0 where
  pub there : contains nat_cmp rest c ≡ true
  pub unheld : contains nat_cmp pinned c ≡ false
  pub none : ReadsNone areas rest c
