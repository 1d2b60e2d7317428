-- A search over readers, from some cells on.
use Rattle.std.specs.Prelude.{◌≡◌, ◌⊎◌, ℕ, ◌+◌, ◌≤◌, Bool, true, false, ◌||◌, not, List, filter, length}
use Rattle.std.specs.Ordering.{nat_cmp}
use Rattle.std.specs.BTreeSet.{BTreeSet, contains}
use Rattle.std.specs.List.Sorted.{IsStrictlyIncreasing}
use Rattle.wi_ranges.specs.Bag.{Bag, IsReader}
use Rattle.wi_ranges.specs.Inner.Rising.{as_set}
use Rattle.wi_values.specs.Address.{is_one_of}

-- the set has each of these cells
abbrev pub HasAll : List ℕ → BTreeSet ℕ → Type 0
HasAll cells found = (c : ℕ) → is_one_of cells c ≡ true → contains nat_cmp found c ≡ true

-- the set has all that read one of it
abbrev pub HasReaders : Bag → BTreeSet ℕ → Type 0
HasReaders readers found = (a r : ℕ) → contains nat_cmp found a ≡ true → IsReader readers a r → contains nat_cmp found r ≡ true

-- this goes over from a cell to all that read it
abbrev pub GoesToReaders : Bag → (ℕ → Bool) → Type 0
GoesToReaders readers p = (a r : ℕ) → p a ≡ true → IsReader readers a r → p r ≡ true

-- what holds of these cells, and goes over to readers, holds of each in the set
abbrev pub IsLeast : Bag → List ℕ → BTreeSet ℕ → Type 0
IsLeast readers cells found = (p : ℕ → Bool) → ((c : ℕ) → is_one_of cells c ≡ true → p c ≡ true) → GoesToReaders readers p →
    (c : ℕ) → contains nat_cmp found c ≡ true → p c ≡ true

-- the set has these cells and all that read one of it, and no other
abbrev pub IsConeSet : Bag → List ℕ → BTreeSet ℕ → Type 0
IsConeSet readers cells found = HasAll cells found × HasReaders readers found × IsLeast readers cells found

-- the list has these cells and all that read one of it, each once and in order, and no other
pub record IsConeOf (readers : Bag) (cells list : List ℕ) : Type 0 where
  pub order : IsStrictlyIncreasing list
  pub all : HasAll cells (as_set list)
  pub closed : HasReaders readers (as_set list)
  pub least : IsLeast readers cells (as_set list)

-- those of the list that aren't watched
abbrev pub beyond : (ℕ → Bool) → List ℕ → List ℕ
beyond watched cells = filter (λ c. not (watched c)) cells

-- the set has those of these cells, and of all that read one of it, that aren't watched, and no other
pub record IsConeBeyond (readers : Bag) (watched : ℕ → Bool) (cells : List ℕ) (found : BTreeSet ℕ) : Type 0 where
  pub all : HasAll (beyond watched cells) found
  pub closed : (a r : ℕ) → contains nat_cmp found a ≡ true → IsReader readers a r → watched r ≡ false → contains nat_cmp found r ≡ true
  pub unwatched : (c : ℕ) → contains nat_cmp found c ≡ true → watched c ≡ false
  pub least : IsLeast readers cells found

-- the list has them, each once and in order
pub record IsListBeyond (readers : Bag) (watched : ℕ → Bool) (cells list : List ℕ) : Type 0 where
  pub order : IsStrictlyIncreasing list
  pub cone : IsConeBeyond readers watched cells (as_set list)

-- those of the list that the set lacks
abbrev pub missing : BTreeSet ℕ → List ℕ → List ℕ
missing found cells = filter (λ c. not (contains nat_cmp found c)) cells

-- cells were put into a set, and those that were new there at the end of a list
pub record AreEnqueued (cells : List ℕ) (old new : BTreeSet ℕ) (before after : List ℕ) : Type 0 where
  pub found : (c : ℕ) → contains nat_cmp new c ≡ (contains nat_cmp old c || is_one_of cells c)
  pub stays : (c : ℕ) → is_one_of before c ≡ true → is_one_of after c ≡ true
  pub fresh : (c : ℕ) → contains nat_cmp new c ≡ true → contains nat_cmp old c ≡ false → is_one_of after c ≡ true
  pub within : (c : ℕ) → is_one_of after c ≡ true → (is_one_of before c ≡ true) ⊎ (contains nat_cmp new c ≡ true)
  pub fewer : (all : List ℕ) → ((c : ℕ) → is_one_of cells c ≡ true → is_one_of all c ≡ true) → length (missing new all) + length after ≤ length (missing old all) + length before
