-- The number of the last edit that a cell's value may rest on, by the numbers of the edits that named cells.
use Rattle.std.specs.Prelude.{◌≡◌, ◌⊎◌, ◌≤◌, ◌&&◌, ◌||◌, ℕ, max, Bool, true, false, not, List, [], ◌∷◌, cond}
use Rattle.wi_parser.specs.Sheet.{Sheet, content_of}
use Rattle.wi_parser.specs.Reads.{content_reads}
use Rattle.wi_values.specs.Address.{is_one_of}
use Rattle.wi_graph.specs.Reach.{Reaches, SameOff, reaches, in_cone}
use Rattle.wi_graph.specs.Watched.{IsClosedUp}

-- an edit of this number named these cells
abbrev pub numbered : List ℕ → ℕ → (ℕ → ℕ) → ℕ → ℕ
numbered xs k number d = cond (is_one_of xs d) k (number d)

-- n is the greatest number of the cells that c reaches, and 0 where none of them has a number
pub record IsLatest (s : Sheet) (number : ℕ → ℕ) (c n : ℕ) : Type 0 where
  pub most : (d : ℕ) → Reaches s c d → number d ≤ n
  pub reached : (n ≡ 0) ⊎ ((d : ℕ) × Reaches s c d × (number d ≡ n))

-- An edit that is later than all before is the latest of each cell of its cone, and no other cell's latest is another.
abbrev pub LatestOfCone : Type 0
LatestOfCone = (s t : Sheet) (xs : List ℕ) (number : ℕ → ℕ) (k c : ℕ) → SameOff s t xs → ((d : ℕ) → number d ≤ k) →
    (in_cone s xs c ≡ true → IsLatest t (numbered xs k number) c k)
    × (in_cone s xs c ≡ false → (n : ℕ) → IsLatest s number c n → IsLatest t (numbered xs k number) c n)

-- there is one
abbrev pub OneIsLatest : Type 0
OneIsLatest = (s : Sheet) (number : ℕ → ℕ) (c m n : ℕ) → IsLatest s number c m → IsLatest s number c n → m ≡ n

-- a cell's latest is no earlier than that of a cell that it reads
abbrev pub LatestRises : Type 0
LatestRises = (s : Sheet) (number : ℕ → ℕ) (c d m n : ℕ) → content_reads (content_of s c) d ≡ true → IsLatest s number d m → IsLatest s number c n → m ≤ n

-- It is the greatest of its own number and the latest of the cells that it reads.
abbrev pub LatestByStep : Type 0
LatestByStep = (s : Sheet) (number latest : ℕ → ℕ) (c n : ℕ) → ((d : ℕ) → content_reads (content_of s c) d ≡ true → IsLatest s number d (latest d)) →
    number c ≤ n → ((d : ℕ) → content_reads (content_of s c) d ≡ true → latest d ≤ n) →
    (number c ≡ n) ⊎ ((d : ℕ) × (content_reads (content_of s c) d ≡ true) × (latest d ≡ n)) → IsLatest s number c n

-- ---- latest edits that are stamped late

-- Each cell is stamped with its latest, or it is that of a dirty cell which it reaches; no stamp is later.
pub record IsDirty (s : Sheet) (number : ℕ → ℕ) (dirty : List ℕ) (stamped : ℕ → ℕ) (c n : ℕ) : Type 0 where
  pub no_later : stamped c ≤ n
  pub stamped_or_dirty : (stamped c ≡ n) ⊎ ((x : ℕ) × (is_one_of dirty x ≡ true) × Reaches s c x × (number x ≡ n))

abbrev pub AreDirty : Sheet → (ℕ → ℕ) → List ℕ → (ℕ → ℕ) → Type 0
AreDirty s number dirty stamped = (c n : ℕ) → IsLatest s number c n → IsDirty s number dirty stamped c n

-- no formula reads the cell
abbrev pub IsUnread : Sheet → ℕ → Type 0
IsUnread s x = (c : ℕ) → content_reads (content_of s c) x ≡ false

-- An edit stamps its cells, and those of them that are read are dirty, beside those that were.
abbrev pub EditDirties : Type 0
EditDirties = (s t : Sheet) (xs dirty more : List ℕ) (number stamped : ℕ → ℕ) (k : ℕ) → SameOff s t xs → ((d : ℕ) → number d ≤ k) →
    ((x : ℕ) → is_one_of xs x ≡ true → (is_one_of more x ≡ true) ⊎ IsUnread s x) → ((x : ℕ) → is_one_of dirty x ≡ true → is_one_of more x ≡ true) → ((c : ℕ) → (n : ℕ) × IsLatest s number c n) →
    AreDirty s number dirty stamped → AreDirty t (numbered xs k number) more (numbered xs k stamped)

-- where none is dirty, the latest is the stamp
abbrev pub NoneIsDirty : Type 0
NoneIsDirty = (s : Sheet) (number stamped : ℕ → ℕ) (dirty : List ℕ) (c n : ℕ) → ((x : ℕ) → is_one_of dirty x ≡ false) → AreDirty s number dirty stamped → IsLatest s number c n → stamped c ≡ n

-- The rest is dirty, and no visited cell has a stamp earlier than this.
pub record IsFlushing (s : Sheet) (number stamped : ℕ → ℕ) (rest : List ℕ) (visited : ℕ → Bool) (last : ℕ) : Type 0 where
  pub dirty : AreDirty s number rest stamped
  pub closed : IsClosedUp s visited
  pub high : (c : ℕ) → visited c ≡ true → last ≤ stamped c

-- So the cells are flushed one after another, later edits first: each stamps those cells of its cone that weren't
-- visited.
abbrev pub FlushesOne : Type 0
FlushesOne = (s : Sheet) (number stamped after : ℕ → ℕ) (rest less : List ℕ) (x last : ℕ) (visited now : ℕ → Bool) →
    ((y : ℕ) → is_one_of rest y ≡ true → (x ≡ y) ⊎ (is_one_of less y ≡ true)) → number x ≤ last →
    ((c : ℕ) → now c ≡ (visited c || in_cone s (x ∷ []) c)) → ((c : ℕ) → after c ≡ cond (in_cone s (x ∷ []) c && not (visited c)) (max (stamped c) (number x)) (stamped c)) →
    IsFlushing s number stamped rest visited last → IsFlushing s number after less now (number x)

-- Before the first, none was visited. So it may begin again where a later edit comes behind an earlier one.
abbrev pub FlushingBegins : Type 0
FlushingBegins = (s : Sheet) (number stamped : ℕ → ℕ) (rest : List ℕ) (visited : ℕ → Bool) (last : ℕ) → ((c : ℕ) → visited c ≡ false) → AreDirty s number rest stamped → IsFlushing s number stamped rest visited last

-- What is dirty stays so where more is stamped, but nothing later than the latest, and more cells are dirty: also where
-- memory ran out half way.
abbrev pub DirtyStays : Type 0
DirtyStays = (s : Sheet) (number stamped after : ℕ → ℕ) (dirty more : List ℕ) → ((x : ℕ) → is_one_of dirty x ≡ true → is_one_of more x ≡ true) →
    ((c n : ℕ) → IsLatest s number c n → (stamped c ≤ after c) × (after c ≤ n)) → AreDirty s number dirty stamped → AreDirty s number more after

-- ---- a list of numbers

-- the greatest number of those of some cells that c reaches
abbrev pub latest_among : Sheet → (ℕ → ℕ) → List ℕ → ℕ → ℕ
latest_among s number [] c = 0
latest_among s number (k ∷ ks) c = max (cond (reaches s c k) (number k) 0) (latest_among s number ks c)

-- It is the latest, where no other cell has a number.
abbrev pub LatestIsAmong : Type 0
LatestIsAmong = (s : Sheet) (number : ℕ → ℕ) (ks : List ℕ) (c : ℕ) → ((d : ℕ) → is_one_of ks d ≡ false → number d ≡ 0) → IsLatest s number c (latest_among s number ks c)
