-- A walk along references, depth first.
use Rattle.std.specs.Prelude.{◌≡◌, ◌==◌, ℕ, ◌+◌, Bool, true, false, ◌||◌, if◌then◌else◌, List, [], ◌∷◌, ◌++◌, drop, length, Option, Some, None, is_some, sum_by}
use Rattle.std.specs.List.{list_any, flat_map}
use Rattle.std.specs.Ordering.{nat_cmp}
use Rattle.std.specs.BTreeMap.{BTreeMap, get}
use Rattle.wi_values.specs.Address.{Area, is_one_of}
use Rattle.wi_parser.specs.Sheet.{Sheet, content_of, has_formula, cells_with_formula}
use Rattle.wi_parser.specs.Reads.{content_reads}
use Rattle.wi_graph.specs.Circular.{circular}
use Rattle.wi_graph.specs.Reach.{Reaches}
use Rattle.wi_sheet.specs.Inner.ReadCells.{rectangles_in, occupied_within, cells_after}
use Rattle.wi_sheet.specs.Inner.ReadOrder.{IsReadOrder}
use Rattle.wi_engine.specs.declared.walk.Progress.{Progress}
use Rattle.wi_engine.specs.declared.walk.Progress.TheVariants.{Open, Done}
use Rattle.wi_engine.specs.declared.walk.Visit.{Visit}

-- what is to be done with a cell: to look at it, or to put it into the order
pub data Task : Type 0 where
  Enter : ℕ → Task
  Leave : ℕ → Task

abbrev pub task_cell : Task → ℕ
task_cell (Enter c) = c
task_cell (Leave c) = c

abbrev pub leaves : Task → ℕ → Bool
leaves (Enter c) a = false
leaves (Leave c) a = c == a

-- one of the tasks is one of this cell
abbrev pub has_task : List Task → ℕ → Bool
has_task ts a = list_any (λ t. task_cell t == a) ts

-- one of the tasks is to leave this cell
abbrev pub has_leave : List Task → ℕ → Bool
has_leave ts a = list_any (λ t. leaves t a) ts

-- c reads a cell that reaches d
abbrev pub LeadsTo : Sheet → ℕ → ℕ → Type 0
LeadsTo s c d = (e : ℕ) × (content_reads (content_of s c) e ≡ true) × Reaches s e d

-- c has a formula, and is to be left once these tasks are done: then all that it reads stands in the order
pub record IsOpen (s : Sheet) (order : List ℕ) (c : ℕ) (ts : List Task) : Type 0 where
  pub formula : has_formula (content_of s c) ≡ true
  pub reads : (d : ℕ) → content_reads (content_of s c) d ≡ true → has_formula (content_of s d) ≡ true → (is_one_of order d || has_task ts d) ≡ true
  pub leads : (d : ℕ) → has_task ts d ≡ true → LeadsTo s c d
  pub fresh : is_one_of order c ≡ false
  pub once : has_leave ts c ≡ false

-- this holds of each cell that is to be left, and of the tasks that are to be done first: the last of them is the next
abbrev pub EachLeave : (ℕ → List Task → Type 0) → List Task → Type 0
EachLeave P [] = Unit {0}
EachLeave P (Enter c ∷ ts) = EachLeave P ts
EachLeave P (Leave c ∷ ts) = P c ts × EachLeave P ts

abbrev pub progress_of : List Task → List ℕ → ℕ → Option Progress
progress_of ts order c = if is_one_of order c then Some Done else (if has_leave ts c then Some Open else None)

-- one of the roots reaches d
abbrev pub IsBelow : Sheet → List ℕ → ℕ → Type 0
IsBelow s roots d = (root : ℕ) × (is_one_of roots root ≡ true) × Reaches s root d

-- a walk from the roots that has these tasks before it, and this order behind it
pub record IsWalk (s : Sheet) (roots : List ℕ) (ts : List Task) (progress : BTreeMap ℕ Progress) (order : List ℕ) : Type 0 where
  pub waiting : EachLeave (IsOpen s order) ts
  pub progressed : (c : ℕ) → get nat_cmp progress c ≡ progress_of ts order c
  pub ordered : IsReadOrder s order
  pub reached : (d : ℕ) → has_task ts d ≡ true → IsBelow s roots d
  pub below : (d : ℕ) → is_one_of order d ≡ true → IsBelow s roots d
  pub rooted : (root : ℕ) → is_one_of roots root ≡ true → has_formula (content_of s root) ≡ true → (is_one_of order root || has_task ts root) ≡ true

-- how many tasks a cell brings to which the walk has not come
abbrev pub tasks_of : Sheet → BTreeMap ℕ Progress → ℕ → ℕ
tasks_of s progress c = if is_some (get nat_cmp progress c) then 0 else length (occupied_within s (rectangles_in (content_of s c))) + 1

-- how many tasks are still to be done, at the most
abbrev pub tasks_left : Sheet → BTreeMap ℕ Progress → List Task → ℕ
tasks_left s progress ts = length ts + sum_by (tasks_of s progress) (cells_with_formula s)

-- ---- the tasks that a path stands for

-- the occupied cells of rectangles after the one last looked at, which is in the first of them
abbrev pub cells_ahead : Sheet → List Area → Option ℕ → List ℕ
cells_ahead s [] o = []
cells_ahead s (r ∷ rs) o = cells_after s r o ++ occupied_within s rs

-- the cells that a visit is still to look at
abbrev pub unread : Sheet → Visit → List ℕ
unread s v = cells_ahead s (drop v.rectangle (rectangles_in (content_of s v.cell))) v.after

-- a visit that has looked at nothing
abbrev pub begun : ℕ → Visit
begun c = record { cell = c; rectangle = 0; after = None }

-- tasks to enter cells, the first of them next
abbrev pub enters : List ℕ → List Task
enters [] = []
enters (c ∷ cs) = enters cs ++ Enter c ∷ []

abbrev pub tasks_at : Sheet → Visit → List Task
tasks_at s v = Leave v.cell ∷ enters (unread s v)

abbrev pub tasks_in : Sheet → List Visit → List Task
tasks_in s path = flat_map (tasks_at s) path

-- in each walk these last tasks, progress and order may give way to those
abbrev pub GoesOn : Sheet → List Task → BTreeMap ℕ Progress → List ℕ → List Task → BTreeMap ℕ Progress → List ℕ → Type 0
GoesOn s ts progress order us new_progress new_order = (roots : List ℕ) (front : List Task) → IsWalk s roots (front ++ ts) progress order → IsWalk s roots (front ++ us) new_progress new_order

-- a walk with these last tasks, progress and order has a circular root
abbrev pub HasCycle : Sheet → List Task → BTreeMap ℕ Progress → List ℕ → Type 0
HasCycle s ts progress order = (roots : List ℕ) (front : List Task) → IsWalk s roots (front ++ ts) progress order → list_any (circular s) roots ≡ true
