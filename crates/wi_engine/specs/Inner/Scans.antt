-- Which cells are found together with one that a formula lacks.
use Rattle.std.specs.Prelude.{◌≡◌, ◌==◌, ◌≤◌, ◌*◌, ◌-◌, ◌^◌, ◌⊎◌, min, ℕ, Bool, true, false, ◌&&◌, nat_lt, List, [], ◌∷◌, take, Contains}
use Rattle.wi_values.specs.Address.{Area, place, row_of, column_of, rect_of, is_within, size_of}
use Rattle.wi_parser.specs.Tree.{Tree}
use Rattle.wi_parser.specs.Sheet.{Sheet}
use Rattle.wi_parser.specs.Reads.{cell_area, rectangles_of}
use Rattle.wi_engine.specs.Inner.Attempt.{lacking_after}
use Rattle.wi_engine.specs.declared.scan.Scan.{Scan}
use Rattle.wi_engine.specs.declared.scan.Way.{Way}
use Rattle.wi_engine.specs.declared.scan.Way.TheVariants.{Alone, Row, Column, Whole}
use Rattle.wi_engine.specs.declared.frame.Frame.{Frame}

-- how often a scan may break before more than one cell is found at a break
abbrev pub max_breaks : ℕ
max_breaks = 8

-- the part of a rectangle through which a way leads from a cell: the cell, its row or its column there, or the whole
abbrev pub part : Area → Way → ℕ → Area
part r Alone a = cell_area a
part r Row a = rect_of (place (row_of a) (column_of r.first)) (place (row_of a) (column_of r.last))
part r Column a = rect_of (place (row_of r.first) (column_of a)) (place (row_of r.last) (column_of a))
part r Whole a = r

-- a scan leaves a line of the rectangle for those beside it
abbrev pub leaves_line : Way → Way → Bool
leaves_line Row Whole = true
leaves_line Column Whole = true
leaves_line v w = false

-- twice as many, as far as that can be counted
abbrev pub twice_as_many : ℕ → ℕ
twice_as_many n = min (n * 2) (2 ^ 64 - 1)

abbrev pub is_first : ℕ → List ℕ → Bool
is_first a [] = false
is_first a (x ∷ xs) = x == a

-- the cell is the next one that a frame lacks after the last one of a scan, in the part through which this way leads
abbrev pub is_next : Sheet → Frame → Scan → Way → ℕ → Bool
is_next s f c way a =
    (is_within (part c.rectangle way a) c.last && nat_lt c.last a)
    && is_first a (lacking_after s f.key.world f.found (part c.rectangle way a) c.last)

-- Up to twice as many cells are found as before, of the same rectangle. The one that is wanted is the next one, or the
-- scan has broken often.
pub record IsLedOn (s : Sheet) (f : Frame) (a : ℕ) (old c : Scan) : Type 0 where
  pub one_of : Contains f.scans.items old
  pub rectangle : old.rectangle ≡ c.rectangle
  pub twice : c.count ≤ 2 * old.count
  pub next : (is_next s f old c.way a ≡ true) ⊎ (max_breaks ≤ old.breaks)

-- the scan of a rectangle with this cell wanted: it is found alone, or the scan is led on
abbrev pub IsScanTo : Sheet → Frame → ℕ → Scan → Type 0
IsScanTo s f a c = (c.count ≤ 1) ⊎ ((old : Scan) × IsLedOn s f a old c)

-- the rectangle is one of these, it holds the cell, and none of these that holds it has fewer cells
pub record IsSmallestWith (rs : List Area) (a : ℕ) (r : Area) : Type 0 where
  pub one_of : Contains rs r
  pub holds : is_within r a ≡ true
  pub least : (o : Area) → Contains rs o → is_within o a ≡ true → size_of r ≤ size_of o

-- The cells are this one and the next ones that a frame lacks of a part of one rectangle that the formula reads, a
-- smallest that holds the cell: as many as its scan says, or all that there are.
pub record AreTogether (s : Sheet) (f : Frame) (t : Tree) (a : ℕ) (c : Scan) (xs : List ℕ) : Type 0 where
  pub smallest : IsSmallestWith (rectangles_of t) a c.rectangle
  pub cells : xs ≡ a ∷ take (c.count - 1) (lacking_after s f.key.world f.found (part c.rectangle c.way a) a)
  pub count : IsScanTo s f a c
