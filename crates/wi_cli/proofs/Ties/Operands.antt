-- Cells and rectangles as they are read, and the commands that have them.
use Rattle.wi_cli.proofs.Vocabulary.{◌≡◌, ◌<◌, ℕ, false, Result, ap₂, arith, nat_tests, ◌||◌, Area, AddressFault, columns, row_of_place, column_of_place, Cell, CornerCells, is_outside, address, area, read_by, Bool, cell, ◌*◌, min, max, true, not, ◌&&◌, ◌==◌, nat_lt, List, [], ◌∷◌, Option, Some, None, if◌then◌else◌, refl, sym, ap, ◌∙◌, subst, list_any, result_err, or_parts, both_ways, or-false, row_of, column_of, size_of, Shape, State, max_area, is_column, is_row, of_operand, worse, line_fault, unless_refused, table_of_one, table_of_two, lies_outside, form, Answer, Ok, ◌++◌, or-true, Reading, IsReadAs, IsStep, placed, second_input, cells_asked, has_row, entries, IsTablePlaced, once, placed_again, spanned_again, set_outside, is_misshaped, addresses, table_step, table_by, no_other, lacks, Command, cleared, clear_outside, clear_step, clear_of, fill_edit, leaves, filled_by, fill_outside, fill_step, area_answer, shown_in, show_step, show_of, exported_in, export_step, export_of_area, compared_in, compare_step, compare_of}
use Rattle.wi_scenarios.specs.Commands.Command.{Set, Clear, Fill, Scenario, Show, Export, Compare, Table, Formula}
use Rattle.wi_values.specs.declared.address.AddressFault.TheVariants.{Outside as AtOutside}
use Rattle.wi_scenarios.specs.Commands.Operands.{corners}
use Rattle.wi_scenarios.proofs.FillSteps.{fill_of}

abbrev pub lies_out : CornerCells → Bool
lies_out r = is_outside r.0 || is_outside r.1

abbrev pub read_cell : Cell → Result ℕ AddressFault
read_cell c = read_by (is_outside c) (address c)

abbrev pub read_area : CornerCells → Result Area AddressFault
read_area r = read_by (lies_out r) (area r)

pub inside : (c : Cell) → is_outside c ≡ false → c.column < columns
inside c e = grind (arith, nat_tests)

abbrev cell_in : ℕ → ℕ → Cell
cell_in row column = record { row = row; column = column }

-- it is that of its address
pub cell_again : (c : Cell) → is_outside c ≡ false → cell (address c) ≡ c
cell_again c e = ap₂ cell_in (row_of_place c.row c.column (inside c e)) (column_of_place c.row c.column (inside c e))

-- ---- as what `table` is read, with one input and with two, and its step

-- ---- faults of operands, one after another

abbrev pub is_shape : Option AddressFault → Bool
is_shape None = false
is_shape (Some Shape) = true
is_shape (Some AtOutside) = false

abbrev is_out : Option AddressFault → Bool
is_out None = false
is_out (Some Shape) = false
is_out (Some AtOutside) = true

abbrev pub worst : List (Option AddressFault) → Option AddressFault
worst [] = None
worst (o ∷ os) = worse o (worst os)

none_bad : (os : List (Option AddressFault)) → list_any is_shape os ≡ false → list_any is_out os ≡ false → worst os ≡ None
none_bad [] h k = refl
none_bad (None ∷ os) h k = none_bad os h k
none_bad (Some Shape ∷ os) h k = absurd (both_ways true h refl)
none_bad (Some AtOutside ∷ os) h k = absurd (both_ways true k refl)

shape_first : (os : List (Option AddressFault)) → list_any is_shape os ≡ true → worst os ≡ Some Shape
shape_first [] h = absurd (both_ways false refl h)
shape_first (None ∷ os) h = shape_first os h
shape_first (Some Shape ∷ os) h = refl
shape_first (Some AtOutside ∷ os) h = ap (worse (Some AtOutside)) (shape_first os h)

outside_next : (os : List (Option AddressFault)) → list_any is_shape os ≡ false → list_any is_out os ≡ true → worst os ≡ Some AtOutside
outside_next [] h k = absurd (both_ways false refl k)
outside_next (None ∷ os) h k = outside_next os h k
outside_next (Some Shape ∷ os) h k = absurd (both_ways true h refl)
outside_next (Some AtOutside ∷ os) h k = by (list_any is_out os) refl (λ j. outside_next os h j)
  where
    by : (b : Bool) → list_any is_out os ≡ b → (list_any is_out os ≡ true → worst os ≡ Some AtOutside) → worse (Some AtOutside) (worst os) ≡ Some AtOutside
    by true e more = ap (worse (Some AtOutside)) (more e)
    by false e more = ap (worse (Some AtOutside)) (none_bad os h e)

last_one : (o : Option AddressFault) → o ≡ worse o None
last_one (Some Shape) = refl
last_one o = refl

cell_shape : (b : Bool) (a : ℕ) → is_shape (result_err (read_by b a)) ≡ false
cell_shape true a = refl
cell_shape false a = refl

cell_out : (b : Bool) (a : ℕ) → is_out (result_err (read_by b a)) ≡ b
cell_out true a = refl
cell_out false a = refl

line_shape : (is_line : Area → Bool) (b line : Bool) (a : Area) → (b ≡ false → is_line a ≡ line) → is_shape (line_fault is_line (read_by b a)) ≡ (not b && not line)
line_shape is_line true line a e = refl
line_shape is_line false true a e = rw (e refl) refl
line_shape is_line false false a e = rw (e refl) refl

shape_out : (v : Bool) → is_out (if v then None else Some Shape) ≡ false
shape_out true = refl
shape_out false = refl

line_out : (is_line : Area → Bool) (b : Bool) (a : Area) → is_out (line_fault is_line (read_by b a)) ≡ b
line_out is_line true a = refl
line_out is_line false a = shape_out (is_line a)

-- a table of these operands, with a second input and its row or without, by the worst of their faults
abbrev pub faults_behind : Option (Result ℕ AddressFault × Result Area AddressFault) → List (Option AddressFault)
faults_behind None = []
faults_behind (Some y) = result_err y.0 ∷ line_fault is_row y.1 ∷ []

module _ (f r : Result ℕ AddressFault) (xs : Result Area AddressFault) where
  abbrev pub faults : Option (Result ℕ AddressFault × Result Area AddressFault) → List (Option AddressFault)
  faults y = result_err f ∷ result_err r ∷ line_fault is_column xs ∷ faults_behind y

  abbrev pub table_reading : Option (Result ℕ AddressFault × Result Area AddressFault) → Reading
  table_reading None = table_of_one f r xs
  table_reading (Some y) = table_of_two f r xs y.0 y.1

  abbrev pub table_command : Option (Result ℕ AddressFault × Result Area AddressFault) → Reading
  table_command None = of_operand f (λ f. of_operand r (λ r. of_operand xs (λ xs. Ok (Table (cell f) (cell r) (corners xs) None))))
  table_command (Some y) =
      of_operand f (λ f. of_operand r (λ r. of_operand xs (λ xs. of_operand y.0 (λ c. of_operand y.1 (λ ys. Ok (Table (cell f) (cell r) (corners xs) (Some (cell c, corners ys))))))))

  pub table_as : (y : Option (Result ℕ AddressFault × Result Area AddressFault)) (o : Option AddressFault) → worst (faults y) ≡ o → table_reading y ≡ unless_refused o (table_command y)
  table_as None o e =
      ap (λ (w : Option AddressFault). unless_refused (worse (result_err f) (worse (result_err r) w)) (table_command None)) (last_one (line_fault is_column xs))
      ∙ ap (λ (w : Option AddressFault). unless_refused w (table_command None)) e
  table_as (Some y) o e =
      ap (λ (w : Option AddressFault). unless_refused (worse (result_err f) (worse (result_err r) (worse (line_fault is_column xs) (worse (result_err y.0) w)))) (table_command (Some y))) (last_one (line_fault is_row y.1))
      ∙ ap (λ (w : Option AddressFault). unless_refused w (table_command (Some y))) e

-- one of these has the wrong shape
pub has_shape : (front back : List (Option AddressFault)) → worst (front ++ (Some Shape ∷ back)) ≡ Some Shape
has_shape front back = shape_first (front ++ (Some Shape ∷ back)) (by front)
  where
    by : (os : List (Option AddressFault)) → list_any is_shape (os ++ (Some Shape ∷ back)) ≡ true
    by [] = refl
    by (o ∷ os) = ap (λ (b : Bool). is_shape o || b) (by os) ∙ or-true (is_shape o)

-- ---- columns and rows

abbrev pub is_large : CornerCells → Bool
is_large r = nat_lt max_area (size_of (area r))

-- the row and the column of a cell, and whether two columns are one
min_max : (a b : ℕ) → (min a b == max a b) ≡ (a == b)
min_max a b = grind (arith, nat_tests)

-- within the sheet two corners are in one column where the rectangle is
column_is : (xs : CornerCells) → (is_outside xs.0 || is_outside xs.1) ≡ false → is_column (area xs) ≡ (xs.0.column == xs.1.column)
column_is xs ex =
    let a : xs.0.column < columns = inside xs.0 (or_parts _ _ ex).0 in
    let b : xs.1.column < columns = inside xs.1 (or_parts _ _ ex).1 in
    let c : column_of (address xs.0) ≡ xs.0.column = column_of_place xs.0.row xs.0.column a in
    let d : column_of (address xs.1) ≡ xs.1.column = column_of_place xs.1.row xs.1.column b in
    let low : column_of (area xs).first ≡ min xs.0.column xs.1.column = column_of_place _ _ (rw (c, d) (omega arith)) ∙ rw (c, d) refl in
    let high : column_of (area xs).last ≡ max xs.0.column xs.1.column = column_of_place _ _ (rw (c, d) (omega arith)) ∙ rw (c, d) refl in
    ap (λ (n : ℕ). n == column_of (area xs).last) low ∙ ap (λ (n : ℕ). min xs.0.column xs.1.column == n) high ∙ min_max xs.0.column xs.1.column

-- within the sheet two corners are in one row where the rectangle is
row_is : (ys : CornerCells) → (is_outside ys.0 || is_outside ys.1) ≡ false → is_row (area ys) ≡ (ys.0.row == ys.1.row)
row_is ys ey =
    let a : ys.0.column < columns = inside ys.0 (or_parts _ _ ey).0 in
    let b : ys.1.column < columns = inside ys.1 (or_parts _ _ ey).1 in
    let c : column_of (address ys.0) ≡ ys.0.column = column_of_place ys.0.row ys.0.column a in
    let d : column_of (address ys.1) ≡ ys.1.column = column_of_place ys.1.row ys.1.column b in
    let e : row_of (address ys.0) ≡ ys.0.row = row_of_place ys.0.row ys.0.column a in
    let f : row_of (address ys.1) ≡ ys.1.row = row_of_place ys.1.row ys.1.column b in
    let low : row_of (area ys).first ≡ min ys.0.row ys.1.row = row_of_place _ _ (rw (c, d) (omega arith)) ∙ rw (e, f) refl in
    let high : row_of (area ys).last ≡ max ys.0.row ys.1.row = row_of_place _ _ (rw (c, d) (omega arith)) ∙ rw (e, f) refl in
    ap (λ (n : ℕ). n == row_of (area ys).last) low ∙ ap (λ (n : ℕ). min ys.0.row ys.1.row == n) high ∙ min_max ys.0.row ys.1.row

-- ---- as it is read, and its step

abbrev read_second : Option (Cell × CornerCells) → Option (Result ℕ AddressFault × Result Area AddressFault)
read_second None = None
read_second (Some y) = Some (read_cell y.0, read_area y.1)

module _ (f r : Cell) (xs : CornerCells) where
  abbrev faults_of : Option (Cell × CornerCells) → List (Option AddressFault)
  faults_of y = faults (read_cell f) (read_cell r) (read_area xs) (read_second y)

  abbrev reading : Option (Cell × CornerCells) → Reading
  reading y = table_reading (read_cell f) (read_cell r) (read_area xs) (read_second y)

  abbrev out : Option (Cell × CornerCells) → Bool
  out y = list_any lies_outside (form (Table f r xs y))

  abbrev is_many : Option (Cell × CornerCells) → Bool
  is_many y = nat_lt max_area (cells_asked (form (Table f r xs y)))

  column_shape : is_shape (line_fault is_column (read_area xs)) ≡ (not (lies_out xs) && not (xs.0.column == xs.1.column))
  column_shape = line_shape is_column (lies_out xs) (xs.0.column == xs.1.column) (area xs) (column_is xs)

  shapes : (y : Option (Cell × CornerCells)) → list_any is_shape (faults_of y) ≡ is_misshaped xs y
  shapes None = ap₂ ◌||◌ (cell_shape (is_outside f) (address f)) (ap₂ ◌||◌ (cell_shape (is_outside r) (address r)) (or-false _ ∙ column_shape))
  shapes (Some y) =
      ap₂ ◌||◌ (cell_shape (is_outside f) (address f)) (ap₂ ◌||◌ (cell_shape (is_outside r) (address r)) (ap₂ ◌||◌ column_shape (ap₂ ◌||◌ (cell_shape (is_outside y.0) (address y.0))
      (or-false _ ∙ line_shape is_row (lies_out y.1) (y.1.0.row == y.1.1.row) (area y.1) (row_is y.1)))))

  outs : (y : Option (Cell × CornerCells)) → list_any is_out (faults_of y) ≡ out y
  outs None =
      ap₂ ◌||◌ (cell_out (is_outside f) (address f)) (ap₂ ◌||◌ (cell_out (is_outside r) (address r)) (ap (λ (b : Bool). b || false) (line_out is_column (lies_out xs) (area xs))))
  outs (Some y) =
      ap₂ ◌||◌ (cell_out (is_outside f) (address f)) (ap₂ ◌||◌ (cell_out (is_outside r) (address r)) (ap₂ ◌||◌ (line_out is_column (lies_out xs) (area xs))
      (ap₂ ◌||◌ (cell_out (is_outside y.0) (address y.0)) (ap (λ (b : Bool). b || false) (line_out is_row (lies_out y.1) (area y.1))))))

  -- none of them is outside
  inside_of : (rest : Bool) → (is_outside f || (is_outside r || (lies_out xs || rest))) ≡ false → (is_outside f ≡ false) × (is_outside r ≡ false) × (lies_out xs ≡ false) × (rest ≡ false)
  inside_of rest e =
      let p = or_parts (is_outside f) (is_outside r || (lies_out xs || rest)) e in
      let q = or_parts (is_outside r) (lies_out xs || rest) p.1 in
      let t = or_parts (lies_out xs) rest q.1 in
      (p.0, q.0, t.0, t.1)

  second_inside : (c : Cell) (ys : CornerCells) → (is_outside c || (lies_out ys || false)) ≡ false → (is_outside c ≡ false) × (lies_out ys ≡ false)
  second_inside c ys e = let p = or_parts (is_outside c) (lies_out ys || false) e in (p.0, (or_parts (lies_out ys) false p.1).0)

  -- it is of the sheet then
  command_is : (y : Option (Cell × CornerCells)) → out y ≡ false → table_command (read_cell f) (read_cell r) (read_area xs) (read_second y) ≡ Ok (placed (Table f r xs y))
  command_is None e = let k = inside_of false e in rw (k.0, k.1, k.2) refl
  command_is (Some y) e = let k = inside_of (is_outside y.0 || (lies_out y.1 || false)) e in let l = second_inside y.0 y.1 k.3 in rw (k.0, k.1, k.2, l.0, l.1) refl

  by_operands : (y : Option (Cell × CornerCells)) (b o : Bool) → is_misshaped xs y ≡ b → out y ≡ o → IsReadAs (Table f r xs y) (reading y)
  by_operands y true o eb eo =
      subst (λ (w : Reading). IsReadAs (Table f r xs y) w) (sym (table_as (read_cell f) (read_cell r) (read_area xs) (read_second y) (Some Shape) (shape_first (faults_of y) (shapes y ∙ eb))))
      (λ s. table_step s f r xs y true o (is_many y) eb eo refl)
  by_operands y false true eb eo =
      subst (λ (w : Reading). IsReadAs (Table f r xs y) w) (sym (table_as (read_cell f) (read_cell r) (read_area xs) (read_second y) (Some AtOutside) (outside_next (faults_of y) (shapes y ∙ eb) (outs y ∙ eo))))
      (λ s. table_step s f r xs y false true (is_many y) eb eo refl)
  by_operands y false false eb eo =
      subst (λ (w : Reading). IsReadAs (Table f r xs y) w) (sym (table_as (read_cell f) (read_cell r) (read_area xs) (read_second y) None (none_bad (faults_of y) (shapes y ∙ eb) (outs y ∙ eo)) ∙ command_is y eo)) (eo, refl)

  pub table_read : (y : Option (Cell × CornerCells)) → IsReadAs (Table f r xs y) (reading y)
  table_read y = by_operands y (is_misshaped xs y) (out y) refl refl

  -- a step of a table of the sheet
  table_placed : (y : Option (Cell × CornerCells)) → IsTablePlaced (address f) (address r) (area xs) (addresses y) → (not (is_column (area xs)) || not (has_row (addresses y))) ≡ is_misshaped xs y
      → nat_lt max_area (entries (area xs) (addresses y)) ≡ is_many y → (s : State) → out y ≡ false → (a : Answer)
      → IsStep s (Table (cell (address f)) (cell (address r)) (corners (area xs)) (second_input (addresses y))) a → IsStep s (Table f r xs y) a
  table_placed y all eb el s eo a h =
      subst (λ (x : Answer). IsStep s (Table f r xs y) x)
      (no_other s (Table (cell (address f)) (cell (address r)) (corners (area xs)) (second_input (addresses y))) _ a (table_by s (address f) (address r) (area xs) (addresses y) all (is_misshaped xs y) (is_many y) eb el) h)
      (table_step s f r xs y (is_misshaped xs y) false (is_many y) refl eo refl)

  pub table_spans : (y : Option (Cell × CornerCells)) (s : State) → out y ≡ false → (a : Answer) → IsStep s (placed (Table f r xs y)) a → IsStep s (Table f r xs y) a
  table_spans None s e a h =
      let k = inside_of false e in
      table_placed None (record { formula_cell = placed_again f k.0; input = placed_again r k.1; column = spanned_again xs k.2; second = tt })
      (ap (λ (b : Bool). not b || false) (column_is xs k.2) ∙ or-false (not (xs.0.column == xs.1.column)) ∙ ap (λ (b : Bool). not b && not (xs.0.column == xs.1.column)) (sym k.2)) refl s e a h
  table_spans (Some y) s e a h =
      let k = inside_of (is_outside y.0 || (lies_out y.1 || false)) e in
      let l = second_inside y.0 y.1 k.3 in
      table_placed (Some y) (record { formula_cell = placed_again f k.0; input = placed_again r k.1; column = spanned_again xs k.2; second = (placed_again y.0 l.0, spanned_again y.1 l.1) })
      (ap₂ (λ (a b : Bool). not a || not b) (column_is xs k.2) (row_is y.1 l.1)
      ∙ ap₂ (λ (a b : Bool). (not a && not (xs.0.column == xs.1.column)) || (not b && not (y.1.0.row == y.1.1.row))) (sym k.2) (sym l.1))
      (ap (λ (n : ℕ). nat_lt max_area (size_of (area xs) * n)) (sym (once (size_of (area y.1))))) s e a h

-- ---- where its operands lie in the sheet a command has the answers of the one that is read

module _ (s : State) where
  -- where one answer is that of both
  same_answer : (c d : Command) (found : Answer) → IsStep s c found → IsStep s d found → (a : Answer) → IsStep s d a → IsStep s c a
  same_answer c d found h k a l = subst (IsStep s c) (no_other s d found a k l) h

  pub spans : (c : Command) → list_any lies_outside (form c) ≡ false → (a : Answer) → IsStep s (placed c) a → IsStep s c a
  spans (Set force at text) e a h = subst (λ (x : Cell). IsStep s (Set force x text) a) (cell_again at (sym (set_outside force at text) ∙ e)) h
  spans (Clear force r) e a h =
      let o : lies_out r ≡ false = sym (clear_outside force (lies_out r) r refl) ∙ e in
      same_answer (Clear force r) (Clear force (corners (area r))) (cleared s force (area r)) (clear_step s force r false o) (clear_of s force (area r) (spanned_again r o)) a h
  spans (Fill force c r) e a h =
      let o = or_parts (is_outside c) (lies_out r) (sym (fill_outside force (is_outside c) (lies_out r) c r refl refl) ∙ e) in
      let large = nat_lt max_area (size_of (area r)) in
      let out = leaves s (address c) (area r) in
      same_answer (Fill force c r) (placed (Fill force c r)) (filled_by s force large out (fill_edit s.stored.sheet (address c) (area r))) (fill_step s force c r o.0 o.1 large out refl refl)
      (fill_of s force (address c) (area r) (placed_again c o.0) (spanned_again r o.1) large out refl refl) a h
  spans (Scenario name at text) e a h = subst (λ (x : Cell). IsStep s (Scenario name x text) a) (cell_again at (or_parts (is_outside at) false e).0) h
  spans (Show r) e a h =
      let o : lies_out r ≡ false = (or_parts (lies_out r) false e).0 in
      same_answer (Show r) (Show (corners (area r))) (area_answer false (is_large r) false (shown_in s r (area r))) (show_step s r false (is_large r) o refl) (show_of s (area r) (spanned_again r o) (is_large r) refl) a h
  spans (Export r) e a h =
      let o : lies_out r ≡ false = (or_parts (lies_out r) false e).0 in
      same_answer (Export r) (Export (corners (area r))) (area_answer false (is_large r) false (exported_in s r (area r))) (export_step s r false (is_large r) o refl)
      (export_of_area s (area r) (spanned_again r o) (is_large r) refl) a h
  spans (Compare p q r) e a h =
      let o : lies_out r ≡ false = (or_parts (lies_out r) false e).0 in
      let lacking = lacks s.scenarios p || lacks s.scenarios q in
      same_answer (Compare p q r) (Compare p q (corners (area r))) (area_answer false (is_large r) lacking (compared_in s r p q (area r))) (compare_step s r false (is_large r) o refl p q lacking refl)
      (compare_of s (area r) (spanned_again r o) (is_large r) refl p q lacking refl) a h
  spans (Table f r xs y) e a h = table_spans f r xs y s e a h
  spans (Formula at) e a h = subst (λ (x : Cell). IsStep s (Formula x) a) (cell_again at (or_parts (is_outside at) false e).0) h
  spans c e a h = h
