-- As what the operands behind a name are read, and the command that they spell.
use Rattle.wi_cli.proofs.Vocabulary.{◌≡◌, Bool, Err, None, Ok, Option, Result, Some, [], ap, arith, false, if◌then◌else◌, inl, inr, length, option_map, refl, subst, sym, true, ℕ, ◌==◌, ◌||◌, ◌∙◌, ◌∷◌, or-false, nat_tests, result_err, fill_of, A_NAME, END, MAYBE, Reading, is_all_spaces, line_fault, of_name, of_operand, read_any, read_any_area, read_by, read_side, spelled_cell, spelled_rect, IsRead, IsReadAs, IsReading, table_of_one, table_of_two, Bytes, after_word, first_word, lacks, BadCommand, BadLine, Command, Unknown, Unreadable, Cell, CornerCells, is_outside, IsStep, State, Refusal, Area, is_column, is_row, read_address, read_rect, read_name, AddressFault, Shape, made, spelled, at_end, both, address, area, Values, AND, A_CELL, A_RECT, name_or_none, only_name, table_behind, cell, outside_first, set_none, set_outside, clear_outside, clear_step, fill_outside, fill_out, show_step, export_step, compare_step, Verb, form_of, ReadCommand}
use Rattle.wi_scenarios.specs.Commands.Command.{Set, Clear, Fill, Scenario, Drop, Base, Use, As, Show, Export, Changes, Compare, Formula}
use Rattle.wi_cli.specs.Inner.Forms.{SET, CLEAR, FILL, SCENARIO, DROP, BASE, USE, AS, SHOW, EXPORT, CHANGES, COMPARE, TABLE, FORMULA}
use Rattle.wi_scenarios.specs.declared.refusal.Refusal.TheVariants as refusal
use Rattle.wi_scenarios.specs.Commands.Operands.{corners}
use Rattle.wi_cli.proofs.Ties.Operands.{lies_out, read_cell, read_area, is_large, worst, has_shape, faults, faults_behind, table_reading, table_as, table_read}
use Rattle.wi_cli.proofs.Ties.Addresses.{same_addr, same_rect}

pub unknown : IsReadAs Unknown (Err refusal.BadCommand)
unknown s = (BadCommand, inr (λ h. h, inl (tt, refl)), refl)

pub unreadable : IsReadAs Unreadable (Err refusal.BadLine)
unreadable s = (BadLine, inl (tt, refl), refl)

-- a reading that is refused as no command
bad : (c : Command) (w : Reading) → w ≡ Err refusal.BadCommand → c ≡ Unknown → IsReadAs c w
bad c w e same = subst (λ (v : Reading). IsReadAs c v) (sym e) (subst (λ (d : Command). IsReadAs d (Err refusal.BadCommand)) (sym same) unknown)

-- whether no word is left
abbrev ended : Bool → Option (Unit {0})
ended b = if b then Some tt else None

abbrev pub compare_words : Bytes → Bytes → Bytes → Reading
compare_words one two area = of_name (read_side one) (λ s. of_name (read_side two) (λ t. of_operand (read_rect area) (λ cells. Ok (Compare s t (corners cells)))))

-- as what the operands of each are read
abbrev pub reading : Verb → Bytes → Reading
reading (SET force) text = if length (after_word text) == 0 then Err refusal.BadCommand else of_operand (read_address (first_word text)) (λ at. Ok (Set force (cell at) (after_word text)))
reading (CLEAR force) text = at_end (after_word text) (of_operand (read_rect (first_word text)) (λ a. Ok (Clear force (corners a))))
reading (FILL force) text = at_end (after_word (after_word text)) (fill_of force (read_address (first_word text)) (read_rect (first_word (after_word text))))
reading SCENARIO text = of_name (read_name (first_word text)) (λ name. of_operand (read_address (first_word (after_word text))) (λ at. Ok (Scenario name (cell at) (after_word (after_word text)))))
reading DROP text = of_name (only_name text) (λ n. Ok (Drop n))
reading BASE text = of_name (read_name (first_word text)) (λ name. of_name (name_or_none (after_word text)) (λ other. Ok (Base name other)))
reading USE text = of_name (name_or_none text) (λ name. Ok (Use name))
reading AS text = of_name (only_name text) (λ n. Ok (As n))
reading SHOW text = at_end (after_word text) (of_operand (read_rect (first_word text)) (λ a. Ok (Show (corners a))))
reading EXPORT text = at_end (after_word text) (of_operand (read_rect (first_word text)) (λ a. Ok (Export (corners a))))
reading CHANGES text = at_end text (Ok Changes)
reading COMPARE text =
    at_end (after_word (after_word (after_word text))) (compare_words (first_word text) (first_word (after_word text)) (first_word (after_word (after_word text))))
reading TABLE text =
    table_behind (read_address (first_word text)) (read_address (first_word (after_word text))) (read_rect (first_word (after_word (after_word text)))) (after_word (after_word (after_word text)))
reading FORMULA text = at_end (after_word text) (of_operand (read_address (first_word text)) (λ at. Ok (Formula (cell at))))

-- ---- a cell or a rectangle of the sheet, or outside

of_read : {X Y : Type 0} (f : X → Command) (x : X) (again : Y → X) (y : Y) (out : Bool) → (out ≡ true → (s : State) → IsStep s (f x) (Err refusal.OutOfSheet)) → (out ≡ false → IsReadAs (f x) (Ok (f (again y))))
    → IsReadAs (f x) (of_operand (read_by out y) (λ v. Ok (f (again v))))
of_read f x again y true outside within = outside refl
of_read f x again y false outside within = within refl

-- one rectangle, and no word behind it
module _ (f : CornerCells → Command) (is : (r : CornerCells) → IsReadAs (f r) (of_operand (read_area r) (λ a. Ok (f (corners a))))) where
  by_rect : (b : Bool) (o : Option CornerCells)
      → IsReadAs (made (both o (ended b)) (λ v. f v.0)) (if b then of_operand (read_any_area o) (λ a. Ok (f (corners a))) else Err refusal.BadCommand)
  by_rect true (Some r) = is r
  by_rect false (Some r) = unknown
  by_rect b o = unknown

  rect_read : (text : Bytes) → IsReadAs (made (both (spelled_rect (first_word text)) (ended (is_all_spaces (after_word text)))) (λ v. f v.0)) (at_end (after_word text) (of_operand (read_rect (first_word text)) (λ a. Ok (f (corners a)))))
  rect_read text = rw ((same_rect (first_word text)).read) (by_rect (is_all_spaces (after_word text)) (spelled_rect (first_word text)))

by_formula : (b : Bool) (o : Option Cell) → IsReadAs (made (both o (ended b)) (λ v. Formula v.0)) (if b then of_operand (read_any o) (λ at. Ok (Formula (cell at))) else Err refusal.BadCommand)
by_formula false (Some c) = unknown
by_formula true (Some c) = of_read (λ c. Formula c) c cell (address c) (is_outside c) (λ o s. outside_first s (Formula c) (λ h. h) (λ h. h) (λ h. h) (or-false _ ∙ o)) (λ o. (or-false _ ∙ o, refl))
by_formula b o = unknown

by_set : (force : Bool) (t : Bytes) (o : Option Cell) → IsReadAs (made (both o (Some t)) (λ v. Set force v.0 v.1)) (if length t == 0 then Err refusal.BadCommand else of_operand (read_any o) (λ at. Ok (Set force (cell at) t)))
by_set force [] None = unknown
by_set force [] (Some c) = λ s. set_none s force c
by_set force (x ∷ xs) o =
    let some : (length (x ∷ xs) == 0) ≡ false = grind (arith, nat_tests) in
    subst (λ (b : Bool). IsReadAs (made (both o (Some (x ∷ xs))) (λ v. Set force v.0 v.1)) (if b then Err refusal.BadCommand else of_operand (read_any o) (λ at. Ok (Set force (cell at) (x ∷ xs))))) (sym some) (full o)
  where
    full : (o : Option Cell) → IsReadAs (made (both o (Some (x ∷ xs))) (λ v. Set force v.0 v.1)) (of_operand (read_any o) (λ at. Ok (Set force (cell at) (x ∷ xs))))
    full None = unknown
    full (Some c) =
        of_read (λ c. Set force c (x ∷ xs)) c cell (address c) (is_outside c) (λ o s. outside_first s (Set force c (x ∷ xs)) (λ h. h) (λ h. h) (λ h. h) (set_outside force c (x ∷ xs) ∙ o)) (λ o. (set_outside force c (x ∷ xs) ∙ o, refl))

by_scenario : (t : Bytes) (n : Option Bytes) (o : Option Cell) → IsReadAs (made (both n (both o (Some t))) (λ v. Scenario v.0 v.1.0 v.1.1)) (of_name n (λ name. of_operand (read_any o) (λ at. Ok (Scenario name (cell at) t))))
by_scenario t (Some name) (Some c) =
    of_read (λ c. Scenario name c t) c cell (address c) (is_outside c) (λ o s. outside_first s (Scenario name c t) (λ h. h) (λ h. h) (λ h. h) (or-false _ ∙ o)) (λ o. (or-false _ ∙ o, refl))
by_scenario t n o = unknown

-- ---- names

-- one name, and no word behind it
by_name : (f : Bytes → Command) → ((n : Bytes) → IsReadAs (f n) (Ok (f n))) → (b : Bool) (o : Option Bytes)
    → IsReadAs (made (both o (ended b)) (λ v. f v.0)) (of_name (if b then o else None) (λ n. Ok (f n)))
by_name f is true (Some n) = is n
by_name f is false (Some n) = unknown
by_name f is b o = unknown

-- a name, or nothing
abbrev may : Bool → Bool → Option Bytes → Option (Values (MAYBE A_NAME END))
may b c o = if b then Some None else option_map (λ v. Some v) (both o (ended c))

abbrev may_read : Bool → Bool → Option Bytes → Option (Option Bytes)
may_read b c o = if b then Some None else option_map (λ (n : Bytes). Some n) (if c then o else None)

by_use : (b c : Bool) (o : Option Bytes) → IsReadAs (made (may b c o) (form_of USE).make) (of_name (may_read b c o) (λ name. Ok (Use name)))
by_use true c o = (refl, refl)
by_use false true (Some n) = (refl, refl)
by_use false false (Some n) = unknown
by_use b c o = unknown

by_base : (p : Option Bytes) (b c : Bool) (o : Option Bytes) → IsReadAs (made (both p (may b c o)) (form_of BASE).make) (of_name p (λ name. of_name (may_read b c o) (λ other. Ok (Base name other))))
by_base (Some n) true c o = (refl, refl)
by_base (Some n) false true (Some m) = (refl, refl)
by_base (Some n) false false (Some m) = unknown
by_base p b c o = unknown

by_end : (b : Bool) → IsReadAs (made (ended b) (λ v. Changes)) (if b then Ok Changes else Err refusal.BadCommand)
by_end true = (refl, refl)
by_end false = unknown

-- ---- several operands

by_sides : (b : Bool) (p q : Option (Option Bytes)) (o : Option CornerCells)
    → IsReadAs (made (both p (both q (both o (ended b)))) (λ v. Compare v.0 v.1.0 v.1.1.0))
    (if b then of_name p (λ s. of_name q (λ t. of_operand (read_any_area o) (λ a. Ok (Compare s t (corners a))))) else Err refusal.BadCommand)
by_sides false (Some s) (Some t) (Some r) = unknown
by_sides true (Some s) (Some t) (Some r) =
    of_read (λ r. Compare s t r) r corners (area r) (lies_out r) (λ o u. compare_step u r true (is_large r) o refl s t (lacks u.scenarios s || lacks u.scenarios t) refl) (λ o. (or-false _ ∙ o, refl))
by_sides b p q o = unknown

by_fill : (force b : Bool) (o : Option Cell) (p : Option CornerCells) → IsReadAs (made (both o (both p (ended b))) (λ v. Fill force v.0 v.1.0)) (if b then fill_of force (read_any o) (read_any_area p) else Err refusal.BadCommand)
by_fill force true (Some c) None = no_area (is_outside c)
  where
    no_area : (x : Bool) → IsReadAs Unknown (fill_of force (read_by x (address c)) (Err Shape))
    no_area true = unknown
    no_area false = unknown
by_fill force true (Some c) (Some r) = inside (is_outside c) (lies_out r) refl refl
  where
    inside : (x y : Bool) → is_outside c ≡ x → lies_out r ≡ y → IsReadAs (Fill force c r) (fill_of force (read_by x (address c)) (read_by y (area r)))
    inside true true e g = λ s. fill_out s force c r true true e g refl
    inside true false e g = λ s. fill_out s force c r true false e g refl
    inside false true e g = λ s. fill_out s force c r false true e g refl
    inside false false e g = (fill_outside force false false c r e g, refl)
by_fill force false (Some c) (Some r) = unknown
by_fill force b o p = unknown

-- ---- table

no_more : {X Y : Type 0} (o : Option X) → both o (let p : Option Y = None in p) ≡ None
no_more None = refl
no_more (Some x) = refl

abbrev Second : Type 0
Second = Values (MAYBE A_CELL (AND A_RECT END))

abbrev table_of : Option Cell → Option Cell → Option CornerCells → Option Second → Command
table_of f r xs y = made (both f (both r (both xs y))) (form_of TABLE).make

none_of_it : (f r : Option Cell) (xs : Option CornerCells) → table_of f r xs None ≡ Unknown
none_of_it (Some f) (Some r) (Some xs) = refl
none_of_it f r xs = refl

-- a second input and its row, as words and as read
abbrev Words : Type 0
Words = Option (Option Cell × Option CornerCells)

abbrev second_of : Words → Option Second
second_of None = Some None
second_of (Some y) = option_map (λ v. Some v) (both y.0 (both y.1 (ended true)))

abbrev read_of : Words → Option (Result ℕ AddressFault × Result Area AddressFault)
read_of None = None
read_of (Some y) = Some (read_any y.0, read_any_area y.1)

table_words : (f r : Option Cell) (xs : Option CornerCells) (y : Words) → IsReadAs (table_of f r xs (second_of y)) (table_reading (read_any f) (read_any r) (read_any_area xs) (read_of y))
table_words f r xs y = by f r xs y (table_as (read_any f) (read_any r) (read_any_area xs) (read_of y) (Some Shape))
  where
    by : (f r : Option Cell) (xs : Option CornerCells) (y : Words)
        → (worst (faults (read_any f) (read_any r) (read_any_area xs) (read_of y)) ≡ Some Shape → table_reading (read_any f) (read_any r) (read_any_area xs) (read_of y) ≡ Err refusal.BadCommand)
        → IsReadAs (table_of f r xs (second_of y)) (table_reading (read_any f) (read_any r) (read_any_area xs) (read_of y))
    by None r xs y bent = bad _ _ (bent (has_shape [] (result_err (read_any r) ∷ line_fault is_column (read_any_area xs) ∷ faults_behind (read_of y)))) refl
    by (Some f) None xs y bent = bad _ _ (bent (has_shape (result_err (read_cell f) ∷ []) (line_fault is_column (read_any_area xs) ∷ faults_behind (read_of y)))) refl
    by (Some f) (Some r) None y bent = bad _ _ (bent (has_shape (result_err (read_cell f) ∷ result_err (read_cell r) ∷ []) (faults_behind (read_of y)))) refl
    by (Some f) (Some r) (Some xs) None bent = table_read f r xs None
    by (Some f) (Some r) (Some xs) (Some (None, ys)) bent =
        bad _ _ (bent (has_shape (result_err (read_cell f) ∷ result_err (read_cell r) ∷ line_fault is_column (read_area xs) ∷ []) (line_fault is_row (read_any_area ys) ∷ []))) refl
    by (Some f) (Some r) (Some xs) (Some (Some c, None)) bent =
        bad _ _ (bent (has_shape (result_err (read_cell f) ∷ result_err (read_cell r) ∷ line_fault is_column (read_area xs) ∷ result_err (read_cell c) ∷ []) [])) refl
    by (Some f) (Some r) (Some xs) (Some (Some c, Some ys)) bent = table_read f r xs (Some (c, ys))

abbrev reading_behind : Bool → Bool → Result ℕ AddressFault → Result ℕ AddressFault → Result Area AddressFault → Result ℕ AddressFault → Result Area AddressFault → Reading
reading_behind b g f r xs c ys = if b then table_of_one f r xs else (if g then table_of_two f r xs c ys else Err refusal.BadCommand)

behind : (b g : Bool) (f r : Option Cell) (xs : Option CornerCells) (c : Option Cell) (ys : Option CornerCells)
    → IsReadAs (table_of f r xs (if b then Some None else option_map (λ v. Some v) (both c (both ys (ended g))))) (reading_behind b g (read_any f) (read_any r) (read_any_area xs) (read_any c) (read_any_area ys))
behind true g f r xs c ys = table_words f r xs None
behind false true f r xs c ys = table_words f r xs (Some (c, ys))
behind false false f r xs c ys =
    bad _ _ refl (ap (λ (o : Option (Cell × (CornerCells × Unit {0}))). table_of f r xs (option_map (λ v. Some v) o)) (ap (λ (o : Option (CornerCells × Unit {0})). both c o) (no_more ys) ∙ no_more c) ∙ none_of_it f r xs)

-- ---- each of them

are_read : (v : Verb) (text : Bytes) → IsReadAs (spelled v text) (reading v text)
unfolding spelled
are_read (SET force) text = rw ((same_addr (first_word text)).read) (by_set force (after_word text) (spelled_cell (first_word text)))
are_read (CLEAR force) text = rect_read (λ r. Clear force r) (λ r. of_read (λ r. Clear force r) r corners (area r) (lies_out r) (λ e s. clear_step s force r true e) (λ e. (clear_outside force false r e, refl))) text
are_read (FILL force) text =
    rw ((same_addr (first_word text)).read, (same_rect (first_word (after_word text))).read)
    (by_fill force (is_all_spaces (after_word (after_word text))) (spelled_cell (first_word text)) (spelled_rect (first_word (after_word text))))
are_read SCENARIO text =
    rw ((same_addr (first_word (after_word text))).read) (by_scenario (after_word (after_word text)) (read_name (first_word text)) (spelled_cell (first_word (after_word text))))
are_read DROP text = by_name (λ n. Drop n) (λ n. (refl, refl)) (is_all_spaces (after_word text)) (read_name (first_word text))
are_read BASE text = by_base (read_name (first_word text)) (is_all_spaces (after_word text)) (is_all_spaces (after_word (after_word text))) (read_name (first_word (after_word text)))
are_read USE text = by_use (is_all_spaces text) (is_all_spaces (after_word text)) (read_name (first_word text))
are_read AS text = by_name (λ n. As n) (λ n. (refl, refl)) (is_all_spaces (after_word text)) (read_name (first_word text))
are_read SHOW text = rect_read (λ r. Show r) (λ r. of_read (λ r. Show r) r corners (area r) (lies_out r) (λ e s. show_step s r true (is_large r) e refl) (λ e. (or-false _ ∙ e, refl))) text
are_read EXPORT text = rect_read (λ r. Export r) (λ r. of_read (λ r. Export r) r corners (area r) (lies_out r) (λ e s. export_step s r true (is_large r) e refl) (λ e. (or-false _ ∙ e, refl))) text
are_read CHANGES text = by_end (is_all_spaces text)
are_read COMPARE text =
    rw ((same_rect (first_word (after_word (after_word text)))).read)
    (by_sides (is_all_spaces (after_word (after_word (after_word text)))) (read_side (first_word text)) (read_side (first_word (after_word text))) (spelled_rect (first_word (after_word (after_word text)))))
are_read TABLE text =
    let v = first_word text in
    let w = first_word (after_word text) in
    let x = first_word (after_word (after_word text)) in
    let more = after_word (after_word (after_word text)) in
    let y = first_word more in
    let z = first_word (after_word more) in
    rw ((same_addr v).read, (same_addr w).read, (same_rect x).read, (same_addr y).read, (same_rect z).read)
    (behind (is_all_spaces more) (is_all_spaces (after_word (after_word more))) (spelled_cell v) (spelled_cell w) (spelled_rect x) (spelled_cell y) (spelled_rect z))
are_read FORMULA text = rw ((same_addr (first_word text)).read) (by_formula (is_all_spaces (after_word text)) (spelled_cell (first_word text)))

pub read_so : (v : Verb) (text : Bytes) (r : Result ReadCommand Refusal) → IsReading (reading v text) r → IsRead (spelled v text) r
unfolding IsRead
read_so v text (Ok d) k = subst (λ (w : Reading). IsReadAs (spelled v text) w) k (are_read v text)
read_so v text (Err e) k = (subst (λ (w : Reading). IsReadAs (spelled v text) w) k.0 (are_read v text), k.1)
