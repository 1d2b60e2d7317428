-- The steps of the commands that look at cells, by what their bodies find.
use Rattle.wi_scenarios.proofs.Words.{◌≡◌, ◌∙◌, ◌*◌, ℕ, Bool, true, false, not, ◌||◌, nat_lt, List, length, Option, Some, None, Result, Ok, Err, if◌then◌else◌, refl, sym, ap, subst, arith, list_any, or-false, or_from, Area, size_of, effective, has_scenario, lacks, rows_shown, export_of, cells_compared, shown, content_record, change_records, told, Refusal, State, max_area, current_session, with_current, current_replacements, Answer, ServesInto, change_list, Command, Show, Export, Compare, Formula, Changes, form, CornerCells, is_outside, area, cell, corners, Cause, Outside, TooLarge, NoScenario, is_missing, Does, IsStep, IsPlaced, IsSpanned, ◌&&◌, nat_le, nat_tests, option_map, is_column, has_row, entries, table_of, Table, Cell, address, second_input, is_bent, lies_outside, cells_asked, BadCommand, IsTablePlaced}
use Rattle.wi_scenarios.specs.declared.refusal.Refusal.TheVariants as refusal
use Rattle.wi_scenarios.proofs.CauseTests.{EditsNone, first_found, refused_for, accepted, is_misshaped}
use Rattle.wi_scenarios.proofs.CallLemmas.{serves_as, Looked}
use Rattle.wi_scenarios.proofs.OperandLemmas.{once}

-- a call that wrote some records, and did as an answer of a step says
looked_step : (s : State) (c : Command) (step : Answer) → IsStep s c step → (r : Result (Unit {0}) Refusal) (t : State) (before after : List ℕ) → Looked step r s t before after
    → ServesInto (IsStep s c) r s t before after
looked_step s c step is r t before after h =
    (h.0, h.1, serves_as (λ a. step ≡ a) (IsStep s c) (λ a e. subst (IsStep s c) e is) r s t h.0 h.2)

-- ---- an area, of which scenarios may be shown

-- the answer, where it lies outside the sheet, is too large, or a scenario is missing
abbrev pub area_answer : Bool → Bool → Bool → State × List ℕ → Answer
area_answer true large lacking done = Err refusal.OutOfSheet
area_answer false true lacking done = Err refusal.TooLarge
area_answer false false true done = Err refusal.NoScenario
area_answer false false false done = Ok done

abbrev area_cause : Bool → Bool → Bool → Option Cause
area_cause out big lack = if out then Some Outside else (if big then Some TooLarge else (if lack then Some NoScenario else None))

area_step : (s : State) (c : Command) → EditsNone c → (done : State × List ℕ) → Does s c done → (out big lack : Bool) → first_found s c ≡ area_cause out big lack → IsStep s c (area_answer out big lack done)
area_step s c u done does true big lack e = refused_for s c u Outside refl e
area_step s c u done does false true lack e = refused_for s c u TooLarge refl e
area_step s c u done does false false true e = refused_for s c u NoScenario refl e
area_step s c u done does false false false e = accepted s c u e done does

module _ (s : State) (r : CornerCells) where
  abbrev pub shown_in : Area → State × List ℕ
  shown_in a = (s, rows_shown (shown s.stored.sheet (current_replacements s)) a)

  abbrev pub exported_in : Area → State × List ℕ
  exported_in a = (s, export_of (rows_shown (shown s.stored.sheet (current_replacements s)) a))

  abbrev pub compared_in : Option (List ℕ) → Option (List ℕ) → Area → State × List ℕ
  compared_in p q a = (s, cells_compared (shown s.stored.sheet (effective s.scenarios p)) (shown s.stored.sheet (effective s.scenarios q)) a)

  module _ (out big : Bool) (eo : (is_outside r.0 || is_outside r.1) ≡ out) (eb : nat_lt max_area (size_of (area r)) ≡ big) where
    out_is : ((is_outside r.0 || is_outside r.1) || false) ≡ out
    out_is = or-false _ ∙ eo

    sized : nat_lt max_area (size_of (area r) * 1) ≡ big
    sized = ap (nat_lt max_area) (once (size_of (area r))) ∙ eb

    pub show_step : IsStep s (Show r) (area_answer out big false (shown_in (area r)))
    show_step = area_step s (Show r) tt (shown_in (area r)) refl out big false (rw (out_is, sized) refl)

    pub export_step : IsStep s (Export r) (area_answer out big false (exported_in (area r)))
    export_step = area_step s (Export r) tt (exported_in (area r)) refl out big false (rw (out_is, sized) refl)

    missing_is : (p q : Option (List ℕ)) → list_any (is_missing s) (form (Compare p q r)) ≡ (lacks s.scenarios p || lacks s.scenarios q)
    missing_is None None = refl
    missing_is None (Some two) = or-false _
    missing_is (Some one) None = refl
    missing_is (Some one) (Some two) = ap (λ (b : Bool). not (has_scenario s.scenarios one) || b) (or-false _)

    pub compare_step : (p q : Option (List ℕ)) (lack : Bool) → (lacks s.scenarios p || lacks s.scenarios q) ≡ lack → IsStep s (Compare p q r) (area_answer out big lack (compared_in p q (area r)))
    compare_step p q lack el =
        let missing = missing_is p q ∙ el in
        area_step s (Compare p q r) tt (compared_in p q (area r)) refl out big lack (rw (out_is, sized, missing) refl)

-- of a rectangle of the sheet
module _ (s : State) (a : Area) (h : IsSpanned a) (big : Bool) (eb : nat_lt max_area (size_of a) ≡ big) where
  size_again : nat_lt max_area (size_of (area (corners a))) ≡ big
  size_again = ap (λ (x : Area). nat_lt max_area (size_of x)) h.again ∙ eb

  pub show_of : IsStep s (Show (corners a)) (area_answer false big false (shown_in s (corners a) a))
  show_of =
      subst (λ (x : Area). IsStep s (Show (corners a)) (area_answer false big false (shown_in s (corners a) x))) h.again (show_step s (corners a) false big h.inside size_again)

  pub export_of_area : IsStep s (Export (corners a)) (area_answer false big false (exported_in s (corners a) a))
  export_of_area =
      subst (λ (x : Area). IsStep s (Export (corners a)) (area_answer false big false (exported_in s (corners a) x))) h.again (export_step s (corners a) false big h.inside size_again)

  pub compare_of : (p q : Option (List ℕ)) (lack : Bool) → (lacks s.scenarios p || lacks s.scenarios q) ≡ lack
      → IsStep s (Compare p q (corners a)) (area_answer false big lack (compared_in s (corners a) p q a))
  compare_of p q lack el =
      subst (λ (x : Area). IsStep s (Compare p q (corners a)) (area_answer false big lack (compared_in s (corners a) p q x))) h.again
      (compare_step s (corners a) false big h.inside size_again p q lack el)

-- ---- a cell

module _ (s : State) where
  abbrev pub told_of : ℕ → State × List ℕ
  told_of a = (s, content_record s.stored.sheet a)

  pub formula_of : (a : ℕ) → IsPlaced a → IsStep s (Formula (cell a)) (Ok (told_of a))
  formula_of a h =
      let inside : is_outside (cell a) ≡ false = h.inside in
      accepted s (Formula (cell a)) tt (rw inside refl) (told_of a) (ap told_of (sym h.again))

  -- ---- changes

  abbrev pub after_changes : State × List ℕ
  after_changes = (with_current s (told (current_session s) (change_list s) (length s.log)), change_records (change_list s))

  pub changes_served : (r : Result (Unit {0}) Refusal) (t : State) (before after : List ℕ) → Looked (Ok after_changes) r s t before after
      → ServesInto (IsStep s Changes) r s t before after
  changes_served r t before after h = looked_step s Changes (Ok after_changes) (accepted s Changes tt refl after_changes refl) r t before after h

-- ---- the step of `table`, by what its body finds

-- the answer, where the column or the row is none, an operand lies outside the sheet, or there are too many entries
abbrev pub table_answer : Bool → Bool → Bool → State × List ℕ → Answer
table_answer true out large done = Err refusal.BadCommand
table_answer false true large done = Err refusal.OutOfSheet
table_answer false false true done = Err refusal.TooLarge
table_answer false false false done = Ok done

abbrev pub tabled : State → ℕ → ℕ → Area → Option (ℕ × Area) → State × List ℕ
tabled s f r xs second = (s, table_of s.stored.sheet (current_replacements s) f r xs second)

-- the address of a second input, and its row
abbrev pub addresses : Option (Cell × CornerCells) → Option (ℕ × Area)
addresses second = option_map (λ y. (address y.0, area y.1)) second

module _ (s : State) (f r : Cell) (xs : CornerCells) (second : Option (Cell × CornerCells)) where
  none_missing : (y : Option (Cell × CornerCells)) → list_any (is_missing s) (form (Table f r xs y)) ≡ false
  none_missing None = refl
  none_missing (Some y) = refl

  abbrev done : State × List ℕ
  done = tabled s (address f) (address r) (area xs) (addresses second)

  pub table_step : (bent out large : Bool) → is_misshaped xs second ≡ bent → list_any lies_outside (form (Table f r xs second)) ≡ out
      → nat_lt max_area (cells_asked (form (Table f r xs second))) ≡ large → IsStep s (Table f r xs second) (table_answer bent out large done)
  table_step true out large eb eo el = refused_for s (Table f r xs second) tt BadCommand refl (rw eb refl)
  table_step false true large eb eo el = refused_for s (Table f r xs second) tt Outside refl (rw (eb, eo) refl)
  table_step false false true eb eo el = refused_for s (Table f r xs second) tt TooLarge refl (rw (eb, eo, el) refl)
  table_step false false false eb eo el = let none = none_missing second in accepted s (Table f r xs second) tt (rw (eb, eo, el, none) refl) done refl

-- ---- operands of the sheet

not_both : (a b : Bool) → (not a || not b) ≡ not (a && b)
not_both true b = refl
not_both false b = refl

not_within : (n most : ℕ) (within : Bool) → within ≡ nat_le n most → nat_lt most n ≡ not within
not_within n most true e =
    let small : nat_lt most n ≡ false = grind (arith, nat_tests) in
    small
not_within n most false e =
    let large : nat_lt most n ≡ true = grind (arith, nat_tests) in
    large

module _ (s : State) (f r : ℕ) (xs : Area) where
  bent_is : (second : Option (ℕ × Area)) → IsTablePlaced f r xs second → is_misshaped (corners xs) (second_input second) ≡ (not (is_column xs) || not (has_row second))
  bent_is None h = ap (λ (b : Bool). not b && not (is_column xs)) h.column.inside ∙ sym (or-false (not (is_column xs)))
  bent_is (Some y) h =
      ap (λ (b : Bool). (not b && not (is_column xs)) || is_bent (λ c. c.row) (corners y.1)) h.column.inside
      ∙ ap (λ (b : Bool). not (is_column xs) || (not b && not (has_row (Some y)))) h.second.1.inside

  abbrev out_of : Area → Bool
  out_of a = is_outside (corners a).0 || is_outside (corners a).1

  none_outside : (second : Option (ℕ × Area)) → IsTablePlaced f r xs second → list_any lies_outside (form (Table (cell f) (cell r) (corners xs) (second_input second))) ≡ false
  none_outside None h =
      or_from (is_outside (cell f)) (is_outside (cell r) || (out_of xs || false)) h.formula_cell.inside
      (or_from (is_outside (cell r)) (out_of xs || false) h.input.inside (or_from (out_of xs) false h.column.inside refl))
  none_outside (Some y) h =
      or_from (is_outside (cell f)) (is_outside (cell r) || (out_of xs || (is_outside (cell y.0) || (out_of y.1 || false)))) h.formula_cell.inside
      (or_from (is_outside (cell r)) (out_of xs || (is_outside (cell y.0) || (out_of y.1 || false))) h.input.inside
      (or_from (out_of xs) (is_outside (cell y.0) || (out_of y.1 || false)) h.column.inside
      (or_from (is_outside (cell y.0)) (out_of y.1 || false) h.second.0.inside (or_from (out_of y.1) false h.second.1.inside refl))))

  size_is : (second : Option (ℕ × Area)) → IsTablePlaced f r xs second → cells_asked (form (Table (cell f) (cell r) (corners xs) (second_input second))) ≡ entries xs second
  size_is None h = ap (λ (a : Area). size_of a * 1) h.column.again
  size_is (Some y) h =
      ap (λ (a : Area). size_of a * (size_of (area (corners y.1)) * 1)) h.column.again
      ∙ ap (λ (n : ℕ). size_of xs * n) (once (size_of (area (corners y.1))))
      ∙ ap (λ (a : Area). size_of xs * size_of a) h.second.1.again

  second_again : (second : Option (ℕ × Area)) → IsTablePlaced f r xs second → addresses (second_input second) ≡ second
  second_again None h = refl
  second_again (Some y) h =
      ap (λ (a : ℕ). let o : Option (ℕ × Area) = Some (a, area (corners y.1)) in o) h.second.0.again
      ∙ ap (λ (a : Area). let o : Option (ℕ × Area) = Some (y.0, a) in o) h.second.1.again

  module _ (second : Option (ℕ × Area)) (h : IsTablePlaced f r xs second) where
    done_again : tabled s (address (cell f)) (address (cell r)) (area (corners xs)) (addresses (second_input second)) ≡ tabled s f r xs second
    done_again =
        ap (λ (a : ℕ). tabled s a (address (cell r)) (area (corners xs)) (addresses (second_input second))) h.formula_cell.again
        ∙ ap (λ (a : ℕ). tabled s f a (area (corners xs)) (addresses (second_input second))) h.input.again
        ∙ ap (λ (a : Area). tabled s f r a (addresses (second_input second))) h.column.again
        ∙ ap (λ (o : Option (ℕ × Area)). tabled s f r xs o) (second_again second h)

    pub table_by : (bent large : Bool) → (not (is_column xs) || not (has_row second)) ≡ bent → nat_lt max_area (entries xs second) ≡ large
        → IsStep s (Table (cell f) (cell r) (corners xs) (second_input second)) (table_answer bent false large (tabled s f r xs second))
    table_by bent large eb el =
        subst (λ (d : State × List ℕ). IsStep s (Table (cell f) (cell r) (corners xs) (second_input second)) (table_answer bent false large d)) done_again
        (table_step s (cell f) (cell r) (corners xs) (second_input second) bent false large (bent_is second h ∙ eb) (none_outside second h) (ap (nat_lt max_area) (size_is second h) ∙ el))

    -- by what the body asks
    pub table_found : (shaped within : Bool) → shaped ≡ (is_column xs && has_row second) → within ≡ nat_le (entries xs second) max_area
        → IsStep s (Table (cell f) (cell r) (corners xs) (second_input second)) (table_answer (not shaped) false (not within) (tabled s f r xs second))
    table_found shaped within es ew =
        table_by (not shaped) (not within) (not_both (is_column xs) (has_row second) ∙ ap not (sym es)) (not_within (entries xs second) max_area within ew)
