-- The command `fill`: its step, by what its body finds, and what a call leaves.
use Rattle.wi_scenarios.proofs.Words.{◌≡◌, ◌∙◌, ◌<◌, ℕ, Bool, true, false, not, ◌||◌, nat_lt, List, [], ◌∷◌, map, inl, inr, Option, Some, None, is_some, Err, if◌then◌else◌, refl, sym, ap, subst, list_any, or-false, AllZip, both_ways, Area, size_of, cells_of, Content, content_of, State, max_area, Answer, Edit, edit_answer, copy_to, has_no_copy, or_nothing, Sheet, Command, Fill, form, Cell, CornerCells, is_outside, address, area, cell, corners, Put, Puts, copy_in, Outside, TooLarge, LeavesSheet, Holds, lies_outside, is_missing, cells_asked, IsStep, ap₂, IsPlaced, IsSpanned, ◌+◌, ◌++◌, Result, ◌≤◌, append_assoc, keys_of, flat_map, range_with_len, map-append, map-range_with_len_more, list_any-append, any_in_range, place, cells_of_row, IsErrAnd, Refusal, may_grow, MayRefuse, Serves, shift_refusal, ShiftFault, AreCopies, CopiesAs, HasNoCopies, cells_in, ℤ, option_map, ShiftsTo, shifted, Tree, copied, MayGrow, same_Some, ◌↔◌, take}
use Rattle.wi_parser.specs.declared.content.Content.TheVariants.{Formula}
use Rattle.wi_scenarios.specs.declared.refusal.Refusal.TheVariants as refusal
use Rattle.wi_parser.specs.declared.shift.ShiftFault.TheVariants as shift
use Rattle.wi_scenarios.proofs.CallLemmas.{ends_so}
use Rattle.wi_scenarios.proofs.CauseTests.{is_large, any_is, none_there, NoneHolds, both_none, behind_none}
use Rattle.wi_scenarios.proofs.OperandLemmas.{once}
use Rattle.wi_scenarios.proofs.EditLemmas.{outside_first, last, edit_step, edit_grows, same_edit, edit_serves, front, any_forced, none_forced}

-- each cell of the rectangle gets its copy
abbrev pub fill_edit : Sheet → ℕ → Area → Edit
fill_edit sheet from area =
    record { named = area ∷ []; contents = map (λ to. (to, or_nothing (copy_to (content_of sheet from) from to))) (cells_of area) }

-- a copy isn't there
abbrev pub leaves : State → ℕ → Area → Bool
leaves s from a = list_any (has_no_copy (content_of s.stored.sheet from) from) (cells_of a)

-- the answer, where the rectangle is too large or not, and a copy leaves the sheet or not
abbrev pub filled_by : State → Bool → Bool → Bool → Edit → Answer
filled_by s force large outside e = if large then Err refusal.TooLarge else (if outside then Err refusal.LeavesSheet else edit_answer s force e)

-- ---- copies

module _ (copy : ℕ → Option (Option Content)) where
  abbrev IsCopy : ℕ → Put → Type 0
  IsCopy to put = (put.0 ≡ to) × (copy to ≡ Some put.1)

  abbrev copied_put : ℕ → Put
  copied_put to = (to, or_nothing (copy to))

  -- each cell with its copy, where there is one
  pub copies_are : (cells : List ℕ) → list_any (λ to. not (is_some (copy to))) cells ≡ false → AllZip IsCopy cells (map copied_put cells)
  copies_are [] e = tt
  copies_are (c ∷ cs) e = by (copy c) refl e (copies_are cs)
    where
      by : (o : Option (Option Content)) → copy c ≡ o → (not (is_some o) || list_any (λ to. not (is_some (copy to))) cs) ≡ false
          → (list_any (λ to. not (is_some (copy to))) cs ≡ false → AllZip IsCopy cs (map copied_put cs)) → AllZip IsCopy (c ∷ cs) (map copied_put (c ∷ cs))
      by None h e more = absurd (both_ways true e refl)
      by (Some o) h e more = ((refl, h ∙ ap (λ (x : Option (Option Content)). Some (or_nothing x)) (sym h)), more e)

  one_put : (to : ℕ) (p q : Put) → IsCopy to p → IsCopy to q → p ≡ q
  one_put to p q h k =
      let same : p.1 ≡ q.1 = same_Some p.1 q.1 (sym h.1 ∙ k.1) in
      ap₂ (λ (a : ℕ) (o : Option Content). let put : Put = (a, o) in put) (h.0 ∙ sym k.0) same

  pub one_puts : (cells : List ℕ) (ps qs : List Put) → AllZip IsCopy cells ps → AllZip IsCopy cells qs → ps ≡ qs
  one_puts [] [] [] h k = refl
  one_puts [] [] (q ∷ qs) h k = absurd k
  one_puts [] (p ∷ ps) qs h k = absurd h
  one_puts (c ∷ cs) [] qs h k = absurd h
  one_puts (c ∷ cs) (p ∷ ps) [] h k = absurd k
  one_puts (c ∷ cs) (p ∷ ps) (q ∷ qs) h k = ap₂ (λ (x : Put) (xs : List Put). x ∷ xs) (one_put c p q h.0 k.0) (one_puts cs ps qs h.1 k.1)

-- ---- the step

pub fill_outside : (force one two : Bool) (c : Cell) (r : CornerCells) → is_outside c ≡ one → (is_outside r.0 || is_outside r.1) ≡ two → list_any lies_outside (form (Fill force c r)) ≡ (one || two)
fill_outside force one two c r o p = any_forced lies_outside force _ refl ∙ ap₂ ◌||◌ o (or-false _ ∙ p)

module _ (s : State) (force : Bool) (c : Cell) (r : CornerCells) where
  abbrev fill : Command
  fill = Fill force c r

  abbrev copy : ℕ → Option (Option Content)
  copy = copy_in s (address c)

  abbrev puts : List Put
  puts = map (λ to. (to, or_nothing (copy_to (content_of s.stored.sheet (address c)) (address c) to))) (cells_of (area r))

  size_is : (f : Bool) → cells_asked (form (Fill f c r)) ≡ size_of (area r)
  size_is true = once (size_of (area r))
  size_is false = once (size_of (area r))

  leaving : (leaves s (address c) (area r) ≡ true) ↔ Holds s LeavesSheet fill
  leaving = any_is (λ to. not (is_some (copy to))) (λ to. copy to ≡ None) (λ to. none_there (copy to)) (cells_of (area r))

  module _ (one : is_outside c ≡ false) (two : (is_outside r.0 || is_outside r.1) ≡ false) where
    inside : Holds s Outside fill → ⊥
    inside h = both_ways _ (fill_outside force false false c r one two) h

    big : nat_lt max_area (size_of (area r)) ≡ true → Holds s TooLarge fill
    big e = subst (λ (n : ℕ). max_area < n) (sym (size_is force)) ((is_large _).0 e)

    small : nat_lt max_area (size_of (area r)) ≡ false → Holds s TooLarge fill → ⊥
    small e h = both_ways _ e ((is_large _).1 (subst (λ (n : ℕ). max_area < n) (size_is force) h))

    module _ (few : nat_lt max_area (size_of (area r)) ≡ false) where
      none_first : NoneHolds s fill (take 14 front)
      none_first =
          (λ k. k, (λ k. k, (λ k. k, (inside, (small few, (none_forced (is_missing s) force _ refl refl, (λ k. k, (λ k. k, (λ k. k, (λ k. k, (λ k. k, (λ k. k, (λ k. k, (λ k. k, tt))))))))))))))

      filling : leaves s (address c) (area r) ≡ false → IsStep s fill (edit_answer s force (fill_edit s.stored.sheet (address c) (area r)))
      filling e =
          let are : Puts s fill puts = copies_are copy (cells_of (area r)) e in
          edit_step s fill force (area r ∷ []) puts are (one_puts copy (cells_of (area r))) refl refl (λ h. h)
          (both_none s fill (take 14 front) (LeavesSheet ∷ []) none_first (λ k. both_ways _ e (leaving.1 k), tt)) (λ d h. h)

    -- by what holds
    pub fill_step : (large outside : Bool) → nat_lt max_area (size_of (area r)) ≡ large → leaves s (address c) (area r) ≡ outside
        → IsStep s fill (filled_by s force large outside (fill_edit s.stored.sheet (address c) (area r)))
    fill_step true outside eb el = (TooLarge, inr (λ k. k, inr (λ k. k, inr (λ k. k, inr (inside, inl (big eb, refl))))), refl)
    fill_step false true eb el = (LeavesSheet, behind_none s fill (take 14 front) (LeavesSheet ∷ last) LeavesSheet (none_first eb) (inl (leaving.0 el, refl)), refl)
    fill_step false false eb el = filling eb el

  -- where an operand lies outside the sheet
  pub fill_out : (one two : Bool) → is_outside c ≡ one → (is_outside r.0 || is_outside r.1) ≡ two → (one || two) ≡ true → IsStep s fill (Err refusal.OutOfSheet)
  fill_out one two o p e = outside_first s fill (λ h. h) (λ h. h) (λ h. h) (fill_outside force one two c r o p ∙ e)

-- of a cell and a rectangle of the sheet
module _ (s : State) (force : Bool) (from : ℕ) (a : Area) (placed : IsPlaced from) (spanned : IsSpanned a) (large outside : Bool) where
  abbrev FillsAs : ℕ → Area → Type 0
  FillsAs b y =
      nat_lt max_area (size_of y) ≡ large → leaves s b y ≡ outside → IsStep s (Fill force (cell from) (corners a)) (filled_by s force large outside (fill_edit s.stored.sheet b y))

  pub fill_of : nat_lt max_area (size_of a) ≡ large → leaves s from a ≡ outside → IsStep s (Fill force (cell from) (corners a)) (filled_by s force large outside (fill_edit s.stored.sheet from a))
  fill_of =
      subst (λ (y : Area). FillsAs from y) spanned.again
      (subst (λ (b : ℕ). FillsAs b (area (corners a))) placed.again (fill_step s force (cell from) (corners a) placed.inside spanned.inside large outside))

-- ---- what `fill` answers, and the copies that it makes

module _ (s : State) (force : Bool) (from : ℕ) (area : Area) (placed : IsPlaced from) (spanned : IsSpanned area) where
  pub fill_too_large : nat_lt max_area (size_of area) ≡ true → Serves (IsStep s (Fill force (cell from) (corners area))) (Err refusal.TooLarge) s s []
  fill_too_large l = (fill_of s force from area placed spanned true (leaves s from area) l refl, refl, refl)

  -- of a rectangle that isn't too large something may grow before the answer
  filled_grows : (outside : Bool) (e : Edit) → may_grow (filled_by s force false outside e) ≡ true
  filled_grows true e = refl
  filled_grows false e = edit_grows s force e

  pub may_grow_first : nat_lt max_area (size_of area) ≡ false → MayGrow (IsStep s (Fill force (cell from) (corners area)))
  may_grow_first small = record {
    answer = filled_by s force false (leaves s from area) (fill_edit s.stored.sheet from area);
    is_answer = fill_of s force from area placed spanned false (leaves s from area) small refl;
    grows = filled_grows (leaves s from area) (fill_edit s.stored.sheet from area);
  }

-- ---- copies, one after another

-- one more copy
pub one_copy : (content : Option Content) (from to : ℕ) (cells : List ℕ) (changes new : List (ℕ × Option Content)) (copy : Option Content) → copy_to content from to ≡ Some copy → new ≡ changes ++ (to, copy) ∷ []
    → AreCopies content from cells changes → AreCopies content from (cells ++ to ∷ []) new
one_copy content from to cells changes new copy e grown h = record {
  all =
      list_any-append (has_no_copy content from) cells (to ∷ [])
      ∙ ap (λ (b : Bool). b || list_any (has_no_copy content from) (to ∷ [])) h.all
      ∙ ap (λ o. not (is_some o) || false) e;
  each =
      grown ∙ ap (λ (xs : List (ℕ × Option Content)). xs ++ (to, copy) ∷ []) h.each
      ∙ ap (λ o. map (λ to. (to, or_nothing (copy_to content from to))) cells ++ (to, or_nothing o) ∷ []) (sym e)
      ∙ sym (map-append (λ to. (to, or_nothing (copy_to content from to))) cells (to ∷ []));
}

-- ---- the cells of a rectangle, row after row

-- one more cell of a row gets its copy
pub one_cell : (content : Option Content) (from row first n m column to : ℕ) (cells : List ℕ) (changes new : List (ℕ × Option Content)) (copy : Option Content) → first + n ≡ column → m ≡ n + 1 → to ≡ place row column
    → copy_to content from to ≡ Some copy → new ≡ changes ++ (to, copy) ∷ [] → AreCopies content from (cells ++ cells_in row first n) changes → AreCopies content from (cells ++ cells_in row first m) new
one_cell content from row first n m column to cells changes new copy e more at found grown h =
    let same : cells ++ cells_in row first m ≡ (cells ++ cells_in row first n) ++ to ∷ [] =
    ap (λ (k : ℕ). cells ++ cells_in row first k) more
    ∙ ap (λ (xs : List ℕ). cells ++ xs) (map-range_with_len_more (place row) first n column e ∙ ap (λ (x : ℕ). cells_in row first n ++ x ∷ []) (sym at))
    ∙ sym (append_assoc cells (cells_in row first n) (to ∷ [])) in
    subst (λ (xs : List ℕ). AreCopies content from xs new) (sym same) (one_copy content from to (cells ++ cells_in row first n) changes new copy found grown h)

-- a cell of a row has no copy
pub no_copy_in_row : (content : Option Content) (from row first n column to : ℕ) (fault : ShiftFault) → first ≤ column → column < first + n → to ≡ place row column
    → CopiesAs (copy_to content from to) (Err fault) → HasNoCopies content from (cells_in row first n) fault
no_copy_in_row content from row first n column to shift.LeavesSheet l m at h =
    any_in_range (λ c. has_no_copy content from (place row c)) (λ a k. list_any (has_no_copy content from) (cells_in row a k)) (λ a k. refl) first n column l m
    (ap (λ (x : ℕ). has_no_copy content from x) (sym at) ∙ ap (λ o. not (is_some o)) h)
no_copy_in_row content from row first n column to shift.Memory l m at h = tt

-- a row has a cell that has no copy
pub no_copy_in_rows : (content : Option Content) (from : ℕ) (area : Area) (first n row : ℕ) (fault : ShiftFault) → first ≤ row → row < first + n
    → HasNoCopies content from (cells_of_row row area) fault → HasNoCopies content from (flat_map (λ r. cells_of_row r area) (range_with_len first n)) fault
no_copy_in_rows content from area first n row shift.LeavesSheet l m h =
    any_in_range (λ r. list_any (has_no_copy content from) (cells_of_row r area)) (λ a k. list_any (has_no_copy content from) (flat_map (λ r. cells_of_row r area) (range_with_len a k)))
    (λ a k. list_any-append (has_no_copy content from) (cells_of_row a area) (flat_map (λ r. cells_of_row r area) (range_with_len (a + 1) k))) first n row l m h
no_copy_in_rows content from area first n row shift.Memory l m h = tt

-- ---- a fill that is refused

pub fill_leaves : (r : Result (Unit {0}) Refusal) (s : State) (force : Bool) (content : Option Content) (from : ℕ) (area : Area) (fault : ShiftFault) → IsPlaced from → IsSpanned area → content ≡ content_of s.stored.sheet from
    → nat_lt max_area (size_of area) ≡ false → IsErrAnd r (λ e. e ≡ shift_refusal fault) → HasNoCopies content from (cells_of area) fault → Serves (IsStep s (Fill force (cell from) (corners area))) r s s []
fill_leaves r s force content from area fault placed spanned at small k none =
    ends_so (λ x. Serves (IsStep s (Fill force (cell from) (corners area))) x s s []) (shift_refusal fault) r k (by fault none, refl, refl)
  where
    by : (f : ShiftFault) → HasNoCopies content from (cells_of area) f → MayRefuse (shift_refusal f) (IsStep s (Fill force (cell from) (corners area)))
    by shift.LeavesSheet outside = fill_of s force from area placed spanned false true small (subst (λ c. list_any (has_no_copy c from) (cells_of area) ≡ true) at outside)
    by shift.Memory u = may_grow_first s force from area placed spanned small

-- ---- a fill with copies

module _ (s t : State) (force : Bool) (content : Option Content) (from : ℕ) (area : Area) (named : List Area) (contents : List (ℕ × Option Content)) (placed : IsPlaced from) (spanned : IsSpanned area)
    (at : content ≡ content_of s.stored.sheet from) (copies : AreCopies content from (cells_of area) contents) where
  same_contents : contents ≡ (fill_edit s.stored.sheet from area).contents
  same_contents = subst (λ c. contents ≡ map (λ to. (to, or_nothing (copy_to c from to))) (cells_of area)) at copies.each

  pub fill_edited : (r : Result (Unit {0}) Refusal) → nat_lt max_area (size_of area) ≡ false → named ≡ area ∷ []
      → Serves (λ a. edit_answer s force (record { named = named; contents = contents }) ≡ a) r s t [] → Serves (IsStep s (Fill force (cell from) (corners area))) r s t []
  fill_edited r small n =
      let all : leaves s from area ≡ false = subst (λ c. list_any (has_no_copy c from) (cells_of area) ≡ false) at copies.all in
      edit_serves s (Fill force (cell from) (corners area)) force (record { named = named; contents = contents }) (fill_edit s.stored.sheet from area)
      (same_edit named (area ∷ []) contents (fill_edit s.stored.sheet from area).contents n same_contents) (fill_of s force from area placed spanned false false small all) r t

keys_of_copies : (f : ℕ → Option Content) (cells : List ℕ) → keys_of (map (λ to. (to, f to)) cells) ≡ cells
keys_of_copies f [] = refl
keys_of_copies f (c ∷ cells) = ap (λ (xs : List ℕ). c ∷ xs) (keys_of_copies f cells)

-- the cells that get them
pub copied_cells : (content : Option Content) (from : ℕ) (cells : List ℕ) (contents : List (ℕ × Option Content)) → AreCopies content from cells contents → keys_of contents ≡ cells
copied_cells content from cells contents h = ap keys_of h.each ∙ keys_of_copies (λ to. or_nothing (copy_to content from to)) cells

-- a copy for which memory lacks
pub lacks_copy : (found : Option (Option Content)) (r : Result (Option Content) ShiftFault) → IsErrAnd r (λ e. e ≡ shift.Memory) → CopiesAs found r
lacks_copy found r k = ends_so (CopiesAs found) shift.Memory r k tt

-- a formula's copy is what it is shifted to
pub formula_copied : (content : Option Content) (t u : Tree) (down right d r : ℤ) → content ≡ Some (Formula t) → d ≡ down → r ≡ right → shifted d r t ≡ Some u → copied down right content ≡ Some (Some (Formula u))
formula_copied content t u down right d r is p q h =
    ap (copied down right) is
    ∙ ap (option_map (λ (v : Tree). Some (Formula v))) (ap (λ (x : ℤ). shifted x right t) (sym p) ∙ ap (λ (x : ℤ). shifted d x t) (sym q) ∙ h)

-- and there is none where it can't be shifted
pub formula_not_copied : (content : Option Content) (t : Tree) (down right d r : ℤ) (fault : ShiftFault) (made : Result (Option Content) ShiftFault) → content ≡ Some (Formula t) → d ≡ down → r ≡ right → ShiftsTo (shifted d r t) (Err fault)
    → IsErrAnd made (λ e. e ≡ fault) → CopiesAs (copied down right content) made
formula_not_copied content t down right d r shift.LeavesSheet made is p q h k =
    let none : copied down right content ≡ None =
    ap (copied down right) is
    ∙ ap (option_map (λ (v : Tree). Some (Formula v))) (ap (λ (x : ℤ). shifted x right t) (sym p) ∙ ap (λ (x : ℤ). shifted d x t) (sym q) ∙ h) in
    ends_so (CopiesAs (copied down right content)) shift.LeavesSheet made k none
formula_not_copied content t down right d r shift.Memory made is p q h k = lacks_copy (copied down right content) made k
