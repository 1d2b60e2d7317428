-- The command `set`: its step, by what its body finds, and what a call leaves.
use Rattle.wi_scenarios.proofs.Words.{◌≡◌, ◌↔◌, ℕ, Bool, true, false, ◌==◌, List, [], ◌∷◌, length, inl, inr, Some, map, ◌++◌, Result, Ok, Err, if◌then◌else◌, refl, sym, ap, ◌∙◌, subst, arith, list_any, or-false, both_ways, nat_tests, Content, ParseFault, cell_area, State, Answer, parse_refusal, Edit, edit_answer, Command, Set, form, Cell, is_outside, address, cell, Put, Puts, Cause, BadCommand, TooLong, OutOfSheet, NumberRange, TooDeep, Syntax, LeavesSheet, Holds, lies_outside, is_missing, IsStep, IsFirstOf, IsContent, HasFault, IsAnsweredAs, IsFirstFault, faults, is_fault, one_content, IsPlaced, Option, IsErrAnd, Area, content_read, is_too_long, ReadsAs, content_is_one, Refusal, may_grow, Serves, take, drop, MayRefuse}
use Rattle.wi_parser.specs.declared.fault.ParseFault.TheVariants as parse
use Rattle.wi_scenarios.specs.declared.refusal.Refusal.TheVariants as refusal
use Rattle.wi_scenarios.proofs.CauseTests.{NoneHolds, both_none, behind_none}
use Rattle.wi_scenarios.proofs.EditLemmas.{outside_first, last, edit_step, edit_grows, same_edit, front, any_forced, none_forced, few_forced}
use Rattle.wi_scenarios.proofs.CallLemmas.{serves_as, ends_so}

-- ---- answers

-- the content that was read, into the cell
abbrev pub set_edit : ℕ → Content → Edit
set_edit at content = record { named = cell_area at ∷ []; contents = (at, Some content) ∷ [] }

-- the answer to putting what was read into a cell
abbrev pub content_answer : State → Bool → ℕ → Result Content ParseFault → Answer
content_answer s force at (Ok content) = edit_answer s force (set_edit at content)
content_answer s force at (Err e) = Err (parse_refusal e)

-- the same, where the text is empty or not
abbrev pub set_answer : State → Bool → ℕ → Bool → Result Content ParseFault → Answer
set_answer s force at none r = if none then Err refusal.BadCommand else content_answer s force at r

-- ---- the step

pub set_outside : (force : Bool) (c : Cell) (text : List ℕ) → list_any lies_outside (form (Set force c text)) ≡ is_outside c
set_outside force c text = any_forced lies_outside force _ refl ∙ or-false _

module _ (s : State) (force : Bool) (c : Cell) (text : List ℕ) where
  pub one_puts : (q p : List Put) → Puts s (Set force c text) q → Puts s (Set force c text) p → q ≡ p
  one_puts q p h k =
      h.2 ∙ ap (λ (x : Content). let ps : List Put = (address c, Some x) ∷ [] in ps) (one_content text k.0 h.0 k.1 h.1) ∙ sym k.2

module _ (s : State) (force : Bool) (c : Cell) (text : List ℕ) (inside : is_outside c ≡ false) where
  abbrev set : Command
  set = Set force c text

  module _ (some : Holds s BadCommand set → ⊥) where
    none_first : NoneHolds s set (take 9 front)
    none_first =
        (λ k. k, (some, (λ k. k, (λ k. both_ways _ (set_outside force c text ∙ inside) k, (few_forced force _ refl, (none_forced (is_missing s) force _ refl refl, (λ k. k, (λ k. k, (λ k. k, tt)))))))))

    module _ (content : Content) (is : IsContent text content) (no_fault : (e : ParseFault) → HasFault text e → ⊥) where
      put : Puts s set ((address c, Some content) ∷ [])
      put = (content, is, refl)

      none_read : NoneHolds s set (drop 9 front)
      none_read =
          (no_fault parse.TooLong, (no_fault parse.OutOfSheet, (no_fault parse.NumberRange, (no_fault parse.TooDeep, (no_fault parse.Syntax, (λ k. k, tt))))))

      putting : IsStep s set (edit_answer s force (set_edit (address c) content))
      putting =
          edit_step s set force (cell_area (address c) ∷ []) ((address c, Some content) ∷ []) put (one_puts s force c text) refl refl (λ h. h)
          (both_none s set (take 9 front) (drop 9 front) none_first none_read) (λ d h. h)

    -- the cause for a fault; memory is none, and `set` moves nothing
    abbrev cause_of : ParseFault → Cause
    cause_of parse.TooLong = TooLong
    cause_of parse.OutOfSheet = OutOfSheet
    cause_of parse.NumberRange = NumberRange
    cause_of parse.TooDeep = TooDeep
    cause_of parse.Syntax = Syntax
    cause_of parse.Memory = LeavesSheet

    same_fault : (e : ParseFault) → HasFault text e ↔ Holds s (cause_of e) set
    same_fault parse.TooLong = (λ h. h, λ h. h)
    same_fault e = (λ h. h, λ h. h)

    first_of : (xs : List ParseFault) (e : ParseFault) → IsFirstFault text xs e → IsFirstOf s set (map cause_of xs ++ LeavesSheet ∷ last) (cause_of e)
    first_of [] e h = absurd h
    first_of (x ∷ xs) e (inl h) = inl ((same_fault x).0 h.0, ap cause_of h.1)
    first_of (x ∷ xs) e (inr h) = inr (λ k. h.0 ((same_fault x).1 k), first_of xs e h.1)

    -- by what the content is read as
    by_content : (r : Result Content ParseFault) → IsAnsweredAs text r → IsStep s set (content_answer s force (address c) r)
    by_content (Ok content) h = putting content h.0 h.1
    by_content (Err parse.Memory) h = absurd (is_fault text faults parse.Memory h)
    by_content (Err e) h = (cause_of e, behind_none s set (take 9 front) (drop 9 front ++ last) (cause_of e) none_first (first_of faults e h), refl)

-- an empty text
pub set_none : (s : State) (force : Bool) (c : Cell) → IsStep s (Set force c []) (Err refusal.BadCommand)
set_none s force c = (BadCommand, inr (λ h. h, inl (tt, refl)), refl)

-- one that isn't, where the cell lies outside the sheet or not
module _ (s : State) (force : Bool) (c : Cell) (b : ℕ) (bs : List ℕ) where
  pub set_some : (out : Bool) → is_outside c ≡ out → (r : Result Content ParseFault) → IsAnsweredAs (b ∷ bs) r → IsStep s (Set force c (b ∷ bs)) (if out then Err refusal.OutOfSheet else content_answer s force (address c) r)
  set_some true o r is = outside_first s (Set force c (b ∷ bs)) (λ h. h) (λ h. h) (λ h. h) (set_outside force c (b ∷ bs) ∙ o)
  set_some false o r is = by_content s force c (b ∷ bs) o (λ h. h) r is

-- of a cell of the sheet
pub set_placed : (s : State) (force : Bool) (a b : ℕ) (bs : List ℕ) → IsPlaced a → (r : Result Content ParseFault) → IsAnsweredAs (b ∷ bs) r → IsStep s (Set force (cell a) (b ∷ bs)) (content_answer s force a r)
set_placed s force a b bs h r is =
    subst (λ (x : ℕ). IsStep s (Set force (cell a) (b ∷ bs)) (content_answer s force x r)) h.again (set_some s force (cell a) b bs false h.inside r is)

pub set_of : (s : State) (force : Bool) (a : ℕ) (text : List ℕ) → IsPlaced a → (r : Result Content ParseFault) → IsAnsweredAs text r → IsStep s (Set force (cell a) text) (set_answer s force a (length text == 0) r)
set_of s force a [] h r is = set_none s force (cell a)
set_of s force a (b ∷ bs) h r is =
    let some : false ≡ (length (b ∷ bs) == 0) = grind (arith, nat_tests) in
    subst (λ (none : Bool). IsStep s (Set force (cell a) (b ∷ bs)) (set_answer s force a none r)) some (set_placed s force a b bs h r is)

-- ---- a cell of the sheet

module _ (s : State) (force : Bool) (at : ℕ) (text : List ℕ) (placed : IsPlaced at) where
  -- the answer that is found
  abbrev found : Answer
  found = set_answer s force at (length text == 0) (content_read text)

  set_found : IsStep s (Set force (cell at) text) found
  set_found = set_of s force at text placed (content_read text) ((content_is_one text (content_read text)).1 refl)

  -- an empty text
  pub set_empty : (length text == 0) ≡ true → IsStep s (Set force (cell at) text) (Err refusal.BadCommand)
  set_empty e = subst (IsStep s (Set force (cell at) text)) (ap (λ (none : Bool). set_answer s force at none (content_read text)) e) set_found

  -- one that isn't
  module _ (some : (length text == 0) ≡ false) where
    found_is : (r : Result Content ParseFault) → content_read text ≡ r → found ≡ content_answer s force at r
    found_is r e =
        ap (λ (none : Bool). set_answer s force at none (content_read text)) some ∙ ap (content_answer s force at) e

    put_grows : (r : Result Content ParseFault) → is_too_long r ≡ false → may_grow (content_answer s force at r) ≡ true
    put_grows (Ok content) h = edit_grows s force (set_edit at content)
    put_grows (Err parse.TooLong) h = cc
    put_grows (Err e) h = refl

    at_fault : (fault : ParseFault) → ReadsAs (content_read text) (Err fault) → MayRefuse (parse_refusal fault) (IsStep s (Set force (cell at) text))
    at_fault parse.Memory h =
        record { answer = found; is_answer = set_found; grows = ap may_grow (found_is (content_read text) refl) ∙ put_grows (content_read text) h }
    at_fault fault h = subst (IsStep s (Set force (cell at) text)) (found_is (Err fault) h) set_found

    -- it can't be read
    pub set_refused : (r : Result (Unit {0}) Refusal) (fault : ParseFault) → IsErrAnd r (λ e. e ≡ parse_refusal fault) → ReadsAs (content_read text) (Err fault)
        → Serves (IsStep s (Set force (cell at) text)) r s s []
    set_refused r fault k h =
        ends_so (λ (x : Result (Unit {0}) Refusal). Serves (IsStep s (Set force (cell at) text)) x s s []) (parse_refusal fault) r k
        (at_fault fault h, refl, refl)

    -- it is read, and put into the cell
    pub set_edited : (r : Result (Unit {0}) Refusal) (t : State) (content : Content) (e : Edit) → content_read text ≡ Ok content → e ≡ set_edit at content
        → Serves (λ a. edit_answer s force e ≡ a) r s t [] → Serves (IsStep s (Set force (cell at) text)) r s t []
    set_edited r t content e h same =
        serves_as (λ a. edit_answer s force e ≡ a) (IsStep s (Set force (cell at) text))
        (λ a k. subst (IsStep s (Set force (cell at) text)) (found_is (Ok content) h ∙ ap (edit_answer s force) (sym same) ∙ k) set_found) r s t []

-- ---- the edit

pub one_cell_edit : (at : ℕ) (content : Content) (area : Area) (named : List Area) (contents : List (ℕ × Option Content)) → area ≡ cell_area at → named ≡ area ∷ [] → contents ≡ (at, Some content) ∷ [] →
    ◌≡◌ {A = Edit} (record { named = named; contents = contents }) (set_edit at content)
one_cell_edit at content area named contents a n c =
    same_edit named (cell_area at ∷ []) contents ((at, Some content) ∷ []) (n ∙ ap (λ (x : Area). x ∷ []) a) c
