-- The command `csv`: its step, by what its body finds, and what a call leaves.
use Rattle.wi_scenarios.proofs.Words.{◌≡◌, ◌∙◌, ◌<◌, ◌≤◌, ℕ, Bool, true, false, ◌==◌, List, [], ◌∷◌, length, inl, inr, Option, Some, Ok, Err, Result, if◌then◌else◌, refl, sym, ap, subst, arith, list_any, or-false, Any, both_ways, Area, Content, ImportFault, Field, fields_at, record_areas_at, AreChanges, IsFault, no_other, one_list, State, Answer, import_refusal, edit_answer, ◌-◌, None, nat_lt, nat_tests, some_import, Command, Csv, form, Cell, is_outside, cell, Put, fields, named, Cause, BadLine, BadCommand, CutShort, BadField, TooLong, OutOfSheet, Holds, lies_outside, is_missing, IsStep, causes, IsFirstOf, All, IsUtf8, IsImported, IsInside, bad_field, too_long, out_of_sheet, max_line, without_lf, IsImportStep, ◌≢◌, map, AllZip, keys_of, IsErrAnd, field_cell, IsChange, Refusal, Memory, MayRefuse, Serves, MayRefuseData, ServesData, imported_cells, IsPlaced, ◌↔◌, ltb-true, lt-ltb, ◌++◌, take, drop}
use Rattle.wi_import.specs.Imports.{IsImport}
use Rattle.wi_import.specs.declared.fault.ImportFault.TheVariants as import
use Rattle.wi_scenarios.specs.declared.refusal.Refusal.TheVariants as refusal
use Rattle.wi_scenarios.proofs.CallLemmas.{ends_so}
use Rattle.wi_scenarios.proofs.CauseTests.{any_is, NoneHolds, both_none, behind_none}
use Rattle.wi_scenarios.proofs.EditLemmas.{outside_first, last, edit_step, front, any_forced, none_forced, few_forced}

-- what an import comes to: what cells get, or a fault
abbrev pub ImportOutcome : Type 0
ImportOutcome = Result (List (ℕ × Option Content)) ImportFault

-- the answer to an import that comes to this, into these rectangles
abbrev pub csv_answer : State → Bool → List Area → ImportOutcome → Answer
csv_answer s force areas (Ok puts) = edit_answer s force (record { named = areas; contents = puts })
csv_answer s force areas (Err e) = Err (import_refusal e)

-- what holds of all isn't missing of some
all_any : {X : Type 0} (P : X → Type 0) (xs : List X) → All P xs → Any (λ x. P x → ⊥) xs → ⊥
all_any {X} P xs h k = k.4 (subst P k.3 (h k.0 k.1 k.2))

-- ---- a text as data lines

no_long : (lines : List (List ℕ)) → All (λ line. length (without_lf line) ≤ max_line) lines → Any (λ line. max_line < length (without_lf line)) lines → ⊥
no_long lines h k =
    let within : length (without_lf k.1) ≤ max_line = subst (λ (line : List ℕ). length (without_lf line) ≤ max_line) k.3 (h k.0 k.1 k.2) in
    let above : max_line < length (without_lf k.1) = k.4 in
    omega (arith, within, above)

-- ---- the step

pub csv_outside : (force : Bool) (c : Cell) (n : ℕ) (lines : List (List ℕ)) → list_any lies_outside (form (Csv force (Some c) n lines)) ≡ is_outside c
csv_outside force c n lines = any_forced lies_outside force _ refl ∙ or-false _

module _ (s : State) (force : Bool) (c : Cell) (n : ℕ) (lines : List (List ℕ)) where
  abbrev csv : Command
  csv = Csv force (Some c) n lines

  module _ (short : Holds s BadLine csv → ⊥) (come : Holds s CutShort csv → ⊥) where
    csv_out : is_outside c ≡ true → IsStep s csv (Err refusal.OutOfSheet)
    csv_out o = outside_first s csv short (λ k. k) come (csv_outside force c n lines ∙ o)

    module _ (o : is_outside c ≡ false) where
      none_first : NoneHolds s csv (take 8 front)
      none_first =
          (short, (λ k. k, (come, (λ k. both_ways _ (csv_outside force c n lines ∙ o) k, (few_forced force _ refl, (none_forced (is_missing s) force _ refl refl, (λ k. k, (λ k. k, tt))))))))

      in_front : (x : Cause) → IsFirstOf s csv (drop 8 front ++ last) x → IsFirstOf s csv causes x
      in_front x h = behind_none s csv (take 8 front) (drop 8 front ++ last) x none_first h

      module _ (puts : List Put) (are : AreChanges (fields c lines) puts) where
        other : (e : ImportFault) → IsFault (fields c lines) e → ⊥
        other e h =
            let same : ◌≡◌ {A = ImportOutcome} (Ok puts) (Err e) = no_other (fields c lines) (Ok puts) (Err e) are h in
            cc

        no_fault : NoneHolds s csv (drop 8 front)
        no_fault = (
          λ h. other import.BadField (bad_field _ h),
          (λ h. other import.TooLong (too_long _ are.texts h), (all_any IsInside (fields c lines) are.inside, (λ k. k, (λ k. k, (λ k. k, (λ k. k, tt)))))),
        )

        importing : IsStep s csv (edit_answer s force (record { named = named csv; contents = puts }))
        importing = edit_step s csv force (named csv) puts are.each (one_list (fields c lines)) refl refl (λ h. h) (both_none s csv (take 8 front) (drop 8 front) none_first no_fault) (λ d h. h)

      fault_is : (e : ImportFault) → IsFault (fields c lines) e → IsStep s csv (csv_answer s force (named csv) (Err e))
      fault_is e (bad_field fs h) = (BadField, in_front BadField (inl (h, refl)), refl)
      fault_is e (too_long fs texts h) = (TooLong, in_front TooLong (inr (all_any (λ (f : Field). IsUtf8 f.bytes) fs texts, inl (h, refl))), refl)
      fault_is e (out_of_sheet fs texts none h) =
          (OutOfSheet, in_front OutOfSheet (inr (all_any (λ (f : Field). IsUtf8 f.bytes) fs texts, inr (none_long none, inl (h, refl)))), refl)
        where
          none_long : All (λ f. IsImported f.bytes None → ⊥) (fields c lines) → Any (λ f. IsImported f.bytes None) (fields c lines) → ⊥
          none_long none k = none k.0 k.1 k.2 (subst (λ (f : Field). IsImported f.bytes None) (sym k.3) k.4)

      by_import : (r : ImportOutcome) → IsImport (fields c lines) r → IsStep s csv (csv_answer s force (named csv) r)
      by_import (Ok puts) is = importing puts is
      by_import (Err e) is = fault_is e is

    pub csv_step : (out : Bool) → is_outside c ≡ out → (r : ImportOutcome) → IsImport (fields c lines) r → IsStep s csv (if out then Err refusal.OutOfSheet else csv_answer s force (named csv) r)
    csv_step true o r is = csv_out o
    csv_step false o r is = by_import o r is

-- ---- any data lines

-- a data line that is too long
abbrev pub is_long : List ℕ → Bool
is_long line = nat_lt max_line (length (without_lf line))

pub long_lines : (lines : List (List ℕ)) → (list_any is_long lines ≡ true) ↔ Any (λ line. max_line < length (without_lf line)) lines
long_lines lines = any_is is_long (λ line. max_line < length (without_lf line)) (λ line. (λ e. ltb-true _ _ e, λ h. lt-ltb _ _ h)) lines

pub no_long_line : (lines : List (List ℕ)) → list_any is_long lines ≡ false → Any (λ line. max_line < length (without_lf line)) lines → ⊥
no_long_line lines e h = both_ways _ e ((long_lines lines).1 h)

pub cut : (n m : ℕ) → (n - m == 0) ≡ false → m < n
cut n m e = grind (arith, nat_tests)

pub not_cut : (n m : ℕ) → (n - m == 0) ≡ true → m < n → ⊥
not_cut n m e h = grind (arith, nat_tests)

-- a word that is no cell
pub csv_bare : (s : State) (force : Bool) (n : ℕ) (lines : List (List ℕ)) → (a : Answer) × IsStep s (Csv force None n lines) a
csv_bare s force n lines = by (list_any is_long lines) refl
  where
    by : (long : Bool) → list_any is_long lines ≡ long → (a : Answer) × IsStep s (Csv force None n lines) a
    by true e = (Err refusal.BadLine, (BadLine, inl ((long_lines lines).0 e, refl), refl))
    by false e = (Err refusal.BadCommand, (BadCommand, inr (no_long_line lines e, inl (tt, refl)), refl))

pub csv_some : (s : State) (force : Bool) (c : Cell) (n : ℕ) (lines : List (List ℕ)) → (a : Answer) × IsStep s (Csv force (Some c) n lines) a
csv_some s force c n lines = by (list_any is_long lines) (n - length lines == 0) refl refl
  where
    by : (long come : Bool) → list_any is_long lines ≡ long → (n - length lines == 0) ≡ come → (a : Answer) × IsStep s (Csv force (Some c) n lines) a
    by true come el em = (Err refusal.BadLine, (BadLine, inl ((long_lines lines).0 el, refl), refl))
    by false false el em = (Err refusal.CutShort, (CutShort, inr (no_long_line lines el, inr (λ h. h, inl (cut _ _ em, refl))), refl))
    by false true el em =
        let out = is_outside c in
        let r = some_import (fields c lines) in
        (if out then Err refusal.OutOfSheet else csv_answer s force (named (Csv force (Some c) n lines)) r.0, csv_step s force c n lines (no_long_line lines el) (not_cut _ _ em) out refl r.0 r.1)

-- of a text
pub csv_of : (s : State) (force : Bool) (at : ℕ) (text : List ℕ) (out : Bool) → is_outside (cell at) ≡ out → (r : ImportOutcome) → IsImport (fields_at at text) r
    → IsImportStep s force at text (if out then Err refusal.OutOfSheet else csv_answer s force (record_areas_at at text) r)
csv_of s force at text out o r is n lines are =
    subst (λ (t : List ℕ). IsStep s (Csv force (Some (cell at)) n lines) (if out then Err refusal.OutOfSheet else csv_answer s force (record_areas_at at t) r)) are.joined
    (csv_step s force (cell at) n lines (no_long lines are.short) (λ k. omega (arith, are.come, k)) out o r (subst (λ (t : List ℕ). IsImport (fields_at at t) r) (sym are.joined) is))

-- ---- an import that is refused

faulted : (s : State) (force : Bool) (at : ℕ) (text : List ℕ) (fault : ImportFault) → IsPlaced at → (fault ≢ import.Memory → IsFault (fields_at at text) fault)
    → MayRefuseData (import_refusal fault) (IsImportStep s force at text)
faulted s force at text import.BadField placed h = csv_of s force at text false placed.inside (Err import.BadField) (h (λ e. let n : ⊥ = cc in n))
faulted s force at text import.TooLong placed h = csv_of s force at text false placed.inside (Err import.TooLong) (h (λ e. let n : ⊥ = cc in n))
faulted s force at text import.OutOfSheet placed h = csv_of s force at text false placed.inside (Err import.OutOfSheet) (h (λ e. let n : ⊥ = cc in n))
faulted s force at text import.Memory placed h = tt

pub csv_refused : (r : Result (Unit {0}) Refusal) (s : State) (force : Bool) (at : ℕ) (text : List ℕ) (fault : ImportFault) → IsPlaced at → IsErrAnd r (λ e. e ≡ import_refusal fault) →
    (fault ≢ import.Memory → IsFault (fields_at at text) fault) → ServesData (IsImportStep s force at text) r s s
csv_refused r s force at text fault placed k h =
    ends_so (λ (x : Result (Unit {0}) Refusal). ServesData (IsImportStep s force at text) x s s) (import_refusal fault) r k (faulted s force at text fault placed h, refl)

-- ---- an import that is made

may_refuse_data : (e : Refusal) (IsOne IsOther : Answer → Type 0) → ((a : Answer) → IsOne a → IsOther a) → MayRefuse e IsOne → MayRefuseData e IsOther
may_refuse_data Memory IsOne IsOther f h = tt
may_refuse_data e IsOne IsOther f h = f (Err e) h

serves_data : (IsOne IsOther : Answer → Type 0) → ((a : Answer) → IsOne a → IsOther a) → (r : Result (Unit {0}) Refusal) (s t : State) → Serves IsOne r s t [] → ServesData IsOther r s t
serves_data IsOne IsOther f (Ok u) s t h = f (Ok (t, [])) h
serves_data IsOne IsOther f (Err e) s t h = (may_refuse_data e IsOne IsOther f h.0, h.1)

pub csv_edited : (r : Result (Unit {0}) Refusal) (s t : State) (force : Bool) (at : ℕ) (text : List ℕ) → IsPlaced at → (named : List Area) (contents : List (ℕ × Option Content)) →
    named ≡ record_areas_at at text → AreChanges (fields_at at text) contents →
    Serves (λ a. edit_answer s force (record { named = named; contents = contents }) ≡ a) r s t [] → ServesData (IsImportStep s force at text) r s t
csv_edited r s t force at text placed named contents n c =
    serves_data (λ a. edit_answer s force (record { named = named; contents = contents }) ≡ a) (IsImportStep s force at text)
    (λ a h. subst (IsImportStep s force at text) (ap (λ (areas : List Area). edit_answer s force (record { named = areas; contents = contents })) (sym n) ∙ h)
    (csv_of s force at text false placed.inside (Ok contents) c))
    r s t

-- the cells that get something are those of the fields
each_cell : (fields : List Field) (contents : List (ℕ × Option Content)) → AllZip IsChange fields contents → keys_of contents ≡ map field_cell fields
each_cell [] [] h = refl
each_cell [] (x ∷ xs) h = absurd h
each_cell (f ∷ fs) [] h = absurd h
each_cell (f ∷ fs) (x ∷ xs) h = ap (λ (c : ℕ). c ∷ keys_of xs) (h.0).0 ∙ ap (λ (cells : List ℕ). field_cell f ∷ cells) (each_cell fs xs h.1)

pub imported_are : (at : ℕ) (text : List ℕ) (contents : List (ℕ × Option Content)) → AreChanges (fields_at at text) contents → keys_of contents ≡ imported_cells at text
imported_are at text contents h = each_cell (fields_at at text) contents h.each
