-- A command has one answer.
use Rattle.wi_scenarios.proofs.Words.{◌≡◌, ◌∙◌, Bool, true, false, ◌||◌, List, ℕ, nat_lt, [], ◌∷◌, Option, Some, None, Ok, Err, if◌then◌else◌, refl, sym, Value, imported, imported_exactly, content_read, content_is_one, max_area, size_of, State, Answer, Command, Set, Clear, Fill, Csv, Scenario, Unknown, Unreadable, Cell, CornerCells, is_outside, address, area, Cause, BadLine, BadCommand, TooLong, Holds, Does, IsStep, fields, copy_in, cells_of, one_list}
use Rattle.wi_scenarios.specs.declared.refusal.Refusal.TheVariants as refusal
use Rattle.wi_scenarios.proofs.CauseTests.{DoesOne, one_answer, EditsNone, first_found, refused_by, free, accepted}
use Rattle.wi_scenarios.proofs.EditLemmas.{one_edit}
use Rattle.wi_scenarios.proofs.SetSteps.{content_answer, set_none, set_some, one_puts as set_one}
use Rattle.wi_scenarios.proofs.ClearSteps.{cleared, clear_step}
use Rattle.wi_scenarios.proofs.FillSteps.{fill_edit, leaves, filled_by, fill_step, fill_out, one_puts as fill_one}
use Rattle.wi_scenarios.proofs.CsvSteps.{csv_some, csv_bare}
use Rattle.wi_scenarios.proofs.ScenarioSteps.{put_state, one_put}

fill_some : (s : State) (force : Bool) (c : Cell) (r : CornerCells) (one two : Bool) → is_outside c ≡ one → (is_outside r.0 || is_outside r.1) ≡ two → (a : Answer) × IsStep s (Fill force c r) a
fill_some s force c r true two o p = (Err refusal.OutOfSheet, fill_out s force c r true two o p refl)
fill_some s force c r false true o p = (Err refusal.OutOfSheet, fill_out s force c r false true o p refl)
fill_some s force c r false false o p =
    let from = address c in
    let to = area r in
    let large = nat_lt max_area (size_of to) in
    (filled_by s force large (leaves s from to) (fill_edit s.stored.sheet from to), fill_step s force c r o p large (leaves s from to) refl refl)

-- a command that edits nothing
some_done : (s : State) (c : Command) → EditsNone c → ((x : Cause) → Holds s x c → ⊥) → (done : State × List ℕ) × Does s c done
some_done s (Set force at text) u free = absurd u
some_done s (Clear force r) u free = absurd u
some_done s (Fill force c r) u free = absurd u
some_done s (Csv force at n lines) u free = absurd u
some_done s (Scenario name c []) u free = (_, refl)
some_done s (Scenario name c (b ∷ bs)) u free = by (imported (b ∷ bs)) refl
  where
    by : (o : Option Value) → imported (b ∷ bs) ≡ o → (done : State × List ℕ) × Does s (Scenario name c (b ∷ bs)) done
    by None e = absurd (free TooLong ((imported_exactly (b ∷ bs) None).1 e))
    by (Some v) e = (put_state s name (address c) v, (v, (imported_exactly (b ∷ bs) (Some v)).1 e, refl))
some_done s Unknown u free = absurd (free BadCommand tt)
some_done s Unreadable u free = absurd (free BadLine tt)
some_done s c u free = (_, refl)

answer_of : (s : State) (c : Command) → EditsNone c → (a : Answer) × IsStep s c a
answer_of s c u = by (first_found s c) refl
  where
    by : (o : Option Cause) → first_found s c ≡ o → (a : Answer) × IsStep s c a
    by (Some x) e = refused_by s c u x e
    by None e = let d = some_done s c u (free s c u e) in (Ok d.0, accepted s c u e d.0 d.1)

pub an_answer : (s : State) (c : Command) → (a : Answer) × IsStep s c a
an_answer s (Set force c []) = (Err refusal.BadCommand, set_none s force c)
an_answer s (Set force c (b ∷ bs)) =
    let read = content_read (b ∷ bs) in
    (if is_outside c then Err refusal.OutOfSheet else content_answer s force (address c) read, set_some s force c b bs (is_outside c) refl read ((content_is_one (b ∷ bs) read).1 refl))
an_answer s (Clear force r) =
    let out = is_outside r.0 || is_outside r.1 in
    (if out then Err refusal.OutOfSheet else cleared s force (area r), clear_step s force r out refl)
an_answer s (Fill force c r) = fill_some s force c r (is_outside c) (is_outside r.0 || is_outside r.1) refl refl
an_answer s (Csv force None n lines) = csv_bare s force n lines
an_answer s (Csv force (Some c) n lines) = csv_some s force c n lines
an_answer s c = answer_of s c tt

does_one : (s : State) (c : Command) → DoesOne s c
does_one s (Set force c text) = one_edit s (Set force c text) (set_one s force c text)
does_one s (Clear force r) = one_edit s (Clear force r) (λ p q h k. h ∙ sym k)
does_one s (Fill force c r) = one_edit s (Fill force c r) (fill_one (copy_in s (address c)) (cells_of (area r)))
does_one s (Csv force None n lines) = λ x y h k. absurd h.1
does_one s (Csv force (Some c) n lines) = one_edit s (Csv force (Some c) n lines) (one_list (fields c lines))
does_one s (Scenario name c []) = λ x y h k. h ∙ sym k
does_one s (Scenario name c (b ∷ bs)) = one_put s name c b bs
does_one s Unknown = λ x y h k. absurd h.1
does_one s Unreadable = λ x y h k. absurd h.1
does_one s c = λ x y h k. h ∙ sym k

pub no_other : (s : State) (c : Command) (a b : Answer) → IsStep s c a → IsStep s c b → a ≡ b
no_other s c a b h k = one_answer s c (does_one s c) a b h k
