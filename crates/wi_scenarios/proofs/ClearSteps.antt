-- The command `clear`: its step, by what its body finds, and what a call leaves.
use Rattle.wi_scenarios.proofs.Words.{◌≡◌, ◌∙◌, Bool, true, false, ◌||◌, List, [], ◌∷◌, map, filter, None, Err, if◌then◌else◌, refl, sym, ap, subst, list_any, or-false, keys_of, both_ways, Area, is_within, State, Answer, edit_answer, Sheet, Edit, occupied_in, Command, Clear, form, CornerCells, is_outside, area, corners, Put, lies_outside, is_missing, IsStep, ℕ, IsSpanned, Option, Result, Content, Refusal, Serves, IsErrAnd, Memory}
use Rattle.wi_scenarios.specs.declared.refusal.Refusal.TheVariants as refusal
use Rattle.wi_scenarios.proofs.CauseTests.{NoneHolds}
use Rattle.wi_scenarios.proofs.EditLemmas.{outside_first, any_forced, front, edit_step, same_edit, edit_serves, edit_lacks, none_forced}

-- each occupied cell of the rectangle gets no content
abbrev pub clear_edit : Sheet → Area → Edit
clear_edit sheet area = record { named = area ∷ []; contents = map (λ a. (a, None)) (occupied_in sheet area) }

-- the answer to clearing a rectangle of the sheet
abbrev pub cleared : State → Bool → Area → Answer
cleared s force a = edit_answer s force (clear_edit s.stored.sheet a)

pub clear_outside : (force out : Bool) (r : CornerCells) → (is_outside r.0 || is_outside r.1) ≡ out → list_any lies_outside (form (Clear force r)) ≡ out
clear_outside force out r o = any_forced lies_outside force _ refl ∙ or-false _ ∙ o

module _ (s : State) (force : Bool) (r : CornerCells) where
  abbrev clear : Command
  clear = Clear force r

  abbrev puts : List Put
  puts = map (λ a. (a, None)) (filter (is_within (area r)) (keys_of s.stored.sheet))

  module _ (inside : (is_outside r.0 || is_outside r.1) ≡ false) where
    no_other : NoneHolds s clear front
    no_other =
        (λ k. k, (λ k. k, (λ k. k, (λ k. both_ways _ (clear_outside force false r inside) k, (λ k. k, (none_forced (is_missing s) force _ refl refl, (λ k. k, (λ k. k, (λ k. k, (λ k. k, (λ k. k, (λ k. k, (λ k. k, (λ k. k, (λ k. k, tt)))))))))))))))

    clearing : IsStep s clear (cleared s force (area r))
    clearing = edit_step s clear force (area r ∷ []) puts refl (λ p q h k. h ∙ sym k) refl refl (λ h. h) no_other (λ d h. h)

  pub clear_step : (out : Bool) → (is_outside r.0 || is_outside r.1) ≡ out → IsStep s clear (if out then Err refusal.OutOfSheet else cleared s force (area r))
  clear_step true o = outside_first s clear (λ h. h) (λ h. h) (λ h. h) (clear_outside force true r o)
  clear_step false o = clearing o

-- of a rectangle of the sheet
pub clear_of : (s : State) (force : Bool) (a : Area) → IsSpanned a → IsStep s (Clear force (corners a)) (cleared s force a)
clear_of s force a h = subst (λ (x : Area). IsStep s (Clear force (corners a)) (cleared s force x)) h.again (clear_step s force (corners a) false h.inside)

-- ---- what `clear` answers

abbrev emptied : ℕ → ℕ × Option Content
emptied a = (a, None)

-- the edit that is made is that of the definition
pub emptied_are : (sheet : Sheet) (area : Area) (cells : List ℕ) (contents : List (ℕ × Option Content)) → cells ≡ occupied_in sheet area → contents ≡ map (λ a. (a, None)) cells →
    contents ≡ (clear_edit sheet area).contents
emptied_are sheet area cells contents c e = e ∙ ap (map emptied) c

keys_of_emptied : (cells : List ℕ) → keys_of (map emptied cells) ≡ cells
keys_of_emptied [] = refl
keys_of_emptied (c ∷ cells) = ap (λ (xs : List ℕ). c ∷ xs) (keys_of_emptied cells)

-- the cells that it is for
pub emptied_cells : (cells : List ℕ) (contents : List (ℕ × Option Content)) → contents ≡ map (λ a. (a, None)) cells → keys_of contents ≡ cells
emptied_cells cells contents e = ap keys_of e ∙ keys_of_emptied cells

pub clear_edited : (s : State) (force : Bool) (area : Area) → IsSpanned area → (named : List Area) (contents : List (ℕ × Option Content)) → named ≡ area ∷ [] → contents ≡ (clear_edit s.stored.sheet area).contents
    → (r : Result (Unit {0}) Refusal) (t : State) → Serves (λ a. edit_answer s force (record { named = named; contents = contents }) ≡ a) r s t []
    → Serves (IsStep s (Clear force (corners area))) r s t []
clear_edited s force area spanned named contents n c =
    edit_serves s (Clear force (corners area)) force (record { named = named; contents = contents }) (clear_edit s.stored.sheet area)
    (same_edit named (area ∷ []) contents (clear_edit s.stored.sheet area).contents n c) (clear_of s force area spanned)

-- memory ran out before the edit
pub clear_lacks : (s : State) (force : Bool) (area : Area) → IsSpanned area → (r : Result (Unit {0}) Refusal) → IsErrAnd r (λ e. e ≡ Memory) → Serves (IsStep s (Clear force (corners area))) r s s []
clear_lacks s force area spanned r k =
    let edit = clear_edit s.stored.sheet area in
    edit_serves s (Clear force (corners area)) force edit edit refl (clear_of s force area spanned) r s (edit_lacks r s force edit k)
