-- Laws of the rooms of a picture.
use Rattle.wi_sessions.proofs.Words.{◌≡◌, ◌==◌, ℕ, Bool, true, false, cond, not, List, [], ◌∷◌, Option, Some, None, Result, Ok, Err, IsErr, refl, sym, ◌∙◌, result_unwrap_or, found-insert, found-without, Ascends, Ascends-filter, Ascends-from_order, Ascends-insert, Value, Empty, Number, Text, Logical, Fault, value_in, with_value, with_changes, room_of, held_at, HasNoVacancy, AreBetweenEdits, HoldsTheSame, with_one, with_all, same_all, same_filled}
use Rattle.wi_sessions.proofs.ChangeLists.{value_in-with}

Ascends-with_value : (s : List (ℕ × Value)) (c : ℕ) (v : Value) → Ascends s → Ascends (with_value s c v)
Ascends-with_value s c Empty h = Ascends-filter (λ e. not (e.0 == c)) s h
Ascends-with_value s c (Number x) h = Ascends-insert c (Number x) s h
Ascends-with_value s c (Text t) h = Ascends-insert c (Text t) s h
Ascends-with_value s c (Logical b) h = Ascends-insert c (Logical b) s h
Ascends-with_value s c (Fault k) h = Ascends-insert c (Fault k) s h

pub Ascends-with_changes : (s es : List (ℕ × Value)) → Ascends s → Ascends (with_changes s es)
Ascends-with_changes s [] h = h
Ascends-with_changes s (e ∷ es) h = Ascends-with_changes (with_value s e.0 e.1) es (Ascends-with_value s e.0 e.1 h)

no_vacancy_at : (b : Bool) (r o p : Option Value) → r ≡ cond b p o → (p ≡ Some Empty → ⊥) → (o ≡ Some Empty → ⊥) → r ≡ Some Empty → ⊥
no_vacancy_at true r o p e m n h = m (sym e ∙ h)
no_vacancy_at false r o p e m n h = n (sym e ∙ h)

HasNoVacancy-with_value : (s : List (ℕ × Value)) (c : ℕ) (v : Value) → HasNoVacancy Empty s → HasNoVacancy Empty (with_value s c v)
HasNoVacancy-with_value s c Empty h = λ q. no_vacancy_at (q == c) _ (room_of s q) None (found-without s c q) (λ e. cc) (h q)
HasNoVacancy-with_value s c (Number x) h = λ q. no_vacancy_at (q == c) _ (room_of s q) (Some (Number x)) (found-insert s c (Number x) q) (λ e. cc) (h q)
HasNoVacancy-with_value s c (Text t) h = λ q. no_vacancy_at (q == c) _ (room_of s q) (Some (Text t)) (found-insert s c (Text t) q) (λ e. cc) (h q)
HasNoVacancy-with_value s c (Logical b) h = λ q. no_vacancy_at (q == c) _ (room_of s q) (Some (Logical b)) (found-insert s c (Logical b) q) (λ e. cc) (h q)
HasNoVacancy-with_value s c (Fault k) h = λ q. no_vacancy_at (q == c) _ (room_of s q) (Some (Fault k)) (found-insert s c (Fault k) q) (λ e. cc) (h q)

pub HasNoVacancy-with_changes : (s es : List (ℕ × Value)) → HasNoVacancy Empty s → HasNoVacancy Empty (with_changes s es)
HasNoVacancy-with_changes s [] h = h
HasNoVacancy-with_changes s (e ∷ es) h = HasNoVacancy-with_changes (with_value s e.0 e.1) es (HasNoVacancy-with_value s e.0 e.1 h)

-- the values after changes
value_in-with_changes : (es s : List (ℕ × Value)) (q : ℕ) → value_in (with_changes s es) q ≡ with_all (value_in s) es q
value_in-with_changes [] s q = refl
value_in-with_changes (e ∷ es) s q =
    value_in-with_changes es (with_value s e.0 e.1) q ∙ same_all es (value_in (with_value s e.0 e.1)) (with_one (value_in s) e) (λ c. value_in-with s e.0 e.1 c) q

-- those of rooms, of which some were made before
pub values_after : (old made new es : List (ℕ × Value)) → HoldsTheSame Empty old made → ((q : ℕ) → held_at Empty new q ≡ with_all (held_at Empty made) es q)
    → HoldsTheSame Empty (with_changes old es) new
values_after old made new es same after q = after q ∙ same_all es (held_at Empty made) (value_in old) same q ∙ sym (value_in-with_changes es old q)

-- what a call that may be refused leaves, once vacant rooms are gone
module _ (old left new : List (ℕ × Value)) (before : AreBetweenEdits Empty old) (after : AreBetweenEdits Empty new) (same : HoldsTheSame Empty left new) where
  up : Ascends old
  up = Ascends-from_order old before.order

  pub all_put : (es : List (ℕ × Value)) → HoldsTheSame Empty (with_changes old es) left → new ≡ with_changes old es
  all_put es h =
      same_filled Empty new (with_changes old es) (Ascends-from_order new after.order) (Ascends-with_changes old es up) after.full (HasNoVacancy-with_changes old es before.full)
      (λ q. sym (same q ∙ h q))

  pub none_put : HoldsTheSame Empty old left → new ≡ old
  none_put h = same_filled Empty new old (Ascends-from_order new after.order) up after.full before.full (λ q. sym (same q ∙ h q))

-- where the call is refused as many have a value as before
pub count_kept : {E : Type 0} (r : Result ℕ E) (before k : ℕ) → IsErr r → before ≡ k → result_unwrap_or r before ≡ k
count_kept (Ok m) before k err h = cc
count_kept (Err x) before k err h = h
