-- That each part has something, after a change of one part.
use Rattle.wi_tiles.proofs.Words.{◌≡◌, ℕ, ◌<◌, List, [], ◌∷◌, length, ◌+◌, ◌*◌, ◌/◌, ◌%◌, Option, Some, None, sym, ap, arith, ◌∙◌, ⊎_elim, zero, suc, refl, cond, subst, take, drop, get_or, ◌↔◌, IsTrue, ◌==◌, if◌then◌else◌, option_map, slice_set, option_or, All, insert, remove, cases_eq, All-nil, All-cons, All-head, All-tail, All-append, All-take, All-drop, eq-eqb, ne_eqb, eqb-true, at_part, find, at_sorted, IsFilled}
use Rattle.wi_tiles.proofs.Outcomes.{some_none}

-- all of some, with one more, one less, or one back
pub all_more : {X : Type 0} (P : X → Type 0) (xs : List X) (i : ℕ) (x : X) → All P xs → P x → All P (insert xs i x)
all_more P xs i x all one = All-append P (take i xs) (x ∷ drop i xs) (All-take P i xs all) (All-cons P x (drop i xs) one (All-drop P i xs all))

pub all_less : {X : Type 0} (P : X → Type 0) (xs : List X) (i : ℕ) → All P xs → All P (remove xs i)
all_less P xs i all = All-append P (take i xs) (drop (suc i) xs) (All-take P i xs all) (All-drop P (suc i) xs all)

pub all_back : {X : Type 0} (P : X → Type 0) (xs : List X) (i : ℕ) (x : X) → i < length xs → x ≡ get_or xs i x → P x → All P (remove xs i) → All P xs
all_back P [] i x l read one all = absurd (omega arith)
all_back P (y ∷ ys) zero x l read one all = All-cons P y ys (subst P read one) all
all_back P (y ∷ ys) (suc i) x l read one all = All-cons P y ys (All-head P y (remove ys i) all) (all_back P ys i x (omega arith) read one (All-tail P y (remove ys i) all))

pub remove_set : {X : Type 0} (xs : List X) (i : ℕ) (x : X) → remove (slice_set xs i x) i ≡ remove xs i
remove_set [] i x = refl
remove_set (y ∷ ys) zero x = refl
remove_set (y ∷ ys) (suc i) x = ap (λ zs. y ∷ zs) (remove_set ys i x)

pub all_none : {X : Type 0} (P : X → Type 0) (xs : List X) → xs ≡ [] → All P xs
all_none P xs e = subst (λ ys. All P ys) (sym e) (All-nil P)

module _ {S V : Type 0} (at : S → ℕ → Option V) where
  changed_at : (s t : S) (place : ℕ) (o : Option V) → ((p : ℕ) → at t p ≡ (if p == place then o else at s p)) → at t place ≡ o
  changed_at s t place o changed = changed place ∙ ap (λ b. cond b o (at s place)) (eq-eqb place place refl)

  -- where a value was put
  pub filled_put : (s t : S) (place : ℕ) (v : V) → ((p : ℕ) → at t p ≡ (if p == place then option_or (at s place) (Some v) else at s p)) → ((p : ℕ) → at t p ≡ None) → ⊥
  filled_put s t place v put none = put_some (at s place) (sym (changed_at s t place (option_or (at s place) (Some v)) put) ∙ none place)
    where
      put_some : (o : Option V) → option_or o (Some v) ≡ None → ⊥
      put_some None e = some_none v e
      put_some (Some w) e = some_none w e

  -- and where one was put in the place of another
  pub filled_replaced : (s t : S) (place : ℕ) (v : V) → ((p : ℕ) → at t p ≡ (if p == place then option_map (λ _. v) (at s place) else at s p)) → (((p : ℕ) → at s p ≡ None) → ⊥) → ((p : ℕ) → at t p ≡ None) → ⊥
  filled_replaced s t place v put filled none = filled (λ p. ⊎_elim
      (λ e. ap (λ q. at s q) e ∙ map_none (at s place) (sym (changed_at s t place (option_map (λ _. v) (at s place)) put) ∙ none place))
      (λ ne. sym (put p ∙ ap (λ b. cond b (option_map (λ _. v) (at s place)) (at s p)) (ne_eqb p place ne)) ∙ none p)
      (cases_eq p place))
    where
      map_none : (o : Option V) → option_map (λ _. v) o ≡ None → o ≡ None
      map_none None e = refl
      map_none (Some w) e = absurd (some_none v e)

  pub filled_kept : (s t : S) → ((p : ℕ) → at t p ≡ at s p) → (((p : ℕ) → at s p ≡ None) → ⊥) → ((p : ℕ) → at t p ≡ None) → ⊥
  filled_kept s t kept filled none = filled (λ p. sym (kept p) ∙ none p)

  -- parts that have nothing are none
  pub none_filled : (ts : List (ℕ × S)) → All (IsFilled at) ts → IsTrue (length ts == 0) ↔ ((p : ℕ) → at_sorted at ts p ≡ None)
  none_filled [] filled = (λ _ p. refl, λ _. refl)
  none_filled (t ∷ ts) filled = (λ z. absurd (some_counted z), λ none. absurd (some_stand none))
    where
      some_counted : IsTrue (length (t ∷ ts) == 0) → ⊥
      some_counted z = omega (arith, eqb-true (length (t ∷ ts)) 0 z)

      first : IsFilled at t
      first = All-head (IsFilled at) t ts filled

      some_stand : ((p : ℕ) → at_sorted at (t ∷ ts) p ≡ None) → ⊥
      some_stand none = first.1 (λ q. sym (here q) ∙ none (t.0 + 4096 * q))
        where
          here : (q : ℕ) → at_sorted at (t ∷ ts) (t.0 + 4096 * q) ≡ at t.1 q
          here q = ap (λ g. at_part at (find g (t ∷ ts)) ((t.0 + 4096 * q) / 4096)) (let e : (t.0 + 4096 * q) % 4096 ≡ t.0 = omega (arith, first.0) in e)
              ∙ ap (λ b. at_part at (cond b (Some t.1) (find t.0 ts)) ((t.0 + 4096 * q) / 4096)) (eq-eqb t.0 t.0 refl)
              ∙ ap (λ k. at t.1 k) (let e : (t.0 + 4096 * q) / 4096 ≡ q = omega (arith, first.0) in e)
