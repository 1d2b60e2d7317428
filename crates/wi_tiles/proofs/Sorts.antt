-- What a change of one part makes of all paths.
use Rattle.wi_tiles.proofs.Words.{◌≡◌, ℕ, ◌/◌, ◌%◌, ◌<◌, ◌≤◌, List, length, Option, Some, None, sym, ap, arith, ◌∙◌, cond, refl, slice_set, slice_index_or, ◌==◌, if◌then◌else◌, insert, remove, at_part, find, key, Rises, at_sorted, groups}
use Rattle.wi_tiles.proofs.Digits.{IsDigit, digit_changed, digit_kept}
use Rattle.wi_tiles.proofs.Keys.{key_read, find_at, find-set_same, find-set_other, find-insert_same, find-insert_other, find-remove_same, find-remove_other}

before_place : {S : Type 0} (ts : List (ℕ × S)) (i g : ℕ) → Rises ts → i < length ts → key ts i ≡ g → (j : ℕ) → j < i → key ts j < g
before_place ts i g rises h is j l = omega (arith, rises j i l h, is)

pub part_at : {S : Type 0} (ts : List (ℕ × S)) (i g : ℕ) (before : ℕ × S) → Rises ts → i < length ts → key ts i ≡ g → before ≡ slice_index_or ts i before → find g ts ≡ Some before.1
part_at ts i g before rises h is read = find_at ts i g before h read (sym (key_read ts i before h read) ∙ is) (before_place ts i g rises h is)

digit : IsDigit 4096
digit p q r s = omega (arith, r, s)

set_found : {S : Type 0} (ts : List (ℕ × S)) (i g : ℕ) (w : ℕ × S) → Rises ts → i < length ts → key ts i ≡ g → w.0 ≡ g → find g (slice_set ts i w) ≡ Some w.1
set_found ts i g w rises h is e = ap (λ q. find q (slice_set ts i w)) (sym e) ∙ find-set_same ts i w h (before_place ts i w.0 rises h (is ∙ sym e))

pub sorted_changed : {S V : Type 0} (at : S → ℕ → Option V) (ts : List (ℕ × S)) (path i : ℕ) (before w : ℕ × S) (o : Option V) → Rises ts → i < length ts → key ts i ≡ path % groups → before ≡ slice_index_or ts i before → w.0 ≡ path % groups → ((p : ℕ) → at w.1 p ≡ (if p == path / groups then o else at before.1 p)) → (p : ℕ) → at_sorted at (slice_set ts i w) p ≡ (if p == path then o else at_sorted at ts p)
sorted_changed at ts path i before w o rises h is read stays changed = digit_changed groups digit at (λ k. find k ts) (λ k. find k (slice_set ts i w)) path o
    (λ p. ap (λ x. at_part at x p) (set_found ts i (path % groups) w rises h is stays) ∙ changed p ∙ ap (λ x. cond (p == path / groups) o (at_part at x p)) (sym (part_at ts i (path % groups) before rises h is read)))
    (λ k ne. find-set_other ts i k w (is ∙ sym stays) (λ z. ne (z ∙ stays)))

pub sorted_kept : {S V : Type 0} (at : S → ℕ → Option V) (ts : List (ℕ × S)) (g i : ℕ) (before w : ℕ × S) → Rises ts → i < length ts → key ts i ≡ g → before ≡ slice_index_or ts i before → w.0 ≡ g → ((p : ℕ) → at w.1 p ≡ at before.1 p) → (p : ℕ) → at_sorted at (slice_set ts i w) p ≡ at_sorted at ts p
sorted_kept at ts g i before w rises h is read stays kept = digit_kept groups digit at (λ k. find k ts) (λ k. find k (slice_set ts i w)) g
    (λ p. ap (λ x. at_part at x p) (set_found ts i g w rises h is stays) ∙ kept p ∙ ap (λ x. at_part at x p) (sym (part_at ts i g before rises h is read)))
    (λ k ne. find-set_other ts i k w (is ∙ sym stays) (λ z. ne (z ∙ stays)))

-- a part more, with one value
pub sorted_put : {S V : Type 0} (at : S → ℕ → Option V) (ts : List (ℕ × S)) (path i : ℕ) (nothing s : S) (o : Option V) → i ≤ length ts → ((j : ℕ) → j < i → key ts j < path % groups) → find (path % groups) ts ≡ None → ((p : ℕ) → at nothing p ≡ None) → ((p : ℕ) → at s p ≡ (if p == path / groups then o else at nothing p)) → (p : ℕ) → at_sorted at (insert ts i (path % groups, s)) p ≡ (if p == path then o else at_sorted at ts p)
sorted_put at ts path i nothing s o h before none empty put = digit_changed groups digit at (λ k. find k ts) (λ k. find k (insert ts i (path % groups, s))) path o
    (λ p. ap (λ x. at_part at x p) (find-insert_same ts i (path % groups) s h before) ∙ put p ∙ ap (λ x. cond (p == path / groups) o x) (empty p) ∙ ap (λ x. cond (p == path / groups) o (at_part at x p)) (sym none))
    (λ k ne. find-insert_other ts i (path % groups) k s h ne)

-- a part less, that had nothing
pub sorted_less : {S V : Type 0} (at : S → ℕ → Option V) (ts : List (ℕ × S)) (i : ℕ) (before : ℕ × S) → Rises ts → i < length ts → before ≡ slice_index_or ts i before → ((p : ℕ) → at before.1 p ≡ None) → (p : ℕ) → at_sorted at (remove ts i) p ≡ at_sorted at ts p
sorted_less at ts i before rises h read nothing = digit_kept groups digit at (λ k. find k ts) (λ k. find k (remove ts i)) (key ts i)
    (λ p. ap (λ x. at_part at x p) (find-remove_same ts i rises h) ∙ sym (nothing p) ∙ ap (λ x. at_part at x p) (sym (part_at ts i (key ts i) before rises h refl read)))
    (λ k ne. find-remove_other ts i k h ne)
