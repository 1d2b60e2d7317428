-- What is noted of cells, one and many.
use Rattle.wi_edit_log.proofs.Words.{◌≡◌, ◌∙◌, ℕ, ◌+◌, ◌==◌, ◌<◌, Bool, true, false, ◌||◌, ◌&&◌, List, length, take, get_or, Option, Some, None, IfSome, refl, ap, sym, if◌then◌else◌, eq-eqb, eqb-true, Area, is_within, is_within_one, IsFirst, NotesMore, before_of, last_after, last_of, Last, and-true}
use Rattle.wi_edit_log.proofs.Next.{all_within, is_after, is_before, none_before, one_more_before}
use Rattle.wi_edit_log.proofs.Shared.{one_more_of}

-- ---- what is noted twice of one edit

again : (o : Option Last) (s n : ℕ) → last_after (Some (last_after o s n)) s n ≡ last_after o s n
again o s n = ap (λ (b : Bool). record { length = n; session = s; before = if b then before_of o s else n }) (eq-eqb s s refl)

joined : (o m w : Option Last) (s n : ℕ) (t v : Bool) → m ≡ (if t then Some (last_after o s n) else o) → w ≡ (if v then Some (last_after m s n) else m) → w ≡ (if t || v then Some (last_after o s n) else o)
joined o m w s n true true e f = f ∙ ap (λ k. Some (last_after k s n)) e ∙ ap Some (again o s n)
joined o m w s n true false e f = f ∙ e
joined o m w s n false true e f = f ∙ ap (λ k. Some (last_after k s n)) e
joined o m w s n false false e f = f ∙ e

-- ---- one after another

module _ (s n : ℕ) (old : List (ℕ × Last)) where
  pub none_noted : (test : ℕ → Bool) → ((a : ℕ) → test a ≡ false) → NotesMore test s n old old
  none_noted test none a = sym (ap (λ b. if b then Some (last_after (last_of old a) s n) else last_of old a) (none a))

  module _ (mid new : List (ℕ × Last)) where
    pub both_noted : (test other both : ℕ → Bool) → ((a : ℕ) → both a ≡ (test a || other a)) → NotesMore test s n old mid → NotesMore other s n mid new → NotesMore both s n old new
    both_noted test other both e h k a =
        joined (last_of old a) (last_of mid a) (last_of new a) s n (test a) (other a) (h a) (k a)
        ∙ ap (λ b. if b then Some (last_after (last_of old a) s n) else last_of old a) (sym (e a))

    -- one cell
    one_noted : (at : ℕ) → ((a : ℕ) → last_of new a ≡ (if at == a then Some (last_after (last_of mid at) s n) else last_of mid a)) → NotesMore (λ a. at == a) s n mid new
    one_noted at put a = put a ∙ by (at == a) refl
      where
        by : (b : Bool) → (at == a) ≡ b → (if at == a then Some (last_after (last_of mid at) s n) else last_of mid a) ≡ (if at == a then Some (last_after (last_of mid a) s n) else last_of mid a)
        by true t = ap (λ k. if at == a then Some (last_after (last_of mid k) s n) else last_of mid a) (eqb-true at a t)
        by false f =
            ap (λ b. if b then Some (last_after (last_of mid at) s n) else last_of mid a) f
            ∙ sym (ap (λ b. if b then Some (last_after (last_of mid a) s n) else last_of mid a) f)

-- ---- the cells of a rectangle

-- those before the one ahead are noted
pub record IsNoting (r : Area) (s n : ℕ) (old new : List (ℕ × Last)) (ahead : Option ℕ) : Type 0 where
  pub within : IfSome ahead (λ a. is_within r a ≡ true)
  pub noted : NotesMore (λ a. is_within r a && is_before ahead a) s n old new

pub noting_start : (r : Area) (s n : ℕ) (old : List (ℕ × Last)) (ahead : Option ℕ) → IsFirst (is_within r) ahead → IsNoting r s n old old ahead
noting_start r s n old ahead h = record {
  within = h.passes;
  noted = none_noted s n old (λ a. is_within r a && is_before ahead a) (none_before (is_within r) ahead h);
}

pub noting_on : (r : Area) (s n : ℕ) (old mid new : List (ℕ × Last)) (at : ℕ) (next : Option ℕ) → IsNoting r s n old mid (Some at)
    → ((a : ℕ) → last_of new a ≡ (if at == a then Some (last_after (last_of mid at) s n) else last_of mid a)) → IsFirst (is_after r at) next → IsNoting r s n old new next
noting_on r s n old mid new at next h put k = record {
  within = all_within r at next h.within k;
  noted = both_noted s n old mid new (λ a. is_within r a && is_before (Some at) a) (λ a. at == a) (λ a. is_within r a && is_before next a)
      (one_more_before r at next h.within k) h.noted (one_noted s n old mid new at put);
}

pub noting_done : (r : Area) (s n : ℕ) (old new : List (ℕ × Last)) → IsNoting r s n old new None → NotesMore (is_within r) s n old new
noting_done r s n old new h a = h.noted a ∙ ap (λ b. if b then Some (last_after (last_of old a) s n) else last_of old a) (and-true (is_within r a))

-- ---- those of several rectangles

pub area_noted : (areas : List Area) (i : ℕ) (r : Area) (s n : ℕ) (old mid new : List (ℕ × Last)) → i < length areas → r ≡ get_or areas i r
    → NotesMore (is_within_one (take i areas)) s n old mid → NotesMore (is_within r) s n mid new → NotesMore (is_within_one (take (i + 1) areas)) s n old new
area_noted areas i r s n old mid new l at h k =
    both_noted s n old mid new (is_within_one (take i areas)) (is_within r) (is_within_one (take (i + 1) areas)) (one_more_of areas i r l at) h k
