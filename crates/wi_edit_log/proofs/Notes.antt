-- What is noted of cells that edits of narrow rectangles named: it tells of the first edits of a log, and finds what a search would.
use Rattle.wi_edit_log.proofs.Words.{◌≡◌, ◌∙◌, ℕ, ◌-◌, Bool, ◌||◌, ◌&&◌, List, [], ◌∷◌, ◌++◌, length, take, drop, max, min, Option, ap, sym, subst, arith, and-or_distrib_left, length-append, length-take, length-take-le, take-append-le, Area, is_within_one, IsFirst, sooner, AreCounted, AreInRuns, is_named_by_others, is_wanted_of_others, AreNoted, IsKept, is_wanted_noted_stale, is_named_narrowly, is_named_widely, is_wanted_narrowly, is_wanted_widely, Edit, Last}
use Rattle.wi_edit_log.proofs.First.{same_first, sooner_first}
use Rattle.wi_edit_log.proofs.Runs.{runs_of_fewer}
use Rattle.wi_edit_log.proofs.Wide.{named_in_parts}

-- ---- nothing noted, more edits and fewer

pub noted_before_more : (es : List Edit) (counts : List ℕ) (notes : List (ℕ × Last)) (x : Edit) → AreNoted es counts notes → AreNoted (es ++ x ∷ []) counts notes
noted_before_more es counts notes x h =
    let same : take (length counts) (es ++ x ∷ []) ≡ take (length counts) es = take-append-le (length counts) es (x ∷ []) h.within in record {
      within = omega (arith, h.within, length-append es (x ∷ []));
      by_notes = λ a s since. ap (λ ys. is_named_narrowly (drop since ys) s a) same ∙ h.by_notes a s since;
      counted = subst (λ ys. AreCounted ys counts) (sym same) h.counted;
    }

-- the last edit is taken back, and what is noted of more edits than are left is forgotten
pub kept_of_fewer : (es fs : List Edit) (counts fewer : List ℕ) (left : ℕ) (notes rest : List (ℕ × Last)) → IsKept es counts notes → fs ≡ take (length es - 1) es → left ≡ length fs
    → ((xs : List Edit) → AreNoted xs counts notes → AreNoted (take left xs) fewer rest) → IsKept fs fewer rest
kept_of_fewer es fs counts fewer left notes rest h e l f =
    let same : left ≡ length es - 1 = omega (arith, l, ap (λ (ys : List Edit). length ys) e, length-take (length es - 1) es) in record {
      runs = subst AreInRuns (sym e) (runs_of_fewer es (length es - 1) h.runs);
      noted = subst (λ ys. AreNoted ys fewer rest) (ap (λ i. take i es) same ∙ sym e) (f es h.noted);
    }

-- ---- the first of wanted cells

-- the searches are for what is noted, for what is wider among the edits that are, and for all after these
pub first_in_parts : (es fs : List Edit) (counts : List ℕ) (notes : List (ℕ × Last)) (s from j k : ℕ) (wanted : List Area) (by_notes wide left all : Option ℕ)
    → AreNoted es counts notes → fs ≡ take (length counts) es → j ≡ min from (length fs) → k ≡ max from (length fs) → all ≡ sooner (sooner by_notes wide) left
    → IsFirst (is_wanted_noted_stale wanted notes s from) by_notes → IsFirst (is_wanted_widely (drop j fs) s wanted) wide → IsFirst (is_wanted_of_others (drop k es) s wanted) left → IsFirst (is_wanted_of_others (drop from es) s wanted) all
first_in_parts es fs counts notes s from j k wanted by_notes wide left all h these low high e t w r =
    let both : ℕ → Bool = λ a. is_within_one wanted a && (is_named_narrowly early s a || is_named_widely (drop j fs) s a) in
    let narrow : IsFirst (is_wanted_narrowly early s wanted) by_notes =
    same_first (is_wanted_noted_stale wanted notes s from) (is_wanted_narrowly early s wanted) by_notes (λ a. ap (λ b. is_within_one wanted a && b) (sym (h.by_notes a s from))) t in
    let soon : IsFirst both (sooner by_notes wide) =
    sooner_first (is_wanted_narrowly early s wanted) (is_wanted_widely (drop j fs) s wanted) both by_notes wide
    (λ a. and-or_distrib_left (is_within_one wanted a) (is_named_narrowly early s a) (is_named_widely (drop j fs) s a)) narrow w in
    rw e (sooner_first both (is_wanted_of_others (drop k es) s wanted) (is_wanted_of_others (drop from es) s wanted) (sooner by_notes wide) left
    (λ a. parts a) soon r)
  where
    known : ℕ
    known = length counts

    early : List Edit
    early = drop from (take known es)

    count : length fs ≡ known
    count = ap (λ (ys : List Edit). length ys) these ∙ length-take-le known es h.within

    wide_part : drop j fs ≡ drop (min from known) (take known es)
    wide_part = ap (λ ys. drop j ys) these ∙ ap (λ i. drop i (take known es)) (low ∙ ap (min from) count)

    parts : (a : ℕ) → is_wanted_of_others (drop from es) s wanted a
        ≡ ((is_within_one wanted a && (is_named_narrowly early s a || is_named_widely (drop j fs) s a)) || is_wanted_of_others (drop k es) s wanted a)
    parts a =
        ap (λ b. is_within_one wanted a && b) (named_in_parts es known from s a h.within)
        ∙ and-or_distrib_left (is_within_one wanted a) (is_named_narrowly early s a || is_named_widely (drop (min from known) (take known es)) s a) (is_named_by_others (drop (max from known) es) s a)
        ∙ sym (ap (λ ys. (is_within_one wanted a && (is_named_narrowly early s a || is_named_widely ys s a)) || is_wanted_of_others (drop k es) s wanted a) wide_part
        ∙ ap (λ i. (is_within_one wanted a && (is_named_narrowly early s a || is_named_widely (drop (min from known) (take known es)) s a)) || is_wanted_of_others (drop i es) s wanted a) (high ∙ ap (max from) count))
