-- Which cells are circular after an edit: those in the cone of the edited cells that stripping leaves, and of the others those
-- that were.
use Rattle.wi_graph.proofs.Words.{◌≡◌, ◌⊎◌, inl, inr, ℕ, suc, Bool, true, false, not, ◌&&◌, ◌||◌, cond, List, length, Option, refl, ap, sym, ◌∙◌, or_cases, or_left, or_right, and_parts, and_from, not-true, not_from_false, Content, Sheet, content_of, cells_with_formula, content_reads, circular, SameOff, in_cone}
use Rattle.wi_graph.proofs.Walks.{first_step, circular_walks, circular_is}
use Rattle.wi_graph.proofs.Graphs.{left_circular, stripped}
use Rattle.wi_graph.proofs.Cones.{cone_closed, outside_circular, outside_content}
use Rattle.wi_graph.proofs.ReachTest.{not_in_cone}

-- a circular cell reads a circular one
pub reads_circular : (s : Sheet) (c : ℕ) → circular s c ≡ true → (d : ℕ) × (content_reads (content_of s c) d ≡ true) × (circular s d ≡ true)
reads_circular s c h =
    let f = first_step (length (cells_with_formula s)) s c (circular_walks s c h (suc (length (cells_with_formula s)))) in
    (f.0, f.1, circular_is s f.0 ∙ f.2)

-- what stripping leaves of the cells in the cone: a cell is pinned where it reads a circular cell outside
pub record IsLeft (s t : Sheet) (xs : List ℕ) (pinned rest : ℕ → Bool) : Type 0 where
  pub holds : (c : ℕ) → in_cone s xs c ≡ true → pinned c ≡ true → (d : ℕ) × (content_reads (content_of t c) d ≡ true) × (in_cone s xs d ≡ false) × (circular s d ≡ true)
  pub frees : (c : ℕ) → in_cone s xs c ≡ true → pinned c ≡ false → (d : ℕ) → content_reads (content_of t c) d ≡ true → in_cone s xs d ≡ false → circular s d ≡ false
  pub within : (c : ℕ) → rest c ≡ true → in_cone s xs c ≡ true
  pub gone : (p : ℕ → Bool) → ((c : ℕ) → in_cone s xs c ≡ true → pinned c ≡ false → ((d : ℕ) → content_reads (content_of t c) d ≡ true → in_cone s xs d ≡ true → p d ≡ true) → p c ≡ true) →
      (c : ℕ) → in_cone s xs c ≡ true → rest c ≡ false → p c ≡ true
  pub left : (c : ℕ) → rest c ≡ true → pinned c ≡ false → (d : ℕ) × (content_reads (content_of t c) d ≡ true) × (rest d ≡ true)

outside : (s t : Sheet) (xs : List ℕ) (c : ℕ) → SameOff s t xs → in_cone s xs c ≡ false → circular t c ≡ circular s c
outside s t xs c same n = sym (outside_circular s t xs c same (not_in_cone s xs c n))

-- what is left is circular
left_is : (s t : Sheet) (xs : List ℕ) (pinned rest : ℕ → Bool) → SameOff s t xs → IsLeft s t xs pinned rest → (c : ℕ) → rest c ≡ true → circular t c ≡ true
left_is s t xs pinned rest same l c h = left_circular t P (λ d k. at d (or_cases (rest d) _ k)) c (or_left (rest c) _ h)
  where
    P : ℕ → Bool
    P d = rest d || (not (in_cone s xs d) && circular s d)

    beside : (e : ℕ) → in_cone s xs e ≡ false → circular s e ≡ true → P e ≡ true
    beside e n k = or_right (rest e) _ (and_from (not (in_cone s xs e)) (circular s e) (not_from_false (in_cone s xs e) n) k)

    by_pinned : (d : ℕ) → rest d ≡ true → (b : Bool) → pinned d ≡ b → (e : ℕ) × (content_reads (content_of t d) e ≡ true) × (P e ≡ true)
    by_pinned d r true k = let x = l.holds d (l.within d r) k in (x.0, x.1, beside x.0 x.2 x.3)
    by_pinned d r false k = let x = l.left d r k in (x.0, x.1, or_left (rest x.0) _ x.2)

    apart : (d e : ℕ) → in_cone s xs d ≡ false → content_reads (content_of s d) e ≡ true → (b : Bool) → in_cone s xs e ≡ b → in_cone s xs e ≡ false
    apart d e n r true k = let z = cone_closed s xs d e r k in cc
    apart d e n r false k = k

    by_cycle : (d : ℕ) → in_cone s xs d ≡ false → circular s d ≡ true → (e : ℕ) × (content_reads (content_of t d) e ≡ true) × (P e ≡ true)
    by_cycle d n k =
        let x = reads_circular s d k in
        (x.0, ap (λ (o : Option Content). content_reads o x.0) (sym (outside_content s t xs d same (not_in_cone s xs d n))) ∙ x.1, beside x.0 (apart d x.0 n x.1 (in_cone s xs x.0) refl) x.2)

    at : (d : ℕ) → (rest d ≡ true) ⊎ ((not (in_cone s xs d) && circular s d) ≡ true) → (e : ℕ) × (content_reads (content_of t d) e ≡ true) × (P e ≡ true)
    at d (inl k) = by_pinned d k (pinned d) refl
    at d (inr k) = let x = and_parts (not (in_cone s xs d)) (circular s d) k in by_cycle d (not-true (in_cone s xs d) x.0) x.1

-- what is gone is not
gone_is : (s t : Sheet) (xs : List ℕ) (pinned rest : ℕ → Bool) → SameOff s t xs → IsLeft s t xs pinned rest → (c : ℕ) → in_cone s xs c ≡ true → rest c ≡ false → circular t c ≡ false
gone_is s t xs pinned rest same l c i h = not-true (circular t c) (l.gone (λ d. not (circular t d)) up c i h)
  where
    read : (d e : ℕ) → pinned d ≡ false → in_cone s xs d ≡ true → content_reads (content_of t d) e ≡ true → ((f : ℕ) → content_reads (content_of t d) f ≡ true → in_cone s xs f ≡ true → not (circular t f) ≡ true) → (b : Bool) → in_cone s xs e ≡ b → circular t e ≡ false
    read d e n i r k true m = not-true (circular t e) (k e r m)
    read d e n i r k false m = outside s t xs e same m ∙ l.frees d i n e r m

    up : (d : ℕ) → in_cone s xs d ≡ true → pinned d ≡ false → ((e : ℕ) → content_reads (content_of t d) e ≡ true → in_cone s xs e ≡ true → not (circular t e) ≡ true) → not (circular t d) ≡ true
    up d i n k = not_from_false (circular t d) (stripped t d (λ e r. read d e n i r k (in_cone s xs e) refl))

pub circular_after : (s t : Sheet) (xs : List ℕ) (pinned rest : ℕ → Bool) → SameOff s t xs → IsLeft s t xs pinned rest → (c : ℕ) → circular t c ≡ cond (in_cone s xs c) (rest c) (circular s c)
circular_after s t xs pinned rest same l c = at (in_cone s xs c) (rest c) refl refl
  where
    at : (b d : Bool) → in_cone s xs c ≡ b → rest c ≡ d → circular t c ≡ cond b d (circular s c)
    at true true i h = left_is s t xs pinned rest same l c h
    at true false i h = gone_is s t xs pinned rest same l c i h
    at false d i h = outside s t xs c same i
