-- Cones that are kept over an edit.
use Rattle.std.proofs.Common.{length, arith}
use Rattle.std.proofs.lemmas.Bool.{lt-ltb}
use Rattle.std.specs.Prelude.{nat_lt}
use Rattle.wi_values.specs.Address.{is_one_of}
use Rattle.wi_worlds.specs.Reached.{is_known, reached_cells}
use Rattle.wi_graph.specs.Watched.{AreReadAlike}
use Rattle.wi_graph.proofs.ApartSteps.{reaches_alike}
use Rattle.wi_propagate.specs.Inner.Cones.{is_in_one}
use Rattle.wi_propagate.proofs.Words.{◌≡◌, ◌==◌, ◌&&◌, ◌||◌, ◌⊎◌, inl, inr, not, ℕ, Bool, true, false, List, [], ◌∷◌, refl, ap, sym, ◌∙◌, subst, false≢true, or_left, Sheet, ReachTable, reaches, in_cone, Edges, AreEdgesOf, IsClosedUp, cone_has, cone_closed, same_reaches, is_itself, AreAllCones, Option, Box, Carried, AreCarriedCones, None, Some}

-- where nothing is told
pub none_recorded : (s : Sheet) (t : ReachTable) → t ≡ record { known = []; reached = [] } → AreAllCones s t
none_recorded s t e = subst (AreAllCones s) (sym e) (record { of_known = λ c a h. absurd (false≢true h); so = λ c a h. absurd (false≢true h); all = λ c a h r. absurd (false≢true h) })

-- where the sheets have the same edges
pub cones_over : (es : Edges) (s t : Sheet) (flushed : ReachTable) → AreEdgesOf es s → AreEdgesOf es t → AreAllCones s flushed → AreAllCones t flushed
cones_over es s t flushed a b h = record {
  of_known = h.of_known;
  so = λ c x k. sym (same c x) ∙ h.so c x k;
  all = λ c x k r. h.all c x k (same c x ∙ r);
}
  where
    same : (c x : ℕ) → reaches s c x ≡ reaches t c x
    same c x = same_reaches s t (λ d. sym (a d) ∙ b d) c x

in_one : (xs : List ℕ) (a : ℕ) → is_one_of xs a ≡ true → nat_lt 0 (length xs) ≡ true
in_one [] a h = cc
in_one (x ∷ xs) a h = lt-ltb 0 (length (x ∷ xs)) (omega arith)

-- where each cell that is in one of them is read by the same cells
pub cones_beside : (s t : Sheet) (flushed : ReachTable) → AreReadAlike (is_in_one flushed) s t → AreAllCones s flushed → AreAllCones t flushed
cones_beside s t flushed alike h = record {
  of_known = h.of_known;
  so = λ c x k. sym (same x (h.of_known c x k) c) ∙ h.so c x k;
  all = λ c x k r. h.all c x k (same x k c ∙ r);
}
  where
    same : (x : ℕ) → is_known flushed x ≡ true → (c : ℕ) → reaches s c x ≡ reaches t c x
    same x k = reaches_alike (is_in_one flushed) s t alike x (λ c r. in_one (reached_cells flushed c) x (h.all c x k r))

-- also where they are carried
pub carried_over : (es : Edges) (s t : Sheet) (carried : Option (Box Carried)) → AreEdgesOf es s → AreEdgesOf es t → AreCarriedCones s carried → AreCarriedCones t carried
carried_over es s t None a b h = h
carried_over es s t (Some x) a b h = cones_over es s t x.value.cones a b h

pub in_same_cone : (es : Edges) (s t : Sheet) → AreEdgesOf es s → AreEdgesOf es t → (xs : List ℕ) (c : ℕ) → in_cone s xs c ≡ in_cone t xs c
in_same_cone es s t a b [] c = refl
in_same_cone es s t a b (x ∷ xs) c =
    ap (λ (k : Bool). k || in_cone s xs c) (same_reaches s t (λ d. sym (a d) ∙ b d) c x) ∙ ap (λ (k : Bool). reaches t c x || k) (in_same_cone es s t a b xs c)

-- ---- watched cells

-- where each cell is watched that reaches a watched one, each is that reads one in a sheet with these edges
pub watch_closed : (es : Edges) (sheet now : Sheet) (w : ℕ → Bool) → sheet ≡ now → AreEdgesOf es sheet → ((a c : ℕ) → w a ≡ true → in_cone now (a ∷ []) c ≡ true → w c ≡ true) → (s : Sheet) → AreEdgesOf es s → IsClosedUp s w
watch_closed es sheet now w e a h s b c d r k =
    h d c k (ap (λ (t : Sheet). in_cone t (d ∷ []) c) (sym e) ∙ in_same_cone es sheet s a b (d ∷ []) c ∙ cone_closed s (d ∷ []) c d r (cone_has s (d ∷ []) d (or_left (d == d) false (is_itself d))))

-- a cell that isn't found is watched
pub found_or_watched : (f i w : Bool) → f ≡ (i && not w) → i ≡ true → (f ≡ true) ⊎ (w ≡ true)
found_or_watched f true true e h = inr refl
found_or_watched f true false e h = inl e
found_or_watched f false w e h = cc
