-- The places of cells, one after another.
use Rattle.wi_engine.proofs.Words.{◌≡◌, ◌==◌, ◌||◌, ℕ, zero, suc, ◌+◌, ◌<◌, Bool, true, false, cond, List, [], ◌∷◌, ◌++◌, take, get_or, length, slice_get, Option, Some, None, IfSome, IfNone, refl, ap, sym, ◌∙◌, subst, or-false, list_any-append, nat_cmp, IsEmpty, get, is_at, at_same, is_at-eq, is_one_of}
use Rattle.std.proofs.lemmas.List.{length_push, take_more}
use Rattle.wi_engine.specs.declared.placing.Numbering.{Numbering}
use Rattle.wi_engine.specs.Inner.Placing.{AreNumbered}

-- ---- elements of a list by their places

pub same_some : {X : Type 0} (x y : X) → Some x ≡ Some y → x ≡ y
same_some x y e = cc

got_more : {X : Type 0} (xs ys : List X) (i : ℕ) (x : X) → slice_get xs i ≡ Some x → slice_get (xs ++ ys) i ≡ Some x
got_more [] ys i x h = cc
got_more (y ∷ xs) ys zero x h = h
got_more (y ∷ xs) ys (suc i) x h = got_more xs ys i x h

got_last : {X : Type 0} (xs : List X) (x : X) → slice_get (xs ++ x ∷ []) (length xs) ≡ Some x
got_last [] x = refl
got_last (y ∷ xs) x = got_last xs x

-- what holds of each element with those before it holds with one more at the end
pub each_more : {X : Type 0} (P : List X → X → Type 0) (xs : List X) (x : X) → ((i : ℕ) (y : X) → slice_get xs i ≡ Some y → P (take i xs) y) → P xs x →
    (i : ℕ) (y : X) → slice_get (xs ++ x ∷ []) i ≡ Some y → P (take i (xs ++ x ∷ [])) y
each_more P [] x h one zero y e = subst (P []) (same_some x y e) one
each_more P [] x h one (suc i) y e = cc
each_more P (z ∷ xs) x h one zero y e = h zero y e
each_more P (z ∷ xs) x h one (suc i) y e = each_more (λ front. P (z ∷ front)) xs x (λ j d k. h (suc j) d k) one i y e

pub taken_more : {X : Type 0} (xs : List X) (i : ℕ) (x : X) → i < length xs → x ≡ get_or xs i x → take (i + 1) xs ≡ take i xs ++ x ∷ []
taken_more xs i x l e = take_more xs i x l ∙ ap (λ (y : _). take i xs ++ y ∷ []) (sym e)

-- ---- places

pub none_numbered : (ps : Numbering) → ps.count ≡ 0 → IsEmpty ps.by_cell → AreNumbered [] ps
none_numbered ps n e = record {
  count = n;
  there = λ c. subst (λ (o : Option ℕ). IfSome o (λ i. slice_get [] i ≡ Some c)) (sym (no_place c)) tt;
  none = λ c. subst (λ (o : Option ℕ). IfNone o (is_one_of [] c ≡ false)) (sym (no_place c)) refl;
}
  where
    no_place : (c : ℕ) → get nat_cmp ps.by_cell c ≡ None
    no_place c = rw e refl

pub one_more_numbered : (old new : Numbering) (c : ℕ) → new.count ≡ old.count + 1 → ((q : ℕ) → get nat_cmp new.by_cell q ≡ cond (is_at (nat_cmp c) q) (Some old.count) (get nat_cmp old.by_cell q)) →
    (cells : List ℕ) → AreNumbered cells old → AreNumbered (cells ++ c ∷ []) new
one_more_numbered old new c count up cells h = record {
  count = count ∙ ap (λ (n : ℕ). n + 1) h.count ∙ sym (length_push cells c);
  there = λ q. subst (λ (o : Option ℕ). IfSome o (λ i. slice_get (cells ++ c ∷ []) i ≡ Some q)) (sym (up q)) (there q (is_at (nat_cmp c) q) refl (get nat_cmp old.by_cell q) (h.there q));
  none = λ q. subst (λ (o : Option ℕ). IfNone o (is_one_of (cells ++ c ∷ []) q ≡ false)) (sym (up q)) (none q (is_at (nat_cmp c) q) refl (get nat_cmp old.by_cell q) (h.none q));
}
  where
    last : slice_get (cells ++ c ∷ []) old.count ≡ Some c
    last = ap (λ (n : ℕ). slice_get (cells ++ c ∷ []) n) h.count ∙ got_last cells c

    there : (q : ℕ) (b : Bool) → is_at (nat_cmp c) q ≡ b → (o : Option ℕ) → IfSome o (λ i. slice_get cells i ≡ Some q) → IfSome (cond b (Some old.count) o) (λ i. slice_get (cells ++ c ∷ []) i ≡ Some q)
    there q true e o k = last ∙ ap (λ (x : ℕ). Some x) (sym (at_same c q e))
    there q false e None k = tt
    there q false e (Some i) k = got_more cells (c ∷ []) i q k

    none : (q : ℕ) (b : Bool) → is_at (nat_cmp c) q ≡ b → (o : Option ℕ) → IfNone o (is_one_of cells q ≡ false) → IfNone (cond b (Some old.count) o) (is_one_of (cells ++ c ∷ []) q ≡ false)
    none q true e o k = tt
    none q false e (Some i) k = tt
    none q false e None k =
        let other : (c == q) ≡ false = sym (is_at-eq c q) ∙ e in
        list_any-append (λ x. x == q) cells (c ∷ []) ∙ ap (λ (b : Bool). is_one_of cells q || b) (or-false (c == q) ∙ other) ∙ or-false (is_one_of cells q) ∙ k
