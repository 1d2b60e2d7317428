-- The cone of a head gets later numbers at once.
use Rattle.wi_propagate.proofs.Words.{◌≡◌, ◌==◌, ◌⊎◌, inl, inr, ◌≤◌, ◌<◌, max, ℕ, Bool, true, false, cond, List, [], ◌∷◌, Option, Some, None, IsSome, IfSome, refl, ap, sym, ◌∙◌, subst, arith, eqb-true, clash, unwrap_or, nat_cmp, lookup, is_at, same_reaches, Sheet, in_cone, Edges, AreEdgesOf, is_one_of, Generations, generation_in, HasGeneration, AreDirty, AreStamped, IsHeadOf, IsHeaded, Stamps, is_itself, renewed, renewed_all, stamped_in, ◌&&◌, not, flushes_one, flushing_begins, length, keys_of, or_cases, false≢true, nil_from_length}
use Rattle.wi_propagate.proofs.FlushingSteps.{dirty_over}
use Rattle.wi_propagate.proofs.KeptCones.{in_same_cone}

-- ---- what a number counts as

same_number : (greatest n : ℕ) → renewed greatest greatest n ≡ n
same_number greatest n = at (n == greatest) refl
  where
    at : (b : Bool) → (n == greatest) ≡ b → cond b greatest n ≡ n
    at true t = sym (eqb-true n greatest t)
    at false t = refl

pub renewed_here : (greatest counts_as n : ℕ) → n ≡ greatest → counts_as ≡ renewed greatest counts_as n
renewed_here greatest counts_as n e = sym (ap (renewed greatest counts_as) e ∙ ap (λ (b : Bool). cond b counts_as greatest) (is_itself greatest))

pub renewed_elsewhere : (greatest counts_as n : ℕ) → (n ≡ greatest → ⊥) → n ≡ renewed greatest counts_as n
renewed_elsewhere greatest counts_as n e = at (n == greatest) refl
  where
    at : (b : Bool) → (n == greatest) ≡ b → n ≡ cond b counts_as n
    at true t = absurd (e (eqb-true n greatest t))
    at false t = refl

none_renewed : (greatest counts_as : ℕ) → (greatest ≡ counts_as) ⊎ (1 ≤ greatest) → renewed greatest counts_as 0 ≡ 0
none_renewed greatest counts_as (inl e) = ap (λ (n : ℕ). renewed greatest n 0) (sym e) ∙ same_number greatest 0
none_renewed greatest counts_as (inr l) = at (0 == greatest) refl
  where
    at : (b : Bool) → (0 == greatest) ≡ b → cond b counts_as 0 ≡ 0
    at true t = let e = eqb-true 0 greatest t in absurd (omega (arith, e, l))
    at false t = refl

renewed_at : (greatest counts_as : ℕ) → (greatest ≡ counts_as) ⊎ (1 ≤ greatest) → (ns : Generations) (c : ℕ) → generation_in (renewed_all greatest counts_as ns) c ≡ renewed greatest counts_as (generation_in ns c)
renewed_at greatest counts_as o [] c = sym (none_renewed greatest counts_as o)
renewed_at greatest counts_as o (e ∷ es) c = at (is_at (nat_cmp c) e.0) (renewed_at greatest counts_as o es c)
  where
    at : (b : Bool) → generation_in (renewed_all greatest counts_as es) c ≡ renewed greatest counts_as (generation_in es c) →
        unwrap_or (cond b (Some (renewed greatest counts_as e.1)) (lookup (is_at (nat_cmp c)) (renewed_all greatest counts_as es))) 0 ≡ renewed greatest counts_as (unwrap_or (cond b (Some e.1) (lookup (is_at (nat_cmp c)) es)) 0)
    at true ih = refl
    at false ih = ih

module _ (ns : Generations) (head : Option ℕ) (cone : List ℕ) (greatest counts_as : ℕ) (h : IsHeaded ns head cone greatest counts_as) where
  may_count : (greatest ≡ counts_as) ⊎ (1 ≤ greatest)
  may_count = at head h.none h.some
    where
      at : (o : Option ℕ) → (o ≡ None → greatest ≡ counts_as) → (IsSome o → 1 ≤ greatest) → (greatest ≡ counts_as) ⊎ (1 ≤ greatest)
      at None none some = inl (none refl)
      at (Some x) none some = inr (some refl)

  -- so a number is seen
  pub seen_number : (c : ℕ) → generation_in (renewed_all greatest counts_as ns) c ≡ renewed greatest counts_as (generation_in ns c)
  seen_number = renewed_at greatest counts_as may_count ns

  pub seen_most : (c : ℕ) → generation_in (renewed_all greatest counts_as ns) c ≤ counts_as
  seen_most c = let e = seen_number c in let n = at (generation_in ns c == greatest) in omega (arith, e, n)
    where
      at : (b : Bool) → cond b counts_as (generation_in ns c) ≤ counts_as
      at true = omega arith
      at false = let m = h.most c in let l = h.no_less in omega (arith, m, l)

  -- what counts as later has a head
  pub later_has_head : greatest < counts_as → IsSome head
  later_has_head l = at head h.none
    where
      at : (o : Option ℕ) → (o ≡ None → greatest ≡ counts_as) → IsSome o
      at None none = let e = none refl in absurd (omega (arith, e, l))
      at (Some x) none = refl

  -- and its cells have numbers
  pub cone_has_numbers : greatest < counts_as → (c : ℕ) → is_one_of cone c ≡ true → HasGeneration ns c
  cone_has_numbers l c m = at (lookup (is_at (nat_cmp c)) ns) refl
    where
      number : generation_in ns c ≡ greatest
      number = eqb-true (generation_in ns c) greatest (sym (h.cone_has (later_has_head l) c) ∙ m)

      first : 1 ≤ greatest
      first = h.some (later_has_head l)

      at : (o : Option ℕ) → lookup (is_at (nat_cmp c)) ns ≡ o → IsSome (lookup (is_at (nat_cmp c)) ns)
      at None e = let z = ap (λ (x : Option ℕ). unwrap_or x 0) e in absurd (omega (arith, number, first, z))
      at (Some n) e = subst (λ (x : Option ℕ). IsSome x) (sym e) refl

  -- ---- the cone is raised

  pub raised_headed : (cell number : ℕ) → head ≡ Some cell → counts_as ≤ number → IsHeaded ns head cone greatest number
  raised_headed cell number e l = record {
    most = h.most;
    no_less = let a = h.no_less in omega (arith, a, l);
    none = λ n. clash_none (sym n ∙ e);
    some = h.some;
    cone_has = h.cone_has;
  }
    where
      clash_none : None ≡ Some cell → greatest ≡ number
      clash_none k = cc

  pub raised_numbers : (cell number : ℕ) → head ≡ Some cell → counts_as ≤ number → (c : ℕ) →
      generation_in (renewed_all greatest number ns) c ≡ cond (is_one_of cone c) (max (generation_in (renewed_all greatest counts_as ns) c) number) (generation_in (renewed_all greatest counts_as ns) c)
  raised_numbers cell number e l c =
      renewed_at greatest number (inr first) ns c ∙ at (is_one_of cone c) (h.cone_has has c)
      ∙ ap (λ (n : ℕ). cond (is_one_of cone c) (max n number) n) (sym (seen_number c))
    where
      has : IsSome head
      has = subst (λ (x : Option ℕ). IsSome x) (sym e) refl

      first : 1 ≤ greatest
      first = h.some has

      at : (b : Bool) → b ≡ (generation_in ns c == greatest) → renewed greatest number (generation_in ns c) ≡ cond b (max (renewed greatest counts_as (generation_in ns c)) number) (renewed greatest counts_as (generation_in ns c))
      at true t =
          let this : renewed greatest counts_as (generation_in ns c) ≡ counts_as = ap (λ (b : Bool). cond b counts_as (generation_in ns c)) (sym t) in
          ap (λ (b : Bool). cond b number (generation_in ns c)) (sym t) ∙ omega (arith, this, l)
      at false t = ap (λ (b : Bool). cond b number (generation_in ns c)) (sym t) ∙ sym (ap (λ (b : Bool). cond b counts_as (generation_in ns c)) (sym t))

  -- ---- there is no head any more

  pub settled_headed : (after : Generations) → ((c : ℕ) → generation_in after c ≡ cond (is_one_of cone c) counts_as (generation_in ns c)) → IsHeaded after None [] counts_as counts_as
  settled_headed after a = record {
    most = λ c. at c (is_one_of cone c) (a c);
    no_less = omega arith;
    none = λ n. refl;
    some = λ n. cc;
    cone_has = λ n. cc;
  }
    where
      at : (c : ℕ) (b : Bool) → generation_in after c ≡ cond b counts_as (generation_in ns c) → generation_in after c ≤ counts_as
      at c true e = omega (arith, e)
      at c false e = let m = h.most c in let n = h.no_less in omega (arith, e, m, n)

  pub settled_numbers : (after : Generations) → greatest < counts_as → ((c : ℕ) → generation_in after c ≡ cond (is_one_of cone c) counts_as (generation_in ns c)) → (c : ℕ) → generation_in (renewed_all counts_as counts_as after) c ≡ generation_in (renewed_all greatest counts_as ns) c
  settled_numbers after l a c = renewed_at counts_as counts_as (inl refl) after c ∙ same_number counts_as (generation_in after c) ∙ a c ∙ at (is_one_of cone c) (h.cone_has (later_has_head l) c) ∙ sym (seen_number c)
    where
      at : (b : Bool) → b ≡ (generation_in ns c == greatest) → cond b counts_as (generation_in ns c) ≡ renewed greatest counts_as (generation_in ns c)
      at true t = sym (ap (λ (b : Bool). cond b counts_as (generation_in ns c)) (sym t))
      at false t = sym (ap (λ (b : Bool). cond b counts_as (generation_in ns c)) (sym t))

  pub unheaded : counts_as ≤ greatest → IsHeaded ns None [] greatest counts_as
  unheaded l = record {
    most = h.most;
    no_less = h.no_less;
    none = λ n. let k = h.no_less in omega (arith, k, l);
    some = λ n. cc;
    cone_has = λ n. cc;
  }

  -- ---- cells are lifted where there is no head

  pub lifted_headed : (after : Generations) (cells : List ℕ) (number : ℕ) → ((c : ℕ) → generation_in after c ≡ cond (is_one_of cells c) (max (generation_in ns c) number) (generation_in ns c)) → IsHeaded after None [] (max greatest number) (max greatest number)
  lifted_headed after cells number a = record {
    most = λ c. at c (is_one_of cells c) (a c);
    no_less = omega arith;
    none = λ n. refl;
    some = λ n. cc;
    cone_has = λ n. cc;
  }
    where
      at : (c : ℕ) (b : Bool) → generation_in after c ≡ cond b (max (generation_in ns c) number) (generation_in ns c) → generation_in after c ≤ max greatest number
      at c true e = let m = h.most c in omega (arith, e, m)
      at c false e = let m = h.most c in omega (arith, e, m)

-- what is seen where the greatest counts as itself
pub seen_as_held : (greatest counts_as : ℕ) (ns : Generations) (c : ℕ) → greatest ≡ counts_as → generation_in (renewed_all greatest counts_as ns) c ≡ generation_in ns c
seen_as_held greatest counts_as ns c e = renewed_at greatest counts_as (inl e) ns c ∙ ap (λ (n : ℕ). renewed greatest n (generation_in ns c)) (sym e) ∙ same_number greatest (generation_in ns c)

-- Cells that are lifted to a number later than all have the greatest, and no others.
pub lifted_head : (ns after : Generations) (cone : List ℕ) (greatest number cell : ℕ) → ((c : ℕ) → generation_in ns c ≤ greatest) → greatest < number → ((c : ℕ) → generation_in after c ≡ cond (is_one_of cone c) (max (generation_in ns c) number) (generation_in ns c)) →
    IsHeaded after (Some cell) cone number number
lifted_head ns after cone greatest number cell most l a = record {
  most = λ c. below c (is_one_of cone c) (a c);
  no_less = omega arith;
  none = λ n. cc;
  some = λ n. omega (arith, l);
  cone_has = λ n c. at c (is_one_of cone c) (a c) (generation_in after c == number) refl;
}
  where
    below : (c : ℕ) (b : Bool) → generation_in after c ≡ cond b (max (generation_in ns c) number) (generation_in ns c) → generation_in after c ≤ number
    below c true e = let m = most c in omega (arith, e, m, l)
    below c false e = let m = most c in omega (arith, e, m, l)

    at : (c : ℕ) (b : Bool) → generation_in after c ≡ cond b (max (generation_in ns c) number) (generation_in ns c) → (d : Bool) → (generation_in after c == number) ≡ d → b ≡ d
    at c true e true t = refl
    at c false e false t = refl
    at c true e false t = let m = most c in let is : generation_in after c ≡ number = omega (arith, e, m, l) in clash (generation_in after c == number) (ap (λ (n : ℕ). n == number) is ∙ is_itself number) t
    at c false e true t = let m = most c in let is = eqb-true (generation_in after c) number t in absurd (omega (arith, e, m, l, is))

-- ---- over an edit

pub head_over : (es : Edges) (s t : Sheet) (head : Option ℕ) (cone : List ℕ) → AreEdgesOf es s → AreEdgesOf es t → IsHeadOf s head cone → IsHeadOf t head cone
head_over es s t None cone a b h = h
head_over es s t (Some d) cone a b h = λ c. h c ∙ in_same_cone es s t a b (d ∷ []) c

pub stamped_over : (es : Edges) (s t : Sheet) (g : Stamps) → AreEdgesOf es s → AreEdgesOf es t → AreStamped s g → AreStamped t g
stamped_over es s t g a b k = record { dirty = dirty_over es s t (generation_in g.edited_at) g.dirty (stamped_in g.edited_at g.valid_since) a b k.dirty; head = head_over es s t g.head g.cone a b k.head }

-- ---- the only dirty cell is flushed

pub flushed_alone : (s : Sheet) (edited_at old new : Generations) (dirty : List ℕ) (x number : ℕ) → ((y : ℕ) → is_one_of dirty y ≡ true → x ≡ y) → number ≡ generation_in edited_at x →
    ((c : ℕ) → generation_in new c ≡ cond (in_cone s (x ∷ []) c) (max (generation_in old c) number) (generation_in old c)) → AreDirty s (generation_in edited_at) dirty (stamped_in edited_at old) → AreDirty s (generation_in edited_at) [] (stamped_in edited_at new)
flushed_alone s edited_at old new dirty x number only e raised k =
    (flushes_one s (generation_in edited_at) (stamped_in edited_at old) (stamped_in edited_at new) dirty [] x number (λ c. false) (in_cone s (x ∷ [])) (λ y m. inl (only y m)) (omega (arith, e)) (λ c. refl) stamped
    (flushing_begins s (generation_in edited_at) (stamped_in edited_at old) dirty (λ c. false) number (λ c. refl) k)).dirty
  where
    stamped : (c : ℕ) → stamped_in edited_at new c ≡ cond (in_cone s (x ∷ []) c && not false) (max (stamped_in edited_at old c) (generation_in edited_at x)) (stamped_in edited_at old c)
    stamped c = at (in_cone s (x ∷ []) c) (raised c)
      where
        at : (b : Bool) → generation_in new c ≡ cond b (max (generation_in old c) number) (generation_in old c) → max (generation_in edited_at c) (generation_in new c) ≡ cond (b && not false) (max (stamped_in edited_at old c) (generation_in edited_at x)) (stamped_in edited_at old c)
        at true r = omega (arith, r, e)
        at false r = ap (max (generation_in edited_at c)) r

-- where its cone is the head's
pub flushed_by_head : (s : Sheet) (edited_at old new : Generations) (head : Option ℕ) (cone dirty : List ℕ) (x number : ℕ) → ((y : ℕ) → is_one_of dirty y ≡ true → x ≡ y) → number ≡ generation_in edited_at x → head ≡ Some x → IsHeadOf s head cone →
    ((c : ℕ) → generation_in new c ≡ cond (is_one_of cone c) (max (generation_in old c) number) (generation_in old c)) → AreDirty s (generation_in edited_at) dirty (stamped_in edited_at old) → AreDirty s (generation_in edited_at) [] (stamped_in edited_at new)
flushed_by_head s edited_at old new head cone dirty x number only e is k raised =
    flushed_alone s edited_at old new dirty x number only e (λ c. raised c ∙ ap (λ (b : Bool). cond b (max (generation_in old c) number) (generation_in old c)) (subst (λ (o : Option ℕ). IsHeadOf s o cone) is k c))

-- the cone that it was flushed by is the head's
pub headed_by : (s : Sheet) (head : Option ℕ) (cone items : List ℕ) (cell : ℕ) → IfSome head (λ d. (d ≡ cell) × (cone ≡ items)) → ((c : ℕ) → is_one_of items c ≡ in_cone s (cell ∷ []) c) → IsHeadOf s head cone
headed_by s None cone items cell h k = h
headed_by s (Some d) cone items cell h k = λ c. ap (λ (xs : List ℕ). is_one_of xs c) h.1 ∙ k c ∙ ap (λ (x : ℕ). in_cone s (x ∷ []) c) (sym h.0)

-- what stands alone in a map
pub only_key : {X : Type 0} (es rest : List (ℕ × X)) (e : ℕ × X) → es ≡ e ∷ rest → length es ≡ 1 → (x : ℕ) → is_one_of (keys_of es) x ≡ true → e.0 ≡ x
only_key {X} es rest e i one x m = at (or_cases (e.0 == x) false (ap (λ (ys : List (ℕ × X)). is_one_of (keys_of ys) x) (sym alone) ∙ m))
  where
    none : length rest ≡ 0
    none = let k = ap length i in omega (arith, k, one)

    alone : es ≡ e ∷ []
    alone = i ∙ ap (λ (ys : List (ℕ × X)). e ∷ ys) (nil_from_length rest none)

    at : ((e.0 == x) ≡ true) ⊎ (false ≡ true) → e.0 ≡ x
    at (inl t) = eqb-true e.0 x t
    at (inr t) = absurd (false≢true t)
