-- The stack of frames, a push and a pop.
use Rattle.wi_engine.proofs.Words.{◌≡◌, ◌==◌, ◌<◌, ◌⊎◌, inl, inr, ◌||◌, ◌&&◌, ℕ, Bool, true, false, List, [], ◌∷◌, ◌++◌, Contains, Option, Some, None, IfSome, refl, ap, sym, ◌∙◌, subst, arith, nat_tests, or_from, Value, Replacement, same_replacements, Sheet, put_all, Key, cell_value, Case, same_case, reach_rank, MemoState, IsMemoOf, AreKnownRight, IsClosedUnderReads, case_at, IsFrame, IsAwaited, IsBegun, IsNext, IsDemanded, AreBelow, AreLinked, IsStack, BottomIs, Keeps, Frame, key_above}

-- ---- ranks fall from the bottom to the top

below_push : (s : Sheet) (fs : List Frame) (g : Frame) (n : ℕ) → AreBelow s fs n → reach_rank s g.key.cell < n → AreBelow s (fs ++ g ∷ []) n
below_push s [] g n h k = (k, tt)
below_push s (f ∷ fs) g n h k = (h.0, below_push s fs g n h.1 k)

below_front : (s : Sheet) (fs : List Frame) (g : Frame) (n : ℕ) → AreBelow s (fs ++ g ∷ []) n → (reach_rank s g.key.cell < n) × AreBelow s fs n
below_front s [] g n h = (h.0, tt)
below_front s (f ∷ fs) g n h =
    let k = below_front s fs g n h.1 in
    (k.0, (h.0, k.1))

pub push_stack : (s : Sheet) (m : MemoState) (root : Case) (fs : List Frame) (g : Frame) (r : ℕ) → IsStack s m root fs (reach_rank s g.key.cell) → IsBegun s m root g → r < reach_rank s g.key.cell → IsStack s m root (fs ++ g ∷ []) r
push_stack s m root [] g r st b h = (b, h, tt, tt)
push_stack s m root (f ∷ fs) g r st b h =
    let lower : r < reach_rank s f.key.cell = omega (arith, st.1, h) in
    (st.0, lower, below_push s fs g (reach_rank s f.key.cell) st.2 st.1, push_stack s m root fs g r st.3 b h)

pub pop_stack : (s : Sheet) (m : MemoState) (root : Case) (fs : List Frame) (g : Frame) (r : ℕ) → IsStack s m root (fs ++ g ∷ []) r → IsBegun s m root g × IsStack s m root fs (reach_rank s g.key.cell)
pop_stack s m root [] g r st = (st.0, tt)
pop_stack s m root (f ∷ fs) g r st =
    let k = pop_stack s m root fs g r st.3 in
    let b = below_front s fs g (reach_rank s f.key.cell) st.2 in
    (k.0, (st.0, b.0, b.1, k.1))

pub push_bottom : (root : Case) (fs : List Frame) (f g : Frame) → BottomIs root fs f → BottomIs root (fs ++ f ∷ []) g
push_bottom root [] f g h = h
push_bottom root (e ∷ fs) f g h = h

pub pop_bottom : (root : Case) (fs : List Frame) (f g : Frame) → BottomIs root (fs ++ g ∷ []) f → BottomIs root fs g
pop_bottom root [] f g h = h
pop_bottom root (e ∷ fs) f g h = h

pub same_bottom : (root : Case) (fs : List Frame) (f g : Frame) → g.key ≡ f.key → BottomIs root fs f → BottomIs root fs g
same_bottom root [] f g e h = ap case_at e ∙ h
same_bottom root (k ∷ fs) f g e h = h

-- ---- each waits for the one above it

above_push : (fs : List Frame) (f : Frame) (k : Key) → key_above (fs ++ f ∷ []) k ≡ key_above fs f.key
above_push [] f k = refl
above_push (e ∷ fs) f k = refl

pub push_linked : (s : Sheet) (fs : List Frame) (f : Frame) (k : Key) → AreLinked s fs f.key → IsAwaited s f.key.world f.waiting k → AreLinked s (fs ++ f ∷ []) k
push_linked s [] f k h w = (w, tt)
push_linked s (e ∷ fs) f k h w = (subst (IsAwaited s e.key.world e.waiting) (sym (above_push fs f k)) h.0, push_linked s fs f k h.1 w)

pub pop_linked : (s : Sheet) (fs : List Frame) (f : Frame) (k : Key) → AreLinked s (fs ++ f ∷ []) k → AreLinked s fs f.key × IsAwaited s f.key.world f.waiting k
pop_linked s [] f k h = (tt, h.0)
pop_linked s (e ∷ fs) f k h =
    let rest = pop_linked s fs f k h.1 in
    ((subst (IsAwaited s e.key.world e.waiting) (above_push fs f k) h.0, rest.0), rest.1)

-- ---- one more case is found

pub other_case : (a b : ℕ) (t : Bool) → (a ≡ b → ⊥) → ((a == b) && t) ≡ false
other_case a b true h = grind (arith, nat_tests)
other_case a b false h = grind (arith, nat_tests)

-- what is found or kept otherwise makes no difference to a frame
pub same_frame : (s : Sheet) (m n : MemoState) (f : Frame) → n.covers ≡ m.covers → n.generation ≡ m.generation → IsFrame s m f → IsFrame s n f
same_frame s m n f ec eg h = record {
  key = record {
    formula = h.key.formula;
    open_cell = h.key.open_cell;
    covered = rw ec h.key.covered;
    own = h.key.own;
    generation = rw eg h.key.generation;
  };
  formula = h.formula;
  found = h.found;
  waiting = h.waiting;
}

-- what is found next is none of the frames below
pub found_stack : (s : Sheet) (m n : MemoState) (k : Key) (root : Case) (fs : List Frame) → n.covers ≡ m.covers → n.generation ≡ m.generation →
    ((c : ℕ) (w : List Replacement) → n.found c w ≡ (m.found c w || same_case (case_at k) (c, w))) → IsStack s m root fs (reach_rank s k.cell) → IsStack s n root fs (reach_rank s k.cell)
found_stack s m n k root [] ec eg e st = tt
found_stack s m n k root (f ∷ fs) ec eg e st =
    let apart : k.cell ≡ f.key.cell → ⊥ = λ (h : k.cell ≡ f.key.cell). (let y = ap (reach_rank s) h in absurd (omega (arith, y, st.1))) in
    let other = other_case k.cell f.key.cell (same_replacements k.world f.key.world) apart in (
      record {
        frame = same_frame s m n f ec eg st.0.frame;
        unfound = e f.key.cell f.key.world ∙ or_from (m.found f.key.cell f.key.world) _ st.0.unfound other;
        demanded = st.0.demanded;
      },
      st.1,
      st.2,
      found_stack s m n k root fs ec eg e st.3,
    )

-- what is remembered next is right
pub right_kept : (s : Sheet) (known after : ℕ → List Replacement → Option Value) (k : Key) (v : Value) →
    ((c : ℕ) (w : List Replacement) → IfSome (after c w) (λ x. (known c w ≡ Some x) ⊎ ((c ≡ k.cell) × (w ≡ k.world) × (x ≡ v)))) → v ≡ cell_value (put_all s k.world) k.cell → AreKnownRight s known → AreKnownRight s after
right_kept s known after k v e h r = λ c w. at c w (after c w) (e c w)
  where
    of : (c : ℕ) (w : List Replacement) (x : Value) → (known c w ≡ Some x) ⊎ ((c ≡ k.cell) × (w ≡ k.world) × (x ≡ v)) → x ≡ cell_value (put_all s w) c
    of c w x (inl g) = rw g at (r c w)
    of c w x (inr g) = g.2 ∙ h ∙ ap (λ (u : List Replacement). cell_value (put_all s u) k.cell) (sym g.1) ∙ ap (cell_value (put_all s w)) (sym g.0)

    at : (c : ℕ) (w : List Replacement) (o : Option Value) → IfSome o (λ x. (known c w ≡ Some x) ⊎ ((c ≡ k.cell) × (w ≡ k.world) × (x ≡ v))) → IfSome o (λ x. x ≡ cell_value (put_all s w) c)
    at c w None g = tt
    at c w (Some x) g = of c w x g

pub run_keeps : (s : Sheet) (m n : MemoState) (k : Key) (v : Value) → IsMemoOf s m → Keeps m n k v → v ≡ cell_value (put_all s k.world) k.cell → IsMemoOf s n
run_keeps s m n k v h keeps is = record {
  sheet = keeps.sheet ∙ h.sheet;
  right = right_kept s m.known n.known k v keeps.known is h.right;
  closed = subst (λ (covers : ℕ → Bool). IsClosedUnderReads s covers) (sym keeps.same.covers) h.closed;
  complete = keeps.complete;
}

-- ---- a new frame, and the same frame with more values

pub begun_next : (s : Sheet) (m : MemoState) (root : Case) (below : Frame) (k : Key) (f : Frame) → IsDemanded s root (case_at below.key) → IsNext s m below.key k → f.key ≡ k → IsFrame s m f → IsBegun s m root f
begun_next s m root below k f d n e h = record {
  frame = h;
  unfound = rw e n.to_find.unfound;
  demanded = λ ks closed top. subst (λ (j : Key). Contains ks (case_at j)) (sym e) (closed (case_at below.key) (case_at k) (d ks closed top) n.rests);
}

pub same_begun : (s : Sheet) (m : MemoState) (root : Case) (f g : Frame) → g.key ≡ f.key → IsFrame s m g → IsBegun s m root f → IsBegun s m root g
same_begun s m root f g e h b = record {
  frame = h;
  unfound = rw e b.unfound;
  demanded = rw e b.demanded;
}
