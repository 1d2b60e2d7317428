-- A run of frames, of which the stack shows what each is, whatever memory its lists have.
use Rattle.wi_engine.proofs.Words.{◌≡◌, ◌≤◌, ◌-◌, ℕ, true, List, [], ◌∷◌, ◌++◌, map, map-append, Option, Some, None, refl, ap, sym, ◌∙◌, subst, Value, Replacement, Sheet, content_of, put_all, has_formula, Counts, Key, cell_value, what_if_value, Case, reaching, MemoState, IsMemoOf, IsLacking, AreAllRight, case_at, content_reads_here, AreReadHere, Awaits, IsAwaited, IsFrame, IsUnvaluedKey, lacks, spare, waits, FrameTakes, Findings, Frame, Waiting, Nothing, Cells, StackedFrame, cells_of, other_than_cells, stacked}
use Rattle.wi_functions.specs.declared.evaluation.Want.TheVariants as wanted
use Rattle.wi_engine.specs.declared.frame.Waiting.TheVariants.{WhatIf}
use Rattle.wi_engine.proofs.engine.Waits.{frame_with}
use Rattle.wi_engine.proofs.engine.SettledFindings.{settled_again}
use Rattle.wi_engine.proofs.engine.FrameRuns.{IsNew, GoesDeeper, ComesBack, run_below}
use Rattle.wi_engine.proofs.engine.Ends.{IsGoing, going_start, going_deeper, going_back, going_awaited}

-- ---- what is waited for, by what it is seen as

abbrev AwaitsSeen : Sheet → Case → Findings → Option (ℕ × List ℕ) → Waiting → Type 0
AwaitsSeen s k f None w = Awaits s k f w
AwaitsSeen s k f (Some p) w =
    IsLacking s k.1 f (wanted.Cell p.0) × (content_reads_here (content_of (put_all s k.1) k.0) p.0 ≡ true) × (has_formula (content_of s p.0) ≡ true) × AreReadHere s k p.1

awaits_seen : (s : Sheet) (k : Case) (f : Findings) (w : Waiting) → Awaits s k f w → AwaitsSeen s k f (cells_of w) (other_than_cells w)
awaits_seen s k f Nothing h = h
awaits_seen s k f (Cells a others) h = h
awaits_seen s k f (WhatIf a pairs) h = h

seen_awaits : (s : Sheet) (k : Case) (f : Findings) (w : Waiting) → AwaitsSeen s k f (cells_of w) (other_than_cells w) → Awaits s k f w
seen_awaits s k f Nothing h = h
seen_awaits s k f (Cells a others) h = h
seen_awaits s k f (WhatIf a pairs) h = h

abbrev AwaitedSeen : Sheet → List Replacement → Option (ℕ × List ℕ) → Key → Type 0
AwaitedSeen s w None k = Unit {0}
AwaitedSeen s w (Some p) k = (k.cell ≡ p.0) × (k.world ≡ reaching s p.0 w)

awaited_seen : (s : Sheet) (w : List Replacement) (x : Waiting) (k : Key) → IsAwaited s w x k → AwaitedSeen s w (cells_of x) k
awaited_seen s w Nothing k h = tt
awaited_seen s w (Cells a others) k h = h
awaited_seen s w (WhatIf a pairs) k h = tt

seen_awaited : (s : Sheet) (w : List Replacement) (x : Waiting) (k : Key) → AwaitedSeen s w (cells_of x) k → IsAwaited s w x k
seen_awaited s w Nothing k h = tt
seen_awaited s w (Cells a others) k h = h
seen_awaited s w (WhatIf a pairs) k h = tt

abbrev waits_seen : Option (ℕ × List ℕ) → Waiting → ℕ
waits_seen None w = waits w
waits_seen (Some p) w = 1

waits_is : (w : Waiting) → waits w ≡ waits_seen (cells_of w) (other_than_cells w)
waits_is Nothing = refl
waits_is (Cells a others) = refl
waits_is (WhatIf a pairs) = refl

-- ---- two frames that are seen as one

pub record AreAlike (f g : Frame) : Type 0 where
  pub key : f.key ≡ g.key
  pub formula : f.formula.now ≡ g.formula.now
  pub found : f.found ≡ g.found
  pub cells : cells_of f.waiting ≡ cells_of g.waiting
  pub otherwise : other_than_cells f.waiting ≡ other_than_cells g.waiting

are_alike : (f g : Frame) → stacked f ≡ stacked g → AreAlike f g
are_alike f g e = record {
  key = ap (λ (h : StackedFrame). h.key) e;
  formula = ap (λ (h : StackedFrame). h.formula) e;
  found = ap (λ (h : StackedFrame). h.found) e;
  cells = ap (λ (h : StackedFrame). h.cells) e;
  otherwise = ap (λ (h : StackedFrame). h.otherwise) e;
}

-- what is so of one is so of the other
module _ (s : Sheet) {f g : Frame} (a : AreAlike f g) where
  alike_awaits : Awaits s (case_at f.key) f.found f.waiting → Awaits s (case_at f.key) g.found g.waiting
  alike_awaits h =
      let found : Awaits s (case_at f.key) g.found f.waiting = subst (λ (x : Findings). Awaits s (case_at f.key) x f.waiting) a.found h in
      let seen = awaits_seen s (case_at f.key) g.found f.waiting found in
      let other : AwaitsSeen s (case_at f.key) g.found (cells_of f.waiting) (other_than_cells g.waiting) = subst (λ (w : Waiting). AwaitsSeen s (case_at f.key) g.found (cells_of f.waiting) w) a.otherwise seen in
      seen_awaits s (case_at f.key) g.found g.waiting (subst (λ (o : Option (ℕ × List ℕ)). AwaitsSeen s (case_at f.key) g.found o (other_than_cells g.waiting)) a.cells other)

  alike_frame : (m : MemoState) → IsFrame s m f → IsFrame s m g
  alike_frame m h =
      frame_with s m f g h (sym a.key) (sym a.formula) (subst (λ (x : Findings). AreAllRight (cell_value (put_all s f.key.world)) (what_if_value (put_all s f.key.world)) x) a.found h.found) (alike_awaits h.waiting)

  alike_awaited : (k : Key) → IsAwaited s f.key.world f.waiting k → IsAwaited s g.key.world g.waiting k
  alike_awaited k h =
      let seen = awaited_seen s f.key.world f.waiting k h in
      let cells : AwaitedSeen s f.key.world (cells_of g.waiting) k = subst (λ (o : Option (ℕ × List ℕ)). AwaitedSeen s f.key.world o k) a.cells seen in
      subst (λ (x : Key). IsAwaited s x.world g.waiting k) a.key (seen_awaited s f.key.world g.waiting k cells)

  alike_spare : spare s f ≡ spare s g
  alike_spare =
      let waits_alike : waits f.waiting ≡ waits g.waiting =
      waits_is f.waiting ∙ ap (λ (o : Option (ℕ × List ℕ)). waits_seen o (other_than_cells f.waiting)) a.cells ∙ ap (waits_seen (cells_of g.waiting)) a.otherwise ∙ sym (waits_is g.waiting) in
      ap (λ (x : Key). lacks s x f.found - waits f.waiting) a.key ∙ ap (λ (x : Findings). lacks s g.key x - waits f.waiting) a.found ∙ ap (λ (n : ℕ). lacks s g.key g.found - n) waits_alike

  -- what one takes in the other does
  alike_takes : {k : Key} {h : Frame} → FrameTakes s k g h true → FrameTakes s k f h true
  alike_takes {k} {h} t = record {
    key = t.key ∙ sym a.key;
    frame = λ d m is. t.frame d m (alike_frame m is);
    fewer = λ d. subst (λ (n : ℕ). spare s h ≤ n) (sym alike_spare) (t.fewer d);
    settled = λ d kept there is. t.settled d kept there (settled_again s kept f g (sym a.key) (sym a.found) is);
  }

-- ---- the frames that the stack shows

-- the last of these frames is seen as the last that is shown
record HasLastSeen (hs : List StackedFrame) (h : StackedFrame) (gs : List Frame) : Type 0 where
  front : List Frame
  last : Frame
  is : gs ≡ front ++ last ∷ []
  seen : map stacked front ≡ hs
  top : stacked last ≡ h

same_cons : {X : Type 0} (x y : X) (xs ys : List X) → x ∷ xs ≡ y ∷ ys → (x ≡ y) × (xs ≡ ys)
same_cons x y xs ys e = (cc, cc)

none_first : {X : Type 0} (x : X) (xs : List X) → [] ≡ x ∷ xs → ⊥
none_first x xs e = cc

last_seen : (hs : List StackedFrame) (h : StackedFrame) (gs : List Frame) → map stacked gs ≡ hs ++ h ∷ [] → HasLastSeen hs h gs
last_seen [] h [] e = absurd (none_first h [] e)
last_seen [] h (g ∷ []) e = record { front = []; last = g; is = refl; seen = refl; top = (same_cons (stacked g) h [] [] e).0 }
last_seen [] h (g ∷ x ∷ gs) e = absurd (none_first (stacked x) (map stacked gs) (sym (same_cons (stacked g) h (stacked x ∷ map stacked gs) [] e).1))
last_seen (k ∷ hs) h [] e = absurd (none_first k (hs ++ h ∷ []) e)
last_seen (k ∷ hs) h (g ∷ gs) e =
    let same = same_cons (stacked g) k (map stacked gs) (hs ++ h ∷ []) e in
    let rest = last_seen hs h gs same.1 in
    record {
      front = g ∷ rest.front;
      last = rest.last;
      is = ap (λ (l : List Frame). g ∷ l) rest.is;
      seen = ap (λ (x : StackedFrame). x ∷ map stacked rest.front) same.0 ∙ ap (λ (l : List StackedFrame). k ∷ l) rest.seen;
      top = rest.top;
    }

-- ---- what is so all the way, where the stack shows these

pub record IsGoingOver (s : Sheet) (old m : MemoState) (root : Case) (start now : Counts) (hs : List StackedFrame) (f : Frame) : Type 0 where
  pub frames : List Frame
  pub seen : map stacked frames ≡ hs
  pub going : IsGoing s old m root start now frames f

-- and where a frame was taken off: it is seen as the one that was put on there
pub record HasBelow (s : Sheet) (old m : MemoState) (root : Case) (start now : Counts) (hs : List StackedFrame) (f below : Frame) : Type 0 where
  pub frames : List Frame
  pub frame : Frame
  pub seen : map stacked frames ≡ hs
  pub alike : AreAlike frame below
  pub going : IsGoing s old m root start now (frames ++ frame ∷ []) f

pub over_start : {s : Sheet} {m : MemoState} {k : Key} {f : Frame} {hs : List StackedFrame} (now : Counts) → IsMemoOf s m → IsUnvaluedKey s m k → IsNew s f k → hs ≡ [] → IsGoingOver s m m (case_at k) now now hs f
over_start now h key new none = record { frames = []; seen = sym none; going = going_start now h key new }

pub over_deeper : {s : Sheet} {old m : MemoState} {root : Case} {start now next : Counts} {hs gs : List StackedFrame} {f h g : Frame} {k : Key} → IsGoingOver s old m root start now hs f → GoesDeeper s m now next f h g k → gs ≡ hs ++ stacked h ∷ [] →
    IsGoingOver s old m root start next gs g
over_deeper {s} {old} {m} {root} {start} {now} {next} {hs} {gs} {f} {h} {g} {k} i t more = record {
  frames = i.frames ++ h ∷ [];
  seen = map-append stacked i.frames (h ∷ []) ∙ ap (λ (l : List StackedFrame). l ++ stacked h ∷ []) i.seen ∙ sym more;
  going = going_deeper i.going t;
}

pub over_below : {s : Sheet} {old m : MemoState} {root : Case} {start now : Counts} {hs gs : List StackedFrame} {f : Frame} (below : Frame) → IsGoingOver s old m root start now gs f → gs ≡ hs ++ stacked below ∷ [] → HasBelow s old m root start now hs f below
over_below {s} {old} {m} {root} {start} {now} {hs} {gs} {f} below i e =
    let parts = last_seen hs (stacked below) i.frames (i.seen ∙ e) in
    record {
      frames = parts.front;
      frame = parts.last;
      seen = parts.seen;
      alike = are_alike parts.last below parts.top;
      going = subst (λ (fs : List Frame). IsGoing s old m root start now fs f) parts.is i.going;
    }

module _ {s : Sheet} {old m : MemoState} {root : Case} {start now : Counts} {hs : List StackedFrame} {f below : Frame} (b : HasBelow s old m root start now hs f below) where
  -- the frame that was taken off waits for the one that stood above it
  pub below_awaits : Awaits s (case_at below.key) below.found below.waiting
  below_awaits = (alike_frame s b.alike m (run_below b.frames b.going.running)).waiting

  pub below_awaited : IsAwaited s below.key.world below.waiting f.key
  below_awaited = alike_awaited s b.alike f.key (going_awaited b.frames b.frame b.going)

  -- and takes in its value
  pub over_back : {n : MemoState} {next : Counts} {g : Frame} {v : Value} → ComesBack s m n now next f v → FrameTakes s f.key below g true → IsGoingOver s old n root start next hs g
  over_back t takes = record { frames = b.frames; seen = b.seen; going = going_back b.going t (alike_takes s b.alike takes) }

-- where the stack is empty, the frame on top is the root's
pub over_root : {s : Sheet} {old m : MemoState} {root : Case} {start now : Counts} {hs : List StackedFrame} {f : Frame} → IsGoingOver s old m root start now hs f → hs ≡ [] → IsGoing s old m root start now [] f
over_root {s} {old} {m} {root} {start} {now} {hs} {f} i none = at i.frames (i.seen ∙ none) i.going
  where
    at : (fs : List Frame) → map stacked fs ≡ [] → IsGoing s old m root start now fs f → IsGoing s old m root start now [] f
    at [] e going = going
    at (x ∷ fs) e going = absurd (none_first (stacked x) (map stacked fs) (sym e))
