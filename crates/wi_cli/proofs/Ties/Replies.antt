-- Codes and replies, by the step of a command, and what a run has written.
use Rattle.wi_cli.proofs.Vocabulary.{◌≡◌, List, [], ◌∷◌, inl, inr, codes, refl, sym, ap, ap₂, ◌∙◌, Contains, State, Bytes, Command, Cause, CutShort, Outside, BadField, OutOfSheet, NumberRange, TooDeep, Syntax, LeavesSheet, Stale, Full, EditLimit, order, IsFirst, late, causes, IsFirstOf, false, true, Ok, Err, subst, arith, both_ways, Refusal, may_grow, MayGrow, Holds, Answer, Tells, IsStep, list_any, KeepsMemory, MayLackMemory, lies_outside, Csv, has_session, form, first_holds, one_first, ◌++◌, ℕ, Option, Some, None, subst₂, refused as refused_line, stale_cell, cell_named, Replies, accepted, unserved, RefusedAs, false≢true, left_by, reply, Writes, MayHappen, AreEvents, ◌+◌, map, false_from_ne_true}
use Rattle.wi_scenarios.specs.Commands.Command.{Drop, As}
use Rattle.wi_cli.specs.Reply.{refused}
use Rattle.wi_scenarios.specs.declared.refusal.Refusal.TheVariants as refusal

module _ (s : State) (c : Command) where
  -- the reply for a cause, by its code
  abbrev line_of : Cause × Bytes → Bytes
  line_of x = codes "refused E" ++ x.1 ++ cell_named x.0 (stale_cell s c) ++ codes "\n"

  -- each cause of the list stands with the code of its refusal
  abbrev AreCoded : List (Cause × Bytes) → Type 0
  AreCoded [] = Unit {0}
  AreCoded (x ∷ xs) = ((e : Refusal) → Tells s c x.0 e → refused_line e ≡ line_of x) × AreCoded xs

  by_code : (d e : Refusal) → e ≡ d → refused_line e ≡ refused_line d
  by_code d e t = ap refused_line t

  by_cell : (e : Refusal) → Tells s c Stale e → refused_line e ≡ line_of (Stale, codes "18")
  unfolding refused_line
  by_cell e t = ap refused_line t.2 ∙ ap (λ (o : Option ℕ). codes "refused E" ++ codes "18" ++ cell_named Stale o ++ codes "\n") (sym t.1)

  are_coded : AreCoded order
  unfolding refused_line
  are_coded =
      (by_code _, (by_code _, (by_code _, (by_code _, (by_code _, (by_code _, (by_code _, (by_code _, (by_code _, (by_code _, (by_code _, (by_code _, (by_code _, (by_code _, (by_code _, (by_cell, (by_code _, (by_code _, (by_code _, tt)))))))))))))))))))

  coded : (xs : List (Cause × Bytes)) (x : Cause × Bytes) → AreCoded xs → IsFirst s c xs x → (e : Refusal) → Tells s c x.0 e → refused_line e ≡ line_of x
  coded [] x a h = absurd h
  coded (y ∷ ys) x a (inl h) = subst (λ (z : Cause × Bytes). (e : Refusal) → Tells s c z.0 e → refused_line e ≡ line_of z) (sym h.1) a.0
  coded (y ∷ ys) x a (inr h) = coded ys x a.1 h.1

  with_code : (xs : List (Cause × Bytes)) (x : Cause) → IsFirstOf s c (map (λ (y : Cause × Bytes). y.0) xs) x → (b : Bytes) × IsFirst s c xs (x, b)
  with_code [] x h = absurd h
  with_code (y ∷ ys) x (inl h) = (y.1, inl (h.0, ap (λ (z : Cause). let p : Cause × Bytes = (z, y.1) in p) h.1))
  with_code (y ∷ ys) x (inr h) = let r = with_code ys x h.1 in (r.0, inr (h.0, r.1))

  without_code : (xs : List (Cause × Bytes)) (x : Cause × Bytes) → IsFirst s c xs x → IsFirstOf s c (map (λ (y : Cause × Bytes). y.0) xs) x.0
  without_code [] x h = absurd h
  without_code (y ∷ ys) x (inl h) = inl (h.0, ap (λ (p : Cause × Bytes). p.0) h.1)
  without_code (y ∷ ys) x (inr h) = inr (h.0, without_code ys x h.1)

  -- the first that holds is a late one, if one does
  abbrev IsLate : Type 0
  IsLate = (x : Cause × Bytes) → IsFirst s c order x → Contains late x.0

-- ---- where memory may be lacking

module _ (s : State) (c : Command) (inside : Holds s Outside c → ⊥) (come : Holds s CutShort c → ⊥) (texts : Holds s BadField c → ⊥) where
  is_late : (x : Cause) → Holds s x c → (e : Refusal) → Tells s c x e → may_grow (Err e) ≡ true → Contains late x
  is_late Outside h e t g = absurd (inside h)
  is_late CutShort h e t g = absurd (come h)
  is_late BadField h e t g = absurd (texts h)
  is_late OutOfSheet h e t g = (0, omega arith, refl)
  is_late NumberRange h e t g = (1, omega arith, refl)
  is_late TooDeep h e t g = (2, omega arith, refl)
  is_late Syntax h e t g = (3, omega arith, refl)
  is_late LeavesSheet h e t g = (4, omega arith, refl)
  is_late Stale h e t g = (5, omega arith, refl)
  is_late Full h e t g = (6, omega arith, refl)
  is_late EditLimit h e t g = (7, omega arith, refl)
  is_late x h e t g = absurd (both_ways false refl (sym (ap (λ (r : Refusal). may_grow (Err r)) t) ∙ g))

  -- an answer before which something may grow is none of a cause that is found before
  late_first : MayGrow (IsStep s c) → IsLate s c
  late_first m x h = by x.0 (without_code s c order x h) m.answer m.grows m.is_answer
    where
      by : (x : Cause) → IsFirstOf s c causes x → (a : Answer) → may_grow a ≡ true → IsStep s c a → Contains late x
      by x f (Ok done) g is = absurd (is.0 x (first_holds s c causes x f))
      by x f (Err e) g is =
          let one : is.0 ≡ x = one_first s c causes is.0 x is.1 f in
          is_late x (first_holds s c causes x f) e (subst (λ (y : Cause). Tells s c y e) one is.2) g

module _ (s : State) where
  first_late : (c : Command) → list_any lies_outside (form c) ≡ false → (Holds s CutShort c → ⊥) → (Holds s BadField c → ⊥) → MayGrow (IsStep s c) → IsLate s c
  first_late c e come texts m = late_first s c (λ h. both_ways _ e h) come texts m

  -- where memory may be lacking for a command that a call of the workbook did
  pub may_lack : (c : Command) → list_any lies_outside (form c) ≡ false → MayGrow (IsStep s c) → KeepsMemory c (Err refusal.Memory) s → MayLackMemory s c
  may_lack (Csv force at n lines) e m k = absurd k
  may_lack (Drop name) e m k = absurd (k refl)
  may_lack (As name) e m k = (false_from_ne_true (has_session s.sessions name) (λ f. k f refl), first_late (As name) e (λ h. h) (λ h. h) m)
  may_lack c e m k = first_late c e (λ h. h) (λ h. h) m

-- ---- the reply to a command, by its step

module _ (s : State) (c : Command) where
  pub no_memory : refused_line refusal.Memory ≡ codes "refused E01\n"
  unfolding refused_line
  no_memory = refl

  pub has_refusal : (x : Cause) → Holds s x c → (e : Refusal) × Tells s c x e
  has_refusal Stale h = by (stale_cell s c) refl h.1
    where
      by : (o : Option ℕ) → stale_cell s c ≡ o → (stale_cell s c ≡ None → ⊥) → (e : Refusal) × Tells s c Stale e
      by None e h = absurd (h e)
      by (Some at) e h = (refusal.Stale at, (at, e, refl))
  has_refusal x h = (_, refl)

  pub done : (t : State) (records : Bytes) → IsStep s c (Ok (t, records)) → Replies s c (records ++ codes "ok\n") t
  done t records is = accepted t records is.0 is.1

  refused_so : (e : Refusal) (t : State) → t ≡ s → IsStep s c (Err e) → Replies s c (refused_line e) t
  refused_so e t same is =
      let r = with_code s c order is.0 is.1 in
      subst₂ (Replies s c) (sym (coded s c order (is.0, r.0) (are_coded s c) r.1 e is.2)) (sym same) (refused is.0 r.0 r.1)

  pub refused_as : (e : Refusal) (t : State) → t ≡ s → RefusedAs e s c → Replies s c (refused_line e) t
  refused_as refusal.Memory t same may = subst₂ (Replies s c) (sym no_memory) (sym same) (unserved may)
  refused_as e t same is = refused_so e t same is

-- ---- what a run has written comes of events

-- an answer of a command that has this reply and leaves this state
record HasEvent (s : State) (c : Command) (told : Bytes) (t : State) : Type 0 where
  answer : Answer
  happens : MayHappen IsStep s (record { command = c; answer = answer })
  told_is : told ≡ reply answer
  left_is : t ≡ left_by s answer

has_event : (s : State) (c : Command) (told : Bytes) (t : State) → Replies s c told t → HasEvent s c told t
has_event s c told t (accepted u records none does) = record { answer = Ok (u, records); happens = inl (none, does); told_is = refl; left_is = refl }
has_event s c told t (refused x digits first) =
    let f = without_code s c order (x, digits) first in
    let e = has_refusal s c x (first_holds s c causes x f) in
    record {
      answer = Err e.0;
      happens = inl (x, f, e.1);
      told_is = sym (coded s c order (x, digits) (are_coded s c) first e.0 e.1);
      left_is = refl;
    }
has_event s c told t (unserved may) = record { answer = Err refusal.Memory; happens = inr refl; told_is = sym (no_memory s c); left_is = refl }

pub are_events : (s t : State) (cs : List Command) (out : Bytes) → Writes false s cs out t → AreEvents s cs out t
are_events s t [] out h = record { events = []; follow = tt; commands = refl; replies = h.0; left = h.1 }
are_events s t (c ∷ cs) out (inl h) =
    let e = has_event s c h.1 h.0 h.3 in
    let more = are_events (left_by s e.answer) t cs h.2 (subst (λ (u : State). Writes false u cs h.2 t) e.left_is h.5) in
    record {
      events = record { command = c; answer = e.answer } ∷ more.events;
      follow = (e.happens, more.follow);
      commands = ap (λ (ds : List Command). c ∷ ds) more.commands;
      replies = h.4 ∙ ap₂ (λ (a b : Bytes). a ++ b) e.told_is more.replies;
      left = more.left;
    }
are_events s t (c ∷ cs) out (inr h) = absurd (false≢true h.0)
