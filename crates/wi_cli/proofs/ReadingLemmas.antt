-- A line that is being read, and the bytes that are still to come.
use Rattle.wi_cli.proofs.Vocabulary.{◌≡◌, ℕ, List, ◌++◌, ap, ◌∙◌, append_assoc, Option, None, Some, Takes, ◌<◌, ◌≤◌, Bool, true, false, ◌||◌, cond, [], ◌∷◌, length, drop, refl, sym, subst, arith, Result, Err, append-nil, IsAtEnd, prepend_known, Consumes-trans, false≢true, RunFault, Read, Write, ScriptLimit, is_whole, line_front, raw, CanRead, HasStopped, TookPart, TookLine, Broke}
use Rattle.wi_cli.proofs.LineLemmas.{is_whole-append}

pub buffered : (left : Option (List ℕ)) (xs ys taken : List ℕ) → xs ≡ taken ++ ys → Takes xs left ys left taken
buffered None xs ys taken e = tt
buffered (Some more) xs ys taken e = ap (λ l. l ++ more) e ∙ append_assoc taken ys more

-- ---- a line that is being read

-- the bytes of a line that were taken so far, of which the front is kept
pub record IsWithin (allowed : Bool) (buffer : List ℕ) (left : Option (List ℕ)) (buffer' : List ℕ) (left' : Option (List ℕ)) (line : List ℕ) : Type 0 where
  pub content : List ℕ
  pub no_lf : is_whole content ≡ false
  pub kept : line ≡ line_front content
  pub taken : Takes buffer left buffer' left' content
  pub may : 0 < length content → allowed ≡ true

pub Takes-trans : (a : List ℕ) (p : Option (List ℕ)) (b : List ℕ) (q : Option (List ℕ)) (c : List ℕ) (r : Option (List ℕ)) (xs ys : List ℕ) → Takes a p b q xs → Takes b q c r ys → Takes a p c r (xs ++ ys)
Takes-trans a p b q c r xs ys h k = Consumes-trans (prepend_known a p) (prepend_known b q) (prepend_known c r) xs ys h k

no_lf-append : (xs ys : List ℕ) → is_whole xs ≡ false → is_whole ys ≡ false → is_whole (xs ++ ys) ≡ false
no_lf-append xs ys h k = is_whole-append xs ys ∙ ap (λ b. b || is_whole ys) h ∙ k

front_nil : line_front [] ≡ []
unfolding line_front
front_nil = refl

pub begun : (allowed : Bool) (a : List ℕ) (p : Option (List ℕ)) (b : List ℕ) (q : Option (List ℕ)) (line : List ℕ) → line ≡ [] → Takes a p b q [] → IsWithin allowed a p b q line
begun allowed a p b q line e h =
    record { content = []; no_lf = refl; kept = e ∙ sym front_nil; taken = h; may = λ (l : 0 < 0). absurd (omega arith) }

part_taken : (whole allowed : Bool) (a : List ℕ) (p : Option (List ℕ)) (b : List ℕ) (q : Option (List ℕ)) (c line line' : List ℕ)
    → (w : IsWithin allowed a p b q line) → (t : TookPart whole b c line line') → Takes a p c q (raw whole (w.content ++ t.part))
part_taken whole allowed a p b q c line line' w t =
    subst (Takes a p c q) (sym (append_assoc w.content t.part (cond whole (10 ∷ []) [])))
    (Takes-trans a p b q c q w.content (raw whole t.part) w.taken (buffered q b c (raw whole t.part) t.taken))

-- all that was left was taken, and then the source was read
pub went_on : (allowed : Bool) (a : List ℕ) (p : Option (List ℕ)) (b : List ℕ) (q : Option (List ℕ)) (c d : List ℕ) (r : Option (List ℕ)) (line line' : List ℕ)
    → IsWithin allowed a p b q line → TookPart false b c line line' → allowed ≡ true → Takes c q d r [] → IsWithin allowed a p d r line'
went_on allowed a p b q c d r line line' w t may h =
    let content = w.content ++ t.part in
    record {
      content = w.content ++ t.part;
      no_lf = no_lf-append w.content t.part w.no_lf t.no_lf;
      kept = t.kept w.content w.kept;
      taken = subst (Takes a p d r) (append-nil (content ++ []) ∙ append-nil content)
          (Takes-trans a p c q d r (content ++ []) [] (part_taken false allowed a p b q c line line' w t) h);
      may = λ _. may;
    }

pub ended : (allowed : Bool) (a : List ℕ) (p : Option (List ℕ)) (b : List ℕ) (q : Option (List ℕ)) (line : List ℕ)
    → IsWithin allowed a p b q line → IsAtEnd (prepend_known b q) → TookLine allowed false a p b q line
ended allowed a p b q line w h =
    let same = append-nil w.content in
    record {
      content = w.content;
      no_lf = w.no_lf;
      kept = w.kept;
      taken = subst (Takes a p b q) (sym same) w.taken;
      at_end = λ _. h;
      may = λ l. w.may (subst (λ xs. 0 < length xs) same l);
    }

pub failed : (allowed : Bool) (a : List ℕ) (p : Option (List ℕ)) (b : List ℕ) (q : Option (List ℕ)) (line : List ℕ)
    → IsWithin allowed a p b q line → b ≡ [] → Broke Read allowed a p b q
failed allowed a p b q line w e = (w.content, w.no_lf, e, w.taken, w.may)

pub came : (allowed : Bool) (a : List ℕ) (p : Option (List ℕ)) (b : List ℕ) (q : Option (List ℕ)) (c line line' : List ℕ)
    → IsWithin allowed a p b q line → TookPart true b c line line' → allowed ≡ true → TookLine allowed true a p c q line'
came allowed a p b q c line line' w t may =
    record {
      content = w.content ++ t.part;
      no_lf = no_lf-append w.content t.part w.no_lf t.no_lf;
      kept = t.kept w.content w.kept;
      taken = part_taken true allowed a p b q c line line' w t;
      at_end = λ e. absurd (false≢true (sym e));
      may = λ _. may;
    }

pub limited : (allowed : Bool) (a : List ℕ) (p : Option (List ℕ)) (b : List ℕ) (q : Option (List ℕ)) (c : List ℕ)
    → Takes a p b q [] → 0 < length b → c ≡ drop 1 b → allowed ≡ false → Broke ScriptLimit allowed a p c q
limited allowed a p [] q c h l e no_more = absurd (omega arith)
limited allowed a p (x ∷ xs) q c h l e no_more =
    (x, no_more, Takes-trans a p (x ∷ xs) q c q [] (x ∷ []) h (buffered q (x ∷ xs) c (x ∷ []) (ap (λ l. x ∷ l) (sym e))))

-- ---- how a call leaves the reader of lines

-- the source can't be read
pub stops_unread : {fault : RunFault} {has_failed : Bool} {capacity : ℕ} → 65537 ≤ capacity → has_failed ≡ true → HasStopped fault has_failed capacity
stops_unread headroom failed = record { headroom = headroom; failed = λ _. failed }

-- there are too many lines
pub stops_limited : {has_failed : Bool} {capacity : ℕ} → 65537 ≤ capacity → HasStopped ScriptLimit has_failed capacity
stops_limited headroom = record { headroom = headroom; failed = λ (e : ScriptLimit ≡ Read). cc }

-- a reply can't be written
pub stops_unwritten : {has_failed : Bool} {capacity : ℕ} → CanRead has_failed capacity → HasStopped Write has_failed capacity
stops_unwritten h = record { headroom = h.headroom; failed = λ (e : Write ≡ Read). cc }

-- where a run can't be read, its source has failed
pub failed_unread : {has_failed : Bool} {capacity : ℕ} (r : Result (Unit {0}) RunFault) (e fault : RunFault) → r ≡ Err e → e ≡ fault → HasStopped fault has_failed capacity → r ≡ Err Read → has_failed ≡ true
failed_unread r e fault is same h k = h.failed (let one : fault ≡ Read = cc in one)
