-- A line served, and its reply written, one after another.
use Rattle.wi_cli.proofs.Vocabulary.{◌≡◌, Bool, true, false, ℕ, List, [], ◌∷◌, ◌++◌, inl, inr, refl, sym, ap, ◌∙◌, subst₂, false≢true, Option, None, Some, append-nil, append_assoc, option_to_list, refused, State, Reply, Passed, Done, Told, reply_bytes, Replies, Writes, Command, Refused, ◌+◌, ◌<◌, ◌≤◌, ◌||◌, not, cond, ltb, ⊎_elim, length, take, subst, Appends-nil, length-append, arith, Appends, Appends-trans, take-append-le, length-take, take_all, lt-ltb, cases_lt, is_utf8, without_cr, take-append-add, AppendsFront, csv_line, line_command, text_command, line_front, RunFault, Result, Err, Memory, Write, Place, Stage, TookNext, Broke, TookBlock, BrokeBlock, Served, Stopped, IsTurn, Ok, CanRead, ReadsOn, IsReplied, Unreadable}
use Rattle.wi_cli.proofs.Ties.Replies.{done, refused_as}
use Rattle.wi_cli.proofs.ReadingLemmas.{stops_unwritten}
use Rattle.wi_cli.proofs.TakenLemmas.{plain_block}
use Rattle.wi_cli.proofs.DataLemmas.{no_csv}

pub Writes-append : (fails : Bool) (s m t : State) (cs ds : List Command) (out more : List ℕ) → Writes false s cs out m → Writes fails m ds more t → Writes fails s (cs ++ ds) (out ++ more) t
Writes-append fails s m t [] ds out more h k = subst₂ (λ (u : State) (x : List ℕ). Writes fails u ds x t) h.1 (ap (λ (x : List ℕ). x ++ more) (sym h.0)) k
Writes-append fails s m t (c ∷ cs) ds out more (inl h) k =
    inl (h.0, h.1, h.2 ++ more, h.3, ap (λ (x : List ℕ). x ++ more) h.4 ∙ append_assoc h.1 h.2 more, Writes-append fails h.0 m t cs ds h.2 more h.5 k)
Writes-append fails s m t (c ∷ cs) ds out more (inr h) k = absurd (false≢true h.0)

pub may_fail : (s : State) (cs : List Command) (out : List ℕ) (t : State) → Writes false s cs out t → Writes true s cs out t
may_fail s [] out t h = h
may_fail s (c ∷ cs) out t (inl h) = inl (h.0, h.1, h.2, h.3, h.4, may_fail h.0 cs h.2 t h.5)
may_fail s (c ∷ cs) out t (inr h) = absurd (false≢true h.0)

-- what is told of a line its command writes
pub Writes-told : (o : Option Command) (a : Reply) (s t : State) (out : List ℕ) → Told o a s t out → Writes false s (option_to_list o) (reply_bytes a out) t
Writes-told None Passed s t out h = (refl, h)
Writes-told (Some c) Done s t out h = inl (t, reply_bytes Done out, [], done s c t out h, sym (append-nil (reply_bytes Done out)), (refl, refl))
Writes-told (Some c) (Refused e) s t out h = inl (t, refused e, [], refused_as s c e t h.0 h.1, sym (append-nil (refused e)), (refl, refl))
Writes-told o a s t out h = absurd h

-- ---- a front of the last

none_written : (s : State) (cs : List Command) → Writes true s cs [] s
none_written s [] = (refl, refl)
none_written s (c ∷ cs) = inr (refl, inr (refl, refl))

pub nil_parts : (xs ys : List ℕ) → xs ++ ys ≡ [] → (xs ≡ []) × (ys ≡ [])
nil_parts [] ys e = (refl, e)
nil_parts (x ∷ xs) ys e = (cc, cc)

pub last_written : (s t : State) (last : Option Command) (others : List Command) (front rest : List ℕ) → Writes false s (option_to_list last) (front ++ rest) t → Writes true s (option_to_list last ++ others) front t
last_written s t None others front rest h =
    subst₂ (λ (x : List ℕ) (u : State). Writes true s others x u) (sym (nil_parts front rest h.0).0) (sym h.1) (none_written s others)
last_written s t (Some c) others front rest (inl h) =
    let end : Writes false h.0 [] h.2 t = h.5 in
    let same : front ++ rest ≡ h.1 = h.4 ∙ ap (λ (x : List ℕ). h.1 ++ x) end.0 ∙ append-nil h.1 in
    inr (refl, inl (rest, subst₂ (Replies s c) (sym same) (sym end.1) h.3))
last_written s t (Some c) others front rest (inr h) = absurd (false≢true h.0)

-- ---- a line served, and its reply written

pub AppendsFront-append : (a b c : Option (List ℕ)) (xs ys : List ℕ) → Appends a b xs → AppendsFront b c ys → AppendsFront a c (xs ++ ys)
AppendsFront-append a b c xs ys h k =
    (length xs + k.0, omega (arith, length-append xs ys, k.1), subst (Appends a c) (sym (take-append-add xs ys k.0)) (Appends-trans a b c _ _ h k.2))

pub AppendsFront-of : (a b : Option (List ℕ)) (xs ys : List ℕ) → AppendsFront a b xs → AppendsFront a b (xs ++ ys)
AppendsFront-of a b xs ys k = (k.0, omega (arith, length-append xs ys, k.1), subst (Appends a b) (sym (take-append-le k.0 xs ys k.1)) k.2)

-- a line too long for the limit is known by its front, and any other is its front
same_at_front : {X : Type 0} (limit n : ℕ) (f : List ℕ → X) (long : X) (bad : List ℕ → Bool) (content : List ℕ) → n ≡ limit + 1
    → cond (ltb limit (length (take n content)) || bad (take n content)) long (f (take n content)) ≡ cond (ltb limit (length content) || bad content) long (f content)
same_at_front {X} limit n f long bad content e = ⊎_elim
    (λ (h : limit < length content).
    let cut : limit < length (take n content) = omega (arith, length-take n content) in
    ap (λ b. cond (b || bad (take n content)) long (f (take n content))) (lt-ltb limit (length (take n content)) cut)
    ∙ sym (ap (λ b. cond (b || bad content) long (f content)) (lt-ltb limit (length content) h)))
    (λ (h : length content ≤ limit).
    ap (λ xs. cond (ltb limit (length xs) || bad xs) long (f xs)) (take_all n content (omega arith)))
    (cases_lt limit (length content))

pub line_command-front : (content : List ℕ) → line_command (line_front content) ≡ line_command content
unfolding line_front line_command
line_command-front content = same_at_front 65536 65537 (λ xs. text_command (without_cr xs)) (Some Unreadable) (λ xs. not (is_utf8 (without_cr xs))) content refl

-- a line that asks for no data lines, by what was read of its front
pub asked_block : (whole : Bool) (p q : Place) (line front : List ℕ) (command : Option Command) → p.lines ≤ 1000000 → (k : TookNext whole p q line) → front ≡ line → csv_line front ≡ None
    → line_command front ≡ command → TookBlock command whole p q
asked_block whole p q line front command most k same none is =
    let read : front ≡ line_front k.took.content = same ∙ k.took.kept in
    subst (λ o. TookBlock o whole p q) (sym (line_command-front k.took.content) ∙ ap line_command (sym read) ∙ is) (plain_block whole p q line most k (no_csv front k.took.content read none))

abbrev served : {whole : Bool} (old new : Stage) {command : Option Command} (a : Reply) (out : List ℕ) → TookBlock command whole old.read new.read → Told command a old.state new.state out → Served whole old new
served old new {command} a out k told = record { command = command; block = k; reply = reply_bytes a out; writes = Writes-told command a old.state new.state out told }

-- a line that is passed over
pub passed : {whole : Bool} (old new : Stage) → TookBlock None whole old.read new.read → new.state ≡ old.state → new.written ≡ old.written → IsTurn (Ok whole) old new
passed old new k same kept = (served old new Passed [] k same, subst (λ w. Appends old.written w []) (sym kept) (Appends-nil old.written))

-- no block was taken, and nothing is answered
pub stopped : (e : RunFault) (old new : Stage) → BrokeBlock e old.read new.read → new.state ≡ old.state → new.written ≡ old.written → Stopped e old new
stopped Write old new k same kept = absurd k.broke.cause
stopped e old new k same kept = (k, same, kept)

-- a block was taken and served, and its reply was written, or a front of it
pub answered : (r : Result Bool RunFault) (whole : Bool) (old new : Stage) {command : Option Command} (a : Reply) (out : List ℕ) → TookBlock command whole old.read new.read
    → Told command a old.state new.state out → IsReplied whole a out r old.written new.written → IsTurn r old new
answered (Ok end) whole old new a out k told h = subst (λ x. IsTurn (Ok x) old new) (sym h.0) (served old new a out k told, h.1)
answered (Err Write) whole old new a out k told h = (whole, served old new a out k told, h)
answered (Err e) whole old new a out k told h = absurd h

-- and the reader of lines reads on where it was written
pub answered_reads : {has_failed : Bool} {capacity : ℕ} (r : Result Bool RunFault) (whole : Bool) (a : Reply) (out : List ℕ) (w w' : Option (List ℕ))
    → IsReplied whole a out r w w' → CanRead has_failed capacity → ReadsOn r has_failed capacity
answered_reads (Ok end) whole a out w w' h k = k
answered_reads (Err Write) whole a out w w' h k = stops_unwritten k
answered_reads (Err e) whole a out w w' h k = absurd h

-- no fault of the reader of lines is "out of memory"
pub broke_no_memory : (r : Result Bool RunFault) (e fault : RunFault) (allowed : Bool) (b : List ℕ) (l : Option (List ℕ)) (b' : List ℕ) (l' : Option (List ℕ))
    → r ≡ Err e → e ≡ fault → Broke fault allowed b l b' l' → r ≡ Err Memory → ⊥
broke_no_memory r e fault allowed b l b' l' is same h m =
    let one : fault ≡ Memory = cc in subst (λ (x : RunFault). Broke x allowed b l b' l') one h
