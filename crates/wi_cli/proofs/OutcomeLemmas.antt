-- A run of a script so far, and how it may end.
use Rattle.wi_cli.proofs.Vocabulary.{◌≡◌, ℕ, ◌+◌, ◌-◌, ◌<◌, ◌≤◌, Bool, true, false, List, [], ◌∷◌, ◌++◌, length, take, drop, refl, sym, ap, ◌∙◌, subst, Option, None, Some, Result, Ok, Err, IfErr, OnOk, append_assoc, append-nil, length-append, inl, inr, arith, concat, option_to_list, Appends, Keeps, Consumes, IsAtEnd, prepend_known, Appends-trans, Appends-nil, Appends-kept, take_at, take-append-drop, filter_map-append, filter-append, take-append-add, RunFault, Memory, Read, Write, ScriptLimit, State, Place, Stage, Takes, Advances, AppendsFront, raw_lines, Block, blocks, is_complete, block_command, AreWhole, AreBlocks, TookBlock, BrokeBlock, Served, Stopped, IsTurn, IsRun, Command, Writes, is_whole, Outcome, filter, filter_map, false≢true, TookLines, commands_of, AreCommands}
use Rattle.wi_cli.proofs.Ties.LinesRead.{are_commands}
use Rattle.wi_cli.proofs.TakenLemmas.{BrokeLines-behind, TookLines-trans, no_last, none_taken}
use Rattle.wi_cli.proofs.TurnLemmas.{Writes-append, may_fail, last_written, nil_parts}
use Rattle.wi_cli.proofs.LineLemmas.{last_whole, some_line, AreBlocks-none, AreBlocks-append}

-- where a run begins
abbrev pub start : Option (List ℕ) → Place
start left = record { chunk = []; left = left; lines = 0 }

-- the complete blocks so far, and the replies to them
pub record IsGoing (left : Option (List ℕ)) (s : State) (given : Option (List ℕ)) (now : Stage) : Type 0 where
  pub took : TookLines true (start left) now.read
  pub done : List Block
  pub out : List ℕ
  pub are_blocks : AreBlocks took.lines done
  pub written : Appends given now.written out
  pub writes : Writes false s (filter_map block_command done) out now.state

pub going_none : (left : Option (List ℕ)) (s : State) (given : Option (List ℕ)) → IsGoing left s given (record { read = start left; state = s; written = given })
going_none left s given = record {
  took = none_taken true (start left) (omega arith) (λ e. absurd (false≢true (sym e)));
  done = [];
  out = [];
  are_blocks = AreBlocks-none;
  written = Appends-nil given;
  writes = (refl, refl);
}

-- the commands of blocks, and of one more
with_command : (done taken : List Block) (command : Option Command) → filter_map block_command taken ≡ option_to_list command
    → filter_map block_command (done ++ taken) ≡ filter_map block_command done ++ option_to_list command
with_command done taken command e = filter_map-append block_command done taken ∙ ap (λ x. filter_map block_command done ++ x) e

-- ---- from what was taken out of the buffer to what was taken from the source

consumed : (left : Option (List ℕ)) (c : List ℕ) (q : Option (List ℕ)) (bs : List ℕ) → Takes [] left c q bs → Consumes left q (bs ++ c)
consumed None c q bs h = tt
consumed (Some p) c None bs h = absurd h
consumed (Some p) c (Some r) bs h = h ∙ sym (append_assoc bs c r)

consumed_all : (left : Option (List ℕ)) (c : List ℕ) (q : Option (List ℕ)) (bs : List ℕ) → Takes [] left c q bs → IsAtEnd (prepend_known c q) → Consumes left q bs
consumed_all None c q bs h e = tt
consumed_all (Some p) c None bs h e = absurd h
consumed_all (Some p) c (Some r) bs h e = h ∙ ap (λ z. bs ++ z) (e ∙ sym (nil_parts c r e).1)

at_end_of : (c : List ℕ) (q : Option (List ℕ)) → IsAtEnd (prepend_known c q) → IsAtEnd q
at_end_of c None e = tt
at_end_of c (Some r) e = (nil_parts c r e).1

-- ---- lines that are whole, and lines within the limit

whole_front : (ls more : List (List ℕ)) → AreWhole ls → filter is_whole (ls ++ more) ≡ ls ++ filter is_whole more
whole_front ls more h = filter-append is_whole ls more ∙ ap (λ z. z ++ filter is_whole more) h.whole

firsts : (n : ℕ) (all ls more : List (List ℕ)) → all ≡ ls ++ more → length ls ≡ n → take n all ≡ ls
firsts n all ls more e h = ap (take n) e ∙ take_at ls more n h

-- the complete commands of what was taken begin with those served
cut_said : (n : ℕ) (ls : List (List ℕ)) (bs : List Block) (c : List ℕ) (k : ℕ) → AreWhole ls → AreBlocks ls bs → length ls + k ≡ n
    → commands_of false (filter is_whole (take n (raw_lines (concat ls ++ c)))) ≡ filter_map block_command bs ++ commands_of false (filter is_whole (take k (raw_lines c)))
cut_said n ls bs c k are_whole are_blocks headroom =
    let more = filter is_whole (take k (raw_lines c)) in
    ap (commands_of false)
    (ap (λ z. filter is_whole (take n z)) (are_whole.first c) ∙ ap (λ m. filter is_whole (take m (ls ++ raw_lines c))) (sym headroom)
    ∙ ap (filter is_whole) (take-append-add ls (raw_lines c) k) ∙ whole_front ls (take k (raw_lines c)) are_whole)
    ∙ ap (λ z. filter_map block_command (filter is_complete z)) (are_blocks.first more)
    ∙ ap (filter_map block_command) (filter-append is_complete bs (blocks more) ∙ ap (λ z. z ++ filter is_complete (blocks more)) are_blocks.complete)
    ∙ filter_map-append block_command bs (filter is_complete (blocks more))

-- ---- the ends of a run

-- the whole input was taken, and has these commands
record IsDone (left q : Option (List ℕ)) (cs : List Command) : Type 0 where
  input : List ℕ
  taken : Consumes left q input
  at_end : IsAtEnd q
  few : length (raw_lines input) ≤ 1000000
  has : AreCommands true (raw_lines input) cs

abbrev pub Ends : Result (Unit {0}) RunFault → Option (List ℕ) → Option (List ℕ) → State → State → Option (List ℕ) → Option (List ℕ) → Type 0
Ends r left q s t given given' = (input : List ℕ) × (out : List ℕ) × Consumes left q input × Appends given given' out × Outcome q s t input out r

module _ (left : Option (List ℕ)) (s : State) (given : Option (List ℕ)) (now next : Stage) (h : IsGoing left s given now) where
  -- the commands so far, and one more
  abbrev said : Option Command → List Command
  said command = filter_map block_command h.done ++ option_to_list command

  all_blocks : {command : Option Command} (block : TookBlock command true now.read next.read) → AreBlocks (h.took.lines ++ block.took.lines) (h.done ++ block.taken)
  all_blocks block =
      let none = ap raw_lines (block.took.none_last refl) in
      AreBlocks-append h.took.lines block.took.lines h.done block.taken h.are_blocks (subst (λ z. AreBlocks z block.taken) (no_last block.took.lines (raw_lines block.took.last) none) block.are_blocks)

  answered : (whole : Bool) (k : Served whole now next) → Writes false s (said k.command) (h.out ++ k.reply) next.state
  answered whole k = Writes-append false s now.state next.state (filter_map block_command h.done) (option_to_list k.command) h.out k.reply h.writes k.writes

  pub going_on : IsTurn (Ok true) now next → IsGoing left s given next
  going_on k =
      let block = k.0.block in record {
        took = TookLines-trans true (start left) now.read next.read h.took block.took;
        done = h.done ++ block.taken;
        out = h.out ++ k.0.reply;
        are_blocks = all_blocks block;
        written = Appends-trans given now.written next.written _ _ h.written k.1;
        writes = subst (λ z. Writes false s z (h.out ++ k.0.reply) next.state) (sym (with_command h.done block.taken k.0.command block.is_command)) (answered true k.0);
      }

  over : (command : Option Command) → TookBlock command false now.read next.read → IsDone left next.read.left (said command)
  over command block =
      let all = TookLines-trans false (start left) now.read next.read h.took block.took in
      let input = concat all.lines ++ all.last in
      let lines : raw_lines input ≡ all.lines ++ raw_lines all.last = all.are_whole.first all.last in
      let is_over = block.took.at_end refl in record {
        input = input;
        taken = consumed_all left next.read.chunk next.read.left input all.taken is_over;
        at_end = at_end_of next.read.chunk next.read.left is_over;
        few = let few = all.few in omega (arith, ap length lines, length-append all.lines (raw_lines all.last), all.counted, few);
        has = are_commands true (raw_lines input) (said command)
            (ap (λ z. filter_map block_command (blocks z)) (lines ∙ append_assoc h.took.lines block.took.lines (raw_lines block.took.last))
            ∙ ap (filter_map block_command) (h.are_blocks.first (block.took.lines ++ raw_lines block.took.last) ∙ ap (λ z. h.done ++ z) block.are_blocks)
            ∙ with_command h.done block.taken command block.is_command);
      }

  -- the flush at the end succeeded or failed
  pub ends_sent : (r : Result (Unit {0}) RunFault) (z : Option (List ℕ)) → IsTurn (Ok false) now next → Keeps next.written z → IfErr r (λ fault. fault ≡ Write)
      → Ends r left next.read.left s next.state given z
  ends_sent r z k e f = by r f
    where
      o : IsDone left next.read.left (said k.0.command)
      o = over k.0.command k.0.block

      written : Appends given z (h.out ++ k.0.reply)
      written = Appends-kept given next.written z (h.out ++ k.0.reply) (Appends-trans given now.written next.written _ _ h.written k.1) e

      failed : Ends (Err Write) left next.read.left s next.state given z
      failed = (o.input, h.out ++ k.0.reply, o.taken, written, inr (o.at_end, o.few, (said k.0.command, o.has, may_fail s (said k.0.command) (h.out ++ k.0.reply) next.state (answered false k.0))))

      by : (r : Result (Unit {0}) RunFault) → IfErr r (λ fault. fault ≡ Write) → Ends r left next.read.left s next.state given z
      by (Ok u) f = (o.input, h.out ++ k.0.reply, o.taken, written, (o.few, (said k.0.command, o.has, answered false k.0)))
      by (Err fault) f = subst (λ (x : RunFault). Ends (Err x) left next.read.left s next.state given z) (sym f) failed

  -- where nothing is answered, and no block behind is complete
  so_far : next.state ≡ now.state → Writes false s (filter_map block_command h.done) h.out next.state
  so_far same = subst (λ z. Writes false s (filter_map block_command h.done) h.out z) (sym same) h.writes

  none_behind : (ls : List (List ℕ)) → filter is_complete (blocks ls) ≡ [] → commands_of false (h.took.lines ++ ls) ≡ filter_map block_command h.done
  none_behind ls e =
      ap (filter_map block_command)
      (ap (filter is_complete) (h.are_blocks.first ls) ∙ filter-append is_complete h.done (blocks ls)
      ∙ ap (λ z. z ++ filter is_complete (blocks ls)) h.are_blocks.complete ∙ ap (λ z. h.done ++ z) e ∙ append-nil h.done)

  ends_read : BrokeBlock Read now.read next.read → next.state ≡ now.state → next.written ≡ now.written → Ends (Err Read) left next.read.left s next.state given next.written
  ends_read k same kept =
      let all = BrokeLines-behind Read (start left) now.read next.read h.took k.broke in
      let ls = all.0.lines in
      let last = all.0.cause.0 in
      let input = concat ls ++ last in
      let lines : raw_lines input ≡ ls ++ raw_lines last = all.0.are_whole.first last in
      let whole : filter is_whole (raw_lines input) ≡ ls =
      ap (filter is_whole) lines ∙ whole_front ls (raw_lines last) all.0.are_whole ∙ ap (λ z. ls ++ z) (last_whole last all.0.cause.1) ∙ append-nil ls in (
        input,
        h.out,
        subst (λ z. Consumes left next.read.left z) (ap (λ z. input ++ z) all.0.cause.2 ∙ append-nil input) (consumed left next.read.chunk next.read.left input all.0.cause.3),
        subst (λ z. Appends given z h.out) (sym kept) h.written,
        (
          omega (arith, ap length lines, length-append ls (raw_lines last), all.0.cause.4),
          (
            filter_map block_command h.done,
            are_commands false (filter is_whole (raw_lines input)) _ (ap (commands_of false) (whole ∙ all.1) ∙ none_behind k.broke.lines k.none_complete),
            so_far same,
          ),
        ),
      )

  ends_limit : BrokeBlock ScriptLimit now.read next.read → next.state ≡ now.state → next.written ≡ now.written → Ends (Err ScriptLimit) left next.read.left s next.state given next.written
  ends_limit k same kept =
      let all = BrokeLines-behind ScriptLimit (start left) now.read next.read h.took k.broke in
      let ls = all.0.lines in
      let byte = all.0.cause.0 in
      let c = next.read.chunk in
      let input = (concat ls ++ byte ∷ []) ++ c in
      let lines : raw_lines input ≡ ls ++ raw_lines (byte ∷ c) = ap raw_lines (append_assoc (concat ls) (byte ∷ []) c) ∙ all.0.are_whole.first (byte ∷ c) in
      let full : length ls ≡ 1000000 = omega (arith, all.0.cause.2) in
      let many : 1000000 < length (raw_lines input) = omega (arith, ap length lines, length-append ls (raw_lines (byte ∷ c)), full, some_line byte c) in (
        input,
        h.out,
        consumed left c next.read.left _ all.0.cause.1,
        subst (λ z. Appends given z h.out) (sym kept) h.written,
        (
          many,
          (
            filter_map block_command h.done,
            are_commands false (take 1000000 (raw_lines input)) _
                (ap (commands_of false) (firsts 1000000 (raw_lines input) ls (raw_lines (byte ∷ c)) lines full ∙ all.1) ∙ none_behind k.broke.lines k.none_complete),
            so_far same,
          ),
        ),
      )

  module _ (whole : Bool) (k : Served whole now next) (w : AppendsFront now.written next.written k.reply) where
    -- the replies, with the front of the last one that was written
    abbrev out : List ℕ
    out = h.out ++ take w.0 k.reply

    front : (others : List Command) → Writes true s (said k.command ++ others) out next.state
    front others =
        let all = subst (λ x. Writes false now.state (option_to_list k.command) x next.state) (sym (take-append-drop w.0 k.reply)) k.writes in
        subst (λ (ds : List Command). Writes true s ds out next.state) (sym (append_assoc (filter_map block_command h.done) (option_to_list k.command) others))
        (Writes-append true s now.state next.state (filter_map block_command h.done) (option_to_list k.command ++ others) h.out (take w.0 k.reply) h.writes
        (last_written now.state next.state k.command others (take w.0 k.reply) (drop w.0 k.reply) all))

    ends_write : (whole : Bool) → TookBlock k.command whole now.read next.read → Ends (Err Write) left next.read.left s next.state given next.written
    ends_write true block =
        let c = next.read.chunk in
        let all = TookLines-trans true (start left) now.read next.read h.took block.took in
        let input = concat all.lines ++ c in
        let more = commands_of false (filter is_whole (take (1000000 - next.read.lines) (raw_lines c))) in
        let headroom : length all.lines + (1000000 - next.read.lines) ≡ 1000000 = let few = all.few in omega (arith, few, all.counted) in (
          input,
          out,
          consumed left c next.read.left _ (subst (Advances (start left) next.read) (no_last (concat all.lines) all.last (all.none_last refl)) all.taken),
          Appends-trans given now.written next.written _ _ h.written w.2,
          inl (
            said k.command ++ more,
            are_commands false (filter is_whole (take 1000000 (raw_lines input))) _
                (cut_said 1000000 all.lines (h.done ++ block.taken) c (1000000 - next.read.lines) all.are_whole (all_blocks block) headroom
                ∙ ap (λ z. z ++ more) (with_command h.done block.taken k.command block.is_command)),
            front more,
          ),
        )
    ends_write false block =
        let o = over k.command block in
        let nil = append-nil (said k.command) in (
          o.input,
          out,
          o.taken,
          Appends-trans given now.written next.written _ _ h.written w.2,
          inr (o.at_end, o.few, (said k.command, o.has, subst (λ (ds : List Command). Writes true s ds out next.state) nil (front []))),
        )

  pub ends_stopped : (e : RunFault) → Stopped e now next → Ends (Err e) left next.read.left s next.state given next.written
  ends_stopped Memory k = absurd k.0.broke.cause
  ends_stopped Read k = ends_read k.0 k.1 k.2
  ends_stopped Write k = ends_write k.0 k.1 k.2 k.0 k.1.block
  ends_stopped ScriptLimit k = ends_limit k.0 k.1 k.2

pub still_few : (whole : Bool) (old new : Stage) → IsTurn (Ok whole) old new → new.read.lines ≤ 1000000
still_few whole old new k = let few = k.0.block.took.few in omega arith

pub all_read : (r : Result (Unit {0}) RunFault) (old new : Stage) → IsTurn (Ok false) old new → OnOk r (IsAtEnd new.read.left)
all_read (Ok u) old new k = at_end_of new.read.chunk new.read.left (k.0.block.took.at_end refl)
all_read (Err e) old new k = tt

-- a run as the contract of `run` tells it
pub run_is : {R W : Type 0} (remaining : R → Option (List ℕ)) (read_failed : R → Bool) (contents : W → Option (List ℕ)) (write_failed flushed : W → Bool) (r : Result (Unit {0}) RunFault)
    (source source' : R) (sink sink' : W) (s t : State) → Ends r (remaining source) (remaining source') s t (contents sink) (contents sink')
    → OnOk r (IsAtEnd (remaining source')) → OnOk r (read_failed source' ≡ false) → OnOk r (write_failed sink' ≡ false) → OnOk r (flushed sink' ≡ true)
    → (r ≡ Err Read → read_failed source' ≡ true) → (r ≡ Err Write → write_failed sink' ≡ true) → (r ≡ Err Memory → source' ≡ source) → (r ≡ Err Memory → sink' ≡ sink)
    → IsRun remaining read_failed contents write_failed flushed r source source' sink sink' s t
run_is remaining read_failed contents write_failed flushed r source source' sink sink' s t h all_read reads writes all_sent read_fault write_fault unread unwritten = record {
  input = h.0;
  out = h.1;
  taken = h.2;
  written = h.3;
  outcome = h.4;
  all_read = all_read;
  reads = reads;
  writes = writes;
  all_sent = all_sent;
  read_fault = read_fault;
  write_fault = write_fault;
  unread = unread;
  unwritten = unwritten;
}
