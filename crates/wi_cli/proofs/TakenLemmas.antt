-- Lines that were taken from the source, and the block that they are.
use Rattle.wi_cli.proofs.Vocabulary.{◌≡◌, ℕ, ◌+◌, ◌<◌, ◌≤◌, Bool, true, false, cond, List, [], ◌∷◌, ◌++◌, length, refl, sym, ap, ◌∙◌, subst, Option, None, Some, append_assoc, append-nil, length-append, arith, concat, cons_option, option_to_list, prepend_known, Consumes-nil, concat-append, false≢true, ltb-true, ltb-false, read_address, RunFault, Memory, Read, Write, ScriptLimit, DataLines, raw_lines, without_lf, without_cr, is_whole, csv_line, Block, lines_of, begun, is_complete, blocks, line_command, command_with, block_command, Place, Advances, IsOver, raw, TookNext, BrokeNext, TookLines, BrokeLines, command_of_csv, TookData, BrokeData, TookBlock, BrokeBlock, spelled_cell, Command, Csv, Unreadable, filter, filter_map, ReadCsv}
use Rattle.std.specs.Str.{is_utf8, chars}
use Rattle.wi_cli.proofs.Ties.LinesRead.{alone}
use Rattle.wi_cli.proofs.ReadingLemmas.{Takes-trans}
use Rattle.wi_cli.proofs.LineLemmas.{AreWhole-none, AreWhole-one, AreWhole-append, raw_lines-last, raw_lines-raw, without_lf-raw, few_last, block_of, block_at, block_lacks}

pub Advances-trans : (p q r : Place) (xs ys : List ℕ) → Advances p q xs → Advances q r ys → Advances p r (xs ++ ys)
Advances-trans p q r xs ys h k = Takes-trans p.chunk p.left q.chunk q.left r.chunk r.left xs ys h k

-- ---- lines one after another

abbrev pub none_taken : (whole : Bool) (p : Place) → p.lines ≤ 1000000 → (whole ≡ false → IsOver p) → TookLines whole p p
none_taken whole p most e = record {
  lines = [];
  last = [];
  are_whole = AreWhole-none;
  no_lf = refl;
  none_last = λ _. refl;
  taken = Consumes-nil (prepend_known p.chunk p.left);
  at_end = e;
  counted = omega arith;
  few = let n : length (raw_lines []) ≡ 0 = refl in omega arith;
}

-- one line, or none
abbrev pub one_taken : (whole : Bool) (p q : Place) (line : List ℕ) → p.lines ≤ 1000000 → TookNext whole p q line → TookLines whole p q
one_taken true p q line most k =
    let content = k.took.content in record {
      lines = raw true content ∷ [];
      last = [];
      are_whole = AreWhole-one content k.took.no_lf;
      no_lf = refl;
      none_last = λ _. refl;
      taken = subst (Advances p q) (sym (append-nil (raw true content ++ []) ∙ append-nil (raw true content))) k.took.taken;
      at_end = k.took.at_end;
      counted = k.counted;
      few =
          let n : length (raw_lines []) ≡ 0 = refl in
          let headroom : p.lines < 1000000 = ltb-true p.lines 1000000 (k.took.may (omega (arith, length-append content (10 ∷ [])))) in
          omega (arith, k.counted);
    }
one_taken false p q line most k =
    let content = k.took.content in record {
      lines = [];
      last = content;
      are_whole = AreWhole-none;
      no_lf = k.took.no_lf;
      none_last = λ h. absurd (false≢true h);
      taken = subst (Advances p q) (append-nil content) k.took.taken;
      at_end = k.took.at_end;
      counted = k.counted;
      few =
          let few = few_last content p.lines k.took.no_lf (λ h. ltb-true p.lines 1000000 (k.took.may (omega (arith, length-append content [])))) most in
          omega (arith, k.counted);
    }

pub taken_lines : (whole : Bool) (p q : Place) (line : List ℕ) (most : p.lines ≤ 1000000) (k : TookNext whole p q line)
    → (one_taken whole p q line most k).lines ++ raw_lines (one_taken whole p q line most k).last ≡ raw_lines (raw whole k.took.content)
taken_lines true p q line most k = sym (raw_lines-raw k.took.content k.took.no_lf)
taken_lines false p q line most k = ap raw_lines (sym (append-nil k.took.content))

pub no_last : {X : Type 0} (xs ys : List X) → ys ≡ [] → xs ++ ys ≡ xs
no_last {X} xs ys e = ap (λ z. xs ++ z) e ∙ append-nil xs

-- bytes behind lines that were taken whole
behind : (p q r : Place) (h : TookLines true p q) (ys : List ℕ) → Advances q r ys → Advances p r (concat h.lines ++ ys)
behind p q r h ys t = subst (λ z. Advances p r (z ++ ys)) (no_last (concat h.lines) h.last (h.none_last refl)) (Advances-trans p q r _ _ h.taken t)

pub lines_behind : (p q r : Place) (h : TookLines true p q) (ls : List (List ℕ)) (ys : List ℕ) → Advances q r (concat ls ++ ys) → Advances p r (concat (h.lines ++ ls) ++ ys)
lines_behind p q r h ls ys t =
    subst (Advances p r) (sym (append_assoc (concat h.lines) (concat ls) ys) ∙ ap (λ z. z ++ ys) (sym (concat-append h.lines ls))) (behind p q r h (concat ls ++ ys) t)

abbrev pub TookLines-trans : (whole : Bool) (p q r : Place) → TookLines true p q → TookLines whole q r → TookLines whole p r
TookLines-trans whole p q r h k = record {
  lines = h.lines ++ k.lines;
  last = k.last;
  are_whole = AreWhole-append h.lines k.lines h.are_whole k.are_whole;
  no_lf = k.no_lf;
  none_last = k.none_last;
  taken = lines_behind p q r h k.lines k.last k.taken;
  at_end = k.at_end;
  counted = omega (arith, h.counted, k.counted, length-append h.lines k.lines);
  few = k.few;
}

-- ---- and no more

next_broke : (fault : RunFault) (q r : Place) → BrokeNext fault q r → q.lines ≤ 1000000 → (d : BrokeLines fault q r) × (d.lines ≡ [])
next_broke Memory q r k most = absurd k
next_broke Write q r k most = absurd k
next_broke Read q r k most =
    let few = few_last k.0 q.lines k.1 (λ l. ltb-true q.lines 1000000 (k.4 l)) most in
    (record { lines = []; are_whole = AreWhole-none; cause = (k.0, k.1, k.2, k.3, omega (arith, few)) }, refl)
next_broke ScriptLimit q r k most =
    let full : 1000000 ≤ q.lines = ltb-false q.lines 1000000 k.1 in
    (record { lines = []; are_whole = AreWhole-none; cause = (k.0, k.2, omega (arith, full)) }, refl)

pub BrokeLines-behind : (fault : RunFault) (p q r : Place) → (h : TookLines true p q) → (k : BrokeLines fault q r) → (d : BrokeLines fault p r) × (d.lines ≡ h.lines ++ k.lines)
BrokeLines-behind Memory p q r h k = absurd k.cause
BrokeLines-behind Write p q r h k = absurd k.cause
BrokeLines-behind Read p q r h k = (
  record {
    lines = h.lines ++ k.lines;
    are_whole = AreWhole-append h.lines k.lines h.are_whole k.are_whole;
    cause = (
      k.cause.0,
      k.cause.1,
      k.cause.2,
      lines_behind p q r h k.lines k.cause.0 k.cause.3,
      omega (arith, h.counted, k.cause.4, length-append h.lines k.lines),
    );
  },
  refl,
)
BrokeLines-behind ScriptLimit p q r h k = (
  record {
    lines = h.lines ++ k.lines;
    are_whole = AreWhole-append h.lines k.lines h.are_whole k.are_whole;
    cause = (k.cause.0, lines_behind p q r h k.lines (k.cause.0 ∷ []) k.cause.1, omega (arith, h.counted, k.cause.2, length-append h.lines k.lines));
  },
  refl,
)

pub one_broke : (fault : RunFault) (p q r : Place) → (h : TookLines true p q) → BrokeNext fault q r → q.lines ≤ 1000000 → (d : BrokeLines fault p r) × (d.lines ≡ h.lines)
one_broke fault p q r h k most =
    let next = next_broke fault q r k most in
    let all = BrokeLines-behind fault p q r h next.0 in
    (all.0, all.1 ∙ ap (λ ls. h.lines ++ ls) next.1 ∙ append-nil h.lines)

-- ---- a line that asks for none

nothing_said : line_command [] ≡ None
unfolding line_command is_utf8 chars
nothing_said = refl

none_asked : csv_line [] ≡ None
unfolding csv_line
none_asked = refl

one_command : (b : Block) (o : Option Command) → block_command b ≡ o → filter_map block_command (b ∷ []) ≡ option_to_list o
one_command b o e = ap (λ x. cons_option x []) e ∙ alone o

-- the command of a line that asks for no data lines
plain_command : (line content : List ℕ) (ds : List (List ℕ)) (m : ℕ) → without_lf line ≡ content → csv_line content ≡ None → block_command (block_of line ds m) ≡ line_command content
plain_command line content ds m e none =
    ap (λ x. command_with x (block_of line ds m)) (ap csv_line e ∙ none) ∙ ap line_command e

pub plain_block : (whole : Bool) (p q : Place) (line : List ℕ) → p.lines ≤ 1000000 → (k : TookNext whole p q line) → csv_line k.took.content ≡ None → TookBlock (line_command k.took.content) whole p q
plain_block true p q line most k none =
    let content = k.took.content in
    let same = without_lf-raw true content k.took.no_lf in record {
      took = one_taken true p q line most k;
      taken = block_of (raw true content) [] 0 ∷ [];
      are_blocks = block_at true (raw true content) [] 0 (ap lines_of (ap csv_line same ∙ none)) (λ _. refl);
      is_command = one_command (block_of (raw true content) [] 0) (line_command content) (plain_command (raw true content) content [] 0 same none);
      grows = λ _. omega (arith, k.counted);
    }
plain_block false p q line most k none = record {
  took = one_taken false p q line most k;
  taken = blocks (raw_lines k.took.content);
  are_blocks = refl;
  is_command = go k.took.content k.took.no_lf none;
  grows = λ h. absurd (false≢true h);
} where
  go : (content : List ℕ) → is_whole content ≡ false → csv_line content ≡ None → filter_map block_command (blocks (raw_lines content)) ≡ option_to_list (line_command content)
  go [] h none = ap option_to_list (sym nothing_said)
  go (x ∷ xs) h none =
      let same : without_lf (x ∷ xs) ≡ x ∷ xs = ap without_lf (sym (append-nil (x ∷ xs))) ∙ without_lf-raw false (x ∷ xs) h in
      ap (λ ls. filter_map block_command (blocks ls)) (raw_lines-last x xs h)
      ∙ one_command (begun (x ∷ xs)) (line_command (x ∷ xs)) (plain_command (x ∷ xs) (x ∷ xs) [] _ same none)

-- ---- a line that asks for data lines

-- what was read of it
pub record IsCsvOf (content : List ℕ) (csv : ReadCsv) : Type 0 where
  pub word : List ℕ
  pub asked : csv_line content ≡ Some (record { force = csv.force; address = word; lines = csv.lines })
  pub at : csv.at ≡ read_address word
  pub text : csv.is_text ≡ is_utf8 (without_cr content)

csv_block_command : (line content : List ℕ) (csv : ReadCsv) (is : IsCsvOf content csv) (ds : List (List ℕ)) (m : ℕ) → without_lf line ≡ content
    → block_command (block_of line ds m) ≡ Some (command_of_csv csv (spelled_cell is.word) ds)
csv_block_command line content csv is ds m e =
    ap (λ x. command_with x (block_of line ds m)) (ap csv_line e ∙ is.asked)
    ∙ ap (λ x. Some (cond (is_utf8 (without_cr x)) (Csv csv.force (spelled_cell is.word) csv.lines ds) Unreadable)) e
    ∙ ap (λ x. Some (cond x (Csv csv.force (spelled_cell is.word) csv.lines ds) Unreadable)) (sym is.text)

asked_of : (line content : List ℕ) (csv : ReadCsv) → without_lf line ≡ content → IsCsvOf content csv → lines_of (csv_line (without_lf line)) ≡ csv.lines
asked_of line content csv e h = ap lines_of (ap csv_line e ∙ h.asked)

some_bytes : (content : List ℕ) (csv : ReadCsv) → IsCsvOf content csv → (content ≡ [] → ⊥)
some_bytes content csv h e = let none = sym none_asked ∙ ap csv_line (sym e) ∙ h.asked in cc

abbrev pub data_of : {whole : Bool} {p q : Place} → TookLines whole p q → List (List ℕ)
data_of k = k.lines ++ raw_lines k.last

pub csv_block : (before whole : Bool) (p q r : Place) (line : List ℕ) → p.lines ≤ 1000000 → (k : TookNext before p q line) → (csv : ReadCsv) → (is : IsCsvOf k.took.content csv) → (d : DataLines)
    → (h : TookData csv.lines d before whole q r) → (whole ≡ true → d.missing ≡ 0) → TookBlock (Some (command_of_csv csv (spelled_cell is.word) (data_of h.took))) whole p r
csv_block true whole p q r line most k csv is d h all =
    let content = k.took.content in
    let same = without_lf-raw true content k.took.no_lf in record {
      took = TookLines-trans whole p q r (one_taken true p q line most k) h.took;
      taken = block_of (raw true content) (data_of h.took) d.missing ∷ [];
      are_blocks = block_at whole (raw true content) (data_of h.took) d.missing (asked_of (raw true content) content csv same is ∙ sym h.missing) all;
      is_command = one_command (block_of (raw true content) (data_of h.took) d.missing) (Some (command_of_csv csv (spelled_cell is.word) (data_of h.took))) (csv_block_command (raw true content) content csv is (data_of h.took) d.missing same);
      grows = λ _. omega (arith, k.counted, h.took.counted);
    }
csv_block false whole p q r line most k csv is d h all = go whole (h.none_taken refl).0 h where
  go : (whole : Bool) → whole ≡ false → (h : TookData csv.lines d false whole q r) → TookBlock (Some (command_of_csv csv (spelled_cell is.word) (data_of h.took))) whole p r
  go true f h = absurd (false≢true (sym f))
  go false f h = at_last k.took.content refl where
    none : data_of h.took ≡ []
    none = let e = h.none_taken refl in ap (λ ls. ls ++ raw_lines h.took.last) e.1 ∙ ap raw_lines e.2

    at_last : (content : List ℕ) → content ≡ k.took.content → TookBlock (Some (command_of_csv csv (spelled_cell is.word) (data_of h.took))) false p r
    at_last [] f = absurd (some_bytes k.took.content csv is (sym f))
    at_last (x ∷ xs) f =
        let no_lf : is_whole (x ∷ xs) ≡ false = ap is_whole f ∙ k.took.no_lf in
        let same : without_lf (x ∷ xs) ≡ k.took.content = ap without_lf (sym (append-nil (x ∷ xs))) ∙ without_lf-raw false (x ∷ xs) no_lf ∙ f in
        let one : raw_lines k.took.content ≡ (x ∷ xs) ∷ [] = ap raw_lines (sym f) ∙ raw_lines-last x xs no_lf in
        let asked : lines_of (csv_line (without_lf (x ∷ xs))) ≡ length (data_of h.took) + d.missing = asked_of (x ∷ xs) k.took.content csv same is ∙ sym h.missing in
        let first = one_taken false p q line most k in
        let gone = h.none_taken refl in record {
          took = record {
            lines = [];
            last = k.took.content;
            are_whole = AreWhole-none;
            no_lf = k.took.no_lf;
            none_last = λ t. absurd (false≢true t);
            taken = subst (Advances p r) (ap (λ z. k.took.content ++ z) (ap (λ z. concat z ++ h.took.last) gone.1 ∙ gone.2) ∙ append-nil k.took.content) (Advances-trans p q r _ _ first.taken h.took.taken);
            at_end = h.took.at_end;
            counted = omega (arith, k.counted, h.took.counted, ap length gone.1);
            few = let f = first.few in omega (arith, f, h.took.counted, ap length gone.1);
          };
          taken = block_of (x ∷ xs) [] d.missing ∷ [];
          are_blocks = ap blocks one ∙ block_at false (x ∷ xs) [] d.missing (asked ∙ ap (λ z. length z + d.missing) none) (λ t. absurd (false≢true t));
          is_command = one_command (block_of (x ∷ xs) [] d.missing) (Some (command_of_csv csv (spelled_cell is.word) [])) (csv_block_command (x ∷ xs) k.took.content csv is [] d.missing same) ∙ ap (λ z. option_to_list (Some (command_of_csv csv (spelled_cell is.word) z))) (sym none);
          grows = λ t. absurd (false≢true t);
        }

-- ---- no block

pub first_broke : (fault : RunFault) (p q : Place) → p.lines ≤ 1000000 → BrokeNext fault p q → BrokeBlock fault p q
first_broke fault p q most k =
    let d = next_broke fault p q k most in
    record { broke = d.0; none_complete = ap (λ ls. filter is_complete (blocks ls)) d.1 }

pub data_broke : (before : Bool) (fault : RunFault) (p q r : Place) (line : List ℕ) → p.lines ≤ 1000000 → (k : TookNext before p q line) → (csv : ReadCsv) → IsCsvOf k.took.content csv
    → BrokeData csv.lines before fault q r → BrokeBlock fault p r
data_broke false fault p q r line most k csv is h = absurd (false≢true h.came)
data_broke true fault p q r line most k csv is h =
    let content = k.took.content in
    let same = without_lf-raw true content k.took.no_lf in
    let d = BrokeLines-behind fault p q r (one_taken true p q line most k) h.broke in record {
      broke = d.0;
      none_complete =
          ap (λ ls. filter is_complete (blocks ls)) d.1
          ∙ block_lacks (raw true content) h.broke.lines csv.lines (asked_of (raw true content) content csv same is) h.some_missing;
    }
