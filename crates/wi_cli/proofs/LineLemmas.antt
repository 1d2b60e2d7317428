-- The lines of bytes that are taken a line at a time, and the blocks of lines.
use Rattle.wi_cli.proofs.Vocabulary.{◌≡◌, ℕ, ◌+◌, ◌<◌, ◌≤◌, Bool, true, false, ◌||◌, cond, eqb, List, [], ◌∷◌, ◌++◌, length, refl, sym, ap, ◌∙◌, append_assoc, append-nil, or-true, arith, concat, false≢true, concat-append, raw_lines, onto_first, without_lf, is_whole, raw, AreWhole, ◌-◌, nat_eq, subst, ne_eqb, filter-append, Block, begun, with_data, is_complete, blocks_from, blocks, AreBlocks, AreBlocksOf, filter, ap₂, asked}

-- a byte that is no LF, by the test of a line that begins with it
not_lf : (b : ℕ) (bs : List ℕ) → is_whole (b ∷ bs) ≡ false → (eqb b 10 ≡ false) × (is_whole bs ≡ false)
not_lf b bs h = go (eqb b 10) (is_whole bs) h where
  go : (x y : Bool) → cond x true y ≡ false → (x ≡ false) × (y ≡ false)
  go true y h = absurd (false≢true (sym h))
  go false y h = (refl, h)

pub raw_lines-whole : (content rest : List ℕ) → is_whole content ≡ false → raw_lines (content ++ 10 ∷ rest) ≡ (content ++ 10 ∷ []) ∷ raw_lines rest
raw_lines-whole [] rest h = refl
raw_lines-whole (b ∷ bs) rest h =
    let p = not_lf b bs h in
    ap (λ x. cond x ((10 ∷ []) ∷ raw_lines (bs ++ 10 ∷ rest)) (onto_first b (raw_lines (bs ++ 10 ∷ rest)))) p.0
    ∙ ap (onto_first b) (raw_lines-whole bs rest p.1)

pub raw_lines-last : (b : ℕ) (bs : List ℕ) → is_whole (b ∷ bs) ≡ false → raw_lines (b ∷ bs) ≡ (b ∷ bs) ∷ []
raw_lines-last b [] h = let p = not_lf b [] h in ap (λ x. cond x ((10 ∷ []) ∷ []) ((b ∷ []) ∷ [])) p.0
raw_lines-last b (c ∷ cs) h =
    let p = not_lf b (c ∷ cs) h in
    ap (λ x. cond x ((10 ∷ []) ∷ raw_lines (c ∷ cs)) (onto_first b (raw_lines (c ∷ cs)))) p.0
    ∙ ap (onto_first b) (raw_lines-last c cs p.1)

pub without_lf-raw : (whole : Bool) (content : List ℕ) → is_whole content ≡ false → without_lf (raw whole content) ≡ content
without_lf-raw true [] h = refl
without_lf-raw false [] h = refl
without_lf-raw whole (b ∷ bs) h =
    let p = not_lf b bs h in
    ap (λ x. cond x [] (b ∷ without_lf (raw whole bs))) p.0 ∙ ap (λ x. b ∷ x) (without_lf-raw whole bs p.1)

pub is_whole-append : (xs ys : List ℕ) → is_whole (xs ++ ys) ≡ (is_whole xs || is_whole ys)
is_whole-append [] ys = refl
is_whole-append (x ∷ xs) ys = elim (eqb x 10) as (λ b. cond b true (is_whole (xs ++ ys)) ≡ (cond b true (is_whole xs) || is_whole ys)) [ true ↦ refl | false ↦ is_whole-append xs ys ]

whole_raw : (content : List ℕ) → is_whole (raw true content) ≡ true
whole_raw content = is_whole-append content (10 ∷ []) ∙ or-true (is_whole content)

-- ---- lines that end with their LF

pub AreWhole-none : AreWhole []
AreWhole-none = record { first = λ rest. refl; whole = refl }

pub AreWhole-one : (content : List ℕ) → is_whole content ≡ false → AreWhole (raw true content ∷ [])
AreWhole-one content h = record {
  first = λ rest.
      ap (λ x. raw_lines (x ++ rest)) (append-nil (raw true content)) ∙ ap raw_lines (append_assoc content (10 ∷ []) rest)
      ∙ raw_lines-whole content rest h;
  whole = ap (λ b. cond b (raw true content ∷ []) []) (whole_raw content);
}

pub AreWhole-append : (ls ms : List (List ℕ)) → AreWhole ls → AreWhole ms → AreWhole (ls ++ ms)
AreWhole-append ls ms h k = record {
  first = λ rest.
      ap (λ x. raw_lines (x ++ rest)) (concat-append ls ms) ∙ ap raw_lines (append_assoc (concat ls) (concat ms) rest)
      ∙ h.first (concat ms ++ rest) ∙ ap (λ x. ls ++ x) (k.first rest) ∙ sym (append_assoc ls ms (raw_lines rest));
  whole = filter-append is_whole ls ms ∙ ap₂ ◌++◌ h.whole k.whole;
}

pub concat_push : (ls : List (List ℕ)) (l : List ℕ) → concat (ls ++ l ∷ []) ≡ concat ls ++ l
concat_push ls l = concat-append ls (l ∷ []) ∙ ap (λ x. concat ls ++ x) (append-nil l)

-- the lines of one line's bytes
pub raw_lines-raw : (content : List ℕ) → is_whole content ≡ false → raw_lines (raw true content) ≡ raw true content ∷ []
raw_lines-raw content h = raw_lines-whole content [] h

pub last_whole : (content : List ℕ) → is_whole content ≡ false → filter is_whole (raw_lines content) ≡ []
last_whole [] h = refl
last_whole (b ∷ bs) h = ap (filter is_whole) (raw_lines-last b bs h) ∙ ap (λ z. cond z ((b ∷ bs) ∷ []) []) h

pub few_last : (content : List ℕ) (n : ℕ) → is_whole content ≡ false → (0 < length content → n < 1000000) → n ≤ 1000000 → n + length (raw_lines content) ≤ 1000000
few_last [] n h k l = let e : length (raw_lines []) ≡ 0 = refl in omega arith
few_last (b ∷ bs) n h k l = let e : length (raw_lines (b ∷ bs)) ≡ 1 = ap length (raw_lines-last b bs h) in let m : n < 1000000 = k (omega arith) in omega arith

pub some_line : (b : ℕ) (bs : List ℕ) → 0 < length (raw_lines (b ∷ bs))
some_line b bs = go (eqb b 10) (raw_lines bs) where
  go : (x : Bool) (ls : List (List ℕ)) → 0 < length (cond x ((10 ∷ []) ∷ ls) (onto_first b ls))
  go true ls = omega arith
  go false [] = omega arith
  go false (l ∷ ls) = omega arith

-- ---- the blocks of lines

abbrev pub block_of : List ℕ → List (List ℕ) → ℕ → Block
block_of line data_lines missing = record { line = line; data_lines = data_lines; missing = missing }

-- data lines that a block was waiting for
filled : (line : List ℕ) (xs ds more : List (List ℕ)) (m n : ℕ) → n ≡ length ds + m → blocks_from (block_of line xs n) (ds ++ more) ≡ blocks_from (block_of line (xs ++ ds) m) more
filled line xs [] more m n e =
    let same : n ≡ m = omega arith in
    ap (λ k. blocks_from (block_of line xs k) more) same ∙ ap (λ ys. blocks_from (block_of line ys m) more) (sym (append-nil xs))
filled line xs (d ∷ ds) more m n e =
    let some : nat_eq n 0 ≡ false = ne_eqb n 0 (λ z. absurd (omega arith)) in
    ap (λ b. cond b (block_of line xs n ∷ blocks_from (begun d) (ds ++ more)) (blocks_from (block_of line (xs ++ d ∷ []) (n - 1)) (ds ++ more))) some
    ∙ filled line (xs ++ d ∷ []) ds more m (n - 1) (omega arith)
    ∙ ap (λ ys. blocks_from (block_of line ys m) more) (append_assoc xs (d ∷ []) ds)

-- a complete block, and what follows it
ended : (b : Block) (more : List (List ℕ)) → b.missing ≡ 0 → blocks_from b more ≡ b ∷ blocks more
ended b [] e = refl
ended b (l ∷ ls) e = ap (λ n. cond (nat_eq n 0) (b ∷ blocks_from (begun l) ls) (blocks_from (with_data b l) ls)) e

-- a line with its data lines
pub one_block : (line : List ℕ) (ds : List (List ℕ)) (m : ℕ) → asked line ≡ length ds + m → blocks (line ∷ ds) ≡ block_of line ds m ∷ []
one_block line ds m e = ap (blocks_from (begun line)) (sym (append-nil ds)) ∙ filled line [] ds [] m _ e

pub whole_block : (line : List ℕ) (ds : List (List ℕ)) → asked line ≡ length ds + 0 → AreBlocks (line ∷ ds) (block_of line ds 0 ∷ [])
whole_block line ds e = record {
  first = λ more. filled line [] ds more 0 _ e ∙ ended (block_of line ds 0) more refl;
  complete = refl;
}

pub block_at : (whole : Bool) (line : List ℕ) (ds : List (List ℕ)) (m : ℕ) → asked line ≡ length ds + m → (whole ≡ true → m ≡ 0)
    → AreBlocksOf whole (line ∷ ds) (block_of line ds m ∷ [])
block_at true line ds m e h =
    let none : m ≡ 0 = h refl in
    subst (λ n. AreBlocks (line ∷ ds) (block_of line ds n ∷ [])) (sym none) (whole_block line ds (omega arith))
block_at false line ds m e h = one_block line ds m e

pub block_lacks : (line : List ℕ) (ds : List (List ℕ)) (n : ℕ) → asked line ≡ n → length ds < n → filter is_complete (blocks (line ∷ ds)) ≡ []
block_lacks line ds n e l =
    let m : ℕ = n - length ds in
    let some : nat_eq (n - length ds) 0 ≡ false = ne_eqb (n - length ds) 0 (λ z. absurd (omega arith)) in
    ap (filter is_complete) (one_block line ds m (e ∙ omega arith)) ∙ ap (λ b. cond b (block_of line ds m ∷ []) []) some

-- ---- one after another

pub AreBlocks-none : AreBlocks [] []
AreBlocks-none = record { first = λ more. refl; complete = refl }

pub AreBlocks-append : (ls ms : List (List ℕ)) (bs cs : List Block) → AreBlocks ls bs → AreBlocks ms cs → AreBlocks (ls ++ ms) (bs ++ cs)
AreBlocks-append ls ms bs cs h k = record {
  first = λ more.
      ap blocks (append_assoc ls ms more) ∙ h.first (ms ++ more) ∙ ap (λ x. bs ++ x) (k.first more) ∙ sym (append_assoc bs cs (blocks more));
  complete = filter-append is_complete bs cs ∙ ap (λ x. x ++ filter is_complete cs) h.complete ∙ ap (λ x. bs ++ x) k.complete;
}
