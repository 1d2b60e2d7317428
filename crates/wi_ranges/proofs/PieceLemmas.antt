-- Laws of pieces.
use Rattle.wi_ranges.proofs.Words.{◌≡◌, Bool, true, false, ◌&&◌, ◌||◌, cond, List, [], ◌∷◌, ◌++◌, refl, sym, ap, ◌∙◌, ◌⊎◌, ⊎_elim, ◌+◌, ℕ, arith, ordering_then, is_eq, Ordering, Less, Equal, Greater, sum_by, remove_key, is_at, insert_key, and-or_distrib_left, or_left, or_right, or_cases, or_parts, and_right, true≢false, cond-true, cond-false, list_any-append, sum_by-append, Block, Numbered, blocks_in, first_row, last_row, lies_within, block_cmp, numbered_cmp, Gains, HasPieces, LacksPieces, is_one, Piece, piece_cmp, has_piece, is_piece}
use Rattle.wi_ranges.proofs.BlockLemmas.{blocks_within-here}
use Rattle.wi_ranges.proofs.Exact.{piece_self}
use Rattle.wi_ranges.proofs.Sums.{sum_insert, sum_remove}

equal_both : (o p : Ordering) → is_eq (ordering_then o p) ≡ (is_eq p && (is_eq o || false))
equal_both Less Less = refl
equal_both Less Equal = refl
equal_both Less Greater = refl
equal_both Equal Less = refl
equal_both Equal Equal = refl
equal_both Equal Greater = refl
equal_both Greater Less = refl
equal_both Greater Equal = refl
equal_both Greater Greater = refl

-- a key is the one piece at its block
pub key_is_piece : (x : Block) (p : Numbered) (q : Piece) → is_at (piece_cmp (x, p)) q ≡ is_piece (x ∷ []) p q
key_is_piece x p q = equal_both (block_cmp x q.0) (numbered_cmp p q.1)

pub is_piece-append : (xs ys : List Block) (p : Numbered) (q : Piece) → is_piece (xs ++ ys) p q ≡ (is_piece xs p q || is_piece ys p q)
is_piece-append xs ys p q = ap (λ b. is_one p q.1 && b) (list_any-append (λ y. is_at (block_cmp y) q.0) xs ys) ∙ and-or_distrib_left (is_one p q.1) _ _

-- ---- what a piece of two lists is

pub piece_of_either : (xs ys zs : List Block) (p : Numbered) (q : Piece) → zs ≡ xs ++ ys → is_piece zs p q ≡ true → (is_piece xs p q ≡ true) ⊎ (is_piece ys p q ≡ true)
piece_of_either xs ys zs p q e h = or_cases _ _ (sym (is_piece-append xs ys p q) ∙ ap (λ (us : List Block). is_piece us p q) (sym e) ∙ h)

pub piece_of_neither : (xs ys zs : List Block) (p : Numbered) (q : Piece) → zs ≡ xs ++ ys → is_piece zs p q ≡ false → (is_piece xs p q ≡ false) × (is_piece ys p q ≡ false)
piece_of_neither xs ys zs p q e h = or_parts _ _ (sym (is_piece-append xs ys p q) ∙ ap (λ (us : List Block). is_piece us p q) (sym e) ∙ h)

piece_of_first : (xs ys zs : List Block) (p : Numbered) (q : Piece) → zs ≡ xs ++ ys → is_piece xs p q ≡ true → is_piece zs p q ≡ true
piece_of_first xs ys zs p q e h = ap (λ (us : List Block). is_piece us p q) e ∙ is_piece-append xs ys p q ∙ or_left (is_piece xs p q) (is_piece ys p q) h

piece_of_second : (xs ys zs : List Block) (p : Numbered) (q : Piece) → zs ≡ xs ++ ys → is_piece ys p q ≡ true → is_piece zs p q ≡ true
piece_of_second xs ys zs p q e h = ap (λ (us : List Block). is_piece us p q) e ∙ is_piece-append xs ys p q ∙ or_right (is_piece xs p q) (is_piece ys p q) h

-- a piece of no block is none
pub piece_of_none : (zs : List Block) (p : Numbered) (q : Piece) → zs ≡ [] → is_piece zs p q ≡ true → ⊥
piece_of_none zs p q e h = true≢false (sym h ∙ ap (λ (us : List Block). is_piece us p q) e ∙ and_right (is_one p q.1) false refl)

-- of one block it is the key
pub piece_of_one : (x : Block) (zs : List Block) (p : Numbered) (q : Piece) (b : Bool) → zs ≡ x ∷ [] → is_piece zs p q ≡ b → is_at (piece_cmp (x, p)) q ≡ b
piece_of_one x zs p q b e h = key_is_piece x p q ∙ ap (λ (us : List Block). is_piece us p q) (sym e) ∙ h

-- ---- one piece put in, or taken out

-- of the pieces of a block that lies within the rows, which is that block's own
here : (m : Numbered) (x : Block) → lies_within (first_row m.pair) (last_row m.pair) x ≡ true → blocks_in m.pair x ≡ x ∷ []
here m x h = blocks_within-here (first_row m.pair) (last_row m.pair) x.level x.first h

-- the piece of m at x is told by w, and any other as before
abbrev pub Updates : Block → Numbered → List Piece → List Piece → Bool → Type 0
Updates x m old new w = (q : Piece) → has_piece new q ≡ cond (is_at (piece_cmp (x, m)) q) w (has_piece old q)

-- whether the pieces of m within x are there
abbrev pub AreTold : Numbered → Block → List Piece → Bool → Type 0
AreTold m x ks w = (q : Piece) → is_piece (blocks_in m.pair x) m q ≡ true → has_piece ks q ≡ w

-- only pieces of m within x may differ
abbrev pub KeepsOthers : Numbered → Block → List Piece → List Piece → Type 0
KeepsOthers m x old new = (q : Piece) → is_piece (blocks_in m.pair x) m q ≡ false → has_piece new q ≡ has_piece old q

pub told_here : (m : Numbered) (x : Block) (old new : List Piece) (w : Bool) → lies_within (first_row m.pair) (last_row m.pair) x ≡ true → Updates x m old new w → AreTold m x new w
told_here m x old new w h u q t = u q ∙ cond-true _ _ _ (piece_of_one x (blocks_in m.pair x) m q true (here m x h) t)

pub kept_here : (m : Numbered) (x : Block) (old new : List Piece) (w : Bool) → lies_within (first_row m.pair) (last_row m.pair) x ≡ true → Updates x m old new w → KeepsOthers m x old new
kept_here m x old new w h u q t = u q ∙ cond-false _ _ _ (piece_of_one x (blocks_in m.pair x) m q false (here m x h) t)

-- what was told so before is told so after
pub stays_told : (m : Numbered) (x : Block) (old new : List Piece) (w : Bool) → Updates x m old new w → (q : Piece) → has_piece old q ≡ w → has_piece new q ≡ w
stays_told m x old new w u q h = u q ∙ ap (λ b. cond (is_at (piece_cmp (x, m)) q) w b) h ∙ both (is_at (piece_cmp (x, m)) q)
  where
    both : (b : Bool) → cond b w w ≡ w
    both true = refl
    both false = refl

-- ---- both halves

-- the blocks of x are those of its halves
abbrev pub AreHalves : Numbered → Block → Block → Block → Type 0
AreHalves m x u l = blocks_in m.pair x ≡ blocks_in m.pair u ++ blocks_in m.pair l

pub told_both : (m : Numbered) (x u l : Block) (mid new : List Piece) (w : Bool) → AreHalves m x u l → AreTold m u mid w → AreTold m l new w
    → ((q : Piece) → has_piece mid q ≡ w → has_piece new q ≡ w) → AreTold m x new w
told_both m x u l mid new w e f g s q h =
    ⊎_elim (λ t. s q (f q t)) (λ t. g q t) (piece_of_either (blocks_in m.pair u) (blocks_in m.pair l) (blocks_in m.pair x) m q e h)

pub kept_both : (m : Numbered) (x u l : Block) (old mid new : List Piece) → AreHalves m x u l → KeepsOthers m u old mid → KeepsOthers m l mid new → KeepsOthers m x old new
kept_both m x u l old mid new e f g q h =
    let n = piece_of_neither (blocks_in m.pair u) (blocks_in m.pair l) (blocks_in m.pair x) m q e h in
    g q n.1 ∙ f q n.0

pub kept_first : (m : Numbered) (x u l : Block) (old mid : List Piece) → AreHalves m x u l → KeepsOthers m u old mid → KeepsOthers m x old mid
kept_first m x u l old mid e f q h = f q (piece_of_neither (blocks_in m.pair u) (blocks_in m.pair l) (blocks_in m.pair x) m q e h).0

-- where the pieces within x are told by w, so are those of each half when its turn comes
told_parts : (m : Numbered) (x u l : Block) (old mid : List Piece) (w : Bool) → AreHalves m x u l → KeepsOthers m u old mid
    → ((q : Piece) → is_piece (blocks_in m.pair l) m q ≡ true → is_piece (blocks_in m.pair u) m q ≡ false)
    → AreTold m x old w → AreTold m u old w × AreTold m l mid w
told_parts m x u l old mid w e k apart h = (
  λ q t. h q (piece_of_first (blocks_in m.pair u) (blocks_in m.pair l) (blocks_in m.pair x) m q e t),
  λ q t. k q (apart q t) ∙ h q (piece_of_second (blocks_in m.pair u) (blocks_in m.pair l) (blocks_in m.pair x) m q e t),
)

-- ---- what is added up

here_it_is : (m : Numbered) (x : Block) → blocks_in m.pair x ≡ x ∷ [] → is_piece (blocks_in m.pair x) m (x, m) ≡ true
here_it_is m x e = ap (λ (us : List Block). is_piece us m (x, m)) e ∙ sym (key_is_piece x m (x, m)) ∙ piece_self (x, m)

pub gains_here : (m : Numbered) (x : Block) (old new : List Piece) → lies_within (first_row m.pair) (last_row m.pair) x ≡ true → new ≡ insert_key piece_cmp old (x, m)
    → LacksPieces (blocks_in m.pair x) m old → Gains (blocks_in m.pair x) m old new
gains_here m x old new t n h f =
    let e = here m x t in
    let one : sum_by (λ (y : Block). f (y, m)) (blocks_in m.pair x) ≡ 0 + f (x, m) = ap (λ (us : List Block). sum_by (λ (y : Block). f (y, m)) us) e in
    let more : sum_by f new ≡ sum_by f old + f (x, m) = ap (λ (ks : List Piece). sum_by f ks) n ∙ sum_insert f (x, m) old (h (x, m) (here_it_is m x e)) in
    omega (arith, one, more)

pub loses_here : (m : Numbered) (x : Block) (old new : List Piece) → lies_within (first_row m.pair) (last_row m.pair) x ≡ true → new ≡ remove_key (is_at (piece_cmp (x, m))) old
    → HasPieces (blocks_in m.pair x) m old → Gains (blocks_in m.pair x) m new old
loses_here m x old new t n h f =
    let e = here m x t in
    let one : sum_by (λ (y : Block). f (y, m)) (blocks_in m.pair x) ≡ 0 + f (x, m) = ap (λ (us : List Block). sum_by (λ (y : Block). f (y, m)) us) e in
    let less : sum_by f old ≡ sum_by f new + f (x, m) = sum_remove f (x, m) old (h (x, m) (here_it_is m x e)) ∙ ap (λ (ks : List Piece). sum_by f ks + f (x, m)) (sym n) in
    omega (arith, one, less)

sum_halves : (m : Numbered) (x u l : Block) (f : Piece → ℕ) → AreHalves m x u l
    → sum_by (λ (y : Block). f (y, m)) (blocks_in m.pair x) ≡ sum_by (λ (y : Block). f (y, m)) (blocks_in m.pair u) + sum_by (λ (y : Block). f (y, m)) (blocks_in m.pair l)
sum_halves m x u l f e = ap (λ (us : List Block). sum_by (λ (y : Block). f (y, m)) us) e ∙ sum_by-append (λ (y : Block). f (y, m)) (blocks_in m.pair u) (blocks_in m.pair l)

pub gains_both : (m : Numbered) (x u l : Block) (old mid new : List Piece) → AreHalves m x u l
    → (LacksPieces (blocks_in m.pair u) m old → Gains (blocks_in m.pair u) m old mid)
    → (LacksPieces (blocks_in m.pair l) m mid → Gains (blocks_in m.pair l) m mid new)
    → KeepsOthers m u old mid → ((q : Piece) → is_piece (blocks_in m.pair l) m q ≡ true → is_piece (blocks_in m.pair u) m q ≡ false)
    → LacksPieces (blocks_in m.pair x) m old → Gains (blocks_in m.pair x) m old new
gains_both m x u l old mid new e g h k apart lacks f =
    let parts = told_parts m x u l old mid false e k apart lacks in
    let upper : sum_by f mid ≡ sum_by f old + sum_by (λ (y : Block). f (y, m)) (blocks_in m.pair u) = g parts.0 f in
    let lower : sum_by f new ≡ sum_by f mid + sum_by (λ (y : Block). f (y, m)) (blocks_in m.pair l) = h parts.1 f in
    omega (arith, upper, lower, sum_halves m x u l f e)

pub loses_both : (m : Numbered) (x u l : Block) (old mid new : List Piece) → AreHalves m x u l
    → (HasPieces (blocks_in m.pair u) m old → Gains (blocks_in m.pair u) m mid old)
    → (HasPieces (blocks_in m.pair l) m mid → Gains (blocks_in m.pair l) m new mid)
    → KeepsOthers m u old mid → ((q : Piece) → is_piece (blocks_in m.pair l) m q ≡ true → is_piece (blocks_in m.pair u) m q ≡ false)
    → HasPieces (blocks_in m.pair x) m old → Gains (blocks_in m.pair x) m new old
loses_both m x u l old mid new e g h k apart has f =
    let parts = told_parts m x u l old mid true e k apart has in
    let upper : sum_by f old ≡ sum_by f mid + sum_by (λ (y : Block). f (y, m)) (blocks_in m.pair u) = g parts.0 f in
    let lower : sum_by f mid ≡ sum_by f new + sum_by (λ (y : Block). f (y, m)) (blocks_in m.pair l) = h parts.1 f in
    omega (arith, upper, lower, sum_halves m x u l f e)

pub gains_none : (m : Numbered) (zs : List Block) (ks : List Piece) → zs ≡ [] → Gains zs m ks ks
gains_none m zs ks e f = let none : sum_by (λ (y : Block). f (y, m)) zs ≡ 0 = ap (λ (us : List Block). sum_by (λ (y : Block). f (y, m)) us) e in omega (arith, none)

-- ---- where one is lacking, not all are there

pub absent_here : (m : Numbered) (x : Block) (ks : List Piece) → lies_within (first_row m.pair) (last_row m.pair) x ≡ true → has_piece ks (x, m) ≡ false → HasPieces (blocks_in m.pair x) m ks → ⊥
absent_here m x ks t n h = true≢false (sym (h (x, m) (here_it_is m x (here m x t))) ∙ n)

pub absent_upper : (m : Numbered) (x u l : Block) (ks : List Piece) → AreHalves m x u l → (HasPieces (blocks_in m.pair u) m ks → ⊥) → HasPieces (blocks_in m.pair x) m ks → ⊥
absent_upper m x u l ks e n h = n (λ q t. h q (piece_of_first (blocks_in m.pair u) (blocks_in m.pair l) (blocks_in m.pair x) m q e t))

pub absent_lower : (m : Numbered) (x u l : Block) (old mid : List Piece) → AreHalves m x u l → KeepsOthers m u old mid
    → ((q : Piece) → is_piece (blocks_in m.pair l) m q ≡ true → is_piece (blocks_in m.pair u) m q ≡ false)
    → (HasPieces (blocks_in m.pair l) m mid → ⊥) → HasPieces (blocks_in m.pair x) m old → ⊥
absent_lower m x u l old mid e k apart n h = n (told_parts m x u l old mid true e k apart h).1
