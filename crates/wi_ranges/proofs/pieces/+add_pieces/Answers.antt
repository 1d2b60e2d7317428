use Rattle.wi_ranges.proofs.Words.{IfOk-from_err, IsStrictlySortedBy, Piece, piece_cmp, has_piece, List, ap, subst, ◌≡◌, [], ◌+◌, ◌-◌, ◌^◌, sym, ◌∙◌, arith, refl, true, on_err, block, blocks_in, first_row, last_row}
use Rattle.wi_ranges.proofs.BlockLemmas.{blocks_within-apart, blocks_within-row, halves_of}
use Rattle.wi_ranges.proofs.Apart.{halves_apart}
use Rattle.wi_ranges.proofs.PieceLemmas.{absent_here, absent_lower, absent_upper, gains_here, gains_both, gains_none, told_here, stays_told, kept_here, told_both, kept_both, kept_first, piece_of_none}
use Rattle.wi_ranges.proofs.pieces.+add_pieces.Goals as goal
use Rattle.wi_ranges.proofs.pieces.+add_pieces.Goals.{else-block-gt0-via-then-block-gt0+else-meets, else-block-gt0-via-else-block-gt0}

pub upper-requires-clause-level : goal.upper-requires-clause-level
upper-requires-clause-level t c = c.if-block-gt0.true

pub upper-requires-clause-on_sheet : goal.upper-requires-clause-on_sheet
upper-requires-clause-on_sheet t c = c.requires

pub lower-requires-clause-level : goal.lower-requires-clause-level
lower-requires-clause-level t c = c.if-block-gt0.true

pub lower-requires-clause-on_sheet : goal.lower-requires-clause-on_sheet
lower-requires-clause-on_sheet t c = c.requires

pub returns-in_err-insert : goal.returns-in_err-insert
returns-in_err-insert t c =
    record {
      put = IfOk-from_err c.from_residual.result _ c.from_residual.ensures.0;
      kept = λ q h. ap (λ (ks : List Piece). has_piece ks q) c.in_err-insert.ensures.err;
      stays = λ q h. ap (λ (ks : List Piece). has_piece ks q) c.in_err-insert.ensures.err ∙ h;
      order = λ h. subst (IsStrictlySortedBy piece_cmp) (sym c.in_err-insert.ensures.err) h;
      absent = on_err c.from_residual.result (absent_here c.args.numbered.now c.args.block.now c.args.pieces.now.keys (sym c.lies_within.ensures ∙ c.if-lies_within.true) c.in_err-insert.ensures.absent);
      gains = IfOk-from_err c.from_residual.result _ c.from_residual.ensures.0;
    }

pub returns-in_ok-insert : goal.returns-in_ok-insert
returns-in_ok-insert t c =
    let m = c.args.numbered.now in
    let x = c.args.block.now in
    let ks = c.args.pieces.now.keys in
    let ls = c.insert.new.self.keys in
    let within = sym c.lies_within.ensures ∙ c.if-lies_within.true in
    record {
      put = told_here m x ks ls true within (λ q. c.in_ok-insert.ensures.updates.0 q);
      kept = kept_here m x ks ls true within (λ q. c.in_ok-insert.ensures.updates.0 q);
      stays = stays_told m x ks ls true (λ q. c.in_ok-insert.ensures.updates.0 q);
      order = λ h. c.in_ok-insert.ensures.ordered;
      absent = tt;
      gains = gains_here m x ks ls within c.in_ok-insert.ensures.keys;
    }

pub returns-in_err-add_pieces : goal.returns-in_err-add_pieces
returns-in_err-add_pieces t c =
    let m = c.args.numbered.now in
    let x = c.args.block.now in
    let ks = c.args.pieces.now.keys in
    let lower = block (x.level - 1) (x.first + 2 ^ (x.level - 1)) in
    let halves = halves_of m.pair x c.upper.result lower c.upper.ensures.value refl (sym c.lies_within.ensures ∙ c.if-lies_within.false) c.if-block-gt0.true (sym c.meets.ensures ∙ c.if-meets.true) in
    let upper = c.in_err-add_pieces.ensures in
    record {
      put = IfOk-from_err c.from_residual-in_err-add_pieces.result _ c.from_residual-in_err-add_pieces.ensures.0;
      kept = kept_first m x c.upper.result lower ks c.add_pieces.new.pieces.keys halves upper.kept;
      stays = upper.stays;
      order = upper.order;
      absent = on_err c.from_residual-in_err-add_pieces.result (absent_upper m x c.upper.result lower ks halves upper.absent);
      gains = IfOk-from_err c.from_residual-in_err-add_pieces.result _ c.from_residual-in_err-add_pieces.ensures.0;
    }

pub returns-in_err-add_pieces-2 : goal.returns-in_err-add_pieces-2
returns-in_err-add_pieces-2 t c =
    let m = c.args.numbered.now in
    let x = c.args.block.now in
    let ks = c.args.pieces.now.keys in
    let ls = c.add_pieces.new.pieces.keys in
    let halves = halves_of m.pair x c.upper.result c.lower.result c.upper.ensures.value c.lower.ensures.value (sym c.lies_within.ensures ∙ c.if-lies_within.false) c.if-block-gt0.true (sym c.meets.ensures ∙ c.if-meets.true) in
    let upper = c.in_ok-add_pieces.ensures in
    let lower = c.in_err-add_pieces-2.ensures in
    record {
      put = IfOk-from_err c.from_residual-in_err-add_pieces-2.result _ c.from_residual-in_err-add_pieces-2.ensures.0;
      kept = kept_both m x c.upper.result c.lower.result ks ls c.add_pieces-then-meets.new.pieces.keys halves upper.kept lower.kept;
      stays = λ q h. lower.stays q (upper.stays q h);
      order = λ h. lower.order (upper.order h);
      absent =
          on_err c.from_residual-in_err-add_pieces-2.result
          (absent_lower m x c.upper.result c.lower.result ks ls halves upper.kept (halves_apart x c.upper.result c.lower.result m c.upper.ensures.value c.lower.ensures.value) lower.absent);
      gains = IfOk-from_err c.from_residual-in_err-add_pieces-2.result _ c.from_residual-in_err-add_pieces-2.ensures.0;
    }

pub returns-in_ok-add_pieces-2 : goal.returns-in_ok-add_pieces-2
returns-in_ok-add_pieces-2 t c =
    let m = c.args.numbered.now in
    let x = c.args.block.now in
    let ks = c.args.pieces.now.keys in
    let ls = c.add_pieces.new.pieces.keys in
    let us = c.add_pieces-then-meets.new.pieces.keys in
    let halves = halves_of m.pair x c.upper.result c.lower.result c.upper.ensures.value c.lower.ensures.value (sym c.lies_within.ensures ∙ c.if-lies_within.false) c.if-block-gt0.true (sym c.meets.ensures ∙ c.if-meets.true) in
    let upper = c.in_ok-add_pieces.ensures in
    let lower = c.in_ok-add_pieces-2.ensures in
    record {
      put = told_both m x c.upper.result c.lower.result ls us true halves upper.put lower.put lower.stays;
      kept = kept_both m x c.upper.result c.lower.result ks ls us halves upper.kept lower.kept;
      stays = λ q h. lower.stays q (upper.stays q h);
      order = λ h. lower.order (upper.order h);
      absent = tt;
      gains =
          gains_both m x c.upper.result c.lower.result ks ls us halves upper.gains lower.gains upper.kept
          (halves_apart x c.upper.result c.lower.result m c.upper.ensures.value c.lower.ensures.value);
    }

pub returns-else-block-gt0 : goal.returns-else-block-gt0
returns-else-block-gt0 t c =
    let x = c.args.block.now in
    let p = c.args.numbered.now.pair in
    let apart = sym c.lies_within.ensures ∙ c.if-lies_within.false in
    let none : blocks_in p x ≡ [] = elim c.else-block-gt0.branch [
      | else-block-gt0-via-then-block-gt0+else-meets w ↦ blocks_within-apart (first_row p) (last_row p) x.level x.first apart (sym w.meets.ensures ∙ w.if-meets.false)
      | else-block-gt0-via-else-block-gt0 w ↦ blocks_within-row (first_row p) (last_row p) x.level x.first apart (omega (arith, w.if-block-gt0.false))
    ] in
    record {
      put = λ q h. absurd (piece_of_none (blocks_in p x) c.args.numbered.now q none h);
      kept = λ q h. refl;
      stays = λ q h. h;
      order = λ h. h;
      absent = tt;
      gains = λ h. gains_none c.args.numbered.now (blocks_in p x) c.args.pieces.now.keys none;
    }
