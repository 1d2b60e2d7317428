use Rattle.wi_ranges.proofs.Words.{◌≡◌, [], refl, sym, ◌∙◌, arith, false, blocks_in, first_row, last_row}
use Rattle.wi_ranges.proofs.BlockLemmas.{blocks_within-apart, blocks_within-row, halves_of}
use Rattle.wi_ranges.proofs.Apart.{halves_apart}
use Rattle.wi_ranges.proofs.PieceLemmas.{loses_here, loses_both, gains_none, told_here, stays_told, kept_here, told_both, kept_both, piece_of_none}
use Rattle.wi_ranges.proofs.pieces.+take_out.Goals as goal
use Rattle.wi_ranges.proofs.pieces.+take_out.Goals.{else-block-gt0-via-then-block-gt0+else-meets, else-block-gt0-via-else-block-gt0}

pub returns-then-lies_within : goal.returns-then-lies_within
returns-then-lies_within t c =
    let m = c.args.numbered.now in
    let x = c.args.block.now in
    let ks = c.args.pieces.now.keys in
    let us = c.remove.new.self.keys in
    let within = sym c.lies_within.ensures ∙ c.if-lies_within.true in
    record {
      taken = told_here m x ks us false within (λ q. c.remove.ensures.updates.0 q);
      kept = kept_here m x ks us false within (λ q. c.remove.ensures.updates.0 q);
      gone = stays_told m x ks us false (λ q. c.remove.ensures.updates.0 q);
      order = λ h. c.remove.ensures.ordered;
      loses = loses_here m x ks us within c.remove.ensures.keys;
    }

pub returns-then-meets : goal.returns-then-meets
returns-then-meets t c =
    let m = c.args.numbered.now in
    let x = c.args.block.now in
    let ks = c.args.pieces.now.keys in
    let ls = c.take_out.new.pieces.keys in
    let us = c.take_out-then-meets.new.pieces.keys in
    let halves = halves_of m.pair x c.upper.result c.lower.result c.upper.ensures.value c.lower.ensures.value (sym c.lies_within.ensures ∙ c.if-lies_within.false) c.if-block-gt0.true (sym c.meets.ensures ∙ c.if-meets.true) in
    let upper = c.take_out.ensures in
    let lower = c.take_out-then-meets.ensures in
    record {
      taken = told_both m x c.upper.result c.lower.result ls us false halves upper.taken lower.taken lower.gone;
      kept = kept_both m x c.upper.result c.lower.result ks ls us halves upper.kept lower.kept;
      gone = λ q h. lower.gone q (upper.gone q h);
      order = λ h. lower.order (upper.order h);
      loses =
          loses_both m x c.upper.result c.lower.result ks ls us halves upper.loses lower.loses upper.kept
          (halves_apart x c.upper.result c.lower.result m c.upper.ensures.value c.lower.ensures.value);
    }

pub returns-else-block-gt0 : goal.returns-else-block-gt0
returns-else-block-gt0 t c =
    let x = c.args.block.now in
    let p = c.args.numbered.now.pair in
    let apart = sym c.lies_within.ensures ∙ c.if-lies_within.false in
    let none : blocks_in p x ≡ [] = elim c.else-block-gt0.branch [
      | else-block-gt0-via-then-block-gt0+else-meets w ↦ blocks_within-apart (first_row p) (last_row p) x.level x.first apart (sym w.meets.ensures ∙ w.if-meets.false)
      | else-block-gt0-via-else-block-gt0 w ↦ blocks_within-row (first_row p) (last_row p) x.level x.first apart (omega (arith, w.if-block-gt0.false))
    ] in
    record {
      taken = λ q h. absurd (piece_of_none (blocks_in p x) c.args.numbered.now q none h);
      kept = λ q h. refl;
      gone = λ q h. h;
      order = λ h. h;
      loses = λ h. gains_none c.args.numbered.now (blocks_in p x) c.args.pieces.now.keys none;
    }
