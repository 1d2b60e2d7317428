use Rattle.std.proofs.Common.{◌++◌, ◌∷◌, [], ◌∙◌, ap, sym}
use Rattle.std.proofs.lemmas.List.{append-nil}
use Rattle.std.proofs.Transfers.{starts_with_trans}
use Rattle.wi_csv.proofs.Growth.{starts_itself, starts_after, starts_same}
use Rattle.wi_csv.proofs.Joined.{bytes_more, field_done}
use Rattle.wi_csv.proofs.row.push_field.Goals as goal

pub loop-byte-preserved : goal.loop-byte-preserved
loop-byte-preserved c =
    let old = c.loop-byte.invariant in
    record {
      written = bytes_more c.args.field.now c.loop-byte.byte-index _ _ _ c.loop-byte-test.true old.written c.in_ok-push_doubled.ensures.ok;
      kept = starts_with_trans _ _ _ c.push_doubled.ensures.kept old.kept;
    }

pub returns-in_err-push_doubled-clause-kept : goal.returns-in_err-push_doubled-clause-kept
returns-in_err-push_doubled-clause-kept c = starts_with_trans _ _ _ c.push_doubled.ensures.kept c.loop-byte.invariant.kept

pub returns-clause-ok : goal.returns-clause-ok
returns-clause-ok c =
    field_done c.args.field.now c.loop-byte.byte-index c.args.out.now.items c.args.separator.now _ _ c.loop-byte-test.false c.loop-byte.invariant.written c.in_ok-push-2.ensures.items

pub loop-byte-init : goal.loop-byte-init
loop-byte-init c =
    record {
      written = c.in_ok-push.ensures.items ∙ ap (λ xs. xs ++ (34 ∷ [])) c.in_ok-extend_from_slice.ensures.items ∙ sym (append-nil _);
      kept = starts_after _ _ _ _ c.in_ok-push.ensures.items (starts_after _ _ _ _ c.in_ok-extend_from_slice.ensures.items (starts_itself _));
    }

pub returns-in_err-extend_from_slice-clause-kept : goal.returns-in_err-extend_from_slice-clause-kept
returns-in_err-extend_from_slice-clause-kept c = starts_same _ _ _ c.in_err-extend_from_slice.ensures.items (starts_itself _)

pub returns-in_err-push-clause-kept : goal.returns-in_err-push-clause-kept
returns-in_err-push-clause-kept c =
    starts_same _ _ _ c.in_err-push.ensures.items (starts_after _ _ _ _ c.in_ok-extend_from_slice.ensures.items (starts_itself _))

pub returns-in_err-push-2-clause-kept : goal.returns-in_err-push-2-clause-kept
returns-in_err-push-2-clause-kept c = starts_same _ _ _ c.in_err-push-2.ensures.items c.loop-byte.invariant.kept

pub returns-clause-kept : goal.returns-clause-kept
returns-clause-kept c = starts_after _ _ _ _ c.in_ok-push-2.ensures.items c.loop-byte.invariant.kept
