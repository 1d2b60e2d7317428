use Rattle.wi_ranges.proofs.Words.{◌≡◌, ◌≤◌, ℕ, ◌∙◌, nat_lt, not, true, List, subst, arith, nat_tests, IfOk-from_err, on_err, Bag, HasOneMore, bag_of, is_among, Block}
use Rattle.wi_ranges.proofs.First.{row_there}
use Rattle.wi_ranges.proofs.bag.add_pair.Goals as goal

at_least_none : (n : ℕ) → 0 ≤ n
at_least_none n = omega arith

at_most_as_many : (m n : ℕ) → m ≡ n → m ≤ n
at_most_as_many m n e = omega arith

no_fewer : (m n : ℕ) → m ≡ n → not (nat_lt m n) ≡ true
no_fewer m n e = grind (arith, nat_tests)

pub add_numbered-requires : goal.add_numbered-requires
add_numbered-requires c =
    let around = c.around-around.ensures in
    let row = row_there c.args.pair.now c.around-around.result 1048576 around.holds around.within in
    record { whole = c.requires; number = at_least_none _; blocks = around.blocks; on_sheet = around.within; row = row }

pub returns-in_err-add_numbered : goal.returns-in_err-add_numbered
returns-in_err-add_numbered c =
    let first = c.in_err-add_numbered.ensures in
    record { more = IfOk-from_err c.from_residual.result _ c.from_residual.ensures.0; whole = first.whole; err = on_err c.from_residual.result first.err }

pub returns-then-branch : goal.returns-then-branch
returns-then-branch c = let first = c.in_ok-add_numbered.ensures in record { more = first.more c.if-branch.true; whole = first.whole; err = tt }

pub count_at-requires-clause-whole : goal.count_at-requires-clause-whole
count_at-requires-clause-whole c = c.in_ok-add_numbered.ensures.whole

pub count_at-requires-clause-among : goal.count_at-requires-clause-among
count_at-requires-clause-among c = subst (λ (xs : List Block). is_among c.first_of.result xs ≡ true) c.around-around.ensures.blocks c.first_of.ensures

pub add_numbered-requires-2 : goal.add_numbered-requires-2
add_numbered-requires-2 c =
    let around = c.around-around.ensures in
    let row = row_there c.args.pair.now c.around-around.result 1048576 around.holds around.within in
    record { whole = c.in_ok-add_numbered.ensures.whole; number = at_most_as_many c.count_at.result _ c.count_at.ensures; blocks = around.blocks; on_sheet = around.within; row = row }

pub returns-in_err-add_numbered-2 : goal.returns-in_err-add_numbered-2
returns-in_err-add_numbered-2 c =
    let next = c.in_err-add_numbered-2.ensures in
    record {
      more = IfOk-from_err c.from_residual-in_err-add_numbered-2.result _ c.from_residual-in_err-add_numbered-2.ensures.0;
      whole = next.whole;
      err = on_err c.from_residual-in_err-add_numbered-2.result (next.err ∙ c.in_ok-add_numbered.ensures.same c.if-branch.false);
    }

pub returns : goal.returns
returns c =
    let next = c.in_ok-add_numbered-2.ensures in
    record {
      more =
          subst (λ (bag : Bag). HasOneMore c.args.pair.now bag (bag_of c.add_numbered-2.new.pieces.keys)) (c.in_ok-add_numbered.ensures.same c.if-branch.false)
          (next.more (next.added ∙ no_fewer c.count_at.result _ c.count_at.ensures));
      whole = next.whole;
      err = tt;
    }
