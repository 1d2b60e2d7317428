use Rattle.wi_sessions.proofs.Words.{◌||◌, ◌∙◌, ℕ, List, drop, refl, ap, or_left, or_right, is_one_of, is_unread}
use Rattle.wi_sessions.proofs.PlaceLemmas.{unread_tracked}
use Rattle.wi_sessions.proofs.unread.Unread.track.Goals as goal

pub returns-then-is_longer-clause-stay : goal.returns-then-is_longer-clause-stay
returns-then-is_longer-clause-stay c = λ changed q h. refl

pub returns-then-is_longer-clause-own : goal.returns-then-is_longer-clause-own
returns-then-is_longer-clause-own c = λ changed q h. refl

pub returns-in_err-extend_from_slice-clause-stay : goal.returns-in_err-extend_from_slice-clause-stay
returns-in_err-extend_from_slice-clause-stay c =
    λ changed q h. ap (λ (xs : List ℕ). c.args.self.now.anywhere || (is_one_of (drop c.args.self.now.from changed) q || is_one_of xs q)) c.in_err-extend_from_slice.ensures.items ∙ h

pub returns-clause-stay : goal.returns-clause-stay
returns-clause-stay c =
    λ changed q h. unread_tracked changed c.args.cells.now c.args.self.now (record c.args.self.now { own = c.extend_from_slice.new.self }) refl refl c.in_ok-extend_from_slice.ensures.items q
    (or_left (is_unread changed c.args.self.now q) (is_one_of c.args.cells.now q) h)

pub returns-clause-own : goal.returns-clause-own
returns-clause-own c =
    λ changed q h. unread_tracked changed c.args.cells.now c.args.self.now (record c.args.self.now { own = c.extend_from_slice.new.self }) refl refl c.in_ok-extend_from_slice.ensures.items q
    (or_right (is_unread changed c.args.self.now q) (is_one_of c.args.cells.now q) h)
