-- The test for a cell in the words of std's maps.
use Rattle.wi_graph.proofs.Words.{◌≡◌, Bool, true, false}
pub use Rattle.wi_values.proofs.Order.{is_itself, turn_test, is_at-eq, at_same, at_itself}

-- a test has one answer
pub clash : {A : Type 0} (b : Bool) → b ≡ true → b ≡ false → A
clash b h k = let z = h in let y = k in cc
