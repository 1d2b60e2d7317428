use Rattle.wi_values.proofs.Words.{◌≡◌, ◌+◌, drop, is_ascii_alphabetic, prefix_len}
use Rattle.wi_values.proofs.address.letters_len.Given as goal

abbrev pub invariant-loop-i : goal.invariant-loop-i
invariant-loop-i l =
    l.i + prefix_len is_ascii_alphabetic (drop l.i l.bytes) ≡ prefix_len is_ascii_alphabetic l.bytes
