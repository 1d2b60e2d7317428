-- Numbers of 128 bits by two halves of 64.
use Rattle.std.specs.Prelude.{◌≡◌, ℕ, ◌+◌, ◌*◌, ◌/◌, ◌%◌, ◌^◌, ◌<◌}
use Rattle.std.specs.Int.{w128, cast_signed, cast_unsigned}
use Rattle.std.proofs.Common.{ap, ◌∙◌, arith}
use Rattle.std.proofs.lemmas.Int.{of_z-to_z}

pub high_half : (h l : ℕ) → l < 2 ^ 64 → (h * 2 ^ 64 + l) / 2 ^ 64 ≡ h
high_half h l q = omega (arith, q)

pub low_half : (h l : ℕ) → l < 2 ^ 64 → (h * 2 ^ 64 + l) % 2 ^ 64 ≡ l
low_half h l q = omega (arith, q)

pub from_halves : (n : ℕ) → n / 2 ^ 64 * 2 ^ 64 + n % 2 ^ 64 ≡ n
from_halves n = omega arith

written_back : (h l : ℕ) → h < 2 ^ 64 → l < 2 ^ 64 → cast_unsigned w128 (cast_signed w128 (h * 2 ^ 64 + l)) ≡ h * 2 ^ 64 + l
written_back h l p q = of_z-to_z w128 (h * 2 ^ 64 + l) (omega (arith, p, q))

pub high_written_back : (h l : ℕ) → h < 2 ^ 64 → l < 2 ^ 64 → cast_unsigned w128 (cast_signed w128 (h * 2 ^ 64 + l)) / 2 ^ 64 ≡ h
high_written_back h l p q = ap (λ n. n / 2 ^ 64) (written_back h l p q) ∙ high_half h l q

pub low_written_back : (h l : ℕ) → h < 2 ^ 64 → l < 2 ^ 64 → cast_unsigned w128 (cast_signed w128 (h * 2 ^ 64 + l)) % 2 ^ 64 ≡ l
low_written_back h l p q = ap (λ n. n % 2 ^ 64) (written_back h l p q) ∙ low_half h l q
