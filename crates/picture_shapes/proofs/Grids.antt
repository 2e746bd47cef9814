-- Lines are within 2^64 pixels.
use Rattle.std.proofs.Common.{ℕ, ◌≤◌, ◌<◌, ◌+◌, ◌*◌, ◌-◌, ◌^◌, arith}
use Rattle.std.proofs.Math.Nat.{mul-le-mul_right}

-- a line that is reached by numbers below 2^32
pub fits : (root gap place : ℕ) → root < 2 ^ 32 → gap < 2 ^ 32 → place < 2 ^ 32
    → root + gap * place ≤ 2 ^ 64 - 2 ^ 32
fits root gap place r g p =
    let high : gap * place ≤ (2 ^ 32 - 1) * place = mul-le-mul_right place (omega (arith, g)) in
    omega (arith, r, p, high)
