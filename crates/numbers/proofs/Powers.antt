-- Bounds of numbers by powers of ten.
use Rattle.std.proofs.Common.{◌≡◌, ℕ, suc, ◌+◌, ◌*◌, ◌^◌, ◌≤◌, arith}
use native.Mathlib.Nat.{pow-succ', pow-le-pow_right}

pub pow_more : (d : ℕ) → 10 ^ (d + 1) ≡ 10 * 10 ^ d
pow_more d = let p : d + 1 ≡ suc d = omega arith in rw (p, pow-succ')

pub pow_le : (m n : ℕ) → m ≤ n → 10 ^ m ≤ 10 ^ n
pow_le m n h = pow-le-pow_right (omega arith) h
