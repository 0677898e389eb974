-- DIVISION ROUNDED UP: `ceil n c` is the least m with n ≤ m * c.
--   ceil_ge, ceil_le   it is one, and at most each other
--   ceil_is            as the library's `div_ceil` has it
--   ceil-zero          of nothing
--   ceil-step          one cut: c fewer, and one less
--   ceil_le_self       at most what is divided
--   div_lt_ceil        what is below n, divided by c, is below it
use Prim.Native.Nat.{ℕ, zero, suc, ◌+◌, ◌-◌, ◌*◌, ◌/◌, ◌%◌, ◌≤◌, ◌<◌, min}
use native.Mathlib.Nat.{div-lt_iff_lt-mul, lt-div-mul-add, mul-le-mul_left, le_antisymm}
use native.Mathlib.Omega.{arith}
use mathlib.Core.Path.{◌≡◌}
use Rattle.std.proofs.lemmas.Grind.{div_ceil_times}
use Rattle.bundle.specs.Bundle.{ceil}

pub ceil_ge : (n c : ℕ) → 1 ≤ c → n ≤ ceil n c * c
unfolding ceil
ceil_ge n c h = omega (arith, lt-div-mul-add {a = n + (c - 1)} h)

pub ceil_le : (n c m : ℕ) → 1 ≤ c → n ≤ m * c → ceil n c ≤ m
unfolding ceil
ceil_le n c m h k = let l : n + (c - 1) < suc m * c = omega arith in omega (arith, (div-lt_iff_lt-mul {x = n + (c - 1)} {y = suc m} h).1 l)

pub ceil_is : (n c : ℕ) → 1 ≤ c → n / c + min 1 (n % c) ≡ ceil n c
ceil_is n c h = grind (arith, div_ceil_times n c h, ceil_ge n c h, ceil_le n c (n / c + min 1 (n % c)) h)

pub ceil-zero : (c : ℕ) → 1 ≤ c → ceil 0 c ≡ 0
ceil-zero c h = omega (arith, ceil_le 0 c 0 h (omega arith))

pub ceil-step : (n c : ℕ) → 1 ≤ c → 1 ≤ n → ceil n c ≡ suc (ceil (n - c) c)
ceil-step n c h k = le_antisymm (ceil_le n c (suc q) h (omega (arith, ceil_ge (n - c) c h))) (go (ceil n c) (ceil_ge n c h))
  where
    q : ℕ
    q = ceil (n - c) c

    go : (m : ℕ) → n ≤ m * c → suc q ≤ m
    go zero l = absurd (omega arith)
    go (suc m) l = omega (arith, ceil_le (n - c) c m h (omega arith))

pub ceil_le_self : (n c : ℕ) → 1 ≤ c → ceil n c ≤ n
ceil_le_self n c h = ceil_le n c n h (omega (arith, mul-le-mul_left n h))

pub div_lt_ceil : (r n c : ℕ) → 1 ≤ c → r < n → r / c < ceil n c
div_lt_ceil r n c h k = (div-lt_iff_lt-mul {x = r} {y = ceil n c} h).1 (omega (arith, ceil_ge n c h))
