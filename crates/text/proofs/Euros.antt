-- SUMS AND AMOUNTS: the whole euros, and what stands after them.
--   tail s                   what `behind_point` answers of the bytes after the whole euros
--   whole_le, whole-digits   the whole euros are a part of the text, and digits
--   euros-under              the cents are below 10 to the 17th
use Prim.Native.Nat.{ℕ, ◌+◌, ◌*◌, ◌^◌, ◌≤◌, ◌<◌}
use native.Mathlib.Omega.{arith}
use mathlib.Core.Bool.{true, ◌&&◌}
use mathlib.Core.List.{[], ◌∷◌}
use mathlib.Core.Path.{◌≡◌, sym}
use lib.Dec.{T, eqb}
use lib.ListN.{length, take, drop, length-take}
use Rattle.std.specs.Prelude.{Ok}
use Rattle.laws.specs.Bytes.{Bytes, between, all, span}
use Rattle.laws.proofs.Tests.{and_l, and_r, T_true, true-T}
use Rattle.laws.proofs.Loops.{all-span, span_le}
use Rattle.marks.specs.Marks.{digit, value}
use Rattle.marks.proofs.Classes.{between_high}
use Rattle.marks.proofs.Numbers.{value-under}
use Rattle.profile.specs.declared.Flaw.TheVariants.{Number}
use Rattle.text.specs.Rules.{Judged, must, decimals, hundredths}
use Rattle.text.proofs.Musts.{must-test, good-is}

-- ─── after the whole euros ───

abbrev pub tail : Bytes → Judged
tail s = must (decimals s) Number (Ok (hundredths s))

-- the digits after the point, and the first of them
behind-digits : (c : ℕ) (s : Bytes) → T (decimals (c ∷ s)) → T (all digit s)
behind-digits c s t = and_r (between 1 2 (length s)) (all digit s) (and_r (eqb c 46) (between 1 2 (length s) && all digit s) t)

first_high : (c : ℕ) (s : Bytes) → T (all digit (c ∷ s)) → c ≤ 57
first_high c s t = between_high 48 57 c (T_true (digit c) (and_l (digit c) (all digit s) t))

behind-under : (s : Bytes) → T (decimals s) → hundredths s < 100
behind-under [] t = omega arith
behind-under (b ∷ []) t = omega arith
behind-under (b ∷ c ∷ []) t = omega (arith, first_high c [] (behind-digits b (c ∷ []) t))
behind-under (b ∷ c ∷ d ∷ s) t =
    let u = behind-digits b (c ∷ d ∷ s) t in
    omega (arith, first_high c (d ∷ s) u, first_high d s (and_r (digit c) (all digit (d ∷ s)) u))

-- ─── the whole euros: the n digits at the front ───

module _ (n : ℕ) (s : Bytes) (e : n ≡ span digit s) where
  pub whole_le : n ≤ length s
  whole_le = rw e (span_le digit s)

  pub whole-digits : all digit (take n s) ≡ true
  whole-digits = rw e (T_true (all digit (take (span digit s) s)) (all-span digit s))

  module _ (h : ℕ) (q : tail (drop n s) ≡ Ok h) where
    so : decimals (drop n s) ≡ true
    so = must-test (decimals (drop n s)) Number (Ok (hundredths (drop n s))) h q

    told : h ≡ hundredths (drop n s)
    told = sym (good-is (decimals (drop n s)) Number (hundredths (drop n s)) h q)

    pub euros-under : n ≤ 15 → value (take n s) * 100 + h < 10 ^ 17
    euros-under m =
        omega (arith, value-under 15 (take n s) (simp length-take (omega arith)) whole-digits, behind-under (drop n s) (true-T (decimals (drop n s)) so), told)
