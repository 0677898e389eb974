-- THE PARTS OF A DATE AND OF A TIME OF DAY.
--   digits_at a n p          the n marks of the pattern p from the place a on are all D, and at most 15
--   part-there, part-under   in a text of that shape the part is there and all digits; it spells a number below the n-th power of ten
--   time-bad, time-after     what is no date is no time; after a date the time of day decides
use Prim.Native.Nat.{ℕ, ◌+◌, ◌*◌, ◌^◌, ◌≤◌, ◌<◌}
use native.Mathlib.Omega.{arith}
use mathlib.Core.Bool.{Bool, true, ◌&&◌}
use mathlib.Core.Path.{◌≡◌}
use lib.Dec.{T, eqb, leb, eqb→eq, leb→le}
use lib.ListN.{length, take, drop, length-take}
use Rattle.std.specs.Prelude.{Err, Ok}
use Rattle.laws.specs.Bytes.{Bytes, all}
use Rattle.laws.proofs.Tests.{and_l, and_r, T_true, true-T}
use Rattle.laws.proofs.Loops.{agree-length, agree-take, agree-drop}
use Rattle.marks.specs.Marks.{digit, mark, fits}
use Rattle.marks.proofs.Classes.{fits_all}
use Rattle.marks.proofs.Numbers.{value-under}
use Rattle.profile.specs.declared.Flaw.{Flaw}
use Rattle.profile.specs.declared.Flaw.TheVariants.{Date}
use Rattle.text.specs.Rules.{must, value_at, dated, date, clock, time}
use Rattle.text.proofs.Musts.{bad-stays, must-test}

-- 68 is the mark D
abbrev pub digits_at : ℕ → ℕ → Bytes → Bool
digits_at a n p = leb n 15 && (leb (a + n) (length p) && all (eqb 68) (take n (drop a p)))

mark-digit : (p c : ℕ) → T (eqb 68 p) → T (mark p c) → T (digit c)
mark-digit p c d h = rw (← eqb→eq 68 p d) at h

module _ (a n : ℕ) (p s : Bytes) (t : T (digits_at a n p)) (e : fits p s ≡ true) where
  pub part-there : (n ≤ 15) × ((a + n ≤ length s) × (all digit (take n (drop a s)) ≡ true))
  part-there =
      let r = and_r (leb n 15) (leb (a + n) (length p) && all (eqb 68) (take n (drop a p))) t in (
        leb→le n 15 (and_l (leb n 15) (leb (a + n) (length p) && all (eqb 68) (take n (drop a p))) t),
        (
          omega (arith, leb→le (a + n) (length p) (and_l (leb (a + n) (length p)) (all (eqb 68) (take n (drop a p))) r), agree-length mark p s (true-T (fits p s) e)),
          T_true (all digit (take n (drop a s)))
              (fits_all (eqb 68) digit mark-digit (take n (drop a p)) (take n (drop a s)) (and_r (leb (a + n) (length p)) (all (eqb 68) (take n (drop a p))) r)
              (agree-take mark n (drop a p) (drop a s) (agree-drop mark a p s (true-T (fits p s) e)))),
        ),
      )

  pub part-under : value_at a n s < 10 ^ n
  part-under = value-under n (take n (drop a s)) (simp length-take (omega arith)) part-there.1.1

pub time-bad : (s : Bytes) (g : Flaw) → date (take 10 s) ≡ Err g → Err g ≡ time s
time-bad s g e =
    let d = take 10 s in
    bad-stays (dated d) (dated d && clock (drop 10 s)) Date g (value_at 0 4 d * 10_000 + value_at 5 2 d * 100 + value_at 8 2 d) (Ok 0) e (λ f. rw f)

-- after a date the time of day decides
pub time-after : (s : Bytes) (n : ℕ) (b : Bool) → date (take 10 s) ≡ Ok n → clock (drop 10 s) ≡ b → must b Date (Ok 0) ≡ time s
time-after s n b d e = rw (must-test (dated (take 10 s)) Date (Ok (value_at 0 4 (take 10 s) * 10_000 + value_at 5 2 (take 10 s) * 100 + value_at 8 2 (take 10 s))) n d, e)
