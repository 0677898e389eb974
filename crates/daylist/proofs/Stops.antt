-- WHAT THE STAGES FIND in a list.
--   frames-count   where each line is a frame, their number is the answer
--   list-lines     what is left to the lines where neither 21 nor 22 is found
--   lines-few, lines-many, lines-bad, lines-good   24, 25 and 51 to 58 find a fault, or none does
use Prim.Native.Nat.{ℕ, suc, ◌+◌, ◌-◌, ◌<◌, ◌≤◌}
use native.Mathlib.Omega.{arith}
use mathlib.Core.Bool.{Bool, true, false}
use mathlib.Core.List.{List, [], ◌∷◌}
use mathlib.Core.Path.{◌≡◌}
use lib.ListN.{length}
use borrow.Author.Tests.{le-leb, lt-leb}
use Rattle.std.specs.Prelude.{Err, Ok}
use Rattle.laws.specs.Bytes.{Bytes}
use Rattle.profile.specs.Limits.{most_bytes, most_ceiling, most_collections}
use Rattle.profile.specs.declared.ListRefusal.{ListRefusal}
use Rattle.profile.specs.declared.ListRefusal.TheVariants.{NotAFrame, NoCollection, TooManyCollections}
use Rattle.frames.specs.Lines.{Line, lines}
use Rattle.frames.specs.Frames.{frame_of, is_frame}
use Rattle.daylist.specs.Stages.{must, frames_from, values_from, judged_lines, judged_list}

pub frames-count : (k n : ℕ) (ls : List Line) → frames_from k ls ≡ Ok n → n ≡ k + length ls
frames-count k n [] e = let d : k ≡ n = cc in omega (arith, d)
frames-count k n (l ∷ ls) e = go (is_frame (frame_of (k + 1)) l) e (frames-count (k + 1) n ls)
  where
    go : (z : Bool) → must z (NotAFrame (k + 1)) (frames_from (k + 1) ls) ≡ Ok n → (frames_from (k + 1) ls ≡ Ok n → n ≡ k + 1 + length ls) → n ≡ k + suc (length ls)
    go true e f = omega (arith, f e)
    go false e f = let z : ◌≡◌ {A = ℕ} 0 1 = cc in absurd (omega (arith, z))

-- ─── the whole list ───

module _ (s : Bytes) (c : ℕ) where
  pub list-lines : length s ≤ most_bytes → (1 ≤ c) × (c ≤ most_ceiling) → judged_list s c ≡ judged_lines (lines s)
  list-lines h (l, m) = rw (le-leb (length s) most_bytes h, le-leb 1 c l, le-leb c most_ceiling m)

module _ (ls : List Line) (n : ℕ) (e : frames_from 0 ls ≡ Ok n) where
  number : length ls ≡ n
  number = omega (arith, frames-count 0 n ls e)

  pub lines-few : n < 2 → judged_lines ls ≡ Err (NoCollection n)
  lines-few h = rw (e, number, lt-leb 2 n h)

  module _ (h : 2 ≤ n) where
    pub lines-many : 1 + most_collections < n → judged_lines ls ≡ Err TooManyCollections
    lines-many m = rw (e, number, le-leb 2 n h, lt-leb n (1 + most_collections) m)

    module _ (m : n ≤ 1 + most_collections) where
      pub lines-bad : (r : ListRefusal) → values_from 0 ls ≡ Err r → judged_lines ls ≡ Err r
      lines-bad r v = rw (e, number, le-leb 2 n h, le-leb n (1 + most_collections) m, v)

      pub lines-good : (k : ℕ) → values_from 0 ls ≡ Ok k → judged_lines ls ≡ Ok (n - 1)
      lines-good k v = rw (e, number, le-leb 2 n h, le-leb n (1 + most_collections) m, v)
