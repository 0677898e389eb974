-- WHAT A GOOD LIST IS, for whoever reads one that was judged good.
--   must-good, next-good   where good comes out, the test held, the stage found no fault, and what was left to the rest is good
--   of-good                and the line was good
--   good-list              a good list of n collections is within the limits, has n + 1 lines, and neither 23 nor 51 to 58 find a fault
--   frames-each            then each line holds the frame of its kind, and LF ends it
--   values-each            and each line's values are good
use Prim.Native.Nat.{ℕ, zero, suc, ◌+◌, ◌-◌, ◌<◌, ◌≤◌}
use native.Mathlib.Nat.{not-suc-le-zero, le_of_suc-le-suc}
use native.Mathlib.Omega.{arith}
use mathlib.Core.Bool.{Bool, true, false}
use mathlib.Core.List.{List, [], ◌∷◌}
use mathlib.Core.Path.{◌≡◌, refl}
use lib.Dec.{leb}
use lib.ListN.{length, get_or}
use borrow.Author.Tests.{leb-true}
use Rattle.std.specs.Prelude.{Err, Ok}
use Rattle.laws.specs.Bytes.{Bytes, between}
use Rattle.laws.proofs.Tests.{and_l, and_r, T_true, true-T}
use Rattle.profile.specs.Limits.{most_bytes, most_ceiling, most_collections}
use Rattle.profile.specs.declared.ListRefusal.{ListRefusal}
use Rattle.profile.specs.declared.ListRefusal.TheVariants.{TooLong, Ceiling, NotAFrame, NoCollection, TooManyCollections}
use Rattle.frames.specs.Lines.{Line, lines}
use Rattle.frames.specs.Hex.{unhex}
use Rattle.frames.specs.Frames.{frame_of, is_frame}
use Rattle.daylist.specs.Values.{JudgedLine, judged_line}
use Rattle.daylist.specs.Stages.{JudgedList, must, next, frames_from, of_line, values_from, collections_of, judged_lines, judged_list}
use Rattle.daylist.proofs.Stops.{frames-count}

pub must-good : (b : Bool) (r : ListRefusal) (j : JudgedList) (n : ℕ) → must b r j ≡ Ok n → (b ≡ true) × (j ≡ Ok n)
must-good true r j n e = (refl, e)
must-good false r j n e = let z : ◌≡◌ {A = ℕ} 0 1 = cc in absurd (omega (arith, z))

-- a stage that found no fault
pub record Passed (i j : JudgedList) (n : ℕ) : Type 0 where
  pub told : ℕ
  pub here : i ≡ Ok told
  pub rest : j ≡ Ok n

pub next-good : (i j : JudgedList) (n : ℕ) → next i j ≡ Ok n → Passed i j n
next-good (Ok m) j n e = record { told = m; here = refl; rest = e }
next-good (Err r) j n e = let z : ◌≡◌ {A = ℕ} 0 1 = cc in absurd (omega (arith, z))

pub record GoodList (s : Bytes) (c n : ℕ) : Type 0 where
  pub bytes : length s ≤ most_bytes
  pub least : 1 ≤ c
  pub most : c ≤ most_ceiling
  pub some : 1 ≤ n
  pub few : n ≤ most_collections
  pub count : length (lines s) ≡ n + 1
  pub frames : frames_from 0 (lines s) ≡ Ok (n + 1)
  pub told : ℕ
  pub values : values_from 0 (lines s) ≡ Ok told

pub good-list : (s : Bytes) (c n : ℕ) → judged_list s c ≡ Ok n → GoodList s c n
good-list s c n e =
    let ls = lines s in
    let k = length ls in
    let a = must-good (leb (length s) most_bytes) TooLong _ n e in
    let b = must-good (between 1 most_ceiling c) Ceiling (judged_lines ls) n a.1 in
    let f = next-good (frames_from 0 ls) (collections_of k (next (values_from 0 ls) (Ok (k - 1)))) n b.1 in
    let d = must-good (leb 2 k) (NoCollection k) _ n f.rest in
    let m = must-good (leb k (1 + most_collections)) TooManyCollections _ n d.1 in
    let v = next-good (values_from 0 ls) (Ok (k - 1)) n m.1 in
    let t = true-T (between 1 most_ceiling c) b.0 in
    let g : k - 1 ≡ n = told (k - 1) n v.rest in
    let two : 2 ≤ k = leb-true 2 k d.0 in
    let w : k ≡ n + 1 = omega arith in
    let x : f.told ≡ n + 1 = omega (arith, frames-count 0 f.told ls f.here) in
    record {
      bytes = leb-true (length s) most_bytes a.0;
      least = leb-true 1 c (T_true (leb 1 c) (and_l (leb 1 c) (leb c most_ceiling) t));
      most = leb-true c most_ceiling (T_true (leb c most_ceiling) (and_r (leb 1 c) (leb c most_ceiling) t));
      some = omega arith;
      few = omega (arith, leb-true k (1 + most_collections) m.0);
      count = w;
      frames = rw (← x) f.here;
      told = v.told;
      values = v.here;
    }
  where
    told : (a b : ℕ) → ◌≡◌ {A = JudgedList} (Ok a) (Ok b) → a ≡ b
    told a b e = cc

pub of-good : (l : JudgedLine) (k n : ℕ) (r : JudgedList) → of_line l k r ≡ Ok n → (l ≡ Ok tt) × (r ≡ Ok n)
of-good (Ok u) k n r e = (refl, e)
of-good (Err b) k n r e = let z : ◌≡◌ {A = ℕ} 0 1 = cc in absurd (omega (arith, z))

module _ (d : Line) where
  pub frames-each : (k n : ℕ) (ls : List Line) → frames_from k ls ≡ Ok n → (i : ℕ) → i < length ls → is_frame (frame_of (k + i + 1)) (get_or ls i d) ≡ true
  frames-each k n [] e i h = absurd (not-suc-le-zero h)
  frames-each k n (l ∷ ls) e zero h =
      let z : k + 0 + 1 ≡ k + 1 = omega arith in
      rw z (must-good (is_frame (frame_of (k + 1)) l) (NotAFrame (k + 1)) (frames_from (k + 1) ls) n e).0
  frames-each k n (l ∷ ls) e (suc i) h =
      let z : k + suc i + 1 ≡ k + 1 + i + 1 = omega arith in
      rw z (frames-each (k + 1) n ls (must-good (is_frame (frame_of (k + 1)) l) (NotAFrame (k + 1)) (frames_from (k + 1) ls) n e).1 i (le_of_suc-le-suc h))

  pub values-each : (k n : ℕ) (ls : List Line) → values_from k ls ≡ Ok n → (i : ℕ) → i < length ls → judged_line (k + i + 1) (unhex (get_or ls i d).bytes) ≡ Ok tt
  values-each k n [] e i h = absurd (not-suc-le-zero h)
  values-each k n (l ∷ ls) e zero h =
      let z : k + 0 + 1 ≡ k + 1 = omega arith in
      rw z (of-good (judged_line (k + 1) (unhex l.bytes)) (k + 1) n (values_from (k + 1) ls) e).0
  values-each k n (l ∷ ls) e (suc i) h =
      let z : k + suc i + 1 ≡ k + 1 + i + 1 = omega arith in
      rw z (values-each (k + 1) n ls (of-good (judged_line (k + 1) (unhex l.bytes)) (k + 1) n (values_from (k + 1) ls) e).1 i (le_of_suc-le-suc h))
