-- A TABLE FILLED FROM THE FRONT, as far as it goes: `done` of its n numbers are written.
--   fill-go     one number more is written
--   fill_full   the table is full
--   fill_none   there is no number more
use Prim.Native.Nat.{ℕ, suc, ◌+◌, ◌-◌, ◌<◌, ◌≤◌}
use native.Mathlib.Omega.{arith}
use mathlib.Core.List.{List, [], ◌∷◌}
use mathlib.Core.Path.{◌≡◌}
use lib.ListN.{length, take, set}
use lib.Seq.{take-nil}
use Rattle.laws.specs.Put.{put_at}
use Rattle.laws.proofs.Puts.{put_nil, put-append, put_one}

module _ (table : List ℕ) (done n : ℕ) where
  pub fill-go : (v : ℕ) (rest : List ℕ) → done < length table → done < n → put_at table done (take (n - done) (v ∷ rest)) ≡ put_at (set table done v) (done + 1) (take (n - (done + 1)) rest)
  fill-go v rest h k =
      let e : n - done ≡ suc (n - (done + 1)) = omega arith in
      rw (e, put_one table done v h) (put-append table done (v ∷ []) (take (n - (done + 1)) rest) (omega arith))

  pub fill_full : (rest : List ℕ) → n ≤ done → put_at table done (take (n - done) rest) ≡ table
  fill_full rest h = let e : n - done ≡ 0 = omega arith in rw e (put_nil table done)

  pub fill_none : put_at table done (take (n - done) []) ≡ table
  fill_none = rw (take-nil (n - done)) (put_nil table done)
