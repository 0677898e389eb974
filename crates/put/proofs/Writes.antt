-- THE LAWS OF `Wrote`, and of numbers as they are written.
--   wrote_nil, wrote_then    nothing; one writer after another
--   wrote_part, wrote_short  a part of the output that was lent and has come back as the bytes; no room
--   decimal-last, decimal-more    one digit; one digit more
--   store_front              the part from a store on, with the byte that was stored
use Prim.Native.Nat.{ℕ, zero, suc, ◌+◌, ◌-◌, ◌/◌, ◌≤◌, ◌<◌}
use native.Mathlib.Omega.{arith}
use mathlib.Core.List.{[], ◌∷◌, ◌++◌}
use mathlib.Core.Path.{◌≡◌, refl, sym, ◌∙◌}
use borrow.Author.Tests.{lt-ltb, le-ltb}
use lib.ListN.{length, take, drop, set, length-append}
use lib.Seq.{set_split, drop_at, length-take-le}
use Rattle.laws.specs.Bytes.{Bytes}
use Rattle.laws.proofs.Puts.{put_nil, put-append, put_back, length-put}
use Rattle.put.specs.Numerals.{last_digit, decimal_of}
use Rattle.put.specs.Wrote.{Wrote}
use Rattle.put.specs.declared.Output.{Output}
use Rattle.laws.specs.Put.{put_at}
use Rattle.std.proofs.Common.{MutBor}

-- ─── what a writer promises ───

pub wrote_nil : (o : Output) → Wrote o o []
wrote_nil o = record { reference = refl; end = omega arith; same = refl; is = λ _. sym (put_nil o.bytes.now o.at) }

pub wrote_then : {o o1 o2 : Output} (xs ys : Bytes) → Wrote o o1 xs → Wrote o1 o2 ys → Wrote o o2 (xs ++ ys)
wrote_then {o} {o1} {o2} xs ys f g = record {
  reference = g.reference ∙ f.reference;
  end = simp length-append (omega (arith, f.end, g.end));
  same = g.same ∙ f.same;
  is = λ h.
      let n : length (xs ++ ys) ≡ length xs + length ys = length-append xs ys in
      g.is (omega (arith, f.end, f.same)) ∙ rw (f.is (omega arith), f.end) (sym (put-append o.bytes.now o.at xs ys (omega arith)));
}

-- a part of the output was lent, and has come back as the bytes
pub wrote_part : (o : Output) (b : MutBor Bytes) (end : ℕ) (ys bs : Bytes) → b.ghost_name ≡ o.bytes.ghost_name
    → b.now ≡ take o.at o.bytes.now ++ (ys ++ drop (end - o.at) (drop o.at o.bytes.now))
    → end ≡ o.at + length bs → end ≤ length o.bytes.now → ys ≡ bs → Wrote o (record { bytes = b; at = end }) bs
wrote_part o b end ys bs same is e room f =
    let put : b.now ≡ put_at o.bytes.now o.at bs = is ∙ rw f (put_back o.bytes.now bs o.at end (omega arith) (omega arith)) in
    record { reference = same; end = e; same = rw put (length-put o.bytes.now o.at bs (omega arith)); is = λ _. put }

-- the place moves on all the same
pub wrote_short : (o : Output) (end : ℕ) (bs : Bytes) → end ≡ o.at + length bs → length o.bytes.now < end → Wrote o (record { bytes = o.bytes; at = end }) bs
wrote_short o end bs e h = record { reference = refl; end = e; same = refl; is = λ room. absurd (omega arith) }

-- ─── numbers ───

pub decimal-last : (most n : ℕ) → 0 < most → n < 10 → decimal_of most n ≡ last_digit n ∷ []
unfolding decimal_of
decimal-last zero n h l = absurd (omega arith)
decimal-last (suc most) n h l = rw (lt-ltb n 10 l, decimal_of)

pub decimal-more : (most n : ℕ) → 0 < most → 10 ≤ n → decimal_of most n ≡ decimal_of (most - 1) (n / 10) ++ (last_digit n ∷ [])
unfolding decimal_of
decimal-more zero n h l = absurd (omega arith)
decimal-more (suc most) n h l = let p : suc most - 1 ≡ most = omega arith in rw (p, le-ltb n 10 l, decimal_of)

-- the part from a store on
pub store_front : (s : Bytes) (i v : ℕ) → 0 < i → i ≤ length s → drop (i - 1) (set s (i - 1) v) ≡ v ∷ drop i s
store_front s i v h l =
    let e : suc (i - 1) ≡ i = omega arith in
    rw (set_split s (i - 1) v (omega arith), drop_at (take (i - 1) s) _ (i - 1) (length-take-le (i - 1) s (omega arith)), e)
