use Rattle.put.proofs.Writes.{wrote_part, wrote_short}
use Rattle.frames.proofs.Digits.{unhex-length}
use Rattle.frames.specs.Hex.{unhex}
use Rattle.laws.specs.Bytes.{Bytes}
use lib.ListN.{length, take, drop, length-drop}
use lib.Seq.{length-take-le, take-length}
use Prim.Native.Nat.{ℕ, ◌+◌, ◌-◌, ◌/◌, ◌≤◌}
use mathlib.Core.Path.{◌≡◌, ◌∙◌, refl}
use native.Mathlib.Omega.{arith}
use Rattle.put.proofs.Output.put_hex.Goals.{then-end-self, else-end-self}
use Rattle.put.proofs.Output.put_hex.Goals as goal

-- a part of the output that is there
part_length : (a e : ℕ) (s : Bytes) → e ≤ length s → length (take (e - a) (drop a s)) ≡ e - a
part_length a e s h = length-take-le (e - a) (drop a s) (omega (arith, length-drop a s))

whole : (s : Bytes) (n : ℕ) → n ≡ length s → take n (drop 0 s) ≡ s
whole s n e = rw e (take-length s)

place : (at n : ℕ) (s : Bytes) → length (unhex s) ≡ n → at + n ≡ at + length (unhex s)
place at n s e = rw e

pub bytes_from-requires : goal.bytes_from-requires
bytes_from-requires c =
    let o = c.args.self.now in
    let s = c.args.digits.now in
    omega (arith, unhex-length s, part_length o.at (o.at + length s / 2) o.bytes.now c.if-end-self.true)

pub returns : goal.returns
returns c =
    let o = c.args.self.now in
    let s = c.args.digits.now in
    let n = length s / 2 in
    let e = place o.at n s (unhex-length s) in
    elim c.if-end-self.branch [
      | then-end-self w ↦ rw w.self-is
          (wrote_part o _ (o.at + n) w.bytes_from.new.out (unhex s) refl refl e w.if-end-self.true
          (w.bytes_from.ensures ∙ whole (unhex s) (length (take (o.at + n - o.at) (drop o.at o.bytes.now))) (omega (arith, unhex-length s, part_length o.at (o.at + n) o.bytes.now w.if-end-self.true))))
      | else-end-self w ↦ rw w.self-is (wrote_short o (o.at + n) (unhex s) e w.if-end-self.false)
    ]
