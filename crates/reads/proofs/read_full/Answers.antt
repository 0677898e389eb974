-- What a read put into the rest of the buffer stands after what was there, and is what the input lost.
use Rattle.std.proofs.Common.{◌≡◌, ℕ, ◌+◌, ◌≤◌, List, ◌++◌, rules, length, take, drop, sym, ap, ◌∙◌, subst, le_refl, drop_at, length-take-le}
use Rattle.std.proofs.lemmas.List.{take-append-le}
use Rattle.std.proofs.lemmas.Slice.{take-put_mid_below}
use Rattle.std.proofs.Math.Seq.{take-add}
use Rattle.std.specs.Io.KnownBytes.{Consumes}
use Rattle.std.proofs.KnownBytes.{Consumes-trans}
use borrow.Rule.Slice.PartMut.{put_mid, post_of}
use Rattle.reads.proofs.read_full.Goals as goal

-- the buffer up to where n more bytes were put
filled : (at room n : ℕ) (buf part : List ℕ) → at ≤ length buf → n ≤ length part → take at buf ++ take n part ≡ take (at + n) (put_mid at room buf part)
filled at room n buf part within fits =
    let after = post_of at room buf in
    let front = take-put_mid_below at room buf part at (le_refl at) within in
    let rest : drop at (put_mid at room buf part) ≡ part ++ after = drop_at (take at buf) (part ++ after) at (length-take-le at buf within) in
    sym (take-add at n (put_mid at room buf part) ∙ ap (λ l. l ++ take n (drop at (put_mid at room buf part))) front
    ∙ ap (λ l. take at buf ++ take n l) rest ∙ ap (λ l. take at buf ++ l) (take-append-le n part after fits))

pub loop-done-preserved : goal.loop-done-preserved
loop-done-preserved g c = record {
  room = search rules;
  in_bounds = search rules;
  bytes = subst (Consumes _ _) (filled c.loop-done.done _ c.in_ok-n.n c.loop-done.buf c.read.new.buf c.loop-done.invariant.in_bounds c.in_ok-n.ensures.bound.0)
      (Consumes-trans _ _ _ _ _ c.loop-done.invariant.bytes c.in_ok-n.ensures.bytes.0);
}
