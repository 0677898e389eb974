-- WHAT A LOOK AT A TEXT HAS SEEN, in plain variables.
--   ranked-byte              a byte of a rank, as the table has it
--   plain-text               the bytes of a rank, up to a tag, are the text
--   seen-identifier, seen_plain   such a text is good by its rule
use Prim.Native.Nat.{ℕ, suc, ◌+◌, ◌-◌, ◌<◌, ◌≤◌}
use native.Mathlib.Nat.{not-suc-le-zero, le_of_suc-le-suc}
use native.Mathlib.Omega.{arith}
use mathlib.Core.Bool.{Bool, true, false, not}
use mathlib.Core.List.{[], ◌∷◌}
use mathlib.Core.Path.{◌≡◌, refl, sym, ap, subst, subst⁻¹, ◌∙◌}
use lib.Dec.{T, leb}
use lib.ListN.{length, take, drop, get_or, length-drop}
use lib.Seq.{length-take-le, get_or-drop}
use Rattle.std.specs.Prelude.{Some, None, Ok}
use Rattle.laws.specs.Bytes.{Bytes, between, all, span}
use Rattle.laws.proofs.Tests.{T_true, true-T, eqb-cases}
use Rattle.laws.proofs.Loops.{all-span}
use Rattle.marks.specs.Marks.{letter}
use Rattle.marks.specs.Ranks.{rank, at_least, ranked}
use Rattle.marks.proofs.Ranks.{rank-at, least-letter, all-lettered, unslashed}
use Rattle.text.specs.Rules.{plain, identifier}
use Rattle.text.specs.Rules as rules
use Rattle.text.specs.declared.Rule.{Rule}
use Rattle.text.specs.declared.Rule.TheVariants.{Identifier}
use Rattle.text.proofs.Musts.{between_in}
use Rattle.tree.specs.Form.{in_text}
use Rattle.scan.proofs.Scans.{run_in}
use Rattle.look.specs.Look.{text_to, Plain, PlainLook, GoodLook, Look}

-- ─── a byte ───

pub ranked-byte : (t : Bytes) → T (ranked t) → (k c least : ℕ) → k ≡ c → k < 256 → leb least (get_or t k 0) ≡ at_least least c
ranked-byte t h k c least e l = ap (leb least) (rank-at t h k l ∙ ap rank e)

-- ─── the bytes of a rank, up to a tag ───

-- a run of a class that ends at a byte that is of no wider class
span_narrow : (p q : ℕ → Bool) → ((c : ℕ) → T (p c) → T (q c)) → (s : Bytes) → span p s < length s → q (get_or s (span p s) 0) ≡ false → span q s ≡ span p s
span_narrow p q f [] h e = absurd (not-suc-le-zero h)
span_narrow p q f (c ∷ s) h e = go (p c) refl h e (span_narrow p q f s)
  where
    go : (z : Bool) → p c ≡ z → elim z [ true ↦ suc (span p s) | false ↦ 0 ] < suc (length s) → q (get_or (c ∷ s) (elim z [ true ↦ suc (span p s) | false ↦ 0 ]) 0) ≡ false
        → (span p s < length s → q (get_or s (span p s) 0) ≡ false → span q s ≡ span p s)
        → span q (c ∷ s) ≡ elim z [ true ↦ suc (span p s) | false ↦ 0 ]
    go true w h e ih = rw (T_true (q c) (f c (true-T (p c) w)), span) (ap suc (ih (le_of_suc-le-suc h) e))
    go false w h e ih = rw (e, span)

module _ (least : ℕ) (some : 1 ≤ least) where
  -- a letter is no `<`
  in_text_lem : (c : ℕ) → T (at_least least c) → T (in_text c)
  in_text_lem c t = eqb-cases (λ z. T (not z)) c 60 (λ e. absurd (subst (λ (d : ℕ). T (letter d)) e (least-letter least c t some))) (λ n. tt)

  module _ (s : Bytes) (at end longest : ℕ) (room : at ≤ length s) (run : end ≡ at + span (at_least least) (drop at s)) where
    pub plain-text : end < length s → get_or s end 0 ≡ 60 → (end ≡ at → ⊥) → end - at ≤ longest → Plain least longest s at end
    plain-text l b n f = record {
      run = run ∙ ap (λ (k : ℕ). at + k) (sym (span_narrow (at_least least) in_text in_text_lem (drop at s) (omega (arith, run, length-drop at s)) stops));
      some = omega (arith, run, n);
      few = f;
      ranks = subst (λ (k : ℕ). T (all (at_least least) (take k (drop at s)))) long (all-span (at_least least) (drop at s));
    }
      where
        long : span (at_least least) (drop at s) ≡ end - at
        long = omega (arith, run)

        stops : in_text (get_or (drop at s) (span (at_least least) (drop at s)) 0) ≡ false
        stops = ap in_text (get_or-drop at s (span (at_least least) (drop at s)) 0 ∙ ap (λ (k : ℕ). get_or s k 0) (sym run) ∙ b)

-- ─── such a text is good ───

module _ (least longest : ℕ) (s : Bytes) (at end : ℕ) (room : at ≤ length s) (w : Plain least longest s at end) where
  size : length (text_to s at end) ≡ end - at
  size = length-take-le (end - at) (drop at s) (omega (arith, length-drop at s, run_in in_text s at end room w.run))

  sized : between 1 longest (length (text_to s at end)) ≡ true
  sized = between_in 1 longest (length (text_to s at end)) (omega (arith, size, w.some)) (omega (arith, size, w.few))

  lettered : 1 ≤ least → all letter (text_to s at end) ≡ true
  lettered h = T_true (all letter (text_to s at end)) (all-lettered least h (text_to s at end) w.ranks)

  plain-good : 1 ≤ least → plain longest (text_to s at end) ≡ Ok 0
  plain-good h = rw (sized, lettered h)

identifier-good : (s : Bytes) (at end : ℕ) → at ≤ length s → Plain 2 35 s at end → identifier (text_to s at end) ≡ Ok 0
identifier-good s at end room w =
    rw (sized 2 35 s at end room w, lettered 2 35 s at end room w (omega arith), unslashed (text_to s at end) (omega (arith, size 2 35 s at end room w, w.some)) w.ranks)

-- what a look with these two numbers has seen
module _ (s : Bytes) (at : ℕ) (room : at ≤ length s) (rule : Rule) (r : Look) (w : ℕ × ℕ) (h : PlainLook w.0 w.1 s at r) where
  -- the rule says good of it
  seen : (q : Rule) (least longest : ℕ) → ((end : ℕ) → Plain least longest s at end → rules.judged q (text_to s at end) ≡ Ok 0) → rule ≡ q → w ≡ (least, longest) → GoodLook rule s at r
  seen q least longest f e u =
      subst⁻¹ (λ (k : Rule). GoodLook k s at r) e (go r (subst (λ (v : ℕ × ℕ). PlainLook v.0 v.1 s at r) u h))
    where
      go : (x : Look) → PlainLook least longest s at x → GoodLook q s at x
      go (Some end) p = (p.run, f end p)
      go None p = tt

  pub seen-identifier : rule ≡ Identifier → w ≡ (2, 35) → GoodLook rule s at r
  seen-identifier = seen Identifier 2 35 (λ end. identifier-good s at end room)

  -- of a plain text whose rule is its length
  pub seen_plain : (q : Rule) (longest : ℕ) → ((x : Bytes) → rules.judged q x ≡ plain longest x) → rule ≡ q → w ≡ (1, longest) → GoodLook rule s at r
  seen_plain q longest p = seen q 1 longest (λ end k. p (text_to s at end) ∙ plain-good 1 longest s at end room k (omega arith))
