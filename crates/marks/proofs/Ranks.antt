-- WHAT THE RANK OF A BYTE SAYS, in plain variables.
--   rank-at                     a table that begins with the ranks has the rank of each byte at its place; ranks-long: it is long enough
--   least-letter                a byte whose rank is 1 at least is of the letter set
--   all-lettered                a text of such bytes is one of letters
--   unslashed                   a text of bytes whose rank is 2 has no slash at its ends, and no two running
use Prim.Native.Nat.{ℕ, zero, suc, ◌+◌, ◌<◌, ◌≤◌}
use native.Mathlib.Nat.{zero-add, not-suc-le-zero, le_of_suc-le-suc}
use native.Mathlib.Omega.{arith}
use mathlib.Core.Bool.{Bool, true, false, ◌&&◌, ◌||◌}
use mathlib.Core.List.{[], ◌∷◌}
use mathlib.Core.Path.{◌≡◌, refl, sym, ap, ◌∙◌}
use lib.Dec.{T, eqb, leb→le}
use borrow.Author.Tests.{ne_eqb}
use lib.ListN.{length, take, get_or, length-take}
use lib.Seq.{get_or-take}
use Rattle.laws.specs.Bytes.{Bytes, all}
use Rattle.laws.proofs.Tests.{and_l, and_r, and_both, bool_cases, eqb-cases}
use Rattle.laws.proofs.Loops.{same_eq}
use Rattle.marks.specs.Marks.{letter, slashed}
use Rattle.marks.specs.Ranks.{rank, ranks_from, at_least, ranked}
use Rattle.marks.proofs.Slashes.{joined, joined-slashed}

-- ─── a table of ranks ───

ranks-at : (c n i : ℕ) → i < n → get_or (ranks_from c n) i 0 ≡ rank (c + i)
ranks-at c zero i h = absurd (not-suc-le-zero h)
ranks-at c (suc n) zero h = let e : c ≡ c + 0 = omega arith in ap rank e
ranks-at c (suc n) (suc i) h = let e : suc c + i ≡ c + suc i = omega arith in ranks-at (suc c) n i (le_of_suc-le-suc h) ∙ ap rank e

ranks-length : (c n : ℕ) → length (ranks_from c n) ≡ n
ranks-length c zero = refl
ranks-length c (suc n) = ap suc (ranks-length (suc c) n)

module _ (t : Bytes) (h : T (ranked t)) where
  front : take 256 t ≡ ranks_from 0 256
  unfolding ranked
  front = same_eq (take 256 t) (ranks_from 0 256) h

  pub ranks-long : 256 ≤ length t
  ranks-long = omega (arith, ap length front, ranks-length 0 256, length-take 256 t)

  pub rank-at : (c : ℕ) → c < 256 → get_or t c 0 ≡ rank c
  rank-at c l = sym (get_or-take 256 t c 0 l) ∙ ap (λ (s : Bytes). get_or s c 0) front ∙ ranks-at 0 256 c l ∙ ap rank (zero-add c)

-- ─── what a rank says ───

rank-cases : (P : ℕ → Type 0) (c : ℕ) → (T (letter c) → c ≡ 47 → P 1) → (T (letter c) → (c ≡ 47 → ⊥) → P 2) → P 0 → P (rank c)
rank-cases P c f g z =
    bool_cases (λ b. P (elim b [ true ↦ elim (eqb c 47) [ true ↦ 1 | false ↦ 2 ] | false ↦ 0 ])) (letter c)
    (λ l. eqb-cases (λ b. P (elim b [ true ↦ 1 | false ↦ 2 ])) c 47 (f l) (g l)) (λ n. z)

module _ (k c : ℕ) (t : T (at_least k c)) where
  pub least-letter : 1 ≤ k → T (letter c)
  least-letter h = rank-cases (λ r. k ≤ r → T (letter c)) c (λ l e u. l) (λ l n u. l) (λ u. absurd (omega arith)) (leb→le k (rank c) t)

  least-plain : 2 ≤ k → eqb 47 c ≡ false
  least-plain h = rank-cases (λ r. k ≤ r → eqb 47 c ≡ false) c (λ l e u. absurd (omega arith)) (λ l n u. ne_eqb 47 c (λ e. n (sym e))) (λ u. absurd (omega arith)) (leb→le k (rank c) t)

-- ─── of a text ───

pub all-lettered : (k : ℕ) → 1 ≤ k → (s : Bytes) → T (all (at_least k) s) → T (all letter s)
all-lettered k h [] t = tt
all-lettered k h (c ∷ s) t =
    and_both (letter c) (all letter s) (least-letter k c (and_l (at_least k c) (all (at_least k) s) t) h) (all-lettered k h s (and_r (at_least k c) (all (at_least k) s) t))

neither : (a b d : Bool) → b ≡ false → d ≡ false → ((a && b) || d) ≡ false
neither true b d e f = rw (e, f)
neither false b d e f = f

plain-first : (c : ℕ) (s : Bytes) → T (all (at_least 2) (c ∷ s)) → eqb 47 c ≡ false
plain-first c s t = least-plain 2 c (and_l (at_least 2 c) (all (at_least 2) s) t) (omega arith)

unjoined : (b c : ℕ) (s : Bytes) → T (all (at_least 2) (c ∷ s)) → joined b (c ∷ s) ≡ false
unjoined b c [] t = neither (eqb 47 b) (eqb 47 c) (eqb 47 c) (plain-first c [] t) (plain-first c [] t)
unjoined b c (d ∷ s) t =
    neither (eqb 47 b) (eqb 47 c) (joined c (d ∷ s)) (plain-first c (d ∷ s) t) (unjoined c d s (and_r (at_least 2 c) (all (at_least 2) (d ∷ s)) t))

pub unslashed : (s : Bytes) → 1 ≤ length s → T (all (at_least 2) s) → slashed s ≡ false
unslashed [] h t = absurd (not-suc-le-zero h)
unslashed (c ∷ s) h t = sym (joined-slashed (c ∷ s) h) ∙ unjoined 47 c s t
