-- FINDING ELEMENTS AMONG CONTENTS that are put together from pieces.
--   without n, above k                 of a content: not of the part n; of no part, or of a part from k on
--   each_append, each-gather           each of what is put together passes a test
--   above-without                      no element below k is among those above k
--   all_append, all_without            the elements of a part
--   before-without, parts-without      pieces without the part
--   Piece n cs, parts-gather           a first element of the part n and no other; such pieces, one after the other
use Prim.Native.Nat.{ℕ, ◌≤◌, ◌<◌}
use native.Mathlib.Omega.{arith}
use mathlib.Core.Bool.{Bool, true, false, not, ◌||◌}
use mathlib.Core.List.{List, [], ◌∷◌, ◌++◌, map, append-nil}
use mathlib.Core.Path.{◌≡◌, refl, ap, ap₂, sym, ◌∙◌}
use lib.Dec.{T, eqb, leb, eqb→eq, leb→le}
use Rattle.laws.specs.Lists.{gather}
use Rattle.laws.proofs.Below.{each}
use Rattle.laws.proofs.Tests.{eqb-cases, and_l, and_r, and_both, T_true, T_false}
use Rattle.carries.specs.Contents.{Content, is, before, parts, all_of}

-- ─── tests of each ───

abbrev pub without : ℕ → Content → Bool
without n c = not (is n c)

abbrev pub above : ℕ → Content → Bool
above k c = eqb c.part 0 || leb k c.part

module _ (p : Content → Bool) where
  pub each_append : (a b : List Content) → T (each p a) → T (each p b) → T (each p (a ++ b))
  each_append [] b s t = t
  each_append (c ∷ a) b s t = and_both (p c) (each p (a ++ b)) (and_l (p c) (each p a) s) (each_append a b (and_r (p c) (each p a) s) t)

  pub each-gather : {A : Type 0} (f : A → List Content) (xs : List A) → ((x : A) → T (each p (f x))) → T (each p (gather f xs))
  each-gather f [] h = tt
  each-gather f (x ∷ xs) h = each_append (f x) (gather f xs) (h x) (each-gather f xs h)

  pub each_imp : (q : Content → Bool) (cs : List Content) → ((c : Content) → T (p c) → T (q c)) → T (each p cs) → T (each q cs)
  each_imp q [] h t = tt
  each_imp q (c ∷ cs) h t = and_both (q c) (each q cs) (h c (and_l (p c) (each p cs) t)) (each_imp q cs h (and_r (p c) (each p cs) t))

not-above : (k n : ℕ) → 1 ≤ n → n < k → (a b : Bool) → (T a → n ≡ 0) → (T b → k ≤ n) → T (a || b) → ⊥
not-above k n h l true b f g t = omega (arith, f tt)
not-above k n h l false true f g t = omega (arith, g tt)
not-above k n h l false false f g t = t

pub above-without : (k n : ℕ) → 1 ≤ n → n < k → (cs : List Content) → T (each (above k) cs) → T (each (without n) cs)
above-without k n h l cs = each_imp (above k) (without n) cs one
  where
    one : (c : Content) → T (above k c) → T (without n c)
    one c t = eqb-cases (λ z. T (not z)) c.part n
        (λ e. absurd (not-above k n h l (eqb c.part 0) (leb k c.part) (λ u. sym e ∙ eqb→eq c.part 0 u) (λ u. omega (arith, leb→le k c.part u)) t)) (λ d. tt)

-- ─── elements and parts ───

module _ (n : ℕ) where
  pub all_append : (a b : List Content) → all_of n (a ++ b) ≡ all_of n a ++ all_of n b
  all_append [] b = refl
  all_append (c ∷ a) b = go (is n c) (all_append a b)
    where
      go : (z : Bool) → all_of n (a ++ b) ≡ all_of n a ++ all_of n b → elim z [ true ↦ c ∷ all_of n (a ++ b) | false ↦ all_of n (a ++ b) ] ≡ elim z [ true ↦ c ∷ all_of n a | false ↦ all_of n a ] ++ all_of n b
      go true e = ap {B = List Content} (λ (l : List Content). c ∷ l) e
      go false e = e

  -- an element of another part, and one of this part
  not_it : (c : Content) (cs : List Content) → T (each (without n) (c ∷ cs)) → is n c ≡ false
  not_it c cs t = T_false (is n c) (and_l (without n c) (each (without n) cs) t)

  nor_behind : (c : Content) (cs : List Content) → T (each (without n) (c ∷ cs)) → T (each (without n) cs)
  nor_behind c cs t = and_r (without n c) (each (without n) cs) t

  all_no : (c : Content) (cs : List Content) → is n c ≡ false → all_of n (c ∷ cs) ≡ all_of n cs
  all_no c cs e = ap {B = List Content} (λ (z : Bool). elim z [ true ↦ c ∷ all_of n cs | false ↦ all_of n cs ]) e

  before-is : (c : Content) (cs : List Content) (z : Bool) → is n c ≡ z → before n (c ∷ cs) ≡ elim z [ true ↦ [] | false ↦ c ∷ before n cs ]
  before-is c cs z e = ap {B = List Content} (λ (z : Bool). elim z [ true ↦ [] | false ↦ c ∷ before n cs ]) e

  parts_is : (c : Content) (cs : List Content) (z : Bool) → is n c ≡ z → parts n (c ∷ cs) ≡ elim z [ true ↦ (c ∷ before n cs) ∷ parts n cs | false ↦ parts n cs ]
  parts_is c cs z e = ap {B = List (List Content)} (λ (z : Bool). elim z [ true ↦ (c ∷ before n cs) ∷ parts n cs | false ↦ parts n cs ]) e

  pub all_without : (cs : List Content) → T (each (without n) cs) → all_of n cs ≡ []
  all_without [] t = refl
  all_without (c ∷ cs) t = all_no c cs (not_it c cs t) ∙ all_without cs (nor_behind c cs t)

  pub before-without : (cs r : List Content) → T (each (without n) cs) → before n (cs ++ r) ≡ cs ++ before n r
  before-without [] r t = refl
  before-without (c ∷ cs) r t =
      before-is c (cs ++ r) false (not_it c cs t) ∙ ap {B = List Content} (λ (l : List Content). c ∷ l) (before-without cs r (nor_behind c cs t))

  pub parts-without : (cs r : List Content) → T (each (without n) cs) → parts n (cs ++ r) ≡ parts n r
  parts-without [] r t = refl
  parts-without (c ∷ cs) r t = parts_is c (cs ++ r) false (not_it c cs t) ∙ parts-without cs r (nor_behind c cs t)

  -- ─── pieces ───

  pub record Piece (cs : List Content) : Type 0 where
    pub first : Content
    pub rest : List Content
    pub whole : cs ≡ first ∷ rest
    pub plays : T (is n first)
    pub no_other : T (each (without n) rest)

  module _ {A : Type 0} (f : A → List Content) (h : (x : A) → Piece (f x)) where
    before-gather : (xs : List A) → before n (gather f xs) ≡ []
    before-gather [] = refl
    before-gather (x ∷ xs) =
        let p = h x in
        ap (λ (l : List Content). before n (l ++ gather f xs)) p.whole ∙ before-is p.first (p.rest ++ gather f xs) true (T_true (is n p.first) p.plays)

    pub parts-gather : (xs : List A) → parts n (gather f xs) ≡ map f xs
    parts-gather [] = refl
    parts-gather (x ∷ xs) =
        let p = h x in
        ap (λ (l : List Content). parts n (l ++ gather f xs)) p.whole
        ∙ parts_is p.first (p.rest ++ gather f xs) true (T_true (is n p.first) p.plays)
        ∙ ap₂ {C = List (List Content)} (λ (a : List Content) (b : List (List Content)). (p.first ∷ a) ∷ b)
        (before-without p.rest (gather f xs) p.no_other ∙ ap (λ (l : List Content). p.rest ++ l) (before-gather xs) ∙ append-nil p.rest)
        (parts-without p.rest (gather f xs) p.no_other ∙ parts-gather xs)
        ∙ ap {B = List (List Content)} (λ (l : List Content). l ∷ map f xs) (sym p.whole)
