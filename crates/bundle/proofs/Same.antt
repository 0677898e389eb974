-- THE SAME ITEMS, REPEATS COUNTED: `Same` says of every test that it holds as often in one list as in the other. Two plainer ways agree with it.
--   Occurs eq xs ys   each collection stands as often in one list as in the other: same_occurs, occurs_same
--   Perm xs ys        one list becomes the other by swaps of neighbours: perm_same, occurs_perm
use Prim.Native.Nat.{ℕ, ◌+◌, ◌≤◌}
use native.Mathlib.Omega.{arith}
use mathlib.Core.Bool.{Bool}
use mathlib.Core.List.{List, [], ◌∷◌, ◌++◌}
use mathlib.Core.Path.{◌≡◌, refl, ap, sym, ◌∙◌}
use mathlib.Core.Logic.{◌≢◌}
use Rattle.laws.specs.Lists.{one, count}
use Rattle.laws.proofs.Counts.{count-append}
use Rattle.bundle.specs.Bundle.{Same, Decides}
use Rattle.bundle.proofs.Equality.{eq_cases, eq_true}

pub data Perm {A : Type 0} : List A → List A → Type 0 where
  none : Perm [] []
  keeps : {x : A} {xs ys : List A} → Perm xs ys → Perm (x ∷ xs) (x ∷ ys)
  swaps : {x y : A} {xs : List A} → Perm (x ∷ y ∷ xs) (y ∷ x ∷ xs)
  then : {xs ys zs : List A} → Perm xs ys → Perm ys zs → Perm xs zs

module _ {A : Type 0} where
  pub perm_same : {xs ys : List A} → Perm xs ys → Same xs ys
  perm_same none p = refl
  perm_same (keeps {x = x} h) p = ap (λ (n : ℕ). one (p x) + n) (perm_same h p)
  perm_same (swaps {x = x} {y = y} {xs = xs}) p = omega arith
  perm_same (then h k) p = perm_same h p ∙ perm_same k p

  perm_refl : (xs : List A) → Perm xs xs
  perm_refl [] = none
  perm_refl (x ∷ xs) = keeps (perm_refl xs)

  -- x from the front to a place further on
  perm_middle : (x : A) (us vs : List A) → Perm (x ∷ (us ++ vs)) (us ++ x ∷ vs)
  perm_middle x [] vs = perm_refl (x ∷ vs)
  perm_middle x (u ∷ us) vs = then swaps (keeps (perm_middle x us vs))

module _ {A : Type 0} (eq : A → A → Bool) where
  abbrev pub Occurs : List A → List A → Type 0
  Occurs xs ys = (x : A) → count (eq x) xs ≡ count (eq x) ys

  pub same_occurs : (xs ys : List A) → Same xs ys → Occurs xs ys
  same_occurs xs ys h x = h (eq x)

-- where x stands
record Found {A : Type 0} (x : A) (ys : List A) : Type 0 where
  before : List A
  after : List A
  is : ys ≡ before ++ x ∷ after

module _ {A : Type 0} (eq : A → A → Bool) (d : Decides eq) where
  find : (x : A) (ys : List A) → 1 ≤ count (eq x) ys → Found x ys
  find x [] h = absurd (omega arith)
  find x (y ∷ ys) h = eq_cases eq d (λ z. 1 ≤ one z + count (eq x) ys → Found x (y ∷ ys)) x y here (later (find x ys)) h
    where
      here : x ≡ y → 1 ≤ 1 + count (eq x) ys → Found x (y ∷ ys)
      here e k = record { before = []; after = ys; is = ap {B = List A} (λ (a : A). a ∷ ys) (sym e) }

      later : (1 ≤ count (eq x) ys → Found x ys) → x ≢ y → 1 ≤ 0 + count (eq x) ys → Found x (y ∷ ys)
      later f n k = let r = f (omega arith) in record { before = y ∷ r.before; after = r.after; is = ap {B = List A} (λ (l : List A). y ∷ l) r.is }

  self-one : (x : A) → one (eq x x) ≡ 1
  self-one x = ap one (eq_true eq d x x refl)

  pub occurs_perm : (xs ys : List A) → Occurs eq xs ys → Perm xs ys
  occurs_perm [] [] h = none
  occurs_perm [] (y ∷ ys) h = absurd (omega (arith, h y, self-one y))
  occurs_perm (x ∷ xs) ys h = go (find x ys (omega (arith, h x, self-one x))) (occurs_perm xs)
    where
      go : Found x ys → ((zs : List A) → Occurs eq xs zs → Perm xs zs) → Perm (x ∷ xs) ys
      go r f = rw r.is (then (keeps (f (r.before ++ r.after) less)) (perm_middle x r.before r.after))
        where
          less : Occurs eq xs (r.before ++ r.after)
          less a = omega (arith, h a, ap (count (eq a)) r.is, count-append (eq a) r.before (x ∷ r.after), count-append (eq a) r.before r.after)

  pub occurs_same : (xs ys : List A) → Occurs eq xs ys → Same xs ys
  occurs_same xs ys h = perm_same (occurs_perm xs ys h)
