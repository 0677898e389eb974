-- FOLDS OVER THE EVENTS, generic.
--   or_none, or_assoc the first of two, or of three, that is there
--   fold, project     a part of the state that goes by itself
--   keeps             a state that keeps the last element of a part
--   stays             what no event changes
--   turn, run, sections   a state that is closed and opened again at each element of a part n, folded over all events, runs over the parts that begin with n
--   run_view          what is seen of it, where each part adds something
--   none_before       no element of the part n stands before the first
use Prim.Native.Nat.{ℕ}
use mathlib.Core.Bool.{Bool, true, false}
use mathlib.Core.List.{List, [], ◌∷◌, map}
use mathlib.Core.Option.{Option, none, some}
use mathlib.Core.Path.{◌≡◌, refl, ap, sym, ◌∙◌}
use Rattle.message.specs.declared.Told.{Told}
use Rattle.message.specs.Message.{is, before, parts, all_of, last_or}
use Rattle.message.specs.Verdict.{or_else}
use Rattle.heard.specs.State.{if_true}

-- two cases
pub by_bool : (P : Bool → Type 0) (z : Bool) → P true → P false → P z
by_bool P true a b = a
by_bool P false a b = b

-- the first of two that is there
module _ {A : Type 0} where
  pub or_none : (a : Option A) → or_else a none ≡ a
  or_none none = refl
  or_none (some x) = refl

  pub or_assoc : (a b c : Option A) → or_else (or_else a b) c ≡ or_else a (or_else b c)
  or_assoc none b c = refl
  or_assoc (some x) b c = refl

abbrev pub fold : {S E : Type 0} → (S → E → S) → S → List E → S
fold f s [] = s
fold f s (e ∷ es) = fold f (f s e) es

-- g sees a part of the state that goes by itself, by r
pub project : {S R E : Type 0} (f : S → E → S) (r : R → E → R) (g : S → R) → ((s : S) (e : E) → g (f s e) ≡ r (g s) e)
    → (s : S) (es : List E) → g (fold f s es) ≡ fold r (g s) es
project f r g h s [] = refl
project f r g h s (e ∷ es) = project f r g h (f s e) es ∙ ap (λ x. fold r x es) (h s e)

-- a state that keeps the last n, seen through v
pub keeps : {R : Type 0} (n : ℕ) (v : Told → R) (d : Option Told) (see : Option Told → R) → ((t : Told) → see (some t) ≡ v t)
    → (ts : List Told) → fold (λ (x : R) (t : Told). if_true (is n t) (v t) x) (see d) ts ≡ see (last_or d (all_of n ts))
keeps n v d see h [] = refl
keeps {R} n v d see h (t ∷ ts) =
    by_bool (λ z. fold (λ (x : R) (u : Told). if_true (is n u) (v u) x) (if_true z (v t) (see d)) ts ≡ see (last_or d (elim z [ true ↦ t ∷ all_of n ts | false ↦ all_of n ts ]))) (is n t)
    (ap (λ x. fold (λ (x : R) (u : Told). if_true (is n u) (v u) x) x ts) (sym (h t)) ∙ keeps n v (some t) see h ts)
    (keeps n v d see h ts)

-- what no event changes
pub stays : {S R : Type 0} (f : S → Told → S) (g : S → R) → ((s : S) (t : Told) → g (f s t) ≡ g s) → (s : S) (ts : List Told) → g (fold f s ts) ≡ g s
stays f g h s [] = refl
stays f g h s (t ∷ ts) = stays f g h (f s t) ts ∙ h s t

pub none_before : (n : ℕ) (ts : List Told) → all_of n (before n ts) ≡ []
none_before n [] = refl
none_before n (t ∷ ts) = go (is n t) refl (none_before n ts)
  where
    go : (z : Bool) → is n t ≡ z → all_of n (before n ts) ≡ [] → all_of n (elim z [ true ↦ [] | false ↦ t ∷ before n ts ]) ≡ []
    go true e h = refl
    go false e h = ap (λ (w : Bool). elim w [ true ↦ t ∷ all_of n (before n ts) | false ↦ all_of n (before n ts) ]) e ∙ h

-- ─── sections: at each element of the part n, `next` closes the open one and opens another ───

module _ {A : Type 0} (n : ℕ) (f : A → Told → A) (next : A → A) where
  abbrev pub turn : A → Told → A
  turn a t = f (if_true (is n t) (next a) a) t

  -- part after part
  abbrev pub run : A → List (List Told) → A
  run a [] = a
  run a (p ∷ ps) = run (fold f (next a) p) ps

  pub sections : (a : A) (ts : List Told) → fold turn a ts ≡ run (fold f a (before n ts)) (parts n ts)
  sections a [] = refl
  sections a (t ∷ ts) =
      by_bool (λ z. fold turn (f (if_true z (next a) a) t) ts
      ≡ run (fold f a (elim z [ true ↦ [] | false ↦ t ∷ before n ts ])) (elim z [ true ↦ (t ∷ before n ts) ∷ parts n ts | false ↦ parts n ts ])) (is n t)
      (sections (f (next a) t) ts)
      (sections (f a t) ts)

  -- a view to which each part adds what is made of it
  pub run_view : {B X : Type 0} (view : A → B) (add : B → X → B) (of : List Told → X)
      → ((a : A) (p : List Told) → view (fold f (next a) p) ≡ add (view a) (of p))
      → (a : A) (ps : List (List Told)) → view (run a ps) ≡ fold add (view a) (map of ps)
  run_view view add of each a [] = refl
  run_view view add of each a (p ∷ ps) = run_view view add of each (fold f (next a) p) ps ∙ ap (λ v. fold add v (map of ps)) (each a p)
