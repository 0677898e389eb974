-- THE TAGS AT A PLACE: which child, or the closing tag, stands where one is due. Definitions that compute.
use Rattle.std.specs.Prelude.{ℕ, suc, max, true, false, [], ◌∷◌, eqb}
use Rattle.laws.specs.Bytes.{Bytes}
use Rattle.tree.specs.Form.{none, Elem, Items, opening, skips, after, item}

-- a word t held against the bytes s: the bytes after it, or how many of its bytes s has before they part
pub data Eat : Type 0 where
  ate : Bytes → Eat
  miss : ℕ → Eat

abbrev pub one_more : Eat → Eat
one_more (ate r) = ate r
one_more (miss n) = miss (suc n)

abbrev pub eat : Bytes → Bytes → Eat
eat [] s = ate s
eat (a ∷ t) [] = miss 0
eat (a ∷ t) (b ∷ s) = elim (eqb a b) [ true ↦ one_more (eat t s) | false ↦ miss 0 ]

-- what stands at a place where a tag is due: a child and what may follow it, the closing tag, or neither
-- (each with the bytes after the tag; where neither, how many bytes agree with the best candidate)
pub data Choice : Type 0 where
  stop : ℕ → Choice
  close : Bytes → Choice
  child : Elem → Items → Bytes → Choice

abbrev pub far : ℕ → Choice → Choice
far m (stop n) = stop (max m n)
far m (close r) = close r
far m (child e is r) = child e is r

abbrev pub closes : Eat → Choice
closes (ate r) = close r
closes (miss n) = stop n

abbrev pub choose : Items → Bytes → Bytes → Choice
choose none g s = closes (eat g s)
choose (item h e is) g s = elim (eat (opening e) s) [
  | ate r ↦ child e (after h e is) r
  | miss n ↦ elim (skips h) [ true ↦ far n (choose is g s) | false ↦ stop n ]
]
