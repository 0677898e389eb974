-- EACH WAY OF OCCURRING, by cases: how often an element may stand, on a small tree of its own. What the reader computes holds of `OfForm` by
-- `is_of_form` and `is_not_of_form` of Cases.
--   counts h        for 0, 1, 2 and 3 elements of the way h before a last one: is the message of the form?
--   ways-right      once: only 1; maybe: 0, 1; at most two: 0, 1, 2; any: all; one or more: all but 0
--   choice-right    a | b: either one, and neither none nor both
--   accepted o      the answer o is that a message is of the form
use Prim.Native.Nat.{ℕ, zero, suc}
use Prim.Native.String.{String}
use mathlib.Core.Bool.{Bool, true, false}
use mathlib.Core.List.{List, [], ◌∷◌, ◌++◌}
use mathlib.Core.Path.{◌≡◌, refl}
use Rattle.laws.specs.Bytes.{Bytes, ascii}
use Rattle.tree.specs.Form.{How, Elem, Items, elem, none, item, once, maybe, at_most_two, any, one_or_more, this_or_next}
use Rattle.tree.specs.declared.Kind.TheVariants.{Holds}
use Rattle.tree.specs.Reader.{Res, Res.done, Res.stuck, read, kids}

-- ─── a small tree: <r>, elements <a> of the way h, then one <z> ───

abbrev leaf : String → Elem
leaf nm = elem 0 (ascii nm) [] Holds none

abbrev root : Items → Elem
root is = elem 0 (ascii "r") [] Holds is

abbrev decl : Bytes
decl = ascii "?"

abbrev pub accepted : Res → Bool
accepted (done es) = true
accepted (stuck n) = false

abbrev is : Items → Bytes → Bool
is i s = accepted (read decl (root i) (ascii "<r>" ++ (s ++ ascii "</r>")))

abbrev copies : ℕ → Bytes
copies zero = ascii "<z></z>"
copies (suc n) = ascii "<a></a> " ++ copies n

abbrev counts : How → List Bool
counts h = let i = item h (leaf "a") (item once (leaf "z") none) in is i (copies 0) ∷ is i (copies 1) ∷ is i (copies 2) ∷ is i (copies 3) ∷ []

pub ways-right :
    (counts once ≡ false ∷ true ∷ false ∷ false ∷ [])
    × (counts maybe ≡ true ∷ true ∷ false ∷ false ∷ [])
    × (counts at_most_two ≡ true ∷ true ∷ true ∷ false ∷ [])
    × (counts any ≡ true ∷ true ∷ true ∷ true ∷ [])
    × (counts one_or_more ≡ false ∷ true ∷ true ∷ true ∷ [])
unfolding kids
ways-right = (refl, refl, refl, refl, refl)

-- a | b
abbrev choice : Items
choice = item this_or_next (leaf "a") (item once (leaf "b") none)

pub choice-right :
    is choice (ascii "<a></a>") ∷ is choice (ascii "<b></b>") ∷ is choice [] ∷ is choice (ascii "<a></a><b></b>") ∷ []
    ≡ true ∷ true ∷ false ∷ false ∷ []
unfolding kids
choice-right = refl
