-- THE EXECUTABLE READER, in the shape of the code: reading an element and reading its list of children call each other, by positions. All that it looks at
-- is the description, so it is one reader for every message kind.
use Rattle.std.specs.Prelude.{ℕ, zero, suc, ◌+◌, max, List, [], ◌∷◌, ◌++◌, length, drop}
use Rattle.laws.specs.Bytes.{Bytes, span}
use Rattle.tree.specs.Form.{Elem, Items, event, in_run, items, kind, part, opening, closing}
use Rattle.tree.specs.declared.Kind.TheVariants.{Holds}
use Rattle.tree.specs.declared.Event.{Event}
use Rattle.tree.specs.Tags.{Eat.ate, Eat.miss, eat, Choice, Choice.stop, Choice.close, Choice.child, choose}

-- how many bytes were read, with the events; or where it is stuck
pub data Got : Type 0 where
  got : ℕ → List Event → Got
  lost : ℕ → Got

-- m bytes and events in front of an answer
abbrev pub pass : ℕ → List Event → Got → Got
pass m es (got m' es') = got (m + m') (es ++ es')
pass m es (lost n) = lost (m + n)

abbrev pub Reads : Type 0
Reads = Items → Elem → ℕ → Bytes → Got

-- an element whose opening tag stands at p, with r after that tag
abbrev pub element : Reads → Elem → ℕ → Bytes → Got
element f c p r =
    let n = span (in_run (kind c)) r in
    pass (length (opening c) + n) (event (part c) (kind c) p (p + length (opening c)) n ∷ []) (f (items c) c (p + (length (opening c) + n)) (drop n r))

-- a child that begins s was read: white space, and then the other children of e
abbrev pub others : Reads → Items → Elem → ℕ → Bytes → Got → Got
others f is e p s (lost n) = lost n
others f is e p s (got m es) = let n = span (in_run Holds) (drop m s) in pass (m + n) es (f is e (p + (m + n)) (drop n (drop m s)))

abbrev pub kid_step : Reads → Elem → ℕ → Bytes → Choice → Got
kid_step f e p s (stop n) = lost n
kid_step f e p s (close r) = got (length (closing e)) []
kid_step f e p s (child c is r) = others f is e p s (element f c p r)

abbrev pub kids_by : ℕ → Items → Elem → ℕ → Bytes → Got
kids_by zero is e p s = lost 0
kids_by (suc k) is e p s = kid_step (λ is' e' p' s'. kids_by k is' e' p' s') e p s (choose is (closing e) s)

-- the children of e that are still to come (`is`) and its closing tag, where s begins with a tag at position p of the message. Its equation is `Right.kids-is`
unfoldable pub kids : Reads
kids is e p s = kids_by (length s) is e p s

-- ─── a whole message ───

-- the events, or the place of refusal 2
pub data Res : Type 0 where
  done : List Event → Res
  stuck : ℕ → Res

abbrev pub shift : ℕ → Res → Res
shift j (done es) = done es
shift j (stuck n) = stuck (j + n)

abbrev pub farther : ℕ → Res → Res
farther m (done es) = done es
farther m (stuck n) = stuck (max m n)

-- the events of a root that was read, where nothing but white space r is left
abbrev pub at_end : List Event → Bytes → Res
at_end es [] = done es
at_end es (c ∷ s) = stuck 0

-- after the root, which begins s: white space, and no more
abbrev pub finish : Bytes → Got → Res
finish s (lost n) = stuck n
finish s (got m es) = let n = span (in_run Holds) (drop m s) in shift (m + n) (at_end es (drop n (drop m s)))

-- where the root's tag is due
abbrev pub start : Elem → ℕ → Bytes → Res
start root p s = elim (eat (opening root) s) [ ate r ↦ finish s (element kids root p r) | miss n ↦ stuck n ]

-- white space, then the root
abbrev pub lead : Elem → ℕ → Bytes → Res
lead root p s = let n = span (in_run Holds) s in shift n (start root (p + n) (drop n s))

abbrev pub read : Bytes → Elem → Bytes → Res
read decl root s = elim (eat decl s) [ ate r ↦ shift (length decl) (lead root (length decl) r) | miss n ↦ farther n (lead root 0 s) ]
