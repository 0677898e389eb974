-- BUILDING TREES of a description without white space: one block for each way in which an element can stand. To be believed; definitions only.
--   text s                    a text; the byte `<`, which no good text has, is left out
--   leaf s, node ks           an element with the text s; an element that holds elements
--   t before ks, t given ks, absent ks, only t    children in order; `?` that is there; `?` that is not; the last child
--   this t, other t           `|`: the first of the two; the second
--   several t ts              one or more: the trees ts; t stands in where there is none, which no message for a good list needs
use Rattle.std.specs.Prelude.{ℕ, Bool, List, [], ◌∷◌, T}
use Rattle.laws.specs.Bytes.{Bytes, all}
use Rattle.laws.specs.Lists.{put_if, keep}
use Rattle.laws.proofs.Tests.{bool_cases, and_both}
use Rattle.text.specs.declared.Rule.{Rule}
use Rattle.tree.specs.declared.Kind.TheVariants.{Holds, Text}
use Rattle.tree.specs.Form.{Elem, Items, Tree, Kids, Run, in_text, Elem.elem, Items.item, Items.none, Tree.tree, Kids.end, Kids.skip, Kids.take, How.once, How.maybe, How.any, How.one_or_more}
use Rattle.tree.specs.Pain008.{◌or◌}

-- what a test keeps passes it
pub all-kept : (p : ℕ → Bool) (s : Bytes) → T (all p (keep p s))
all-kept p [] = tt
all-kept p (c ∷ s) = bool_cases (λ z. (T z → T (p c)) → T (all p (put_if z c (keep p s)))) (p c)
    (λ t f. and_both (p c) (all p (keep p s)) (f tt) (all-kept p s)) (λ t f. all-kept p s) (λ t. t)

abbrev pub text : {r : Rule} → Bytes → Run (Text r)
text s = record { run = keep in_text s; fits = all-kept in_text s }

-- no white space
abbrev pub bare : Run Holds
bare = record { run = []; fits = tt }

abbrev pub leaf : {p : ℕ} {nm at : Bytes} {r : Rule} → Bytes → Tree (elem p nm at (Text r) none)
leaf s = tree (text s) end

abbrev pub node : {p : ℕ} {nm at : Bytes} {is : Items} → Kids is → Tree (elem p nm at Holds is)
node ks = tree bare ks

infixr 20 ◌before◌
abbrev pub ◌before◌ : {e : Elem} {is : Items} → Tree e → Kids is → Kids (item once e is)
t before ks = take t bare ks

infixr 20 ◌given◌
abbrev pub ◌given◌ : {e : Elem} {is : Items} → Tree e → Kids is → Kids (item maybe e is)
t given ks = take t bare ks

abbrev pub absent : {e : Elem} {is : Items} → Kids is → Kids (item maybe e is)
absent ks = skip tt ks

abbrev pub only : {e : Elem} → Tree e → Kids (item once e none)
only t = take t bare end

abbrev pub this : {a b : Elem} → Tree a → Kids (a or b)
this t = take t bare end

abbrev pub other : {a b : Elem} → Tree b → Kids (a or b)
other t = skip tt (only t)

abbrev pub more : {e : Elem} → List (Tree e) → Kids (item any e none)
more [] = skip tt end
more (t ∷ ts) = take t bare (more ts)

abbrev pub several : {e : Elem} → Tree e → List (Tree e) → Kids (item one_or_more e none)
several d [] = take d bare (more [])
several d (t ∷ ts) = take t bare (more ts)
