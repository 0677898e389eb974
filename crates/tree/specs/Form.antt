-- WHAT A MESSAGE OF THE FORM IS, for any description of a tree. To be believed; definitions only: nothing here says how to read.
--   How, Elem, Items             1. the description (Kind: white space, or a text of a rule)
--   Tree, Kids, print            2. the trees of a description, and their bytes
--   Event, says                  3. what a tree says
--   Message, OfForm, IsPlace, NotOfForm   4. messages, and the place of refusal 2
use Rattle.std.specs.Prelude.{ℕ, suc, ◌+◌, ◌≤◌, Bool, true, false, not, ◌||◌, List, [], ◌∷◌, ◌++◌, ◌≡◌, T, eqb, length}
use Rattle.laws.specs.Bytes.{Bytes, all}
use Rattle.tree.specs.declared.Kind.{Kind}
use Rattle.tree.specs.declared.Kind.TheVariants.{Holds, Text}
use Rattle.tree.specs.declared.Event.{Event}

-- ─── 1. The description ───

-- how often an element stands in a list of children
pub data How : Type 0 where
  once : How  -- exactly once
  maybe : How  -- once or not at all
  at_most_two : How  -- not at all, once or twice
  any : How  -- any number of times
  one_or_more : How  -- one or more times
  this_or_next : How  -- either this one, or the next item of the list: `a | b` is `this_or_next a` before `once b`

mutual
  -- an element: the part that it plays, its name, what its opening tag has after the name, its kind, its children
  pub data Elem : Type 0 where
    elem : ℕ → Bytes → Bytes → Kind → Items → Elem

  -- its children in order
  pub data Items : Type 0 where
    none : Items
    item : How → Elem → Items → Items

abbrev pub part : Elem → ℕ
part (elem p nm at k is) = p

abbrev pub kind : Elem → Kind
kind (elem p nm at k is) = k

abbrev pub items : Elem → Items
items (elem p nm at k is) = is

-- `<name attributes>` and `</name>`: 60 is `<`, 47 `/`, 62 `>`
abbrev pub opening : Elem → Bytes
opening (elem p nm at k is) = 60 ∷ (nm ++ (at ++ (62 ∷ [])))

abbrev pub closing : Elem → Bytes
closing (elem p nm at k is) = 60 ∷ 47 ∷ (nm ++ (62 ∷ []))

-- may an item be passed over?
abbrev pub skips : How → Bool
skips once = false
skips maybe = true
skips at_most_two = true
skips any = true
skips one_or_more = false
skips this_or_next = true

abbrev pub tail : Items → Items
tail none = none
tail (item h e is) = is

-- the items that may follow once an e was read at the item `item h e is`
abbrev pub after : How → Elem → Items → Items
after once e is = is
after maybe e is = is
after at_most_two e is = item maybe e is
after any e is = item any e is
after one_or_more e is = item any e is
after this_or_next e is = tail is

-- ─── 2. The trees of a description, and their bytes ───

-- space, tab, CR, LF
abbrev pub white : ℕ → Bool
white c = eqb c 32 || (eqb c 9 || (eqb c 13 || eqb c 10))

-- all but `<`
abbrev pub in_text : ℕ → Bool
in_text c = not (eqb c 60)

-- the bytes that may stand in a run
abbrev pub in_run : Kind → ℕ → Bool
in_run Holds c = white c
in_run (Text r) c = in_text c

-- a run of a kind: zero or more bytes that may all stand in it
pub record Run (k : Kind) : Type 0 where
  pub run : Bytes
  pub fits : T (all (in_run k) run)

mutual
  -- a tree of the element e: its text (or the white space before its first child), and its children with what follows them
  pub data Tree : Elem → Type 0 where
    tree : {e : Elem} → Run (kind e) → Kids (items e) → Tree e

  -- the children of an item list, each with white space after it
  pub data Kids : Items → Type 0 where
    end : Kids none
    skip : {h : How} {e : Elem} {is : Items} → T (skips h) → Kids is → Kids (item h e is)
    take : {h : How} {e : Elem} {is : Items} → Tree e → Run Holds → Kids (after h e is) → Kids (item h e is)

abbrev mutual
  -- the bytes of a tree: opening tag, text or white space, children, closing tag
  pub print : {e : Elem} → Tree e → Bytes
  print {e} (tree u ks) = opening e ++ (u.run ++ (print_kids ks ++ closing e))

  pub print_kids : {is : Items} → Kids is → Bytes
  print_kids end = []
  print_kids (skip t ks) = print_kids ks
  print_kids (take t w ks) = print t ++ (w.run ++ print_kids ks)

-- ─── 3. What a tree says: an event for each element, in the order of their opening tags ───

-- the element's part and kind, the place of its `<`, the place after its opening tag, and the length of its text (or white space) there
abbrev pub event : ℕ → Kind → ℕ → ℕ → ℕ → Event
event p k a b n = record { part = p; kind = k; place = a; start = b; length = n }

abbrev mutual
  -- the events of a tree whose `<` stands at p
  pub says : {e : Elem} → Tree e → ℕ → List Event
  says {e} (tree u ks) p =
      event (part e) (kind e) p (p + length (opening e)) (length u.run) ∷ says_kids ks (p + length (opening e) + length u.run)

  pub says_kids : {is : Items} → Kids is → ℕ → List Event
  says_kids end p = []
  says_kids (skip t ks) p = says_kids ks p
  says_kids (take t w ks) p = says t p ++ says_kids ks (p + length (print t) + length w.run)

-- ─── 4. Messages ───

-- the declaration or none, white space, the root, white space
pub record Message (root : Elem) : Type 0 where
  pub declared : Bool
  pub before : Run Holds
  pub body : Tree root
  pub behind : Run Holds

abbrev pub decl_of : Bool → Bytes → Bytes
decl_of true decl = decl
decl_of false decl = []

abbrev pub message : {root : Elem} → Bytes → Message root → Bytes
message decl m = decl_of m.declared decl ++ (m.before.run ++ (print m.body ++ m.behind.run))

abbrev pub message_events : {root : Elem} → Bytes → Message root → List Event
message_events decl m = says m.body (length (decl_of m.declared decl) + length m.before.run)

-- s is a message of the form
abbrev pub OfForm : Bytes → Elem → Bytes → Type 0
OfForm decl root s = (m : Message root) × (message decl m ≡ s)

-- the length of the longest beginning that two byte strings share
abbrev pub common : Bytes → Bytes → ℕ
common [] w = 0
common (a ∷ s) [] = 0
common (a ∷ s) (b ∷ w) = elim (eqb a b) [ true ↦ suc (common s w) | false ↦ 0 ]

-- n is the length of the longest beginning that s shares with some message of the form
abbrev pub IsPlace : Bytes → Elem → Bytes → ℕ → Type 0
IsPlace decl root s n = ((m : Message root) × (common s (message decl m) ≡ n)) × ((m : Message root) → common s (message decl m) ≤ n)

-- s is refused with 2 at n: it is not of the form, and n is its place
abbrev pub NotOfForm : Bytes → Elem → Bytes → ℕ → Type 0
NotOfForm decl root s n = (OfForm decl root s → ⊥) × IsPlace decl root s n
