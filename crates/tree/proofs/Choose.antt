-- WHAT `choose` FINDS: some children go on so (`found`, which needs nothing of the description); and, for a description that passes the test, all
-- others part from the bytes within the tag found (`ruled`). And runs: a run is the one that `span` finds, or parts from it there (`span-parts`).
use Prim.Native.Nat.{ℕ, zero, suc, ◌+◌, ◌≤◌, zero-le, suc-le-suc, max}
use native.Mathlib.Nat.{le-max_left, le-max_right}
use mathlib.Core.Bool.{Bool, true, false, not, ◌&&◌}
use mathlib.Core.List.{List, [], ◌∷◌, ◌++◌}
use mathlib.Core.Path.{◌≡◌, refl, ap₂, sym, subst}
use mathlib.Core.Logic.{◌≢◌, ◌⊎◌, inl, inr}
use lib.Dec.{T, T_not}
use lib.ListN.{length, take as takeN}
use Rattle.laws.specs.Bytes.{Bytes, all, span}
use Rattle.laws.proofs.Tests.{bool_cases, eqb-cases, max_cases, and_l, and_r}
use Rattle.tree.specs.Form.{none, How, Elem, Items, Tree, Kids, Run, in_run, items, opening, closing, skips, after, tail, Tree.tree, How.once, How.maybe, How.at_most_two, How.any, How.one_or_more, How.this_or_next, elem, end, item, skip, take}
use Rattle.tree.specs.declared.Kind.{Kind}
use Rattle.tree.specs.declared.Kind.TheVariants.{Holds, Text}
use Rattle.tree.specs.declared.Event.{Event}
use Rattle.tree.specs.Apart.{apart, clear, ok_elem, ok_items}
use Rattle.tree.specs.Tags.{Eat.ate, Eat.miss, Choice, Choice.stop, Choice.close, Choice.child, far, closes, choose}
use Rattle.tree.proofs.Onto.{bytes, kid_bytes, events, kid_events}
use Rattle.tree.proofs.Shared.{Off, Shares, off_mono}
use Rattle.tree.proofs.Steps.{eat-cases, front}

-- ─── every description has a tree ───

pub no_run : (k : Kind) → Run k
no_run k = record { run = []; fits = tt }

fill : (h : How) {e : Elem} {is : Items} → Tree e → Kids is → Kids (item h e is)
fill once t ks = take t (no_run Holds) ks
fill maybe t ks = skip tt ks
fill at_most_two t ks = skip tt ks
fill any t ks = skip tt ks
fill one_or_more t ks = take t (no_run Holds) (skip tt ks)
fill this_or_next t ks = skip tt ks

mutual
  pub some-tree : (e : Elem) → Tree e
  some-tree (elem n nm at k is) = tree (no_run k) (some-kids is)

  pub some-kids : (is : Items) → Kids is
  some-kids none = end
  some-kids (item h e is) = fill h (some-tree e) (some-kids is)

-- ─── choose ───

pub shares_more : (s t x : Bytes) (n : ℕ) → Shares s t n → Shares s (t ++ x) n
shares_more s t x zero h = tt
shares_more [] t x (suc n) h = absurd h
shares_more (a ∷ s) [] x (suc n) h = absurd h
shares_more (a ∷ s) (b ∷ t) x (suc n) h = (h.0, shares_more s t x n h.1)

pub shares_tree : {e : Elem} (t : Tree e) (s x : Bytes) (n : ℕ) → Shares s (opening e) n → Shares s (bytes t x) n
shares_tree {e} (tree u ks) s x n h = shares_more s (opening e) (u.run ++ kid_bytes ks (closing e) x) n h

abbrev pub Found : Items → Bytes → Bytes → Choice → Type 0
Found is g s (stop n) = (ks : Kids is) × ((x : Bytes) → Shares s (kid_bytes ks g x) n)
Found is g s (close r) = (s ≡ g ++ r) × ((ks : Kids is) × ((x : Bytes) → kid_bytes ks g x ≡ g ++ x))
Found is g s (child c is' r) =
    (s ≡ opening c ++ r) × ((t : Tree c) (w : Run Holds) (ks : Kids is') → (ks' : Kids is) × ((x : Bytes) → kid_bytes ks' g x ≡ bytes t (w.run ++ kid_bytes ks g x)))

found-far : (h : How) (e : Elem) (is : Items) (g s : Bytes) (n : ℕ) → T (skips h) → Shares s (opening e) n
    → (c : Choice) → Found is g s c → Found (item h e is) g s (far n c)
found-far h e is g s n sk sh (stop m) f =
    max_cases (λ j. (ks : Kids (item h e is)) × ((x : Bytes) → Shares s (kid_bytes ks g x) j)) n m
    (λ le. (take (some-tree e) (no_run Holds) (some-kids (after h e is)), λ x. shares_tree (some-tree e) s _ n sh))
    (λ le. (skip sk f.0, f.1))
found-far h e is g s n sk sh (close r) f = (f.0, (skip sk f.1.0, f.1.1))
found-far h e is g s n sk sh (child c is' r) f = (f.0, λ t w ks. let k = f.1 t w ks in (skip sk k.0, k.1))

pub found : (is : Items) (g s : Bytes) → Found is g s (choose is g s)
found none g s = eat-cases (λ m. Found none g s (closes m)) g s (λ r e. (e, (end, λ x. refl))) (λ n h o. (end, λ x. shares_more s g x n h))
found (item h e is) g s =
    eat-cases (λ m. Found (item h e is) g s (elim m [
      | ate r ↦ child e (after h e is) r
      | miss n ↦ elim (skips h) [ true ↦ far n (choose is g s) | false ↦ stop n ]
    ])) (opening e) s
    (λ r eq. (eq, λ t w ks. (take t w ks, λ x. refl)))
    (λ n sh o. bool_cases (λ z. Found (item h e is) g s (elim z [ true ↦ far n (choose is g s) | false ↦ stop n ])) (skips h)
    (λ sk. found-far h e is g s n sk sh (choose is g s) (found is g s))
    (λ sk. (take (some-tree e) (no_run Holds) (some-kids (after h e is)), λ x. shares_tree (some-tree e) s _ n sh)))

-- ─── tags that are apart ───

pub off_apart : (a b s x : Bytes) → T (apart a b) → Off (a ++ s) (b ++ x) (length a)
off_apart [] b s x t = absurd t
off_apart (c ∷ a) [] s x t = absurd t
off_apart (c ∷ a) (d ∷ b) s x t =
    eqb-cases (λ z. T (elim z [ true ↦ apart a b | false ↦ true ]) → c ≡ d → Off (a ++ s) (b ++ x) (length a)) c d
    (λ e t' e'. off_apart a b s x t') (λ ne t' e'. absurd (ne e')) t

-- trees begin with their opening tag
pub off_tree : {e : Elem} (s : Bytes) (n : ℕ) → ((y : Bytes) → Off s (opening e ++ y) n) → (t : Tree e) (x : Bytes) → Off s (bytes t x) n
off_tree {e} s n h (tree u ks) x = h (u.run ++ kid_bytes ks (closing e) x)

-- children begin with one of the tags that the test looked at
off_kids : (t r : Bytes) {is : Items} (ks : Kids is) (g x : Bytes) → T (clear t is g) → Off (t ++ r) (kid_bytes ks g x) (length t)
off_kids t r end g x c = off_apart t g r x (and_l (apart t g) (apart g t) c)
off_kids t r (skip {e} {is} sk ks) g x c =
    off_kids t r ks g x (and_r (apart t (opening e) && apart (opening e) t) (clear t is g) c)
off_kids t r (take {h} {e} {is} k w ks) g x c =
    off_tree (t ++ r) (length t)
    (λ y. off_apart t (opening e) r y (and_l (apart t (opening e)) (apart (opening e) t) (and_l (apart t (opening e) && apart (opening e) t) (clear t is g) c)))
    k (w.run ++ kid_bytes ks g x)

-- ─── what the test says of a choice ───

ok_after : (h : How) (e : Elem) (is : Items) (g : Bytes) → T (ok_items (item h e is) g) → T (ok_items (after h e is) g)
ok_after once e is g t = and_r (ok_elem e) (ok_items is g) (and_r (clear (opening e) is g) (ok_elem e && ok_items is g) t)
ok_after maybe e is g t = and_r (ok_elem e) (ok_items is g) (and_r (clear (opening e) is g) (ok_elem e && ok_items is g) t)
ok_after at_most_two e is g t = t
ok_after any e is g t = t
ok_after one_or_more e is g t = t
ok_after this_or_next e is g t = ok_tail is (and_r (ok_elem e) (ok_items is g) (and_r (clear (opening e) is g) (ok_elem e && ok_items is g) t))
  where
    ok_tail : (is : Items) → T (ok_items is g) → T (ok_items (tail is) g)
    ok_tail none t = t
    ok_tail (item h e is) t = and_r (ok_elem e) (ok_items is g) (and_r (clear (opening e) is g) (ok_elem e && ok_items is g) t)

-- the child found passes the test, and so do the items after it; and its tag, or the closing tag, is apart from all that the items are clear of
abbrev pub Fine : Bytes → Choice → Type 0
Fine g (stop n) = Unit {0}
Fine g (close r) = Unit {0}
Fine g (child c is r) = T (ok_elem c) × T (ok_items is g)

abbrev pub Clears : Bytes → Bytes → Choice → Type 0
Clears t g (stop n) = Unit {0}
Clears t g (close r) = T (apart g t)
Clears t g (child c is r) = T (apart (opening c) t)

fine-far : (g : Bytes) (n : ℕ) (c : Choice) → Fine g c → Fine g (far n c)
fine-far g n (stop m) h = h
fine-far g n (close r) h = h
fine-far g n (child c is r) h = h

clears-far : (t g : Bytes) (n : ℕ) (c : Choice) → Clears t g c → Clears t g (far n c)
clears-far t g n (stop m) h = h
clears-far t g n (close r) h = h
clears-far t g n (child c is r) h = h

pub fine : (is : Items) (g s : Bytes) → T (ok_items is g) → Fine g (choose is g s)
fine none g s t = eat-cases (λ m. Fine g (closes m)) g s (λ r e. tt) (λ n h o. tt)
fine (item h e is) g s t =
    let t₂ : T (ok_elem e && ok_items is g) = and_r (clear (opening e) is g) (ok_elem e && ok_items is g) t in
    eat-cases (λ m. Fine g (elim m [
      | ate r ↦ child e (after h e is) r
      | miss n ↦ elim (skips h) [ true ↦ far n (choose is g s) | false ↦ stop n ]
    ])) (opening e) s
    (λ r eq. (and_l (ok_elem e) (ok_items is g) t₂, ok_after h e is g t))
    (λ n sh o. bool_cases (λ z. Fine g (elim z [ true ↦ far n (choose is g s) | false ↦ stop n ])) (skips h)
    (λ sk. fine-far g n (choose is g s) (fine is g s (and_r (ok_elem e) (ok_items is g) t₂))) (λ sk. tt))

clears : (t : Bytes) (is : Items) (g s : Bytes) → T (clear t is g) → Clears t g (choose is g s)
clears t none g s c = eat-cases (λ m. Clears t g (closes m)) g s (λ r e. and_r (apart t g) (apart g t) c) (λ n h o. tt)
clears t (item h e is) g s c =
    let a : Bool = apart t (opening e) && apart (opening e) t in
    eat-cases (λ m. Clears t g (elim m [
      | ate r ↦ child e (after h e is) r
      | miss n ↦ elim (skips h) [ true ↦ far n (choose is g s) | false ↦ stop n ]
    ])) (opening e) s
    (λ r eq. and_r (apart t (opening e)) (apart (opening e) t) (and_l a (clear t is g) c))
    (λ n sh o. bool_cases (λ z. Clears t g (elim z [ true ↦ far n (choose is g s) | false ↦ stop n ])) (skips h)
    (λ sk. clears-far t g n (choose is g s) (clears t is g s (and_r a (clear t is g) c))) (λ sk. tt))

-- ─── children against a choice ───

-- the children ks are those of the choice, or they part from s within the tag that was found
abbrev pub Ruled : {is : Items} → Bytes → Bytes → Choice → Kids is → Type 0
Ruled g s (stop n) ks = (x : Bytes) → Off s (kid_bytes ks g x) n
Ruled g s (close r) ks =
    (((x : Bytes) → kid_bytes ks g x ≡ g ++ x) × ((p : ℕ) (f : ℕ → List Event) → kid_events ks g p f ≡ f (p + length g)))
    ⊎ ((x : Bytes) → Off s (kid_bytes ks g x) (length g))
Ruled g s (child c is' r) ks =
    ((t : Tree c) × (w : Run Holds) × (ks' : Kids is') × ((x : Bytes) → kid_bytes ks g x ≡ bytes t (w.run ++ kid_bytes ks' g x))
    × ((p : ℕ) (f : ℕ → List Event) → kid_events ks g p f ≡ events t p (λ q. kid_events ks' g (q + length w.run) f)))
    ⊎ ((x : Bytes) → Off s (kid_bytes ks g x) (length (opening c)))

ruled-skip : (h : How) (e : Elem) {is : Items} (g s : Bytes) (n : ℕ) (sk : T (skips h)) (ks : Kids is) (c : Choice) → Ruled g s c ks
    → Ruled {is = item h e is} g s (far n c) (skip sk ks)
ruled-skip h e g s n sk ks (stop m) r = λ x. off_mono s (kid_bytes ks g x) m (max n m) (le-max_right n m) (r x)
ruled-skip h e g s n sk ks (close y) r = r
ruled-skip h e g s n sk ks (child c is' y) r = r

ruled-take : (h : How) (e : Elem) (is : Items) (g s : Bytes) (n : ℕ) → ((x : Bytes) → Off s (opening e ++ x) n) → (t : Tree e) (w : Run Holds) (ks : Kids (after h e is))
    → (c : Choice) → Found is g s c → Clears (opening e) g c → Ruled {is = item h e is} g s (far n c) (take t w ks)
ruled-take h e is g s n o t w ks (stop m) f cl =
    λ x. off_mono s (bytes t (w.run ++ kid_bytes ks g x)) n (max n m) (le-max_left n m) (off_tree s n o t (w.run ++ kid_bytes ks g x))
ruled-take h e is g s n o t w ks (close r) f cl =
    inr (λ x. rw f.0 (off_tree (g ++ r) (length g) (λ y. off_apart g (opening e) r y cl) t (w.run ++ kid_bytes ks g x)))
ruled-take h e is g s n o t w ks (child c is' r) f cl =
    inr (λ x. rw f.0 (off_tree (opening c ++ r) (length (opening c)) (λ y. off_apart (opening c) (opening e) r y cl) t (w.run ++ kid_bytes ks g x)))

pub ruled : {is : Items} (g s : Bytes) → T (ok_items is g) → (ks : Kids is) → Ruled g s (choose is g s) ks
ruled g s ok end = eat-cases (λ m. Ruled g s (closes m) end) g s (λ r e. inl (λ x. refl, λ p f. refl)) (λ n h o. o)
ruled g s ok (skip {h} {e} {is} sk ks) =
    let c : T (clear (opening e) is g) = and_l (clear (opening e) is g) (ok_elem e && ok_items is g) ok in
    let ok₂ : T (ok_items is g) = and_r (ok_elem e) (ok_items is g) (and_r (clear (opening e) is g) (ok_elem e && ok_items is g) ok) in
    eat-cases (λ m. Ruled {is = item h e is} g s (elim m [
      | ate r ↦ child e (after h e is) r
      | miss n ↦ elim (skips h) [ true ↦ far n (choose is g s) | false ↦ stop n ]
    ]) (skip sk ks)) (opening e) s
    (λ r eq. inr (λ x. rw eq (off_kids (opening e) r ks g x c)))
    (λ n sh o. bool_cases (λ z. Ruled {is = item h e is} g s (elim z [ true ↦ far n (choose is g s) | false ↦ stop n ]) (skip sk ks)) (skips h)
    (λ sk'. ruled-skip h e g s n sk ks (choose is g s) (ruled g s ok₂ ks)) (λ ns. absurd (T_not (skips h) ns sk)))
ruled g s ok (take {h} {e} {is} t w ks) =
    let c : T (clear (opening e) is g) = and_l (clear (opening e) is g) (ok_elem e && ok_items is g) ok in
    eat-cases (λ m. Ruled {is = item h e is} g s (elim m [
      | ate r ↦ child e (after h e is) r
      | miss n ↦ elim (skips h) [ true ↦ far n (choose is g s) | false ↦ stop n ]
    ]) (take t w ks)) (opening e) s
    (λ r eq. inl (t, w, ks, λ x. refl, λ p f. refl))
    (λ n sh o. bool_cases (λ z. Ruled {is = item h e is} g s (elim z [ true ↦ far n (choose is g s) | false ↦ stop n ]) (take t w ks)) (skips h)
    (λ sk. ruled-take h e is g s n o t w ks (choose is g s) (found is g s) (clears (opening e) is g s c))
    (λ ns. λ x. off_tree s n o t (w.run ++ kid_bytes ks g x)))

-- ─── runs ───

-- w begins with '<'
abbrev pub Begins : Bytes → Type 0
Begins [] = ⊥
Begins (c ∷ w) = c ≡ 60

-- w does not go on with the class p
abbrev pub Stops : (ℕ → Bool) → Bytes → Type 0
Stops p [] = Unit {0}
Stops p (c ∷ w) = T (not (p c))

pub begins_opening : (e : Elem) (x : Bytes) → Begins (opening e ++ x)
begins_opening (elem n nm at k is) x = refl

begins_closing : (e : Elem) (x : Bytes) → Begins (closing e ++ x)
begins_closing (elem n nm at k is) x = refl

pub begins_kids : {is : Items} (ks : Kids is) (e : Elem) (x : Bytes) → Begins (kid_bytes ks (closing e) x)
begins_kids end e x = begins_closing e x
begins_kids (skip sk ks) e x = begins_kids ks e x
begins_kids (take {e = c} (tree u js) w ks) e x = begins_opening c _

stops_60 : (k : Kind) → T (not (in_run k 60))
stops_60 Holds = tt
stops_60 (Text r) = tt

pub stops : (k : Kind) (w : Bytes) → Begins w → Stops (in_run k) w
stops k [] b = absurd b
stops k (c ∷ w) b = rw b (stops_60 k)

-- the class tells the two bytes apart
pub class_neq : (p : ℕ → Bool) (c d : ℕ) → T (p c) → T (not (p d)) → c ≢ d
class_neq p c d t f e = T_not (p d) f (subst (λ (b : ℕ). T (p b)) e t)

pub off_stops : (p : ℕ → Bool) (c n : ℕ) (r w : Bytes) → T (p c) → Stops p w → Off (c ∷ r) w (suc n)
off_stops p c n r [] t st = tt
off_stops p c n r (d ∷ w) t st = λ e. absurd (class_neq p c d t st e)

-- a run is the one that `span` finds, or parts from r within that whatever follows
pub span-parts : (p : ℕ → Bool) (r u : Bytes) → T (all p u) → (u ≡ front p r) ⊎ ((w : Bytes) → Stops p w → Off r (u ++ w) (span p r))
unfolding front
span-parts p [] [] a = inl refl
span-parts p [] (d ∷ u) a = inr (λ w st. tt)
span-parts p (c ∷ r) [] a =
    bool_cases (λ z. let n : ℕ = elim z [ true ↦ suc (span p r) | false ↦ 0 ] in ([] ≡ takeN n (c ∷ r)) ⊎ ((w : Bytes) → Stops p w → Off (c ∷ r) w n)) (p c)
    (λ t. inr (λ w st. off_stops p c (span p r) r w t st)) (λ t. inl refl)
span-parts p (c ∷ r) (d ∷ u) a =
    bool_cases (λ z. let n : ℕ = elim z [ true ↦ suc (span p r) | false ↦ 0 ] in (d ∷ u ≡ takeN n (c ∷ r)) ⊎ ((w : Bytes) → Stops p w → Off (c ∷ r) (d ∷ (u ++ w)) n)) (p c)
    (λ t. deeper (span-parts p r u (and_r (p d) (all p u) a)))
    (λ t. inr (λ w st e. class_neq p d c (and_l (p d) (all p u) a) t (sym e)))
  where
    deeper : (u ≡ takeN (span p r) r) ⊎ ((w : Bytes) → Stops p w → Off r (u ++ w) (span p r))
        → (d ∷ u ≡ c ∷ takeN (span p r) r) ⊎ ((w : Bytes) → Stops p w → c ≡ d → Off r (u ++ w) (span p r))
    deeper (inl e) =
        eqb-cases (λ z. (d ∷ u ≡ c ∷ takeN (span p r) r) ⊎ ((w : Bytes) → Stops p w → c ≡ d → Off r (u ++ w) (span p r))) c d
        (λ q. inl (ap₂ {C = Bytes} (λ (b : ℕ) (l : Bytes). b ∷ l) (sym q) e)) (λ ne. inr (λ w st q. absurd (ne q)))
    deeper (inr o) = inr (λ w st q. o w st)

pub ok_elem_lem : (c : Elem) → T (ok_elem c) → T (ok_items (items c) (closing c))
ok_elem_lem (elem n nm at k is) t = t

pub len_opening : (c : Elem) → 1 ≤ length (opening c)
len_opening (elem n nm at k is) = suc-le-suc zero-le

pub len_closing : (c : Elem) → 1 ≤ length (closing c)
len_closing (elem n nm at k is) = suc-le-suc zero-le
