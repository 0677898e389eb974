-- The bytes and the events of a tree in front of what follows it: the same as `print` and `says`, in the form in which the reader meets them.
use Prim.Native.Nat.{ℕ, ◌+◌}
use mathlib.Core.List.{List, ◌∷◌, ◌++◌, append_assoc}
use mathlib.Core.Path.{◌≡◌, refl, ap, ◌∙◌}
use native.Mathlib.Nat.{add_assoc, add-zero}
use lib.ListN.{length, length-append}
use Rattle.laws.specs.Bytes.{Bytes}
use Rattle.tree.specs.Form.{end, Elem, Items, Tree, Kids, event, part, opening, closing, print, print_kids, says, says_kids, Tree.tree, kind, skip, take}
use Rattle.tree.specs.declared.Event.{Event}

abbrev mutual
  -- the bytes of a tree, before x: opening tag, text or white space, children each with white space after it, closing tag
  pub bytes : {e : Elem} → Tree e → Bytes → Bytes
  bytes {e} (tree u ks) x = opening e ++ (u.run ++ kid_bytes ks (closing e) x)

  pub kid_bytes : {is : Items} → Kids is → Bytes → Bytes → Bytes
  kid_bytes end g x = g ++ x
  kid_bytes (skip t ks) g x = kid_bytes ks g x
  kid_bytes (take t w ks) g x = bytes t (w.run ++ kid_bytes ks g x)

abbrev mutual
  -- the events of a tree that begins at p, before those that f has for the place after it
  pub events : {e : Elem} → Tree e → ℕ → (ℕ → List Event) → List Event
  events {e} (tree u ks) p f =
      event (part e) (kind e) p (p + length (opening e)) (length u.run) ∷ kid_events ks (closing e) (p + length (opening e) + length u.run) f

  pub kid_events : {is : Items} → Kids is → Bytes → ℕ → (ℕ → List Event) → List Event
  kid_events end g p f = f (p + length g)
  kid_events (skip t ks) g p f = kid_events ks g p f
  kid_events (take t w ks) g p f = events t p (λ q. kid_events ks g (q + length w.run) f)

mutual
  pub bytes-print : {e : Elem} (t : Tree e) (x : Bytes) → bytes t x ≡ print t ++ x
  bytes-print {e} (tree u ks) x = rw (kids-print ks (closing e) x) (simp append_assoc)

  pub kids-print : {is : Items} (ks : Kids is) (g x : Bytes) → kid_bytes ks g x ≡ print_kids ks ++ (g ++ x)
  kids-print end g x = refl
  kids-print (skip t ks) g x = kids-print ks g x
  kids-print (take t w ks) g x =
      ap (λ (y : Bytes). bytes t (w.run ++ y)) (kids-print ks g x) ∙ bytes-print t (w.run ++ (print_kids ks ++ (g ++ x))) ∙ simp append_assoc

mutual
  pub events-says : {e : Elem} (t : Tree e) (p : ℕ) (f : ℕ → List Event) → events t p f ≡ says t p ++ f (p + length (print t))
  events-says {e} (tree u ks) p f = rw (kid_events_says ks (closing e) (p + length (opening e) + length u.run) f) (simp (length-append, add_assoc))

  pub kid_events_says : {is : Items} (ks : Kids is) (g : Bytes) (p : ℕ) (f : ℕ → List Event) → kid_events ks g p f ≡ says_kids ks p ++ f (p + length (print_kids ks) + length g)
  kid_events_says end g p f = simp add-zero
  kid_events_says (skip t ks) g p f = kid_events_says ks g p f
  kid_events_says (take t w ks) g p f =
      events-says t p (λ q. kid_events ks g (q + length w.run) f)
      ∙ ap (λ (l : List Event). says t p ++ l) (kid_events_says ks g (p + length (print t) + length w.run) f)
      ∙ simp (append_assoc, length-append, add_assoc)
