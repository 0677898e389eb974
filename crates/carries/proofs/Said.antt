-- WHAT A MESSAGE SAYS IS WHAT THE ELEMENTS OF ITS TREE HOLD, each at its place.
--   Stands s p y         the bytes y stand at the place p of s
--   said-contents        element by element: the same part, the same judgement, and at its place the same text
use Prim.Native.Nat.{ℕ, ◌+◌}
use mathlib.Core.List.{List, [], ◌∷◌, ◌++◌, map, append_assoc, map-map, map-append, append-nil}
use mathlib.Core.Path.{◌≡◌, refl, ap, ap₂, sym, ◌∙◌}
use lib.ListN.{length, take, drop, length-append}
use lib.Seq.{take-append_seam, drop_at}
use Rattle.laws.specs.Bytes.{Bytes}
use Rattle.tree.specs.declared.Kind.{Kind}
use Rattle.tree.specs.declared.Event.{Event}
use Rattle.tree.specs.Form.{Elem, Items, Tree, Kids, Message, message, decl_of, event, part, kind, opening, closing, print, print_kids, says, says_kids, Tree.tree, Kids.end, Kids.skip, Kids.take as take'}
use Rattle.tree.specs.Pain008.{document, declaration}
use Rattle.message.specs.Message.{told}
use Rattle.promise.specs.Check.{said_by}
use Rattle.carries.specs.Contents.{Content, content, contents, kid_contents, content_of}

-- ─── bytes at a place ───

record Stands (s : Bytes) (p : ℕ) (y : Bytes) : Type 0 where
  front : Bytes
  behind : Bytes
  whole : s ≡ front ++ (y ++ behind)
  place : length front ≡ p

module _ (s : Bytes) where
  first : (p : ℕ) (a b : Bytes) → Stands s p (a ++ b) → Stands s p a
  first p a b h = record { front = h.front; behind = b ++ h.behind; whole = h.whole ∙ ap (λ (l : Bytes). h.front ++ l) (append_assoc a b h.behind); place = h.place }

  next : (p : ℕ) (a b : Bytes) → Stands s p (a ++ b) → Stands s (p + length a) b
  next p a b h = record {
    front = h.front ++ a;
    behind = h.behind;
    whole = h.whole ∙ simp append_assoc;
    place = length-append h.front a ∙ ap (λ (n : ℕ). n + length a) h.place;
  }

  text-there : (p : ℕ) (y : Bytes) → Stands s p y → take (length y) (drop p s) ≡ y
  text-there p y h =
      ap (λ (l : Bytes). take (length y) (drop p l)) h.whole ∙ ap (take (length y)) (drop_at h.front (y ++ h.behind) p h.place) ∙ take-append_seam y h.behind

  -- ─── trees ───

  seen : Event → Content
  seen e = content_of s (told s e)

  seen-text : (n : ℕ) (k : Kind) (a p : ℕ) (y : Bytes) → Stands s p y → seen (event n k a p (length y)) ≡ content n k y
  unfolding seen
  seen-text n k a p y h = ap (content n k) (text-there p y h)

  mutual
    seen-tree : {e : Elem} (t : Tree e) (p : ℕ) (r : List Content) → Stands s p (print t) → map seen (says t p) ++ r ≡ contents t r
    seen-tree {e} (tree u ks) p r h =
        let a = next p (opening e) (u.run ++ (print_kids ks ++ closing e)) h in
        let b = next (p + length (opening e)) u.run (print_kids ks ++ closing e) a in
        ap₂ {C = List Content} (λ (c : Content) (l : List Content). c ∷ l)
        (seen-text (part e) (kind e) p (p + length (opening e)) u.run (first (p + length (opening e)) u.run (print_kids ks ++ closing e) a))
        (seen-kids ks (p + length (opening e) + length u.run) r (first (p + length (opening e) + length u.run) (print_kids ks) (closing e) b))

    seen-kids : {is : Items} (ks : Kids is) (p : ℕ) (r : List Content) → Stands s p (print_kids ks) → map seen (says_kids ks p) ++ r ≡ kid_contents ks r
    seen-kids end p r h = refl
    seen-kids (skip t ks) p r h = seen-kids ks p r h
    seen-kids (take' t w ks) p r h =
        let a = next p (print t) (w.run ++ print_kids ks) h in
        ap (λ (l : List Content). l ++ r) (map-append seen (says t p) (says_kids ks (p + length (print t) + length w.run)))
        ∙ append_assoc (map seen (says t p)) (map seen (says_kids ks (p + length (print t) + length w.run))) r
        ∙ ap (λ (l : List Content). map seen (says t p) ++ l) (seen-kids ks (p + length (print t) + length w.run) r (next (p + length (print t)) w.run (print_kids ks) a))
        ∙ seen-tree t p (kid_contents ks r) (first p (print t) (w.run ++ print_kids ks) h)

-- ─── messages ───

pub said-contents : (m : Message document) → map (content_of (message declaration m)) (said_by m) ≡ contents m.body []
unfolding seen
said-contents m =
    map-map (content_of s) (told s) (says m.body p)
    ∙ sym (append-nil (map (seen s) (says m.body p)))
    ∙ seen-tree s m.body p [] there
  where
    s : Bytes
    s = message declaration m

    p : ℕ
    p = length (decl_of m.declared declaration) + length m.before.run

    there : Stands s p (print m.body)
    there = record {
      front = decl_of m.declared declaration ++ m.before.run;
      behind = m.behind.run;
      whole = sym (append_assoc (decl_of m.declared declaration) m.before.run (print m.body ++ m.behind.run));
      place = length-append (decl_of m.declared declaration) m.before.run;
    }
