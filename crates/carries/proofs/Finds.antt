-- WHAT IS FOUND in what a message says is found among the contents of its tree.
--   parts_seen, all_seen, the_seen     the elements of a part
--   worth-seen, text-seen              the number that the one element of a part states, and its text
--   carried-contents                   the collections of a message are those of its contents
use Prim.Native.Nat.{ℕ}
use mathlib.Core.List.{List, [], ◌∷◌, map}
use mathlib.Core.Option.{Option, none, some}
use mathlib.Core.Path.{◌≡◌, refl, ap, ap₂, fun_ext, ◌∙◌}
use Rattle.laws.specs.Bytes.{Bytes}
use Rattle.laws.proofs.Sections.{map_if, map-parts, map-all, map-the}
use Rattle.tree.specs.Form.{Message, message}
use Rattle.tree.specs.Pain008.{document, declaration}
use Rattle.tree.specs.Parts as part
use Rattle.message.specs.declared.Told.{Told}
use Rattle.message.specs.Message as said
use Rattle.promise.specs.Check.{said_by}
use Rattle.collections.specs.Listed.{Terms, Collection}
use Rattle.carries.specs.Carried.{text_at, terms_by, collection_by, terms_from, collection_from, carried_in, carried_by}
use Rattle.carries.specs.Contents.{Content, contents, content_of, parts, all_of, the, worth, text_of, terms_in, collection_in, collections_in, carried_of}
use Rattle.carries.proofs.Said.{said-contents}

module _ (s : Bytes) where
  abbrev pub seen : List Told → List Content
  seen ts = map (content_of s) ts

  abbrev pub seen_if : Option Told → Option Content
  seen_if o = map_if (content_of s) o

  -- ─── elements of a part ───

  pub parts_seen : (n : ℕ) (ts : List Told) → map seen (said.parts n ts) ≡ parts n (seen ts)
  parts_seen n ts = map-parts (content_of s) (λ c. c.part) n ts

  pub all_seen : (n : ℕ) (ts : List Told) → seen (said.all_of n ts) ≡ all_of n (seen ts)
  all_seen n ts = map-all (content_of s) (λ c. c.part) n ts

  pub the_seen : (n : ℕ) (ts : List Told) → seen_if (said.the n ts) ≡ the n (seen ts)
  the_seen n ts = map-the (content_of s) (λ c. c.part) n ts

  worth_if : (o : Option Told) → said.worth_of o ≡ worth (seen_if o)
  worth_if none = refl
  worth_if (some t) = refl

  text_if : (o : Option Told) → text_at s o ≡ text_of (seen_if o)
  text_if none = refl
  text_if (some t) = refl

  pub worth-seen : (n : ℕ) (ts : List Told) → said.worth_of (said.the n ts) ≡ worth (the n (seen ts))
  worth-seen n ts = worth_if (said.the n ts) ∙ ap worth (the_seen n ts)

  pub text-seen : (n : ℕ) (ts : List Told) → text_at s (said.the n ts) ≡ text_of (the n (seen ts))
  text-seen n ts = text_if (said.the n ts) ∙ ap text_of (the_seen n ts)

  -- ─── collections ───

  terms-seen : (p : List Told) → terms_from s p ≡ terms_in (seen p)
  terms-seen p = ap₂ terms_by (fun_ext (λ n. worth-seen n p)) (fun_ext (λ n. text-seen n p))

  collection_seen : (k : Terms) (p : List Told) → collection_from s k p ≡ collection_in k (seen p)
  collection_seen k p = ap₂ (λ (w : ℕ → ℕ) (t : ℕ → Bytes). collection_by w t k) (fun_ext (λ n. worth-seen n p)) (fun_ext (λ n. text-seen n p))

  each_seen : (k : Terms) (ps : List (List Told)) → map (collection_from s k) ps ≡ map (collection_in k) (map seen ps)
  each_seen k [] = refl
  each_seen k (p ∷ ps) = ap₂ {C = List Collection} (λ (x : Collection) (l : List Collection). x ∷ l) (collection_seen k p) (each_seen k ps)

  pub in_seen : (p : List Told) → carried_in s p ≡ collections_in (seen p)
  in_seen p =
      each_seen (terms_from s p) (said.parts part.transaction p)
      ∙ ap₂ (λ (k : Terms) (ps : List (List Content)). map (collection_in k) ps) (terms-seen p) (parts_seen part.transaction p)

  batches-seen : (ps : List (List Told)) → map (carried_in s) ps ≡ map collections_in (map seen ps)
  batches-seen [] = refl
  batches-seen (p ∷ ps) = ap₂ {C = List (List Collection)} (λ (x : List Collection) (l : List (List Collection)). x ∷ l) (in_seen p) (batches-seen ps)

  pub carried-seen : (ts : List Told) → map (carried_in s) (said.parts part.batch ts) ≡ carried_of (seen ts)
  carried-seen ts = batches-seen (said.parts part.batch ts) ∙ ap (map collections_in) (parts_seen part.batch ts)

pub carried-contents : (m : Message document) → carried_by m ≡ carried_of (contents m.body [])
unfolding carried_by
carried-contents m = carried-seen (message declaration m) (said_by m) ∙ ap carried_of (said-contents m)
