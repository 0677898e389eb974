-- THE FEWEST BATCHES, OF MESSAGES (demand 3). All collections of a batch have its terms, so what holds of batches of one terms holds of every accepted message.
--   carried-batches    there are as many batches of collections as batches
--   batches-within     an accepted message has at most the profile's batches
--   fewest-batches     a message that carries a list within the ceiling has no fewer batches than are needed
--   none_exists        where more are needed than the profile has, no message carries the list
use Prim.Native.Nat.{ℕ, ◌≤◌, ◌<◌}
use native.Mathlib.Omega.{arith}
use mathlib.Core.List.{List, [], ◌∷◌, map}
use mathlib.Core.Path.{◌≡◌, refl, sym, ◌∙◌}
use lib.ListN.{length, length-map}
use Rattle.laws.specs.Bytes.{Bytes}
use Rattle.laws.specs.Lists.{All}
use Rattle.laws.proofs.Sections.{length-all}
use Rattle.profile.specs.Limits.{most_batches}
use Rattle.tree.specs.Form.{Message, message}
use Rattle.tree.specs.Pain008.{document, declaration}
use Rattle.tree.specs.Parts as part
use Rattle.message.specs.declared.Told.{Told}
use Rattle.message.specs.Message.{parts, batch_of, batches_of}
use Rattle.promise.specs.Check.{said_by}
use Rattle.bundle.specs.Bundle.{Fits, need}
use Rattle.bundle.proofs.Fewest.{fewest}
use Rattle.collections.specs.Listed.{Terms, same_terms, Collection}
use Rattle.collections.proofs.Terms.{terms_decide}
use Rattle.carries.specs.Carried.{terms_from, collection_from, carried_in, carried_by, Accepted, CarriesList}

-- ─── batches ───

pub carried-batches : (m : Message document) → length (carried_by m) ≡ length (batches_of (said_by m))
unfolding carried_by
carried-batches m = length-map (parts part.batch (said_by m)) (carried_in (message declaration m)) ∙ sym (length-map (parts part.batch (said_by m)) batch_of)

pub batches-within : (m : Message document) → Accepted m → length (carried_by m) ≤ most_batches
batches-within m a = omega (arith, carried-batches m, length-map (parts part.batch (said_by m)) batch_of, length-all (λ t. t.part) part.batch (said_by m), a.belongs.profile.batches)

of-own : (s : Bytes) (k : Terms) (ps : List (List Told)) → All (λ x. x.terms ≡ k) (map (collection_from s k) ps)
of-own s k [] = tt
of-own s k (p ∷ ps) = (refl, of-own s k ps)

fits : (s : Bytes) (c : ℕ) (ps : List (List Told)) → All (λ b. length b ≤ c) (map (carried_in s) ps) → All (Fits (λ x. x.terms) c) (map (carried_in s) ps)
fits s c [] h = tt
fits s c (p ∷ ps) h = (record { size = h.0; own = terms_from s p; alike = of-own s (terms_from s p) (parts part.transaction p) }, fits s c ps h.1)

-- ─── the fewest ───

pub fewest-batches : (m : Message document) (c : ℕ) (xs : List Collection) → 1 ≤ c → CarriesList m c xs → need (λ x. x.terms) same_terms c xs ≤ length (carried_by m)
unfolding carried_by
fewest-batches m c xs h l =
    fewest (λ x. x.terms) same_terms terms_decide c xs (carried_by m) h
    (record { fit = fits (message declaration m) c (parts part.batch (said_by m)) l.within; same = l.same })

pub none_exists : (c : ℕ) (xs : List Collection) → 1 ≤ c → most_batches < need (λ x. x.terms) same_terms c xs → (m : Message document) → CarriesList m c xs → ⊥
none_exists c xs h n m l = omega (arith, fewest-batches m c xs h l, batches-within m l.accepted)
