-- THE BATCHES ONE BY ONE.
--   up_go, up_end                    the numbers from k on, below m: k and those after it; none
--   Tallied f most m k sum           the sum of f over the numbers below k, each at most `most`; tallied_on: a loop that adds
--   batches-go, batches-end          what is left to write, from batch k on: its own bytes and the rest; nothing
--   concat-count, concat-cents       how many collections the batches have, and their cents
--   message_join                     the message from its opening, its batches and its end
use Prim.Native.Nat.{ℕ, suc, ◌+◌, ◌-◌, ◌*◌, ◌≤◌, ◌<◌}
use native.Mathlib.Numerals.{add-one}
use native.Mathlib.Omega.{arith}
use mathlib.Core.List.{List, [], ◌∷◌, ◌++◌, map}
use mathlib.Core.Path.{◌≡◌, refl, ap, sym, ◌∙◌}
use lib.Dec.{eqb}
use lib.ListN.{length, length-append}
use Rattle.laws.specs.Bytes.{ascii}
use Rattle.laws.specs.Lists.{total, count, concat}
use Rattle.laws.proofs.Counts.{total-append, total_ext}
use Rattle.bundle.specs.Labels.{pick, up_from, up_to}
use Rattle.put.specs.declared.Output.{Output}
use Rattle.put.specs.Wrote.{Wrote}
use Rattle.collections.specs.Listed.{Collection, Creditor}
use Rattle.written.specs.Written.{no_collection}
use Rattle.written.specs.Pieces.{batch_bytes, batches_bytes, opening_bytes, message_bytes}
use Rattle.batched.specs.Ready.{batches_from}
use Rattle.batched.proofs.Picks.{pick-count}

-- ─── numbers ───

pub up_go : (k m : ℕ) → k < m → up_from k (m - k) ≡ k ∷ up_from (k + 1) (m - (k + 1))
up_go k m h = let e : m - k ≡ suc (m - (k + 1)) = omega arith in rw (e, add-one k)

pub up_end : (k m : ℕ) → m ≤ k → up_from k (m - k) ≡ []
up_end k m h = let e : m - k ≡ 0 = omega arith in rw e

-- ─── a loop that adds ───

pub record Tallied (f : ℕ → ℕ) (most m k sum : ℕ) : Type 0 where
  pub within : k ≤ m
  pub few : sum ≤ most * k
  pub is : sum + total f (up_from k (m - k)) ≡ total f (up_to m)

module _ (f : ℕ → ℕ) (most m : ℕ) where
  module _ (k sum : ℕ) (t : Tallied f most m k sum) where
    pub tallied_on : (v : ℕ) → k < m → v ≡ f k → v ≤ most → Tallied f most m (k + 1) (sum + v)
    tallied_on v h e l = record { within = omega arith; few = omega (arith, t.few); is = omega (arith, t.is, e, ap (total f) (up_go k m h)) }

-- ─── a loop that writes ───

module _ (cr : Creditor) (labels : List ℕ) (xs : List Collection) (k m : ℕ) where
  pub batches-go : k < m → batches_bytes cr (k + 1) (batches_from k (m - k) labels xs) ≡ batch_bytes cr (k + 1) (pick k labels xs) ++ batches_bytes cr (k + 1 + 1) (batches_from (k + 1) (m - (k + 1)) labels xs)
  batches-go h = rw (up_go k m h, add-one (k + 1))

  pub batches-end : m ≤ k → batches_bytes cr (k + 1) (batches_from k (m - k) labels xs) ≡ []
  batches-end h = rw (up_end k m h)

-- ─── the message ───

module _ {X : Type 0} where
  concat-length : (g : ℕ → List X) (ks : List ℕ) → length (concat (map g ks)) ≡ total (λ k. length (g k)) ks
  concat-length g [] = refl
  concat-length g (k ∷ ks) = omega (arith, length-append (g k) (concat (map g ks)), concat-length g ks)

  concat-total : (f : X → ℕ) (g : ℕ → List X) (ks : List ℕ) → total f (concat (map g ks)) ≡ total (λ k. total f (g k)) ks
  concat-total f g [] = refl
  concat-total f g (k ∷ ks) = omega (arith, total-append f (g k) (concat (map g ks)), concat-total f g ks)

module _ (labels : List ℕ) (xs : List Collection) (m : ℕ) where
  pub concat-count : length xs ≡ length labels → total (λ k. count (eqb k) labels) (up_to m) ≡ length (concat (batches_from 0 m labels xs))
  concat-count e = total_ext (λ k. count (eqb k) labels) (λ k. length (pick k labels xs)) (up_to m) (λ k. sym (pick-count k no_collection labels xs e))
      ∙ sym (concat-length (λ k. pick k labels xs) (up_to m))

  pub concat-cents : total (λ k. total (λ x. x.cents) (pick k labels xs)) (up_to m) ≡ total (λ x. x.cents) (concat (batches_from 0 m labels xs))
  concat-cents = sym (concat-total (λ (x : Collection). x.cents) (λ k. pick k labels xs) (up_to m))

pub message_join : {o o' : Output} (cr : Creditor) (bs : List (List Collection)) (n sum : ℕ) → n ≡ length (concat bs) → sum ≡ total (λ x. x.cents) (concat bs)
    → Wrote o o' (opening_bytes cr n sum ++ (batches_bytes cr 1 bs ++ ascii "</CstmrDrctDbtInitn></Document>")) → Wrote o o' (message_bytes cr bs)
unfolding message_bytes
message_join cr bs n sum a b w = rw (← a, ← b) w
