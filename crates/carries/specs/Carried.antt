-- WHAT A MESSAGE CARRIES: one collection for each transaction. To be believed; definitions only.
--   text_at s o              the text of an element of the message s; empty where there is none
--   terms_by, collection_by   which part of a batch or a transaction is which field
--   terms_from s p           the terms of the batch whose events are p
--   collection_from s k p    the collection of the transaction whose events are p, in a batch of the terms k
--   carried_in s p           the collections of the batch whose events are p
--   carried_from s ts        the collections of a message s that says ts, batch by batch
--   carried_by m             THE COLLECTIONS of the message m, batch by batch
--   Accepted m              m belongs to the profile, and every declared count and sum is the exact one (demand 2)
--   CarriesList m c xs      m is accepted and carries the collections xs, repeats counted, with no batch above the ceiling c
use Rattle.std.specs.Prelude.{ℕ, ◌≤◌, List, [], map, length, take, drop}
use Rattle.std.proofs.Math.Option.{Option, none, some}
use Rattle.laws.specs.Bytes.{Bytes}
use Rattle.laws.specs.Lists.{All, concat}
use Rattle.tree.specs.Form.{Message, message}
use Rattle.tree.specs.Pain008.{document, declaration}
use Rattle.tree.specs.Parts as part
use Rattle.message.specs.declared.Told.{Told}
use Rattle.message.specs.Message.{parts, the, worth_of}
use Rattle.promise.specs.Check.{said_by}
use Rattle.promise.specs.Demand2.{Belongs, AllAgree}
use Rattle.bundle.specs.Bundle.{Same}
use Rattle.collections.specs.Listed.{Terms, Collection}

-- ─── the collections of a message ───

abbrev pub text_at : Bytes → Option Told → Bytes
text_at s none = []
text_at s (some t) = take t.length (drop t.start s)

-- terms, and a collection of the terms k, by their parts: `worth n` is the number that the element of the part n states, and `text n` its text
abbrev pub terms_by : (ℕ → ℕ) → (ℕ → Bytes) → Terms
terms_by worth text = record { scheme = worth part.scheme; sequence = worth part.sequence; date = text part.collection_date }

abbrev pub collection_by : (ℕ → ℕ) → (ℕ → Bytes) → Terms → Collection
collection_by worth text k = record {
  terms = k;
  cents = worth part.amount;
  end_to_end = text part.end_to_end;
  mandate = text part.mandate;
  signature_date = text part.signature_date;
  bank = text part.debtor_bank;
  debtor_name = text part.debtor_name;
  debtor_account = text part.debtor_account;
  remittance = text part.remittance;
}

abbrev pub terms_from : Bytes → List Told → Terms
terms_from s p = terms_by (λ n. worth_of (the n p)) (λ n. text_at s (the n p))

-- a bank without a BICFI is NOTPROVIDED, which a collection frame has as the empty BIC; a missing RmtInf is no remittance; addresses "don't count when collections are compared" (request 3)
abbrev pub collection_from : Bytes → Terms → List Told → Collection
collection_from s k p = collection_by (λ n. worth_of (the n p)) (λ n. text_at s (the n p)) k

-- all of a batch have its terms
abbrev pub carried_in : Bytes → List Told → List Collection
carried_in s p = map (collection_from s (terms_from s p)) (parts part.transaction p)

-- batch by batch
abbrev pub carried_from : Bytes → List Told → List (List Collection)
carried_from s ts = map (carried_in s) (parts part.batch ts)

unfoldable pub carried_by : Message document → List (List Collection)
carried_by m = carried_from (message declaration m) (said_by m)

-- ─── carrying a list ───

pub record Accepted (m : Message document) : Type 0 where
  pub belongs : Belongs (message declaration m) m
  pub agree : AllAgree (said_by m)

pub record CarriesList (m : Message document) (c : ℕ) (xs : List Collection) : Type 0 where
  pub accepted : Accepted m
  pub same : Same (concat (carried_by m)) xs
  pub within : All (λ b. length b ≤ c) (carried_by m)
