-- GOOD VALUES: each text good by its rule, numbers within their limits. Not to be believed: no promise to a caller speaks of them.
-- That a list that is judged good has none but good values is `good-collections` and `good-creditor`.
--   empty_or r s        the text s is empty, or good by the rule r
--   GoodTerms k        scheme, sequence and collection date
--   GoodCollection x   the values of a collection
--   GoodCreditor cr    the values of the creditor
use Rattle.std.specs.Prelude.{◌≤◌, Bool, true, [], ◌∷◌, T}
use Rattle.laws.specs.Bytes.{Bytes}
use Rattle.profile.specs.Limits.{most_cents}
use Rattle.text.specs.Rules.{Judged, good, identifier, name, remittance, date as day, time, iban, bic, creditor_identifier}
use Rattle.collections.specs.Listed.{Terms, Collection, Creditor}

abbrev pub empty_or : (Bytes → Judged) → Bytes → Bool
empty_or r [] = true
empty_or r (c ∷ s) = good (r (c ∷ s))

pub record GoodTerms (k : Terms) : Type 0 where
  pub scheme : k.scheme ≤ 1
  pub sequence : k.sequence ≤ 3
  pub date : T (good (day k.date))

pub record GoodCollection (x : Collection) : Type 0 where
  pub terms : GoodTerms x.terms
  pub least : 1 ≤ x.cents
  pub most : x.cents ≤ most_cents
  pub end_to_end : T (good (identifier x.end_to_end))
  pub mandate : T (good (identifier x.mandate))
  pub signature_date : T (good (day x.signature_date))
  pub bank : T (empty_or bic x.bank)
  pub debtor_name : T (good (name x.debtor_name))
  pub debtor_account : T (good (iban x.debtor_account))
  pub remittance : T (empty_or remittance x.remittance)

pub record GoodCreditor (cr : Creditor) : Type 0 where
  pub message_id : T (good (identifier cr.message_id))
  pub creation_time : T (good (time cr.creation_time))
  pub initiating_name : T (good (name cr.initiating_name))
  pub name : T (good (name cr.name))
  pub account : T (good (iban cr.account))
  pub bank : T (empty_or bic cr.bank)
  pub identifier : T (good (creditor_identifier cr.identifier))
