-- POSTAL ADDRESSES (request 3): what stands in each, by what it is good, and whose it is. To be believed; definitions only.
--   Address                            which of the parts stand there: street, number or post code (`detail`), town, country, line
--   structured, hybrid, unstructured   the three kinds of source document 004
--   unstructured_ends                   the first collection date, as yyyymmdd, at which an unstructured address is bad
--   good_mix early a                    the mix of the address a is good, where `early` says whether the collection date is before that one
--   Party, parties_of ts                each creditor and each debtor of a message in order: its batch's collection date, and the events in which its address stands
--   address_of q, mix_of x, good_address x   what stands in the address among the events q; that the mix of the party x is good; that it has no address, or a good one
use Rattle.std.specs.Prelude.{ℕ, Bool, true, false, not, ◌&&◌, ◌||◌, List, ◌∷◌, map, ltb}
use Rattle.std.proofs.Math.Option.{Option, none, some}
use Rattle.laws.specs.Lists.{gather}
use Rattle.tree.specs.Parts as part
use Rattle.message.specs.declared.Told.{Told}
use Rattle.message.specs.declared.Address.{Address}
use Rattle.message.specs.Message.{before, parts, the, worth_of}

-- ─── 1. The kinds ───

-- "structured (town and country, no line)"; street, number and post code may stand beside them, and so in a hybrid one
abbrev pub structured : Address → Bool
structured a = (a.town && a.country) && not a.line

-- "hybrid (town, country and line)"
abbrev pub hybrid : Address → Bool
hybrid a = (a.town && a.country) && a.line

-- "unstructured (line or country or both, nothing else)"
abbrev pub unstructured : Address → Bool
unstructured a = (a.line || a.country) && not (a.town || a.detail)

abbrev pub unstructured_ends : ℕ
unstructured_ends = 2026_11_15

-- "Unstructured is good only where the batch's collection date is before 2026-11-15. Every other mix is bad, an empty PstlAdr among them."
abbrev pub good_mix : Bool → Address → Bool
good_mix early a = structured a || (hybrid a || (unstructured a && early))

-- ─── 2. The addresses of a message ───

abbrev pub here : Option Told → Bool
here none = false
here (some t) = true

abbrev pub address_of : List Told → Address
address_of q = record {
  detail = here (the part.address_detail q);
  town = here (the part.town q);
  country = here (the part.country q);
  line = here (the part.address_line q);
}

pub record Party : Type 0 where
  pub date : ℕ
  pub said : List Told

-- of the batch whose events are p: its creditor, up to the first transaction, and the debtor of each transaction
abbrev pub parties_in : List Told → List Party
parties_in p = map (λ q. record { date = worth_of (the part.collection_date p); said = q }) (before part.transaction p ∷ parts part.transaction p)

abbrev pub parties_of : List Told → List Party
parties_of ts = gather parties_in (parts part.batch ts)

abbrev pub mix_of : Party → Bool
mix_of x = good_mix (ltb x.date unstructured_ends) (address_of x.said)

abbrev pub good_address : Party → Bool
good_address x = not (here (the part.address x.said)) || mix_of x
