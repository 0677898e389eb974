-- WHAT A DAY LIST SAYS: its creditor, and its collections in order. To be believed; definitions only.
--   Terms, same_terms            scheme, sequence and collection date; two terms are the same
--   Collection, Creditor        the values of a collection line and of the creditor line
--   collection_of s, creditor_of s   from the bytes of such a line
--   listed s, creditor s        the collections of the list s, and its creditor
use Rattle.std.specs.Prelude.{ℕ, Bool, ◌&&◌, List, [], ◌∷◌, map, eqb, drop, get_or}
use Rattle.laws.specs.Bytes.{Bytes, same}
use Rattle.frames.specs.Lines.{Line, lines}
use Rattle.frames.specs.Hex.{unhex}
use Rattle.frames.specs.Frames.{creditor_frame, collection_frame, lead_of, texts_of}
use Rattle.daylist.specs.Lead.{high_first}

-- ─── terms and collections ───

pub record Terms : Type 0 where
  pub scheme : ℕ
  pub sequence : ℕ
  pub date : Bytes

abbrev pub same_terms : Terms → Terms → Bool
same_terms k j = eqb k.scheme j.scheme && (eqb k.sequence j.sequence && same k.date j.date)

-- a bank is its BIC, empty for NOTPROVIDED; remittance is empty where there is none
pub record Collection : Type 0 where
  pub terms : Terms
  pub cents : ℕ
  pub end_to_end : Bytes
  pub mandate : Bytes
  pub signature_date : Bytes
  pub bank : Bytes
  pub debtor_name : Bytes
  pub debtor_account : Bytes
  pub remittance : Bytes

pub record Creditor : Type 0 where
  pub message_id : Bytes
  pub creation_time : Bytes
  pub initiating_name : Bytes
  pub name : Bytes
  pub account : Bytes
  pub bank : Bytes
  pub identifier : Bytes

-- ─── the values of a line ───

-- text i of a collection line, and of the creditor line
abbrev pub collection_text : ℕ → Bytes → Bytes
collection_text i s = get_or (texts_of collection_frame s) i []

abbrev pub creditor_text : ℕ → Bytes → Bytes
creditor_text i s = get_or (texts_of creditor_frame s) i []

-- in the order of the frame: scheme, sequence, cents; collection date, end-to-end id, mandate id, signature date, BIC, debtor name, IBAN, remittance
abbrev pub collection_of : Bytes → Collection
collection_of s = record {
  terms = record { scheme = get_or (lead_of collection_frame s) 0 0; sequence = get_or (lead_of collection_frame s) 1 0; date = collection_text 0 s };
  cents = high_first (drop 2 (lead_of collection_frame s));
  end_to_end = collection_text 1 s;
  mandate = collection_text 2 s;
  signature_date = collection_text 3 s;
  bank = collection_text 4 s;
  debtor_name = collection_text 5 s;
  debtor_account = collection_text 6 s;
  remittance = collection_text 7 s;
}

-- message id, creation time, initiating name, creditor name, IBAN, BIC, creditor identifier
abbrev pub creditor_of : Bytes → Creditor
creditor_of s = record {
  message_id = creditor_text 0 s;
  creation_time = creditor_text 1 s;
  initiating_name = creditor_text 2 s;
  name = creditor_text 3 s;
  account = creditor_text 4 s;
  bank = creditor_text 5 s;
  identifier = creditor_text 6 s;
}

-- ─── the list ───

abbrev pub first_line : List Line → Bytes
first_line [] = []
first_line (l ∷ ls) = l.bytes

abbrev pub creditor : Bytes → Creditor
creditor s = creditor_of (unhex (first_line (lines s)))

abbrev pub listed : Bytes → List Collection
listed s = map (λ l. collection_of (unhex l.bytes)) (drop 1 (lines s))
