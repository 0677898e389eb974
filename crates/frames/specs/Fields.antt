-- THE TEXT FIELDS of a creditor frame and of a collection frame, in order, each with its rule. To be believed; definitions only.
--   Needed r, Optional r               a field of the rule r; of an optional one, length 0 is good: NOTPROVIDED for a BIC, no RmtInf for remittance
--   creditor_fields, collection_fields   the fields of a creditor line, and of a collection
--   fields_of n                         the fields of line n
--   judged_field f s                    the text s judged as the field f
use Rattle.std.specs.Prelude.{ℕ, true, false, List, [], ◌∷◌, eqb, length, Ok}
use Rattle.laws.specs.Bytes.{Bytes}
use Rattle.text.specs.declared.Rule.TheVariants.{Identifier, Name, Remittance, Date, Time, Iban, Bic, CreditorIdentifier}
use Rattle.text.specs.Rules.{Judged, judged}
use Rattle.frames.specs.declared.Field.{Field}
use Rattle.frames.specs.declared.Field.TheVariants.{Needed, Optional}

-- message id, creation time, initiating name, creditor name, IBAN, BIC, creditor identifier
abbrev pub creditor_fields : List Field
creditor_fields =
    Needed Identifier ∷ Needed Time ∷ Needed Name ∷ Needed Name ∷ Needed Iban ∷ Optional Bic ∷ Needed CreditorIdentifier ∷ []

-- collection date, end-to-end id, mandate id, signature date, BIC, debtor name, IBAN, remittance
abbrev pub collection_fields : List Field
collection_fields =
    Needed Date ∷ Needed Identifier ∷ Needed Identifier ∷ Needed Date ∷ Optional Bic ∷ Needed Name ∷ Needed Iban ∷ Optional Remittance ∷ []

-- line 1 is the creditor's, every further line a collection
abbrev pub by_line : {A : Type 0} → ℕ → A → A → A
by_line n a b = elim (eqb n 1) [ true ↦ a | false ↦ b ]

abbrev pub fields_of : ℕ → List Field
fields_of n = by_line n creditor_fields collection_fields

abbrev pub judged_field : Field → Bytes → Judged
judged_field (Needed r) s = judged r s
judged_field (Optional r) s = elim (eqb (length s) 0) [ true ↦ Ok 0 | false ↦ judged r s ]
