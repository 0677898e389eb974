-- WHAT THE LIST OF THE EXAMPLES SAYS, field by field, computed.
--   says-creditor       its creditor
--   says-collections    its two collections: the first has no bank, the second no remittance
use mathlib.Core.List.{[], ◌∷◌}
use mathlib.Core.Path.{◌≡◌, refl}
use Rattle.laws.specs.Bytes.{ascii}
use Rattle.daylist.proofs.Cases.{day_list}
use Rattle.collections.specs.Listed.{Terms, creditor, listed}

pub says-creditor :
    creditor day_list
    ≡ record {
      message_id = ascii "RUN-2026/07";
      creation_time = ascii "2026-11-02T09:30:00";
      initiating_name = ascii "Leak Labs Bureau";
      name = ascii "O'Neil Testing";
      account = ascii "BE68539007547034";
      bank = ascii "BBRUBEBB";
      identifier = ascii "BE69000050D000000008";
    }
says-creditor = refl

-- scheme 0 is CORE, sequence 1 is RCUR
abbrev terms : Terms
terms = record { scheme = 0; sequence = 1; date = ascii "2026-11-10" }

pub says-collections :
    listed day_list
    ≡ record {
      terms = terms;
      cents = 110_007;
      end_to_end = ascii "FEE 1";
      mandate = ascii "M-55555";
      signature_date = ascii "2009-09-01";
      bank = [];
      debtor_name = ascii "Mr Debiteur N1";
      debtor_account = ascii "GB29NWBK60161331926819";
      remittance = ascii "Facture N1";
    }
    ∷ record {
      terms = terms;
      cents = 215_008;
      end_to_end = ascii "FEE 2";
      mandate = ascii "M-666/666";
      signature_date = ascii "1989-07-03";
      bank = ascii "BANKGB2L";
      debtor_name = ascii "Mr Debiteur N2";
      debtor_account = ascii "BE30001216371411";
      remittance = [];
    }
    ∷ []
says-collections = refl
