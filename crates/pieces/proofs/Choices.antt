-- PIECES WITH A CHOICE.
--   bank-none, bank-some, remittance-none, remittance-some   where the text is empty, and where it is not
--   lead-at, lead-cents                                     a byte of the lead of a collection frame; those of the cents
use Prim.Native.Nat.{ℕ, ◌+◌, ◌<◌}
use native.Mathlib.Omega.{arith}
use mathlib.Core.List.{[], ◌∷◌, ◌++◌}
use mathlib.Core.Path.{◌≡◌, refl, ◌∙◌}
use lib.ListN.{length, take, drop, get_or}
use lib.Seq.{get_or-take, get_or-drop}
use Rattle.laws.specs.Bytes.{Bytes, ascii}
use Rattle.frames.specs.Frames.{collection_frame, lead_of}
use Rattle.put.specs.Wrote.{Wrote}
use Rattle.put.specs.declared.Output.{Output}
use Rattle.written.specs.Pieces.{bank_bytes, remittance_bytes}

-- a byte of the lead, and those of the cents
pub lead-at : (s : Bytes) (i : ℕ) → i < 7 → get_or (lead_of collection_frame s) i 0 ≡ get_or s (1 + i) 0
lead-at s i h = get_or-take 7 (drop 1 s) i 0 h ∙ get_or-drop 1 s i 0

pub lead-cents : (s : Bytes) → take 5 (drop 3 s) ≡ drop 2 (lead_of collection_frame s)
lead-cents [] = refl
lead-cents (a ∷ []) = refl
lead-cents (a ∷ b ∷ []) = refl
lead-cents (a ∷ b ∷ c ∷ s) = refl

-- ─── where a text is empty, and where not ───

module _ {o o' : Output} where
  pub bank-none : (t : Bytes) → length t ≡ 0 → Wrote o o' (ascii "<FinInstnId><Othr><Id>NOTPROVIDED</Id></Othr></FinInstnId>") → Wrote o o' (bank_bytes t)
  bank-none [] e w = w
  bank-none (c ∷ t) e w = absurd (omega arith)

  pub bank-some : (t : Bytes) → 0 < length t → Wrote o o' (ascii "<FinInstnId><BICFI>" ++ (t ++ ascii "</BICFI></FinInstnId>")) → Wrote o o' (bank_bytes t)
  bank-some [] e w = absurd (omega arith)
  bank-some (c ∷ t) e w = w

  pub remittance-none : (t : Bytes) → length t ≡ 0 → Wrote o o' [] → Wrote o o' (remittance_bytes t)
  remittance-none [] e w = w
  remittance-none (c ∷ t) e w = absurd (omega arith)

  pub remittance-some : (t : Bytes) → 0 < length t → Wrote o o' (ascii "<RmtInf><Ustrd>" ++ (t ++ ascii "</Ustrd></RmtInf>")) → Wrote o o' (remittance_bytes t)
  remittance-some [] e w = absurd (omega arith)
  remittance-some (c ∷ t) e w = w
