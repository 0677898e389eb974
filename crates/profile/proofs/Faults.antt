-- A REFUSAL IS KNOWN BY ITS NUMBER, ITS PLACE AND ITS FIELD: each has a number of its own, so it is read back from what it is reported as.
--   flaw-number      the number of a flaw is one of 51 to 58; flaw-back, flaw-once: it comes back from its number
--   fault-once, list_fault_once
use Prim.Native.Nat.{ℕ, ◌-◌}
use native.Mathlib.Omega.{arith}
use mathlib.Core.Bool.{true, false}
use mathlib.Core.List.{[], ◌∷◌}
use mathlib.Core.Path.{◌≡◌, refl, ap, sym, ◌∙◌}
use borrow.Author.Tests.{le-leb, lt-leb}
use lib.Dec.{leb}
use lib.ListN.{get_or}
use Rattle.profile.specs.declared.Flaw.{Flaw}
use Rattle.profile.specs.declared.Flaw.TheVariants.{Length, Letter, Slash, Number, Date, Code, Shape, CheckDigits}
use Rattle.profile.specs.declared.Refusal.{Refusal}
use Rattle.profile.specs.declared.Refusal.TheVariants.{TooLong, NotOfTheForm, TooManyBatches, TooManyTransactions, Text, AddressMix, BatchCount, BatchSum, MessageCount, MessageSum, SlipsTooShort, BatchesTooShort}
use Rattle.profile.specs.declared.ListRefusal.{ListRefusal}
use Rattle.profile.specs.declared.ListRefusal.TheVariants.{TooLong as ListTooLong, Ceiling, NotAFrame, NoCollection, TooManyCollections, Value, TooManyBatches as BatchesNeeded, OutputTooShort}
use Rattle.profile.specs.Refusals.{flaw_number, Fault, fault_of, list_fault_of}
use Rattle.profile.specs.Numbers.{TextNumber}
use Rattle.profile.specs.Flaws.{flaw_of}

-- ─── flaws ───

pub flaw-number : (f : Flaw) → TextNumber (flaw_number f)
flaw-number Length = (omega arith, omega arith)
flaw-number Letter = (omega arith, omega arith)
flaw-number Slash = (omega arith, omega arith)
flaw-number Number = (omega arith, omega arith)
flaw-number Date = (omega arith, omega arith)
flaw-number Code = (omega arith, omega arith)
flaw-number Shape = (omega arith, omega arith)
flaw-number CheckDigits = (omega arith, omega arith)

pub flaw-back : (f : Flaw) → flaw_of (flaw_number f) ≡ f
flaw-back Length = refl
flaw-back Letter = refl
flaw-back Slash = refl
flaw-back Number = refl
flaw-back Date = refl
flaw-back Code = refl
flaw-back Shape = refl
flaw-back CheckDigits = refl

-- two flaws of one number are the same
pub flaw-once : (f g : Flaw) → flaw_number f ≡ flaw_number g → f ≡ g
flaw-once f g e = sym (flaw-back f) ∙ ap flaw_of e ∙ flaw-back g

-- from the number k on the first, before it the second
abbrev from : {A : Type 0} → ℕ → ℕ → A → A → A
from k n a b = elim (leb k n) [ true ↦ a | false ↦ b ]

from-flaw : {A : Type 0} (f : Flaw) (a b : A) → from 51 (flaw_number f) a b ≡ a
from-flaw f a b = rw (le-leb 51 (flaw_number f) (flaw-number f).0, from)

before_59 : {A : Type 0} (f : Flaw) (a b : A) → from 59 (flaw_number f) a b ≡ b
before_59 f a b = rw (lt-leb 59 (flaw_number f) (omega (arith, flaw-number f)), from)

-- ─── of the check ───

back : Fault → Refusal
back x =
    let p : ℕ = x.place in
    from 59 x.number (AddressMix p)
    (from 51 x.number (Text (flaw_of x.number) p)
    (get_or (
    TooLong ∷ NotOfTheForm p ∷ TooManyBatches p ∷ TooManyTransactions p ∷ TooLong
    ∷ BatchCount p ∷ BatchSum p ∷ MessageCount p ∷ MessageSum p ∷ SlipsTooShort p ∷ BatchesTooShort p ∷ []) (x.number - 1) TooLong))

faulted_back : (r : Refusal) → back (fault_of r) ≡ r
unfolding back
faulted_back TooLong = refl
faulted_back (NotOfTheForm p) = refl
faulted_back (TooManyBatches p) = refl
faulted_back (TooManyTransactions p) = refl
faulted_back (Text f p) = before_59 f (AddressMix p) _ ∙ from-flaw f (Text (flaw_of (flaw_number f)) p) _ ∙ ap (λ (g : Flaw). Text g p) (flaw-back f)
faulted_back (AddressMix p) = refl
faulted_back (BatchCount p) = refl
faulted_back (BatchSum p) = refl
faulted_back (MessageCount p) = refl
faulted_back (MessageSum p) = refl
faulted_back (SlipsTooShort n) = refl
faulted_back (BatchesTooShort n) = refl

pub fault-once : (r q : Refusal) → fault_of r ≡ fault_of q → r ≡ q
fault-once r q e = sym (faulted_back r) ∙ ap back e ∙ faulted_back q

-- ─── of a day list ───

list_back : Fault → ListRefusal
list_back x =
    let p : ℕ = x.place in
    from 51 x.number (Value (flaw_of x.number) p x.field)
    (get_or (ListTooLong ∷ Ceiling ∷ NotAFrame p ∷ NoCollection p ∷ TooManyCollections ∷ Ceiling ∷ BatchesNeeded p ∷ OutputTooShort p ∷ []) (x.number - 21) Ceiling)

list_faulted_back : (r : ListRefusal) → list_back (list_fault_of r) ≡ r
unfolding list_back
list_faulted_back ListTooLong = refl
list_faulted_back Ceiling = refl
list_faulted_back (NotAFrame line) = refl
list_faulted_back (NoCollection lines) = refl
list_faulted_back TooManyCollections = refl
list_faulted_back (Value f line i) = from-flaw f (Value (flaw_of (flaw_number f)) line i) _ ∙ ap (λ (g : Flaw). Value g line i) (flaw-back f)
list_faulted_back (BatchesNeeded n) = refl
list_faulted_back (OutputTooShort n) = refl

pub list_fault_once : (r q : ListRefusal) → list_fault_of r ≡ list_fault_of q → r ≡ q
list_fault_once r q e = sym (list_faulted_back r) ∙ ap list_back e ∙ list_faulted_back q
