-- THE THREE DEMANDS, AND REQUESTS 1 AND 3, HOLD of all four operations.
--   demands   THE CLAIM is proved
use Prim.Native.Nat.{ℕ}
use mathlib.Core.Logic.{◌↔◌}
use mathlib.Core.Path.{◌≡◌, refl, ap, sym, ◌∙◌}
use lib.ListN.{length}
use Rattle.laws.specs.Bytes.{Bytes}
use Rattle.profile.specs.declared.Flaw.{Flaw}
use Rattle.profile.specs.Refusals.{flaw_number}
use Rattle.profile.specs.Numbers.{CheckNumber, WriteNumber}
use Rattle.tree.specs.Form.{Message, message}
use Rattle.tree.specs.Pain008.{document, declaration}
use Rattle.message.specs.Verdict.{Verdict}
use Rattle.answer.specs.Said.{Checked, said}
use Rattle.promise.specs.Check.{Checks}
use Rattle.promise.specs.Texts.{TextBreaks}
use Rattle.daylist.specs.Breaks.{ValueBreaks}
use Rattle.promise.proofs.Outcome.{said-once, one-outcome}
use Rattle.write.specs.Write.{Written, answer_for, output_for}
use Rattle.write.proofs.Answers.{write_once}
use Rattle.desk.specs.declared.DeskChecked.{DeskChecked}
use Rattle.desk.specs.declared.DeskWritten.{DeskWritten}
use Rattle.desk.specs.Answers.{checked_numbers, written_numbers}
use Rattle.demands.specs.Demands.{Tables, Job, Check, DeskCheck, Write, DeskWrite, check_told, write_told, Demand1, Demand2, Demand3, TextsRefused, ValuesRefused, AddressesRefused, Demands}
use Rattle.demands.proofs.Flaws.{by_flaw}
use Rattle.demands.proofs.Checks as check
use Rattle.demands.proofs.Writes as write

pair : {A B : Type 0} {a c : A} {b d : B} → a ≡ c → b ≡ d → ◌≡◌ {A = A × B} (a, b) (c, d)
pair p q = λ i. (p i, q i)

tables : {t u : Tables} → t.slips ≡ u.slips → t.rows ≡ u.rows → t ≡ u
tables p q = λ i. record { slips = p i; rows = q i }

-- ─── checks ───

-- an outcome of the check whose verdict is w in numbers
record Told (x : Bytes × Tables) (w : DeskChecked) (t : Tables) : Type 0 where
  pub verdict : Verdict
  pub checks : Checks x.0 x.1.slips x.1.rows verdict t.slips t.rows
  pub numbers : w ≡ checked_numbers verdict

module _ {A : Type 0} (allows : Bytes × Tables → A × Tables → Type 0) (told : A → DeskChecked) (of : (x : Bytes × Tables) (y : A × Tables) → allows x y → Told x (told y.0) y.1) where
  demand_1 : ((x : Bytes × Tables) (y z : A × Tables) → allows x y → allows x z → y ≡ z) → Demand1 allows (λ r. (told r).number) CheckNumber
  demand_1 once = record {
    numbers = λ x y h. let o = of x y h in rw o.numbers (check.numbers x.0 x.1.slips x.1.rows o.verdict y.1.slips y.1.rows o.checks);
    once = once;
    keeps = λ x y h n.
        let o = of x y h in
        let k = check.keeps x.0 x.1.slips x.1.rows o.verdict y.1.slips y.1.rows o.checks (rw o.numbers at n) in
        tables k.0 k.1;
  }

  demand_2 : Demand2 allows told
  demand_2 = record {
    exactly = λ x y h. let o = of x y h in rw o.numbers (check.exactly x.0 x.1.slips x.1.rows o.verdict y.1.slips y.1.rows o.checks);
    of-message = λ m t y h e.
        let s : Bytes = message declaration m in
        let o = of (s, t) y h in
        rw o.numbers (check.of-message s t.slips t.rows o.verdict y.1.slips y.1.rows o.checks m refl e);
    belongs = λ x y h. let o = of x y h in rw o.numbers (check.belongs x.0 x.1.slips x.1.rows o.verdict y.1.slips y.1.rows o.checks);
    answers = λ x y h. let o = of x y h in rw o.numbers (check.answers x.0 x.1.slips x.1.rows o.verdict y.1.slips y.1.rows o.checks);
    absent = λ x y h. let o = of x y h in rw o.numbers (check.absent x.0 x.1.slips x.1.rows o.verdict y.1.slips y.1.rows o.checks);
  }

  by_texts : (x : Bytes × Tables) (y : A × Tables) (f : Flaw) (p : ℕ) → allows x y
      → (((told y.0).number ≡ flaw_number f) × ((told y.0).place ≡ p)) ↔ ((m : Message document) × TextBreaks x.0 m f p)
  by_texts x y f p h = let o = of x y h in rw o.numbers (check.texts x.0 x.1.slips x.1.rows o.verdict y.1.slips y.1.rows o.checks f p)

  refused-texts : TextsRefused allows told
  refused-texts = record {
    numbered = by_texts;
    somewhere = λ x y p h. by_flaw (told y.0).number ((told y.0).place ≡ p) (λ f. (m : Message document) × TextBreaks x.0 m f p) (λ f. by_texts x y f p h);
  }

  refused-addresses : AddressesRefused allows told
  refused-addresses = record {
    numbered = λ x y p h. let o = of x y h in rw o.numbers (check.addresses x.0 x.1.slips x.1.rows o.verdict y.1.slips y.1.rows o.checks p);
  }

check_told_lem : (x : Bytes × Tables) (y : Checked × Tables) → Check x y → Told x (check_told y.0) y.1
check_told_lem x y h = record { verdict = said y.0; checks = h; numbers = refl }

check_once : (x : Bytes × Tables) (y z : Checked × Tables) → Check x y → Check x z → y ≡ z
check_once x y z p q =
    let e = one-outcome x.0 x.1.slips x.1.rows (said y.0) (said z.0) y.1.slips y.1.rows z.1.slips z.1.rows p q in
    pair (said-once y.0 z.0 e.answer) (tables e.slips-same e.rows_same)

desk_told : (x : Bytes × Tables) (y : DeskChecked × Tables) → DeskCheck x y → Told x y.0 y.1
desk_told x y h = record { verdict = h.verdict; checks = h.checks; numbers = h.numbers }

desk_once : (x : Bytes × Tables) (y z : DeskChecked × Tables) → DeskCheck x y → DeskCheck x z → y ≡ z
desk_once x y z p q =
    let e = one-outcome x.0 x.1.slips x.1.rows p.verdict q.verdict y.1.slips y.1.rows z.1.slips z.1.rows p.checks q.checks in
    pair (p.numbers ∙ ap checked_numbers e.answer ∙ sym q.numbers) (tables e.slips-same e.rows_same)

-- ─── writers ───

abbrev Given : Type 0
Given = Job × Bytes

-- an outcome of the writer whose answer is w in numbers
abbrev Wrote : Given → DeskWritten → Bytes → Type 0
Wrote x w out' = (w ≡ written_numbers (answer_for x.0.list x.0.ceiling (length x.1))) × (out' ≡ output_for x.0.list x.0.ceiling x.1)

module _ {A : Type 0} (allows : Given → A × Bytes → Type 0) (told : A → DeskWritten) (of : (x : Given) (y : A × Bytes) → allows x y → Wrote x (told y.0) y.1) where
  ends : (x : Given) (y : A × Bytes) → allows x y → write.Outcome x.0.list x.0.ceiling x.1 (told y.0) y.1
  ends x y h = let o = of x y h in rw (o.0, o.1) (write.outcome x.0.list x.0.ceiling x.1)

  written_1 : ((x : Given) (y z : A × Bytes) → allows x y → allows x z → y ≡ z) → Demand1 allows (λ r. (told r).number) WriteNumber
  written_1 once = record {
    numbers = λ x y h. write.numbers x.0.list x.0.ceiling x.1 (told y.0) y.1 (ends x y h);
    once = once;
    keeps = λ x y h. write.keeps x.0.list x.0.ceiling x.1 (told y.0) y.1 (ends x y h);
  }

  written_3 : Demand3 allows told
  written_3 = record {
    given_room = λ x y h. write.given_room x.0.list x.0.ceiling x.1 (told y.0) y.1 (ends x y h);
    fixed = λ x y h z.
        write.fixed x.0.list x.0.ceiling x.1 (told y.0) y.1 (write.is-done x.0.list x.0.ceiling x.1 (told y.0) y.1 (ends x y h) z);
    fewest = λ x y h z.
        write.fewest x.0.list x.0.ceiling x.1 (told y.0) y.1 (write.is-done x.0.list x.0.ceiling x.1 (told y.0) y.1 (ends x y h) z);
    too_many = λ x y h. write.too_many x.0.list x.0.ceiling x.1 (told y.0) y.1 (ends x y h);
  }

  refused-values : ValuesRefused allows told
  refused-values = record {
    numbered = λ x y f n i h. write.values x.0.list x.0.ceiling x.1 (told y.0) y.1 f n i (ends x y h);
    somewhere = λ x y n h.
        by_flaw (told y.0).number ((told y.0).place ≡ n) (λ f. (i : ℕ) × ValueBreaks x.0.list x.0.ceiling f n i)
        (λ f. write.values-at x.0.list x.0.ceiling x.1 (told y.0) y.1 f n (ends x y h));
    no_field = λ x y h. write.no_field x.0.list x.0.ceiling x.1 (told y.0) y.1 (ends x y h);
  }

write_told_lem : (x : Given) (y : Written × Bytes) → Write x y → Wrote x (write_told y.0) y.1
write_told_lem x y h = (ap written_numbers h.0, h.1)

writes_once : (x : Given) (y z : Written × Bytes) → Write x y → Write x z → y ≡ z
writes_once x y z p q = pair (write_once y.0 z.0 (p.0 ∙ sym q.0)) (p.1 ∙ sym q.1)

desk_writes_once : (x : Given) (y z : DeskWritten × Bytes) → DeskWrite x y → DeskWrite x z → y ≡ z
desk_writes_once x y z p q = pair (p.0 ∙ sym q.0) (p.1 ∙ sym q.1)

-- ─── the claim ───

pub demands : Demands
demands = record {
  check_1 = demand_1 Check check_told check_told_lem check_once;
  desk_check_1 = demand_1 DeskCheck (λ r. r) desk_told desk_once;
  write_1 = written_1 Write write_told write_told_lem writes_once;
  desk_write_1 = written_1 DeskWrite (λ r. r) (λ x y h. h) desk_writes_once;
  check_2 = demand_2 Check check_told check_told_lem;
  desk_check_2 = demand_2 DeskCheck (λ r. r) desk_told;
  write_3 = written_3 Write write_told write_told_lem;
  desk_write_3 = written_3 DeskWrite (λ r. r) (λ x y h. h);
  check_texts = refused-texts Check check_told check_told_lem;
  desk_check_texts = refused-texts DeskCheck (λ r. r) desk_told;
  check_addresses = refused-addresses Check check_told check_told_lem;
  desk_check_addresses = refused-addresses DeskCheck (λ r. r) desk_told;
  write_values = refused-values Write write_told write_told_lem;
  desk_write_values = refused-values DeskWrite (λ r. r) (λ x y h. h);
}
