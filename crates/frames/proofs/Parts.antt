-- A WALK TO A TEXT of a line that holds a frame: j texts are passed, and the next length byte is at the place `at`.
--   Come f s j at            the walk has come so far
--   come_start, come_go      it begins after the lead bytes; it passes a text
--   come_there               the text at this place is there
--   come_part                where it stands
--   unhex-drop, unhex-take   a part of the digits stands for a part of the bytes
--   part-within, part-text   the part of a text is within the line, and its digits stand for the text
use Prim.Native.Nat.{ℕ, zero, suc, ◌+◌, ◌-◌, ◌*◌, ◌<◌, ◌≤◌}
use native.Mathlib.Decide.{dec_lt, dec_le}
use native.Mathlib.Omega.{arith}
use mathlib.Core.Bool.{true, false, ◌&&◌}
use mathlib.Core.List.{List, [], ◌∷◌}
use mathlib.Core.Path.{◌≡◌, refl, ap, sym, ◌∙◌}
use lib.Dec.{eqb, leb}
use lib.ListN.{length, take, drop, get_or, length-drop}
use lib.Seq.{drop-drop, length-take-le, drop-nil, take-nil}
use Rattle.laws.specs.Bytes.{Bytes}
use Rattle.laws.proofs.Loops.{drop-step}
use Rattle.laws.proofs.Tests.{and_r, T_true, true-T}
use Rattle.frames.specs.declared.Frame.{Frame}
use Rattle.frames.specs.declared.TextPart.{TextPart}
use Rattle.frames.specs.Hex.{unhex}
use Rattle.frames.specs.Frames.{holds, texts, framed, texts_of}
use Rattle.frames.specs.Parts.{bytes_before, part_of}
use Rattle.frames.proofs.Digits.{unhex-length}
use Rattle.frames.proofs.Walks.{holds-short, holds-over, holds-go}

never : {A : Type 0} → true ≡ false → A
never e = let z : ◌≡◌ {A = ℕ} 0 1 = cc in absurd (omega (arith, z))

module _ (left : ℕ) (s : Bytes) (at : ℕ) (l : 0 < left) (h : holds left (drop at s) ≡ true) where
  holds-there : at < length s
  holds-there = go (dec_lt at (length s))
    where
      go : Dec (at < length s) → at < length s
      go (yes k) = k
      go (no k) = never (sym h ∙ holds-short left s at l (omega arith))

  holds_fits : get_or s at 0 ≤ length s - (at + 1)
  holds_fits = go (dec_le (get_or s at 0) (length s - (at + 1)))
    where
      go : Dec (get_or s at 0 ≤ length s - (at + 1)) → get_or s at 0 ≤ length s - (at + 1)
      go (yes k) = k
      go (no k) = never (sym h ∙ holds-over left s at l holds-there (omega arith))

  texts-go : texts left (drop at s) ≡ take (get_or s at 0) (drop (at + 1) s) ∷ texts (left - 1) (drop (at + 1 + get_or s at 0) s)
  texts-go = rw (drop-step s at holds-there) (go left l)
    where
      go : (n : ℕ) → 0 < n → texts n (get_or s at 0 ∷ drop (at + 1) s) ≡ take (get_or s at 0) (drop (at + 1) s) ∷ texts (n - 1) (drop (at + 1 + get_or s at 0) s)
      go zero k = absurd (omega (arith, k))
      go (suc n) k = let e : suc n - 1 ≡ n = omega arith in rw (e, drop-drop (get_or s at 0) (at + 1) s)

-- the next of a list, and what stands after it
next-drop : (j : ℕ) (ts : List Bytes) (t : Bytes) (r : List Bytes) → drop j ts ≡ t ∷ r → drop (j + 1) ts ≡ r
next-drop zero ts t r e = rw e
next-drop (suc j) [] t r e = let z : ◌≡◌ {A = ℕ} 0 1 = cc in absurd (omega (arith, z))
next-drop (suc j) (u ∷ ts) t r e = let n : suc j + 1 ≡ suc (j + 1) = omega arith in rw n (next-drop j ts t r e)

next-before : (j : ℕ) (ts : List Bytes) (t : Bytes) (r : List Bytes) → drop j ts ≡ t ∷ r → bytes_before (j + 1) ts ≡ bytes_before j ts + (1 + length t)
next-before zero ts t r e = rw e (omega arith)
next-before (suc j) [] t r e = let z : ◌≡◌ {A = ℕ} 0 1 = cc in absurd (omega (arith, z))
next-before (suc j) (u ∷ ts) t r e = let n : suc j + 1 ≡ suc (j + 1) = omega arith in rw n (omega (arith, next-before j ts t r e))

next_get : (j : ℕ) (ts : List Bytes) (t : Bytes) (r : List Bytes) → drop j ts ≡ t ∷ r → get_or ts j [] ≡ t
next_get zero ts t r e = rw e
next_get (suc j) [] t r e = let z : ◌≡◌ {A = ℕ} 0 1 = cc in absurd (omega (arith, z))
next_get (suc j) (u ∷ ts) t r e = next_get j ts t r e

pub record Come (f : Frame) (s : Bytes) (j at : ℕ) : Type 0 where
  pub held : holds (f.texts - j) (drop at s) ≡ true
  pub left : texts (f.texts - j) (drop at s) ≡ drop j (texts_of f s)
  pub place : at ≡ 1 + f.lead + bytes_before j (texts_of f s)

pub come_start : (f : Frame) (s : Bytes) → framed f s ≡ true → Come f s 0 (1 + f.lead)
come_start f [] e = never (sym e)
come_start f (k ∷ s) e =
    let n : f.texts - 0 ≡ f.texts = omega arith in
    let a : 1 + f.lead ≡ suc f.lead = omega arith in
    let t = true-T (framed f (k ∷ s)) e in
    let h = and_r (leb f.lead (length s)) (holds f.texts (drop f.lead s)) (and_r (eqb k f.kind) (leb f.lead (length s) && holds f.texts (drop f.lead s)) t) in
    record { held = rw (n, a) (T_true (holds f.texts (drop f.lead s)) h); left = rw n; place = omega arith }

module _ (f : Frame) (s : Bytes) (j at : ℕ) (c : Come f s j at) (h : j < f.texts) where
  pub come_there : at + 1 + get_or s at 0 ≤ length s
  come_there = omega (arith, holds-there (f.texts - j) s at (omega arith) c.held, holds_fits (f.texts - j) s at (omega arith) c.held)

  -- the text at this place
  here : drop j (texts_of f s) ≡ take (get_or s at 0) (drop (at + 1) s) ∷ texts (f.texts - j - 1) (drop (at + 1 + get_or s at 0) s)
  here = sym c.left ∙ texts-go (f.texts - j) s at (omega arith) c.held

  size : length (take (get_or s at 0) (drop (at + 1) s)) ≡ get_or s at 0
  size = length-take-le (get_or s at 0) (drop (at + 1) s) (omega (arith, come_there, length-drop (at + 1) s))

  pub come_go : Come f s (j + 1) (at + 1 + get_or s at 0)
  come_go =
      let n : f.texts - (j + 1) ≡ f.texts - j - 1 = omega arith in
      record {
        held = rw n (sym (holds-go (f.texts - j) s at (omega arith) (omega (arith, come_there)) (omega (arith, come_there))) ∙ c.held);
        left = rw n (sym (next-drop j (texts_of f s) _ _ here));
        place = omega (arith, c.place, next-before j (texts_of f s) _ _ here, size);
      }

  pub come_part : ◌≡◌ {A = TextPart} (record { start = (at + 1) * 2; length = get_or s at 0 * 2 }) (part_of f j s)
  come_part = rw (next_get j (texts_of f s) _ _ here, size, ← c.place)

  -- and where it is said to stand, its bytes are the text
  here-text : take (get_or s at 0) (drop (at + 1) s) ≡ get_or (texts_of f s) j []
  here-text = sym (next_get j (texts_of f s) _ _ here)

-- ─── the digits of a text ───

pub unhex-drop : (p : ℕ) (l : Bytes) → unhex (drop (p * 2) l) ≡ drop p (unhex l)
unhex-drop zero l = refl
unhex-drop (suc p) l = let e : suc p * 2 ≡ suc (suc (p * 2)) = omega arith in rw e (go l (λ (k : Bytes). unhex-drop p k))
  where
    go : (l : Bytes) → ((k : Bytes) → unhex (drop (p * 2) k) ≡ drop p (unhex k)) → unhex (drop (suc (suc (p * 2))) l) ≡ drop (suc p) (unhex l)
    go [] f = refl
    go (a ∷ []) f = rw (drop-nil (suc (p * 2)))
    go (a ∷ b ∷ l) f = f l

pub unhex-take : (n : ℕ) (l : Bytes) → unhex (take (n * 2) l) ≡ take n (unhex l)
unhex-take zero l = refl
unhex-take (suc n) l = let e : suc n * 2 ≡ suc (suc (n * 2)) = omega arith in rw e (go l (λ (k : Bytes). unhex-take n k))
  where
    go : (l : Bytes) → ((k : Bytes) → unhex (take (n * 2) k) ≡ take n (unhex k)) → unhex (take (suc (suc (n * 2))) l) ≡ take (suc n) (unhex l)
    go [] f = refl
    go (a ∷ []) f = rw (take-nil (suc (n * 2)))
    go (a ∷ b ∷ l) f = rw (f l)

module _ (f : Frame) (line : Bytes) (e : framed f (unhex line) ≡ true) where
  -- the walk comes to each text
  come_at : (i : ℕ) → i ≤ f.texts → Come f (unhex line) i (1 + f.lead + bytes_before i (texts_of f (unhex line)))
  come_at zero h = let a : 1 + f.lead ≡ 1 + f.lead + 0 = omega arith in rw (← a) (come_start f (unhex line) e)
  come_at (suc i) h =
      let n : i + 1 ≡ suc i = omega arith in
      let k = come_go f (unhex line) i (1 + f.lead + bytes_before i (texts_of f (unhex line))) (come_at i (omega arith)) (omega arith) in
      rw (k.place, n) at k

  module _ (i : ℕ) (h : i < f.texts) where
    abbrev at : ℕ
    at = 1 + f.lead + bytes_before i (texts_of f (unhex line))

    walk : Come f (unhex line) i at
    walk = come_at i (omega arith)

    pub part-within : (part_of f i (unhex line)).start + (part_of f i (unhex line)).length ≤ length line
    part-within =
        rw (← here-text f (unhex line) i at walk h, size f (unhex line) i at walk h)
        (omega (arith, come_there f (unhex line) i at walk h, unhex-length line))

    pub part-text : unhex (take (part_of f i (unhex line)).length (drop (part_of f i (unhex line)).start line)) ≡ get_or (texts_of f (unhex line)) i []
    part-text =
        rw (unhex-take (length (get_or (texts_of f (unhex line)) i [])) (drop ((at + 1) * 2) line), unhex-drop (at + 1) line)
        (ap (λ (n : ℕ). take n (drop (at + 1) (unhex line))) (ap length (sym (here-text f (unhex line) i at walk h)) ∙ size f (unhex line) i at walk h) ∙ here-text f (unhex line) i at walk h)
