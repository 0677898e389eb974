-- THE TERMS OF A LINE, byte by byte, and the lines of a list by their starts.
--   date-none, date-there   the collection date of a line that is too short for one; of one that is not
--   number-bytes            the number of a line's terms, from its bytes
--   listed-number           there is a collection for each line but the first
--   numbers-length          and a number for each; numbers_fit: as many as the table of starts has, but for one
--   collection_at_lem           collection i, from its line
--   row-there, set-less, set-within   the table has a place for line i + 1; with number i written, less is left, and i + 1 are there
--   start-there, number_read   line i + 1 starts within the list; the number of what is read there
--   starts-whole            a table with a place for each line holds the starts and nothing else
use Prim.Native.Nat.{ℕ, zero, suc, ◌+◌, ◌-◌, ◌*◌, ◌<◌, ◌≤◌, min}
use native.Mathlib.Nat.{not-suc-le-zero, le_of_suc-le-suc}
use native.Mathlib.Omega.{arith}
use mathlib.Core.Bool.{false}
use mathlib.Core.List.{List, [], ◌∷◌, map}
use mathlib.Core.Path.{◌≡◌, refl, ap, sym, ◌∙◌}
use lib.ListN.{length, take, drop, get_or, set, length-set, length-map, length-drop, drop_of_length-le}
use lib.Seq.{get_or-drop, take_all}
use Rattle.laws.specs.Bytes.{Bytes, span}
use Rattle.laws.specs.Put.{put_at}
use Rattle.laws.proofs.Loops.{drop-step}
use Rattle.laws.proofs.Puts.{put_all}
use Rattle.text.specs.Rules.{number_told, date}
use Rattle.frames.specs.Lines.{Line, not_end, lines, starts, line_from}
use Rattle.frames.specs.Hex.{unhex}
use Rattle.frames.specs.Frames.{texts}
use Rattle.frames.proofs.Starts.{line_at, start-within, starts-number}
use Rattle.daylist.proofs.Leads.{take-there}
use Rattle.daylist.proofs.Ends.{part-is}
use Rattle.collections.specs.Listed.{Collection, collection_of, listed}
use Rattle.collections.specs.Numbers.{terms_number, numbers_of}

-- ─── a line, of which s are the bytes ───

module _ (s : Bytes) where
  pub date-none : length s ≤ 8 → number_told (date (collection_of s).terms.date) ≡ 0
  date-none h = rw (drop_of_length-le s {i = 8} h)

  pub date-there : (m : ℕ) → 8 < length s → m ≡ min (get_or s 8 0) (length s - 9) → (collection_of s).terms.date ≡ take m (drop 9 s)
  date-there m h e =
      ap (λ (t : Bytes). get_or (texts 8 t) 0 []) (drop-step s 8 h)
      ∙ take-there (get_or s 8 0) m (drop 9 s) (omega (arith, e, length-drop 9 s))

  scheme-at : get_or (take 7 (drop 1 s)) 0 0 ≡ get_or s 1 0
  scheme-at = go s
    where
      go : (s : Bytes) → get_or (take 7 (drop 1 s)) 0 0 ≡ get_or s 1 0
      go [] = refl
      go (a ∷ []) = refl
      go (a ∷ b ∷ s) = refl

  sequence-at : get_or (take 7 (drop 1 s)) 1 0 ≡ get_or s 2 0
  sequence-at = go s
    where
      go : (s : Bytes) → get_or (take 7 (drop 1 s)) 1 0 ≡ get_or s 2 0
      go [] = refl
      go (a ∷ []) = refl
      go (a ∷ b ∷ []) = refl
      go (a ∷ b ∷ c ∷ s) = refl

  pub number-bytes : (d k q : ℕ) → d ≡ number_told (date (collection_of s).terms.date) → k ≡ get_or s 1 0 → q ≡ get_or s 2 0 → (d * 2 + k) * 4 + q ≡ terms_number (collection_of s).terms
  number-bytes d k q a b c = rw (a, b, c, scheme-at, sequence-at)

-- ─── the lines of a list ───

map_at : {A B : Type 0} (f : A → B) (l : List A) (i : ℕ) (b : B) (a : A) → i < length l → get_or (map f l) i b ≡ f (get_or l i a)
map_at f [] i b a h = absurd (not-suc-le-zero h)
map_at f (x ∷ l) zero b a h = refl
map_at f (x ∷ l) (suc i) b a h = map_at f l i b a (le_of_suc-le-suc h)

abbrev pub none : Line
none = record { bytes = []; ended = false }

pub listed-number : (s : Bytes) → length (listed s) ≡ length (lines s) - 1
listed-number s = length-map (drop 1 (lines s)) _ ∙ length-drop 1 (lines s)

pub numbers-length : (s : Bytes) → length (numbers_of s) ≡ length (lines s) - 1
numbers-length s = length-map (listed s) _ ∙ listed-number s

pub collection_at_lem : (s : Bytes) (i : ℕ) (d : Collection) → i + 1 < length (lines s) → get_or (listed s) i d ≡ collection_of (unhex (line_from s (get_or (starts s) (i + 1) 0)))
collection_at_lem s i d h =
    let n : 1 + i ≡ i + 1 = omega arith in
    map_at (λ (l : Line). collection_of (unhex l.bytes)) (drop 1 (lines s)) i d none (omega (arith, length-drop 1 (lines s)))
    ∙ ap (λ (l : Line). collection_of (unhex l.bytes)) (get_or-drop 1 (lines s) i none ∙ ap (λ (k : ℕ). get_or (lines s) k none) n)
    ∙ ap (λ (b : Bytes). collection_of (unhex b)) (sym (line_at none s (i + 1) h))

number_at : (s : Bytes) (i : ℕ) → i + 1 < length (lines s) → get_or (numbers_of s) i 0 ≡ terms_number (collection_of (unhex (line_from s (get_or (starts s) (i + 1) 0)))).terms
number_at s i h =
    map_at (λ x. terms_number x.terms) (listed s) i 0 (collection_of []) (omega (arith, listed-number s))
    ∙ ap (λ (x : Collection). terms_number x.terms) (collection_at_lem s i (collection_of []) h)

-- ─── the table of starts ───

pub numbers_fit : (s : Bytes) (t : List ℕ) (n : ℕ) → t ≡ starts s → n + 1 ≡ length t → n ≡ length (numbers_of s)
numbers_fit s t n e h = omega (arith, ap length e, starts-number s, numbers-length s)

-- of n numbers, as many as the m that were lent, number i is to be written
pub row-there : (i n m k : ℕ) → i < n → n ≡ m → m + 1 ≡ k → i + 1 < k
row-there i n m k h a b = omega (arith, h, a, b)

module _ (l : List ℕ) (i v : ℕ) (h : i < length l) where
  pub set-less : length (set l i v) - (i + 1) < length l - i
  set-less = rw (length-set l i v) (omega (arith, h))

  pub set-within : i + 1 ≤ length (set l i v)
  set-within = rw (length-set l i v) (omega (arith, h))

-- t is the table of starts, and collection i stands in line i + 1, counted from 0
module _ (s : Bytes) (t : List ℕ) (e : t ≡ starts s) (i : ℕ) (h : i + 1 < length t) where
  line-there : i + 1 < length (lines s)
  line-there = omega (arith, ap length e, starts-number s)

  pub start-there : get_or t (i + 1) 0 < length s
  start-there = rw e (start-within none s (i + 1) line-there)

  pub number_read : (end r : ℕ) → end ≡ get_or t (i + 1) 0 + span not_end (drop (get_or t (i + 1) 0) s)
      → r ≡ terms_number (collection_of (unhex (take (end - get_or t (i + 1) 0) (drop (get_or t (i + 1) 0) s)))).terms → r ≡ get_or (numbers_of s) i 0
  number_read end r f g = g ∙ rw (part-is s (get_or t (i + 1) 0) end f, e) (sym (number_at s i line-there))

pub starts-whole : (s : Bytes) (t : List ℕ) → length t ≡ length (lines s) → put_at t 0 (take (length t) (starts s)) ≡ starts s
starts-whole s t h = rw (take_all (length t) (starts s) (omega (arith, starts-number s))) (put_all t (starts s) (omega (arith, starts-number s)))
