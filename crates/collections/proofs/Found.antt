-- THE VALUES OF A GOOD LIST, FOUND BY THE STARTS OF ITS LINES, and its labels, for whoever reads it line by line.
--   creditor-found, creditor-framed   the line at 0 is the creditor's, and holds its frame
--   inside, collection_found, collection_framed, collection_good   line i + 1 starts within the list; it is collection i's, and holds its frame; the values are good
--   label_some                        each label below the number needed is some collection's
use Prim.Native.Nat.{ℕ, ◌+◌, ◌≤◌, ◌<◌}
use native.Mathlib.Omega.{arith}
use mathlib.Core.Bool.{true}
use mathlib.Core.List.{List, [], ◌∷◌}
use mathlib.Core.Path.{◌≡◌, refl, ap, sym, ◌∙◌}
use lib.Dec.{eqb}
use lib.ListN.{length, get_or}
use Rattle.std.specs.Prelude.{Ok}
use Rattle.laws.specs.Bytes.{Bytes}
use Rattle.laws.specs.Lists.{count}
use Rattle.frames.specs.Lines.{Line, lines, starts_from, starts, line_from}
use Rattle.frames.specs.Hex.{unhex}
use Rattle.frames.specs.Frames.{creditor_frame, collection_frame, frame_of, framed}
use Rattle.frames.proofs.Cuts.{by_further}
use Rattle.frames.proofs.Starts.{line_at, start-within}
use Rattle.bundle.specs.Labels.{need_of, labels_of}
use Rattle.bundle.proofs.Codes.{all-at, label_used}
use Rattle.daylist.specs.Stages.{judged_list}
use Rattle.daylist.proofs.Goods.{GoodList, good-list, frames-each}
use Rattle.collections.specs.Listed.{Collection, same_terms, collection_of, creditor_of, first_line, creditor, listed}
use Rattle.collections.specs.Numbers.{terms_number, numbers_of}
use Rattle.collections.specs.Good.{GoodTerms, GoodCollection}
use Rattle.collections.proofs.Terms.{terms_decide, same_number}
use Rattle.collections.proofs.Lines.{none, collection_at_lem}
use Rattle.collections.proofs.Goods.{framed-line, good-collections, good-number, good-terms}

module _ (s : Bytes) (c n : ℕ) (e : judged_list s c ≡ Ok n) where
  list : GoodList s c n
  list = good-list s c n e

  -- the line i
  line : (i : ℕ) → i < n + 1 → line_from s (get_or (starts s) i 0) ≡ (get_or (lines s) i none).bytes
  line i h = line_at none s i (omega (arith, list))

  frame : (i : ℕ) → i < n + 1 → framed (frame_of (0 + i + 1)) (unhex (line_from s (get_or (starts s) i 0))) ≡ true
  frame i h = rw (line i h) (framed-line (frame_of (0 + i + 1)) (get_or (lines s) i none) (frames-each none 0 (n + 1) (lines s) list.frames i (omega (arith, list))))

  -- ─── the creditor ───

  first : get_or (starts s) 0 0 ≡ 0
  first = go (lines s) list.count
    where
      go : (ls : List Line) → length ls ≡ n + 1 → get_or (starts_from 0 ls) 0 0 ≡ 0
      go [] h = refl
      go (l ∷ ls) h = refl

  pub creditor-found : creditor_of (unhex (line_from s 0)) ≡ creditor s
  creditor-found = ap (λ (a : ℕ). creditor_of (unhex (line_from s a))) (sym first) ∙ ap (λ (b : Bytes). creditor_of (unhex b)) (line 0 (omega arith) ∙ go (lines s))
    where
      go : (ls : List Line) → (get_or ls 0 none).bytes ≡ first_line ls
      go [] = refl
      go (l ∷ ls) = refl

  pub creditor-framed : framed creditor_frame (unhex (line_from s 0)) ≡ true
  creditor-framed = ap (λ (a : ℕ). framed creditor_frame (unhex (line_from s a))) (sym first) ∙ frame 0 (omega arith)

  -- ─── a collection ───

  module _ (i : ℕ) (h : i < n) where
    pub inside : get_or (starts s) (i + 1) 0 < length s
    inside = start-within none s (i + 1) (omega (arith, list))

    pub collection_found : (d : Collection) → collection_of (unhex (line_from s (get_or (starts s) (i + 1) 0))) ≡ get_or (listed s) i d
    collection_found d = sym (collection_at_lem s i d (omega (arith, list)))

    pub collection_framed : framed collection_frame (unhex (line_from s (get_or (starts s) (i + 1) 0))) ≡ true
    collection_framed =
        let d : 0 + (i + 1) + 1 ≡ 1 → ⊥ = λ f. omega arith in
        let w = frame (i + 1) (omega arith) in
        rw (by_further (0 + (i + 1) + 1) creditor_frame collection_frame d) at w

    pub collection_good : (d : Collection) → GoodCollection (get_or (listed s) i d)
    collection_good d = all-at GoodCollection d (listed s) (good-collections s c n e) i (omega (arith, good-number s c n e))

  -- ─── the labels ───

  pub label_some : (k : ℕ) → k < need_of c (numbers_of s) → 1 ≤ count (eqb k) (labels_of c (numbers_of s))
  label_some = label_used (λ (x : Collection). x.terms) same_terms terms_decide (λ x. GoodTerms x.terms) (λ x. terms_number x.terms)
      (λ x y. same_number x.terms y.terms) c (listed s) list.least (good-terms s c n e)
