-- THE BATCHES OF A GOOD LIST, by the numbers of its collections' terms.
--   need_by_number     how many batches are needed
--   batches_by_label   batch k is the collections whose label is k, in list order
use Prim.Native.Nat.{ℕ}
use mathlib.Core.List.{map}
use mathlib.Core.Path.{◌≡◌}
use Rattle.std.specs.Prelude.{Ok}
use Rattle.laws.specs.Bytes.{Bytes}
use Rattle.bundle.specs.Bundle.{bundle, need}
use Rattle.bundle.specs.Labels.{need_of, labels_of, pick, up_to}
use Rattle.bundle.proofs.Codes.{need_by_number as by_number, batches_by_number}
use Rattle.daylist.specs.Stages.{judged_list}
use Rattle.daylist.proofs.Goods.{good-list}
use Rattle.collections.specs.Listed.{Collection, same_terms, listed}
use Rattle.collections.specs.Numbers.{terms_number, numbers_of}
use Rattle.collections.specs.Good.{GoodTerms}
use Rattle.collections.proofs.Terms.{terms_decide, same_number}
use Rattle.collections.proofs.Goods.{good-terms}

module _ (s : Bytes) (c n : ℕ) (e : judged_list s c ≡ Ok n) where
  pub need_by_number : need_of c (numbers_of s) ≡ need (λ x. x.terms) same_terms c (listed s)
  need_by_number = by_number (λ (x : Collection). x.terms) same_terms terms_decide (λ x. GoodTerms x.terms) (λ x. terms_number x.terms)
      (λ x y. same_number x.terms y.terms) c (listed s) (good-list s c n e).least (good-terms s c n e)

  pub batches_by_label : bundle (λ x. x.terms) same_terms c (listed s) ≡ map (λ k. pick k (labels_of c (numbers_of s)) (listed s)) (up_to (need_of c (numbers_of s)))
  batches_by_label = batches_by_number (λ (x : Collection). x.terms) same_terms terms_decide (λ x. GoodTerms x.terms) (λ x. terms_number x.terms)
      (λ x y. same_number x.terms y.terms) c (listed s) (good-list s c n e).least (good-terms s c n e)
