-- A GOOD LIST HAS ALL THAT ITS WRITERS ASK: t its table of starts, ls the labels of its collections, m the number of batches that they need.
--   ready, batches-ready    each collection is found and has a label; each batch has a collection
--   written_is              the message by labels is the written one
--   written-short           it is not longer than a message may be
use Prim.Native.Nat.{ℕ, ◌≤◌}
use native.Mathlib.Omega.{arith}
use mathlib.Core.List.{List}
use mathlib.Core.Path.{◌≡◌, ap}
use lib.ListN.{length}
use Rattle.std.specs.Prelude.{Ok}
use Rattle.laws.specs.Bytes.{Bytes}
use Rattle.profile.specs.Limits.{most_bytes, most_batches}
use Rattle.frames.specs.Lines.{starts}
use Rattle.frames.proofs.Starts.{starts-number}
use Rattle.daylist.specs.Stages.{judged_list}
use Rattle.daylist.proofs.Goods.{GoodList, good-list}
use Rattle.bundle.specs.Labels.{need_of, labels_of}
use Rattle.collections.specs.Listed.{listed}
use Rattle.collections.specs.Numbers.{numbers_of}
use Rattle.collections.proofs.Terms.{terms_decide}
use Rattle.collections.proofs.Goods.{good-number, good-creditor, good-collections}
use Rattle.collections.proofs.Found.{creditor-found, creditor-framed, inside, collection_found, collection_framed, collection_good, label_some}
use Rattle.collections.proofs.Batches.{batches_by_label, need_by_number}
use Rattle.written.specs.Written.{no_collection, batches_for, written}
use Rattle.written.proofs.Bundled.{list_written, list_length}
use Rattle.batched.specs.Ready.{ListReady, BatchesReady, batches_from, message_by}

module _ (s : Bytes) (c n : ℕ) (e : judged_list s c ≡ Ok n) (t ls : List ℕ) (u : t ≡ starts s) (v : length ls ≡ n) where
  list : GoodList s c n
  list = good-list s c n e

  pub ready : ListReady s t ls
  ready = record {
    creditor = creditor-framed s c n e;
    few = omega (arith, list.few);
    size = omega (arith, ap length u, starts-number s, list.count);
    count = omega (arith, good-number s c n e);
    inside = λ i h. rw u (let k = inside s c n e i (omega arith) in omega arith);
    frame = λ i h. rw u (collection_framed s c n e i (omega arith));
    is = λ i h. rw u (collection_found s c n e i (omega arith) no_collection);
    cents = λ i h. (collection_good s c n e i (omega arith) no_collection).most;
  }

  module _ (w : ls ≡ labels_of c (numbers_of s)) (m : ℕ) (x : m ≡ need_of c (numbers_of s)) where
    pub batches-ready : m ≤ most_batches → BatchesReady s t ls m
    batches-ready h = record { ready = ready; some = λ k l. rw w (label_some s c n e k (omega arith)); most = h }

    by_label : batches_for s c ≡ batches_from 0 m ls (listed s)
    by_label = rw (w, x) (batches_by_label s c n e)

    pub written_is : message_by s ls m ≡ written s c
    written_is =
        rw (creditor-found s c n e, ← by_label)
        (list_written terms_decide s c list.least (good-creditor s c n e) (good-collections s c n e) (omega (arith, good-number s c n e, list.some)))

    -- it is not longer than a message may be
    pub written-short : m ≤ most_batches → length (message_by s ls m) ≤ most_bytes
    written-short h =
        rw written_is
        (list_length terms_decide s c list.least (good-creditor s c n e) (good-collections s c n e) (omega (arith, good-number s c n e, list.some))
        (omega (arith, good-number s c n e, list.few)) (omega (arith, h, x, need_by_number s c n e)))
