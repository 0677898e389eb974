-- WHAT THE WRITERS OF A MESSAGE ASK of the list, its table of starts and its labels. Not to be believed: a list that is judged good, with its table and labels, has it all (`ready`).
--   collection_at s a, creditor_at s       the collection of the line from a on; the creditor of the first line
--   ListReady s table labels             s has its creditor, and each collection is found by the table and has a label
--   BatchesReady .. m                    for each label below m a collection has it
--   batch_room                            no batch has more bytes
--   batches_from k m labels xs            m batches from number k on: each the collections of xs that have its label
--   message_by s labels m                 the bytes of the message of the list s whose m batches have these labels
use Rattle.std.specs.Prelude.{ℕ, ◌+◌, ◌*◌, ◌≤◌, ◌<◌, true, List, map, ◌≡◌, eqb, length, get_or}
use Rattle.laws.specs.Bytes.{Bytes}
use Rattle.laws.specs.Lists.{count}
use Rattle.profile.specs.Limits.{most_batches, most_collections, most_cents}
use Rattle.frames.specs.Lines.{line_from}
use Rattle.frames.specs.Hex.{unhex}
use Rattle.frames.specs.Frames.{framed, creditor_frame, collection_frame}
use Rattle.bundle.specs.Labels.{pick, up_from}
use Rattle.collections.specs.Listed.{Collection, Creditor, collection_of, creditor_of, listed}
use Rattle.written.specs.Written.{no_collection}
use Rattle.written.specs.Pieces.{message_bytes}

abbrev pub collection_at : Bytes → ℕ → Collection
collection_at s a = collection_of (unhex (line_from s a))

abbrev pub creditor_at : Bytes → Creditor
creditor_at s = creditor_of (unhex (line_from s 0))

pub record ListReady (s : Bytes) (table labels : List ℕ) : Type 0 where
  pub creditor : framed creditor_frame (unhex (line_from s 0)) ≡ true
  pub few : length labels ≤ most_collections
  pub size : length table ≡ length labels + 1
  pub count : length (listed s) ≡ length labels
  pub inside : (i : ℕ) → i < length labels → get_or table (i + 1) 0 ≤ length s
  pub frame : (i : ℕ) → i < length labels → framed collection_frame (unhex (line_from s (get_or table (i + 1) 0))) ≡ true
  pub is : (i : ℕ) → i < length labels → collection_at s (get_or table (i + 1) 0) ≡ get_or (listed s) i no_collection
  pub cents : (i : ℕ) → i < length labels → (get_or (listed s) i no_collection).cents ≤ most_cents

pub record BatchesReady (s : Bytes) (table labels : List ℕ) (m : ℕ) : Type 0 where
  pub ready : ListReady s table labels
  pub some : (k : ℕ) → k < m → 1 ≤ count (eqb k) labels
  pub most : m ≤ most_batches

-- 2,300 for each transaction, and what stands before and after them
abbrev pub batch_room : ℕ
batch_room = 2_300 * most_collections + 3_000

abbrev pub batches_from : {X : Type 0} → ℕ → ℕ → List ℕ → List X → List (List X)
batches_from k m labels xs = map (λ j. pick j labels xs) (up_from k m)

abbrev pub message_by : Bytes → List ℕ → ℕ → Bytes
message_by s labels m = message_bytes (creditor_at s) (batches_from 0 m labels (listed s))
