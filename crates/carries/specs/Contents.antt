-- WHAT THE ELEMENTS OF A TREE HOLD, without their places. Not to be believed: `said-contents` says that this is what a message says.
--   Content                the part of an element, what its text is judged, and the text
--   contents t r           the contents of the tree t in the order of the opening tags, before r
--   content_of s t          what the element t holds, of the message s
--   is, before, parts, all_of, the   the elements of a part, as Sections says
--   worth o, text_of o      the number that a text states, and the text; 0 and empty where there is none
--   terms_in p, collection_in k p, collections_in p, carried_of cs   the collections
--   ProfileIn cs           more than InProfile: the limits of batches and transactions, the texts, and no address
--   AgreedIn cs            as AllAgree: every declared count and sum is that of the collections
use Rattle.std.specs.Prelude.{ℕ, ◌≤◌, Bool, false, List, [], ◌∷◌, map, ◌≡◌, T, length, take, drop}
use Rattle.std.proofs.Math.Option.{Option, none, some}
use Rattle.laws.specs.Bytes.{Bytes}
use Rattle.laws.specs.Lists.{total, All, concat}
use Rattle.laws.specs.Sections as sections
use Rattle.profile.specs.Limits.{most_batches, most_transactions}
use Rattle.text.specs.Rules.{Judged, number_told, good}
use Rattle.tree.specs.declared.Kind.{Kind}
use Rattle.tree.specs.Form.{Elem, Items, Tree, Kids, part, kind, Tree.tree, Kids.end, Kids.skip, Kids.take as take'}
use Rattle.tree.specs.Parts as part
use Rattle.message.specs.declared.Told.{Told}
use Rattle.message.specs.Message.{judged_as}
use Rattle.collections.specs.Listed.{Terms, Collection}
use Rattle.carries.specs.Carried.{terms_by, collection_by}

-- ─── the contents of a tree ───

pub record Content : Type 0 where
  pub part : ℕ
  pub judged : Judged
  pub text : Bytes

abbrev pub content : ℕ → Kind → Bytes → Content
content p k x = record { part = p; judged = judged_as k x; text = x }

abbrev mutual
  pub contents : {e : Elem} → Tree e → List Content → List Content
  contents {e} (tree u ks) r = content (part e) (kind e) u.run ∷ kid_contents ks r

  pub kid_contents : {is : Items} → Kids is → List Content → List Content
  kid_contents end r = r
  kid_contents (skip t ks) r = kid_contents ks r
  kid_contents (take' t w ks) r = contents t (kid_contents ks r)

abbrev pub content_of : Bytes → Told → Content
content_of s t = record { part = t.part; judged = t.judged; text = take t.length (drop t.start s) }

-- ─── finding elements ───

abbrev pub is : ℕ → Content → Bool
is = sections.is (λ c. c.part)

abbrev pub before : ℕ → List Content → List Content
before = sections.before (λ c. c.part)

abbrev pub parts : ℕ → List Content → List (List Content)
parts = sections.parts (λ c. c.part)

abbrev pub all_of : ℕ → List Content → List Content
all_of = sections.all_of (λ c. c.part)

abbrev pub the : ℕ → List Content → Option Content
the = sections.the (λ c. c.part)

-- ─── collections ───

abbrev pub worth : Option Content → ℕ
worth none = 0
worth (some t) = number_told t.judged

abbrev pub text_of : Option Content → Bytes
text_of none = []
text_of (some t) = t.text

abbrev pub terms_in : List Content → Terms
terms_in p = terms_by (λ n. worth (the n p)) (λ n. text_of (the n p))

abbrev pub collection_in : Terms → List Content → Collection
collection_in k p = collection_by (λ n. worth (the n p)) (λ n. text_of (the n p)) k

-- of a batch
abbrev pub collections_in : List Content → List Collection
collections_in p = map (collection_in (terms_in p)) (parts part.transaction p)

abbrev pub carried_of : List Content → List (List Collection)
carried_of cs = map collections_in (parts part.batch cs)

-- ─── acceptance ───

pub record ProfileIn (cs : List Content) : Type 0 where
  pub batches : length (all_of part.batch cs) ≤ most_batches
  pub transactions : length (all_of part.transaction cs) ≤ most_transactions
  pub texts : All (λ t. T (good t.judged)) cs
  pub addresses : All (λ t. is part.address t ≡ false) cs

-- a declaration is absent, or states the number n
abbrev pub Agreed : Option Content → ℕ → Type 0
Agreed none n = Unit {0}
Agreed (some t) n = number_told t.judged ≡ n

abbrev pub total_cents : List Collection → ℕ
total_cents xs = total (λ x. x.cents) xs

-- of a batch
pub record BatchAgreed (p : List Content) : Type 0 where
  pub count : Agreed (the part.batch_count p) (length (collections_in p))
  pub sum : Agreed (the part.batch_sum p) (total_cents (collections_in p))

pub record AgreedIn (cs : List Content) : Type 0 where
  pub batches : All BatchAgreed (parts part.batch cs)
  pub message_count : Agreed (the part.message_count cs) (length (concat (carried_of cs)))
  pub message_sum : Agreed (the part.message_sum cs) (total_cents (concat (carried_of cs)))
