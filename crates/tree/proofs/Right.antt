-- THE READER OF CHILDREN IS RIGHT. An element, and a list of children with its closing tag, ends itself; so every claim is made `for whatever follows`
-- (for all x), and claims compose. The fuel of `kids_by` does not matter (`kids-is`).
use Prim.Native.Nat.{ℕ, zero, suc, ◌+◌, ◌-◌, ◌≤◌}
use native.Mathlib.Nat.{not-suc-le-zero, add_assoc, le_refl}
use native.Mathlib.Omega.{arith}
use mathlib.Core.List.{List, [], ◌∷◌, ◌++◌, append_assoc}
use mathlib.Core.Path.{◌≡◌, refl, ap, sym, subst, ◌∙◌}
use mathlib.Core.Logic.{◌⊎◌, inl, inr}
use lib.Dec.{T}
use lib.ListN.{length, drop, take as takeN, length-drop, length-append, take-append-drop}
use lib.Seq.{take-append-add, length-take-le, take-append_seam}
use Rattle.laws.specs.Bytes.{Bytes, span}
use Rattle.tree.specs.Form.{Elem, Items, Tree, Kids, Run, event, in_run, items, kind, part, opening, closing, Tree.tree}
use Rattle.tree.specs.declared.Kind.{Kind}
use Rattle.tree.specs.declared.Kind.TheVariants.{Holds}
use Rattle.tree.specs.declared.Event.{Event}
use Rattle.tree.specs.Apart.{ok_elem, ok_items}
use Rattle.tree.specs.Tags.{Choice, Choice.stop, Choice.close, Choice.child, choose}
use Rattle.tree.specs.Reader.{Got, Got.got, Got.lost, pass, Reads, element, others, kid_step, kids_by, kids}
use Rattle.tree.proofs.Onto.{bytes, kid_bytes, events, kid_events}
use Rattle.tree.proofs.Shared.{Off, Shares, off_mono, off_append, shares_append}
use Rattle.tree.proofs.Steps.{shorter, front, front-append, front_length, front_fits}
use Rattle.tree.proofs.Choose.{Found, found, no_run, some-kids, len_opening, len_closing, Fine, fine, Ruled, ruled, Begins, begins_kids, Stops, stops, ok_elem_lem, span-parts}

-- ─── the first half ───

-- for a set of words, each in front of any x: the bytes read are one of them; or one of them goes as far as the place
abbrev pub SoundG : (A : Type 0) → (A → Bytes → Bytes) → Bytes → Got → Type 0
SoundG A f s (got m es) = (a : A) × (m ≤ length s) × ((x : Bytes) → f a x ≡ takeN m s ++ x)
SoundG A f s (lost n) = (a : A) × ((x : Bytes) → Shares s (f a x) n)

sound-map : {A B : Type 0} (f : A → Bytes → Bytes) (h : B → Bytes → Bytes) (c : A → B) → ((a : A) (x : Bytes) → h (c a) x ≡ f a x)
    → (s : Bytes) (g : Got) → SoundG A f s g → SoundG B h s g
sound-map f h c e s (got m es) g = (c g.0, g.1, λ x. e g.0 x ∙ g.2 x)
sound-map f h c e s (lost n) g = (c g.0, λ x. rw (e g.0 x) (g.1 x))

-- after a word t
sound-behind : {A B : Type 0} (f : A → Bytes → Bytes) (h : B → Bytes → Bytes) (t s : Bytes) (es : List Event) (c : A → B) → ((a : A) (x : Bytes) → h (c a) x ≡ t ++ f a x)
    → (g : Got) → SoundG A f s g → SoundG B h (t ++ s) (pass (length t) es g)
sound-behind f h t s es c e (got m es') g =
    (c g.0, omega (arith, length-append t s, g.1), λ x. rw (take-append-add t s m, e g.0 x, g.2 x) (sym (append_assoc t (takeN m s) x)))
sound-behind f h t s es c e (lost n) g = (c g.0, λ x. rw (e g.0 x) (shares_append t s (f g.0 x) n (g.1 x)))

-- a word and a run are a word
pub word_length : (t r : Bytes) (k : Kind) → length (t ++ front (in_run k) r) ≡ length t + span (in_run k) r
word_length t r k = length-append t (front (in_run k) r) ∙ ap (λ (n : ℕ). length t + n) (front_length (in_run k) r)

pub word_rest : (t r : Bytes) (k : Kind) → t ++ r ≡ (t ++ front (in_run k) r) ++ drop (span (in_run k) r) r
word_rest t r k = ap (λ (l : Bytes). t ++ l) (front-append (in_run k) r) ∙ sym (append_assoc t (front (in_run k) r) (drop (span (in_run k) r) r))

unfoldable pub run_at : (k : Kind) (r : Bytes) → Run k
run_at k r = record { run = front (in_run k) r; fits = front_fits (in_run k) r }

abbrev pub SoundBy : Reads → Type 0
SoundBy f = (is : Items) (e : Elem) (p : ℕ) (s : Bytes) → SoundG (Kids is) (λ ks x. kid_bytes ks (closing e) x) s (f is e p s)

-- after a word t and the run there, f reads the children of e
sound_on : (f : Reads) → SoundBy f → {B : Type 0} (h : B → Bytes → Bytes) (k : Kind) (t r : Bytes) (es : List Event) (is : Items) (e : Elem) (p : ℕ) (c : Kids is → B)
    → ((ks : Kids is) (x : Bytes) → h (c ks) x ≡ t ++ (front (in_run k) r ++ kid_bytes ks (closing e) x))
    → SoundG B h (t ++ r) (pass (length t + span (in_run k) r) es (f is e p (drop (span (in_run k) r) r)))
sound_on f ih {B} h k t r es is e p c eq =
    let n : ℕ = span (in_run k) r in
    let g : Got = f is e p (drop n r) in
    let u : Bytes = front (in_run k) r in
    subst (λ (s : Bytes). SoundG B h s (pass (length t + n) es g)) (sym (word_rest t r k))
    (subst (λ (j : ℕ). SoundG B h ((t ++ u) ++ drop n r) (pass j es g)) (word_length t r k)
    (sound-behind (λ ks x. kid_bytes ks (closing e) x) h (t ++ u) (drop n r) es c
    (λ ks x. eq ks x ∙ sym (append_assoc t u (kid_bytes ks (closing e) x))) g (ih is e p (drop n r))))

pub sound-element : (f : Reads) → SoundBy f → (c : Elem) (p : ℕ) (r : Bytes) → SoundG (Tree c) (λ t x. bytes t x) (opening c ++ r) (element f c p r)
unfolding run_at
sound-element f ih c p r =
    let n : ℕ = span (in_run (kind c)) r in
    let o : ℕ = length (opening c) in
    sound_on f ih (λ t x. bytes t x) (kind c) (opening c) r (event (part c) (kind c) p (p + o) n ∷ []) (items c) c (p + (o + n))
    (λ ks. tree (run_at (kind c) r) ks) (λ ks x. refl)

abbrev Child : Elem → Items → Type 0
Child c is = Tree c × Run Holds × Kids is

abbrev child_bytes : (c : Elem) (is : Items) (e : Elem) → Child c is → Bytes → Bytes
child_bytes c is e b x = bytes b.0 (b.1.run ++ kid_bytes b.2 (closing e) x)

sound-others : (f : Reads) → SoundBy f → (c : Elem) (is : Items) (e : Elem) (p : ℕ) (s : Bytes) (g : Got) → SoundG (Tree c) (λ t x. bytes t x) s g
    → SoundG (Child c is) (child_bytes c is e) s (others f is e p s g)
unfolding run_at
sound-others f ih c is e p s (lost n) h = ((h.0, no_run Holds, some-kids is), λ x. h.1 _)
sound-others f ih c is e p s (got m es) h =
    let r : Bytes = drop m s in
    let n : ℕ = span (in_run Holds) r in
    subst (λ (l : Bytes). SoundG (Child c is) (child_bytes c is e) l (pass (m + n) es (f is e (p + (m + n)) (drop n r)))) (take-append-drop m s)
    (subst (λ (j : ℕ). SoundG (Child c is) (child_bytes c is e) (takeN m s ++ r) (pass (j + n) es (f is e (p + (m + n)) (drop n r)))) (length-take-le m s h.1)
    (sound_on f ih (child_bytes c is e) Holds (takeN m s) r es is e (p + (m + n)) (λ ks. (h.0, run_at Holds r, ks))
    (λ ks x. h.2 (front (in_run Holds) r ++ kid_bytes ks (closing e) x))))

sound-choice : (f : Reads) → SoundBy f → (is : Items) (e : Elem) (p : ℕ) (s : Bytes) (c : Choice) → Found is (closing e) s c
    → SoundG (Kids is) (λ ks x. kid_bytes ks (closing e) x) s (kid_step f e p s c)
sound-choice f ih is e p s (stop n) h = h
sound-choice f ih is e p s (close r) h =
    (h.1.0, omega (arith, length-append (closing e) r, ap length h.0), λ x. rw (h.0, take-append_seam (closing e) r) (h.1.1 x))
sound-choice f ih is e p s (child c is' r) h =
    sound-map (child_bytes c is' e) (λ ks x. kid_bytes ks (closing e) x) (λ b. (h.1 b.0 b.1 b.2).0) (λ b x. (h.1 b.0 b.1 b.2).1 x) s (others f is' e p s (element f c p r))
    (sound-others f ih c is' e p s (element f c p r) (rw h.0 (sound-element f ih c p r)))

pub sound : (k : ℕ) → SoundBy (kids_by k)
sound zero is e p s = (some-kids is, λ x. tt)
sound (suc k) is e p s = sound-choice (λ is' e' p' s'. kids_by k is' e' p' s') (λ is' e' p' s'. sound k is' e' p' s') is e p s (choose is (closing e) s) (found is (closing e) s)

-- ─── the second half ───

-- a word (before x), with its events (before those of the place after it): it parts from s within what was read, or is what was read; or it parts within the place
abbrev pub UniqueG : (Bytes → Bytes) → (ℕ → (ℕ → List Event) → List Event) → ℕ → Bytes → Got → Type 0
UniqueG w v p s (got m es) = ((x : Bytes) → Off s (w x) m) ⊎ (((x : Bytes) → w x ≡ takeN m s ++ x) × ((f : ℕ → List Event) → v p f ≡ es ++ f (p + m)))
UniqueG w v p s (lost n) = (x : Bytes) → Off s (w x) n

unique_off : (w : Bytes → Bytes) (v : ℕ → (ℕ → List Event) → List Event) (p : ℕ) (s : Bytes) (m : ℕ) (es : List Event) → ((x : Bytes) → Off s (w x) m)
    → (g : Got) → UniqueG w v p s (pass m es g)
unique_off w v p s m es o (got m' es') = inl (λ x. off_mono s (w x) m (m + m') (omega arith) (o x))
unique_off w v p s m es o (lost n) = λ x. off_mono s (w x) m (m + n) (omega arith) (o x)

unique-behind : (w w' : Bytes → Bytes) (v v' : ℕ → (ℕ → List Event) → List Event) (p : ℕ) (t s : Bytes) (es : List Event) → ((x : Bytes) → w' x ≡ t ++ w x)
    → ((f : ℕ → List Event) → v' p f ≡ es ++ v (p + length t) f) → (g : Got) → UniqueG w v (p + length t) s g → UniqueG w' v' p (t ++ s) (pass (length t) es g)
unique-behind w w' v v' p t s es ew ev (got m es') (inl o) = inl (λ x. rw (ew x) (off_append t s (w x) m (o x)))
unique-behind w w' v v' p t s es ew ev (got m es') (inr h) =
    inr (
      λ x. rw (take-append-add t s m, ew x, h.0 x) (sym (append_assoc t (takeN m s) x)),
      λ f. ev f ∙ ap (λ (l : List Event). es ++ l) (h.1 f) ∙ sym (append_assoc es es' (f (p + length t + m))) ∙ ap (λ (j : ℕ). (es ++ es') ++ f j) (add_assoc p (length t) m),
    )
unique-behind w w' v v' p t s es ew ev (lost n) o = λ x. rw (ew x) (off_append t s (w x) n (o x))

abbrev pub UniqueBy : ℕ → Reads → Type 0
UniqueBy k f = (is : Items) (e : Elem) (p : ℕ) (s : Bytes) → length s ≤ k → T (ok_items is (closing e)) → (ks : Kids is)
    → UniqueG (λ x. kid_bytes ks (closing e) x) (λ q g. kid_events ks (closing e) q g) p s (f is e p s)

-- something was read, and no more than is there
abbrev pub Pos : Bytes → Got → Type 0
Pos s (got m es) = (1 ≤ m) × (m ≤ length s)
Pos s (lost n) = Unit {0}

-- an answer is at or beyond m
abbrev pub From : ℕ → Got → Type 0
From m (got m' es) = m ≤ m'
From m (lost n) = m ≤ n

from-pass : (m j : ℕ) (es : List Event) (g : Got) → m ≤ j → From m (pass j es g)
from-pass m j es (got m' es') h = omega arith
from-pass m j es (lost n) h = omega arith

from_more : (m j : ℕ) (g : Got) → m ≤ j → From j g → From m g
from_more m j (got m' es) h k = omega arith
from_more m j (lost n) h k = omega arith

pub from-element : (f : Reads) (c : Elem) (p : ℕ) (r : Bytes) → From (length (opening c)) (element f c p r)
from-element f c p r =
    let n : ℕ = span (in_run (kind c)) r in
    let o : ℕ = length (opening c) in
    from-pass o (o + n) (event (part c) (kind c) p (p + o) n ∷ []) (f (items c) c (p + (o + n)) (drop n r)) (omega arith)

unique-from : (w : Bytes → Bytes) (v : ℕ → (ℕ → List Event) → List Event) (f : Reads) (is : Items) (e : Elem) (p : ℕ) (s : Bytes) (m : ℕ) → ((x : Bytes) → Off s (w x) m)
    → (g : Got) → From m g → UniqueG w v p s (others f is e p s g)
unique-from w v f is e p s m o (lost n) h = λ x. off_mono s (w x) m n h (o x)
unique-from w v f is e p s m o (got m' es) h =
    let n : ℕ = span (in_run Holds) (drop m' s) in
    unique_off w v p s (m' + n) es (λ x. off_mono s (w x) m (m' + n) (omega arith) (o x)) (f is e (p + (m' + n)) (drop n (drop m' s)))

unique-map : (w w' : Bytes → Bytes) (v v' : ℕ → (ℕ → List Event) → List Event) (p : ℕ) (s : Bytes) → ((x : Bytes) → w' x ≡ w x) → ((f : ℕ → List Event) → v' p f ≡ v p f)
    → (g : Got) → UniqueG w v p s g → UniqueG w' v' p s g
unique-map w w' v v' p s ew ev (got m es) (inl o) = inl (λ x. rw (ew x) (o x))
unique-map w w' v v' p s ew ev (got m es) (inr h) = inr (λ x. ew x ∙ h.0 x, λ f. ev f ∙ h.1 f)
unique-map w w' v v' p s ew ev (lost n) o = λ x. rw (ew x) (o x)

pub pos_of : (c : Elem) (s : Bytes) (m : ℕ) (g : Got) → 1 ≤ m → From m g → SoundG (Tree c) (λ t x. bytes t x) s g → Pos s g
pos_of c s m (got m' es) h k so = (omega arith, so.1)
pos_of c s m (lost n) h k so = tt

module _ (k : ℕ) (f : Reads) (ih : UniqueBy k f) where
  -- after a word t and a run of the kind j, the children ks of e
  unique_on : (w : Bytes → Bytes) (v : ℕ → (ℕ → List Event) → List Event) (j : Kind) (t r : Bytes) (u : Run j) (vs : ℕ → List Event) (is : Items) (e : Elem) (p : ℕ)
      (ks : Kids is) → length (drop (span (in_run j) r) r) ≤ k → T (ok_items is (closing e))
      → ((x : Bytes) → w x ≡ t ++ (u.run ++ kid_bytes ks (closing e) x))
      → ((g : ℕ → List Event) → v p g ≡ vs (length u.run) ++ kid_events ks (closing e) (p + (length t + length u.run)) g)
      → UniqueG w v p (t ++ r) (pass (length t + span (in_run j) r) (vs (span (in_run j) r)) (f is e (p + (length t + span (in_run j) r)) (drop (span (in_run j) r) r)))
  unique_on w v j t r u vs is e p ks le ok ew ev = go (span-parts (in_run j) r u.run u.fits)
    where
      n : ℕ
      n = span (in_run j) r

      g : ℕ → Got
      g i = f is e (p + i) (drop n r)

      go : (u.run ≡ front (in_run j) r) ⊎ ((x : Bytes) → Stops (in_run j) x → Off r (u.run ++ x) n) → UniqueG w v p (t ++ r) (pass (length t + n) (vs n) (g (length t + n)))
      go (inr o) =
          unique_off w v p (t ++ r) (length t + n) (vs n)
          (λ x. rw (ew x) (off_append t r (u.run ++ kid_bytes ks (closing e) x) n (o (kid_bytes ks (closing e) x) (stops j (kid_bytes ks (closing e) x) (begins_kids ks e x)))))
          (g (length t + n))
      go (inl q) =
          let l : length u.run ≡ n = ap length q ∙ front_length (in_run j) r in
          let m : length (t ++ u.run) ≡ length t + length u.run = length-append t u.run in
          let y : (t ++ u.run) ++ drop n r ≡ t ++ r = append_assoc t u.run (drop n r) ∙ ap (λ (a : Bytes). t ++ (a ++ drop n r)) q ∙ ap (λ (a : Bytes). t ++ a) (sym (front-append (in_run j) r)) in
          subst (λ (s : Bytes). UniqueG w v p s (pass (length t + n) (vs n) (g (length t + n)))) y
          (subst (λ (i : ℕ). UniqueG w v p ((t ++ u.run) ++ drop n r) (pass (length t + i) (vs i) (g (length t + i)))) l
          (subst (λ (i : ℕ). UniqueG w v p ((t ++ u.run) ++ drop n r) (pass i (vs (length u.run)) (g i))) m
          (unique-behind (λ x. kid_bytes ks (closing e) x) w (λ a b. kid_events ks (closing e) a b) v p (t ++ u.run) (drop n r) (vs (length u.run))
          (λ x. ew x ∙ sym (append_assoc t u.run (kid_bytes ks (closing e) x)))
          (λ b. ev b ∙ ap (λ (i : ℕ). vs (length u.run) ++ kid_events ks (closing e) (p + i) b) (sym m))
          (g (length (t ++ u.run))) (ih is e (p + length (t ++ u.run)) (drop n r) le ok ks))))

  pub unique-element : (c : Elem) (p : ℕ) (r : Bytes) → length r ≤ k → T (ok_elem c) → (t : Tree c)
      → UniqueG (λ x. bytes t x) (λ q g. events t q g) p (opening c ++ r) (element f c p r)
  unique-element c p r le ok (tree u ks) =
      let n : ℕ = span (in_run (kind c)) r in
      let o : ℕ = length (opening c) in
      unique_on (λ x. bytes {e = c} (tree u ks) x) (λ q g. events {e = c} (tree u ks) q g) (kind c) (opening c) r u (λ i. event (part c) (kind c) p (p + o) i ∷ []) (items c) c p ks
      (omega (arith, length-drop n r)) (ok_elem_lem c ok) (λ x. refl)
      (λ g. ap (λ (i : ℕ). event (part c) (kind c) p (p + o) (length u.run) ∷ kid_events ks (closing c) i g) (add_assoc p o (length u.run)))

  pub unique-others : (c : Elem) (is : Items) (e : Elem) (p : ℕ) (s : Bytes) → length s ≤ suc k → T (ok_items is (closing e)) → (g : Got) → Pos s g
      → (t : Tree c) → UniqueG (λ x. bytes t x) (λ q b. events t q b) p s g → (w : Run Holds) (ks : Kids is)
      → UniqueG (λ x. bytes t (w.run ++ kid_bytes ks (closing e) x)) (λ q b. events t q (λ i. kid_events ks (closing e) (i + length w.run) b)) p s (others f is e p s g)
  unique-others c is e p s le ok (lost n) ps t h w ks = λ x. h (w.run ++ kid_bytes ks (closing e) x)
  unique-others c is e p s le ok (got m es) ps t (inl o) w ks =
      let n : ℕ = span (in_run Holds) (drop m s) in
      unique_off (λ x. bytes t (w.run ++ kid_bytes ks (closing e) x)) (λ q b. events t q (λ i. kid_events ks (closing e) (i + length w.run) b)) p s (m + n) es
      (λ x. off_mono s (bytes t (w.run ++ kid_bytes ks (closing e) x)) m (m + n) (omega arith) (o (w.run ++ kid_bytes ks (closing e) x)))
      (f is e (p + (m + n)) (drop n (drop m s)))
  unique-others c is e p s le ok (got m es) ps t (inr h) w ks =
      let r : Bytes = drop m s in
      let n : ℕ = span (in_run Holds) r in
      let w' : Bytes → Bytes = λ x. bytes t (w.run ++ kid_bytes ks (closing e) x) in
      let v' : ℕ → (ℕ → List Event) → List Event = λ q b. events t q (λ i. kid_events ks (closing e) (i + length w.run) b) in
      let l : length (takeN m s) ≡ m = length-take-le m s ps.1 in
      subst (λ (a : Bytes). UniqueG w' v' p a (pass (m + n) es (f is e (p + (m + n)) (drop n r)))) (take-append-drop m s)
      (subst (λ (i : ℕ). UniqueG w' v' p (takeN m s ++ r) (pass (i + n) es (f is e (p + (i + n)) (drop n r)))) l
      (unique_on w' v' Holds (takeN m s) r w (λ i. es) is e p ks (omega (arith, length-drop n r, length-drop m s, ps.0)) ok
      (λ x. h.0 (w.run ++ kid_bytes ks (closing e) x))
      (λ b. h.1 (λ i. kid_events ks (closing e) (i + length w.run) b)
      ∙ ap (λ (i : ℕ). es ++ kid_events ks (closing e) i b) (add_assoc p m (length w.run) ∙ ap (λ (i : ℕ). p + (i + length w.run)) (sym l)))))

  pub unique-choice : SoundBy f → (is : Items) (e : Elem) (p : ℕ) (s : Bytes) → length s ≤ suc k → T (ok_items is (closing e)) → (ks : Kids is) (c : Choice)
      → Found is (closing e) s c → Fine (closing e) c → Ruled (closing e) s c ks
      → UniqueG (λ x. kid_bytes ks (closing e) x) (λ q b. kid_events ks (closing e) q b) p s (kid_step f e p s c)
  unique-choice so is e p s le ok ks (stop n) fo fi ru = ru
  unique-choice so is e p s le ok ks (close r) fo fi (inl y) = inr (λ x. rw (fo.0, take-append_seam (closing e) r) (y.0 x), λ b. y.1 p b)
  unique-choice so is e p s le ok ks (close r) fo fi (inr o) = inl o
  unique-choice so is e p s le ok ks (child c is' r) fo fi (inr o) =
      unique-from (λ x. kid_bytes ks (closing e) x) (λ q b. kid_events ks (closing e) q b) f is' e p s (length (opening c)) o (element f c p r) (from-element f c p r)
  unique-choice so is e p s le ok ks (child c is' r) fo fi (inl y) =
      let g : Got = element f c p r in
      let so' : SoundG (Tree c) (λ t x. bytes t x) s g = rw fo.0 (sound-element f so c p r) in
      let un : UniqueG (λ x. bytes y.0 x) (λ q b. events y.0 q b) p s g =
      rw fo.0 (unique-element c p r (shorter (opening c) r s k 0 (len_opening c) fo.0 le) fi.0 y.0) in
      unique-map (λ x. bytes y.0 (y.1.run ++ kid_bytes y.2 (closing e) x)) (λ x. kid_bytes ks (closing e) x)
      (λ q b. events y.0 q (λ i. kid_events y.2 (closing e) (i + length y.1.run) b)) (λ q b. kid_events ks (closing e) q b) p s y.3 (y.4 p) (others f is' e p s g)
      (unique-others c is' e p s le fi.1 g (pos_of c s (length (opening c)) g (len_opening c) (from-element f c p r) so') y.0 un y.1 y.2)

off_begins : (w : Bytes) → Begins w → Off [] w 0
off_begins [] b = absurd b
off_begins (c ∷ w) b = tt

pub unique : (k : ℕ) → UniqueBy k (kids_by k)
unique zero is e p [] le ok ks = λ x. off_begins (kid_bytes ks (closing e) x) (begins_kids ks e x)
unique zero is e p (c ∷ s) le ok ks = absurd (not-suc-le-zero le)
unique (suc k) is e p s le ok ks =
    unique-choice k (λ is' e' p' s'. kids_by k is' e' p' s') (λ is' e' p' s'. unique k is' e' p' s') (λ is' e' p' s'. sound k is' e' p' s') is e p s le ok ks
    (choose is (closing e) s) (found is (closing e) s) (fine is (closing e) s ok) (ruled (closing e) s ok ks)

-- ─── the fuel does not matter ───

-- two readers that agree where there is fuel for both
abbrev Fueled : ℕ → ℕ → Reads → Reads → Type 0
Fueled k k' f f' = (is : Items) (e : Elem) (p : ℕ) (s : Bytes) → length s ≤ k → length s ≤ k' → f is e p s ≡ f' is e p s

others_fuel : (k k' : ℕ) (f f' : Reads) → Fueled k k' f f' → (is : Items) (e : Elem) (p : ℕ) (s : Bytes) → length s ≤ suc k → length s ≤ suc k'
    → (g : Got) → From 1 g → others f is e p s g ≡ others f' is e p s g
others_fuel k k' f f' h is e p s a b (lost n) fr = refl
others_fuel k k' f f' h is e p s a b (got m es) fr =
    let n : ℕ = span (in_run Holds) (drop m s) in
    let l : length (drop n (drop m s)) ≤ length s - 1 = omega (arith, length-drop n (drop m s), length-drop m s) in
    ap (pass (m + n) es) (h is e (p + (m + n)) (drop n (drop m s)) (omega arith) (omega arith))

kid_step_fuel : (k k' : ℕ) (f f' : Reads) → Fueled k k' f f' → (is : Items) (e : Elem) (p : ℕ) (s : Bytes) → length s ≤ suc k → length s ≤ suc k' → (c : Choice)
    → Found is (closing e) s c → kid_step f e p s c ≡ kid_step f' e p s c
kid_step_fuel k k' f f' h is e p s a b (stop n) x = refl
kid_step_fuel k k' f f' h is e p s a b (close r) x = refl
kid_step_fuel k k' f f' h is e p s a b (child c is' r) x =
    let n : ℕ = span (in_run (kind c)) r in
    let o : ℕ = length (opening c) in
    let e₁ : element f c p r ≡ element f' c p r =
    ap (pass (o + n) (event (part c) (kind c) p (p + o) n ∷ []))
    (h (items c) c (p + (o + n)) (drop n r) (shorter (opening c) r s k n (len_opening c) x.0 a) (shorter (opening c) r s k' n (len_opening c) x.0 b)) in
    others_fuel k k' f f' h is' e p s a b (element f c p r) (from_more 1 o (element f c p r) (len_opening c) (from-element f c p r)) ∙ ap (others f' is' e p s) e₁

-- at the end of the bytes no tag is found
choose_nil : (is : Items) (e : Elem) → choose is (closing e) [] ≡ stop 0
choose_nil is e = go (choose is (closing e) []) (found is (closing e) [])
  where
    zero_of : (w : Bytes) (n : ℕ) → Shares [] w n → n ≡ 0
    zero_of w zero h = refl
    zero_of w (suc n) h = absurd h

    not_nil : (t r : Bytes) → 1 ≤ length t → [] ≡ t ++ r → ⊥
    not_nil t r h e = omega (arith, length-append t r, ap length e)

    go : (c : Choice) → Found is (closing e) [] c → c ≡ stop 0
    go (stop n) h = ap stop (zero_of (kid_bytes h.0 (closing e) []) n (h.1 []))
    go (close r) h = absurd (not_nil (closing e) r (len_closing e) h.0)
    go (child c is' r) h = absurd (not_nil (opening c) r (len_opening c) h.0)

kid_step_nil : (f : Reads) (is : Items) (e : Elem) (p : ℕ) → lost 0 ≡ kid_step f e p [] (choose is (closing e) [])
kid_step_nil f is e p = rw (choose_nil is e)

kids_fuel : (k k' : ℕ) → Fueled k k' (kids_by k) (kids_by k')
kids_fuel zero zero is e p s a b = refl
kids_fuel zero (suc k') is e p [] a b = kid_step_nil (λ is' e' p' s'. kids_by k' is' e' p' s') is e p
kids_fuel zero (suc k') is e p (c ∷ s) a b = absurd (not-suc-le-zero a)
kids_fuel (suc k) zero is e p [] a b = sym (kid_step_nil (λ is' e' p' s'. kids_by k is' e' p' s') is e p)
kids_fuel (suc k) zero is e p (c ∷ s) a b = absurd (not-suc-le-zero b)
kids_fuel (suc k) (suc k') is e p s a b =
    kid_step_fuel k k' (λ is' e' p' s'. kids_by k is' e' p' s') (λ is' e' p' s'. kids_by k' is' e' p' s') (λ is' e' p' s'. kids_fuel k k' is' e' p' s')
    is e p s a b (choose is (closing e) s) (found is (closing e) s)

-- THE RECURSION'S EQUATION, which a proof of the code unfolds
pub kids-is : (is : Items) (e : Elem) (p : ℕ) (s : Bytes) → kids is e p s ≡ kid_step kids e p s (choose is (closing e) s)
unfolding kids
kids-is is e p s =
    kids_fuel (length s) (suc (length s)) is e p s (le_refl (length s)) (omega arith)
    ∙ kid_step_fuel (length s) (length s) (kids_by (length s)) kids (λ is' e' p' s' a b. kids_fuel (length s) (length s') is' e' p' s' a (le_refl (length s')))
    is e p s (omega arith) (omega arith) (choose is (closing e) s) (found is (closing e) s)

-- the two halves, of `kids`
pub kids-sound : SoundBy kids
unfolding kids
kids-sound is e p s = sound (length s) is e p s

pub kids-unique : (k : ℕ) → UniqueBy k kids
unfolding kids
kids-unique k is e p s le ok ks = unique (length s) is e p s (le_refl (length s)) ok ks
