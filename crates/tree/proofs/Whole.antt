-- THE THEOREMS, for every description that passes the test `ok_message`: what `read` accepts is of the form, with exactly its tree's events; all of the form
-- is accepted; and where it is stuck, the number is the length of the longest beginning shared with some message of the form.
use Prim.Native.Nat.{ℕ, ◌+◌, max}
use native.Mathlib.Nat.{le-max_left, le-max_right, le_antisymm, le_refl, zero-add}
use native.Mathlib.Omega.{arith}
use mathlib.Core.Bool.{Bool, true, false, ◌&&◌}
use mathlib.Core.List.{List, [], ◌∷◌, ◌++◌, append-nil, append_assoc}
use mathlib.Core.Path.{◌≡◌, refl, ap, sym, subst, ◌∙◌}
use mathlib.Core.Logic.{◌⊎◌, inl, inr}
use lib.Dec.{T}
use lib.ListN.{length, drop, take as takeN, take-append-drop}
use lib.Seq.{length-take-le}
use Rattle.laws.specs.Bytes.{Bytes, all, span}
use Rattle.laws.proofs.Tests.{max_cases, and_l, and_r}
use Rattle.tree.specs.Form.{Elem, Tree, Run, in_run, white, opening, print, says, Message, message, message_events, decl_of, IsPlace, NotOfForm, Tree.tree}
use Rattle.tree.specs.declared.Kind.{Kind}
use Rattle.tree.specs.declared.Kind.TheVariants.{Holds}
use Rattle.tree.specs.declared.Event.{Event}
use Rattle.tree.specs.Apart.{apart, ok_elem, no_white, ok_message}
use Rattle.tree.specs.Tags.{Eat.ate, Eat.miss}
use Rattle.tree.specs.Reader.{Got, Got.got, Got.lost, kids, element, Res, Res.done, Res.stuck, shift, farther, at_end, finish, start, lead, read}
use Rattle.tree.proofs.Onto.{bytes, events, bytes-print, events-says}
use Rattle.tree.proofs.Shared.{Off, Shares, off_neq, off_mono, off_append, off_common, shares_append, shares_common, append_cancel}
use Rattle.tree.proofs.Steps.{eat-cases, front, front-append, front_length, front_fits}
use Rattle.tree.proofs.Choose.{no_run, some-tree, shares_more, shares_tree, off_apart, off_tree, begins_opening, stops, Stops, class_neq, len_opening, Begins, span-parts}
use Rattle.tree.proofs.Right.{SoundG, UniqueG, from-element, Pos, pos_of, kids-sound, kids-unique, sound-element, unique-element, run_at, word_rest, word_length}

-- ─── answers for a whole message ───

-- for a set of messages, given as what f makes of A: s is one of them; or some one of them shares n bytes with s
abbrev Sound : (A : Type 0) → (A → Bytes) → Bytes → Res → Type 0
Sound A f s (done es) = (a : A) × (f a ≡ s)
Sound A f s (stuck n) = (a : A) × Shares s (f a) n

-- a message w with the events es, against the answer for s: the same events where it is s; else they part within the place
abbrev Unique : Bytes → Res → Bytes → List Event → Type 0
Unique s (done es') w es = s ≡ w → es' ≡ es
Unique s (stuck n) w es = Off s w n

-- a word t in front
sound-behind : {A B : Type 0} (f : A → Bytes) (g : B → Bytes) (t s : Bytes) (c : A → B) → ((a : A) → g (c a) ≡ t ++ f a) → (o : Res) → Sound A f s o
    → Sound B g (t ++ s) (shift (length t) o)
sound-behind f g t s c e (done es) h = (c h.0, e h.0 ∙ ap (λ (l : Bytes). t ++ l) h.1)
sound-behind f g t s c e (stuck n) h = (c h.0, rw (e h.0) (shares_append t s (f h.0) n h.1))

unique_off : (s w : Bytes) (m : ℕ) (es : List Event) (o : Res) → Off s w m → Unique s (shift m o) w es
unique_off s w m es (done es') h = λ e. absurd (off_neq s w m h e)
unique_off s w m es (stuck n) h = off_mono s w m (m + n) (omega arith) h

unique-behind : (t s w : Bytes) (es : List Event) (o : Res) → Unique s o w es → Unique (t ++ s) (shift (length t) o) (t ++ w) es
unique-behind t s w es (done es') h = λ e. h (append_cancel t s w e)
unique-behind t s w es (stuck n) h = off_append t s w n h

-- a word t and a run u, then w
unique-run : (k : Kind) (t r : Bytes) (u : Run k) (w : Bytes) (es : List Event) (o : Res) → Stops (in_run k) w
    → (length u.run ≡ span (in_run k) r → Unique (drop (span (in_run k) r) r) o w es) → Unique (t ++ r) (shift (length t + span (in_run k) r) o) (t ++ (u.run ++ w)) es
unique-run k t r u w es o st h = go (span-parts (in_run k) r u.run u.fits)
  where
    n : ℕ
    n = span (in_run k) r

    go : (u.run ≡ front (in_run k) r) ⊎ ((x : Bytes) → Stops (in_run k) x → Off r (u.run ++ x) n) → Unique (t ++ r) (shift (length t + n) o) (t ++ (u.run ++ w)) es
    go (inl e) =
        let l : length u.run ≡ n = ap length e ∙ front_length (in_run k) r in
        let x : Unique ((t ++ u.run) ++ drop n r) (shift (length (t ++ u.run)) o) ((t ++ u.run) ++ w) es = unique-behind (t ++ u.run) (drop n r) w es o (h l) in
        let y : (t ++ u.run) ++ drop n r ≡ t ++ r = ap (λ (a : Bytes). (t ++ a) ++ drop n r) e ∙ sym (word_rest t r k) in
        let z : length (t ++ u.run) ≡ length t + n = ap (λ (a : Bytes). length (t ++ a)) e ∙ word_length t r k in
        rw (y, z, append_assoc t u.run w) at x
    go (inr o') = unique_off (t ++ r) (t ++ (u.run ++ w)) (length t + n) es o (off_append t r (u.run ++ w) n (o' w st))

-- ─── the root and white space after it ───

abbrev Body : Elem → Type 0
Body root = Tree root × Run Holds

abbrev body_bytes : (root : Elem) → Body root → Bytes
body_bytes root b = bytes b.0 (b.1.run ++ [])

abbrev body_events : (root : Elem) → Body root → ℕ → List Event
body_events root b p = events b.0 p (λ q. [])

end-sound : (es : List Event) (s : Bytes) → Sound (Unit {0}) (λ a. []) s (at_end es s)
end-sound es [] = (tt, refl)
end-sound es (c ∷ s) = (tt, tt)

end-unique : (es es' : List Event) (s : Bytes) → es ≡ es' → Unique s (at_end es s) [] es'
end-unique es es' [] e = λ q. e
end-unique es es' (c ∷ s) e = tt

finish-sound : (root : Elem) (s : Bytes) (g : Got) → SoundG (Tree root) (λ t x. bytes t x) s g → Sound (Body root) (body_bytes root) s (finish s g)
unfolding run_at
finish-sound root s (lost n) h = ((h.0, no_run Holds), h.1 ((no_run Holds).run ++ []))
finish-sound root s (got m es) h =
    let r : Bytes = drop m s in
    let n : ℕ = span (in_run Holds) r in
    let u : Bytes = front (in_run Holds) r in
    let x = sound-behind (λ a. []) (body_bytes root) (takeN m s ++ u) (drop n r) (λ a. (h.0, run_at Holds r)) (λ a. h.2 (u ++ []) ∙ sym (append_assoc (takeN m s) u []))
    (at_end es (drop n r)) (end-sound es (drop n r)) in
    let y : (takeN m s ++ u) ++ drop n r ≡ s = sym (word_rest (takeN m s) r Holds) ∙ take-append-drop m s in
    let z : length (takeN m s ++ u) ≡ m + n = word_length (takeN m s) r Holds ∙ ap (λ (j : ℕ). j + n) (length-take-le m s h.1) in
    rw (y, z) at x

finish-unique : (root : Elem) (p : ℕ) (s : Bytes) (g : Got) (t : Tree root) (w : Run Holds) → Pos s g → UniqueG (λ x. bytes t x) (λ q b. events t q b) p s g
    → Unique s (finish s g) (bytes t (w.run ++ [])) (events t p (λ q. []))
finish-unique root p s (lost n) t w ps h = h (w.run ++ [])
finish-unique root p s (got m es) t w ps (inl o) =
    let n : ℕ = span (in_run Holds) (drop m s) in
    unique_off s (bytes t (w.run ++ [])) (m + n) (events t p (λ q. [])) (at_end es (drop n (drop m s)))
    (off_mono s (bytes t (w.run ++ [])) m (m + n) (omega arith) (o (w.run ++ [])))
finish-unique root p s (got m es) t w ps (inr h) =
    let r : Bytes = drop m s in
    let n : ℕ = span (in_run Holds) r in
    let es' : List Event = events t p (λ q. []) in
    let x = unique-run Holds (takeN m s) r w [] es' (at_end es (drop n r)) tt (λ l. end-unique es es' (drop n r) (sym (h.1 (λ q. []) ∙ append-nil es))) in
    rw (h.0 (w.run ++ [])) (rw (take-append-drop m s, length-take-le m s ps.1) at x)

start-sound : (root : Elem) (p : ℕ) (s : Bytes) → Sound (Body root) (body_bytes root) s (start root p s)
start-sound root p s =
    eat-cases (λ m. Sound (Body root) (body_bytes root) s (elim m [ ate r ↦ finish s (element kids root p r) | miss n ↦ stuck n ])) (opening root) s
    (λ r e. finish-sound root s (element kids root p r) (rw e (sound-element kids kids-sound root p r)))
    (λ n h o. ((some-tree root, no_run Holds), shares_tree (some-tree root) s ((no_run Holds).run ++ []) n h))

start-unique : (root : Elem) (p : ℕ) (s : Bytes) → T (ok_elem root) → (b : Body root) → Unique s (start root p s) (body_bytes root b) (body_events root b p)
start-unique root p s ok b =
    eat-cases (λ m. Unique s (elim m [ ate r ↦ finish s (element kids root p r) | miss n ↦ stuck n ]) (body_bytes root b) (body_events root b p)) (opening root) s
    (λ r e.
    let g : Got = element kids root p r in
    finish-unique root p s g b.0 b.1 (pos_of root s (length (opening root)) g (len_opening root) (from-element kids root p r) (rw e (sound-element kids kids-sound root p r)))
    (rw e (unique-element (length r) kids (kids-unique (length r)) root p r (le_refl (length r)) ok b.0)))
    (λ n h o. off_tree s n o b.0 (b.1.run ++ []))

-- ─── white space before them ───

abbrev Led : Elem → Type 0
Led root = Run Holds × Body root

abbrev led_bytes : (root : Elem) → Led root → Bytes
led_bytes root l = l.0.run ++ body_bytes root l.1

abbrev led_events : (root : Elem) → Led root → ℕ → List Event
led_events root l p = body_events root l.1 (p + length l.0.run)

lead-sound : (root : Elem) (p : ℕ) (s : Bytes) → Sound (Led root) (led_bytes root) s (lead root p s)
lead-sound root p s =
    let n : ℕ = span (in_run Holds) s in
    let u : Run Holds = record { run = front (in_run Holds) s; fits = front_fits (in_run Holds) s } in
    let h = sound-behind (body_bytes root) (led_bytes root) u.run (drop n s) (λ b. (u, b)) (λ b. refl) (start root (p + n) (drop n s)) (start-sound root (p + n) (drop n s)) in
    rw (front_length (in_run Holds) s, ← front-append (in_run Holds) s) at h

begins_body : (root : Elem) (b : Body root) → Begins (body_bytes root b)
begins_body root b = go b.0 (b.1.run ++ [])
  where
    go : (t : Tree root) (x : Bytes) → Begins (bytes t x)
    go (tree u ks) x = begins_opening root _

lead-unique : (root : Elem) (p : ℕ) (s : Bytes) → T (ok_elem root) → (l : Led root) → Unique s (lead root p s) (led_bytes root l) (led_events root l p)
lead-unique root p s ok l =
    let n : ℕ = span (in_run Holds) s in
    let b : Body root = l.1 in
    let x = unique-run Holds [] s l.0 (body_bytes root b) (led_events root l p) (start root (p + n) (drop n s)) (stops Holds (body_bytes root b) (begins_body root b))
    (λ e. subst (λ (j : ℕ). Unique (drop n s) (start root (p + n) (drop n s)) (body_bytes root b) (body_events root b (p + j))) (sym e)
    (start-unique root (p + n) (drop n s) ok b)) in
    rw (zero-add n) at x

-- ─── messages ───

led_of : {root : Elem} → Message root → Led root
led_of m = (m.before, (m.body, m.behind))

of : {root : Elem} → Bool → Led root → Message root
of d l = record { declared = d; before = l.0; body = l.1.0; behind = l.1.1 }

led_print : (root : Elem) (l : Led root) → led_bytes root l ≡ l.0.run ++ (print l.1.0 ++ l.1.1.run)
led_print root l = rw (bytes-print l.1.0 (l.1.1.run ++ []), append-nil l.1.1.run) refl

led_says : (root : Elem) (l : Led root) (p : ℕ) → led_events root l p ≡ says l.1.0 (p + length l.0.run)
led_says root l p = rw (events-says l.1.0 (p + length l.0.run) (λ q. [])) (append-nil (says l.1.0 (p + length l.0.run)))

abbrev Printed : (root : Elem) → Bytes → Message root → Bytes
Printed root decl m = message decl m

read-sound : (decl : Bytes) (root : Elem) (s : Bytes) → Sound (Message root) (Printed root decl) s (read decl root s)
unfolding of
read-sound decl root s =
    eat-cases (λ m. Sound (Message root) (Printed root decl) s (elim m [
      | ate r ↦ shift (length decl) (lead root (length decl) r)
      | miss n ↦ farther n (lead root 0 s)
    ])) decl s
    (λ r e. rw e (sound-behind (led_bytes root) (Printed root decl) decl r (of true) (λ l. ap (λ (x : Bytes). decl ++ x) (sym (led_print root l)))
    (lead root (length decl) r) (lead-sound root (length decl) r)))
    (λ n h o. farther-sound n h (lead root 0 s) (lead-sound root 0 s))
  where
    farther-sound : (n : ℕ) → Shares s decl n → (o : Res) → Sound (Led root) (led_bytes root) s o → Sound (Message root) (Printed root decl) s (farther n o)
    farther-sound n h (done es) f = (of false f.0, sym (led_print root f.0) ∙ f.1)
    farther-sound n h (stuck m) f =
        max_cases (λ j. (a : Message root) × Shares s (Printed root decl a) j) n m
        (λ le. (of true (no_run Holds, (some-tree root, no_run Holds)), shares_more s decl _ n h))
        (λ le. (of false f.0, subst (λ (w : Bytes). Shares s w m) (led_print root f.0) f.1))

-- without the declaration a message parts from the declaration
led_off : (decl : Bytes) (root : Elem) (r : Bytes) (u : Bytes) (b : Body root) → T (all (in_run Holds) u) → T (apart decl (opening root)) → T (no_white decl)
    → Off (decl ++ r) (u ++ body_bytes root b) (length decl)
led_off decl root r [] b a ap nw = off_tree (decl ++ r) (length decl) (λ y. off_apart decl (opening root) r y ap) b.0 (b.1.run ++ [])
led_off [] root r (c ∷ u) b a ap nw = absurd nw
led_off (d ∷ decl) root r (c ∷ u) b a ap nw = λ e. absurd (class_neq white c d (and_l (white c) (all (in_run Holds) u) a) nw (sym e))

farther-unique : (s w : Bytes) (n : ℕ) (es : List Event) (o : Res) → Unique s o w es → Unique s (farther n o) w es
farther-unique s w n es (done x) h = h
farther-unique s w n es (stuck m) h = off_mono s w m (max n m) (le-max_right n m) h

farther_off : (s w : Bytes) (n : ℕ) (es : List Event) (o : Res) → Off s w n → Unique s (farther n o) w es
farther_off s w n es (done x) h = λ e. absurd (off_neq s w n h e)
farther_off s w n es (stuck m) h = off_mono s w n (max n m) (le-max_left n m) h

led_unique : (decl : Bytes) (root : Elem) (s : Bytes) → T (ok_message decl root) → (d : Bool) (l : Led root)
    → Unique s (read decl root s) (decl_of d decl ++ led_bytes root l) (led_events root l (length (decl_of d decl)))
led_unique decl root s ok true l =
    let ok₁ : T (ok_elem root) = and_l (ok_elem root) (apart decl (opening root) && no_white decl) ok in
    eat-cases (λ m. Unique s (elim m [
      | ate r ↦ shift (length decl) (lead root (length decl) r)
      | miss n ↦ farther n (lead root 0 s)
    ]) (decl ++ led_bytes root l) (led_events root l (length decl))) decl s
    (λ r e. rw e (unique-behind decl r (led_bytes root l) (led_events root l (length decl)) (lead root (length decl) r)
    (lead-unique root (length decl) r ok₁ l)))
    (λ n h o. farther_off s (decl ++ led_bytes root l) n (led_events root l (length decl)) (lead root 0 s) (o (led_bytes root l)))
led_unique decl root s ok false l =
    let ok₁ : T (ok_elem root) = and_l (ok_elem root) (apart decl (opening root) && no_white decl) ok in
    let ok₂ : T (apart decl (opening root) && no_white decl) = and_r (ok_elem root) (apart decl (opening root) && no_white decl) ok in
    eat-cases (λ m. Unique s (elim m [
      | ate r ↦ shift (length decl) (lead root (length decl) r)
      | miss n ↦ farther n (lead root 0 s)
    ]) (led_bytes root l) (led_events root l 0)) decl s
    (λ r e. rw e (unique_off (decl ++ r) (led_bytes root l) (length decl) (led_events root l 0) (lead root (length decl) r)
    (led_off decl root r l.0.run l.1 l.0.fits (and_l (apart decl (opening root)) (no_white decl) ok₂) (and_r (apart decl (opening root)) (no_white decl) ok₂))))
    (λ n h o. farther-unique s (led_bytes root l) n (led_events root l 0) (lead root 0 s) (lead-unique root 0 s ok₁ l))

read-unique : (decl : Bytes) (root : Elem) (s : Bytes) → T (ok_message decl root) → (m : Message root)
    → Unique s (read decl root s) (message decl m) (message_events decl m)
unfolding led_of
read-unique decl root s ok m =
    let l : Led root = led_of m in
    let d : Bool = m.declared in
    subst (λ (w : Bytes). Unique s (read decl root s) (decl_of d decl ++ w) (message_events decl m)) (led_print root l)
    (subst (λ (es : List Event). Unique s (read decl root s) (decl_of d decl ++ led_bytes root l) es) (led_says root l (length (decl_of d decl)))
    (led_unique decl root s ok d l))

-- ─── the theorems ───

-- what is promised of an answer
abbrev pub Promise : (decl : Bytes) (root : Elem) → Bytes → Res → Type 0
Promise decl root s (done es) = (m : Message root) × (message decl m ≡ s) × (message_events decl m ≡ es)
Promise decl root s (stuck n) = NotOfForm decl root s n

promise : (decl : Bytes) (root : Elem) (s : Bytes) (o : Res) → Sound (Message root) (Printed root decl) s o
    → ((m : Message root) → Unique s o (message decl m) (message_events decl m)) → Promise decl root s o
promise decl root s (done es) so un = (so.0, so.1, sym (un so.0 (sym so.1)))
promise decl root s (stuck n) so un = (
  λ f. off_neq s (message decl f.0) n (un f.0) (sym f.1),
  (
    (so.0, le_antisymm (off_common s (message decl so.0) n (un so.0)) (shares_common s (message decl so.0) n so.1)),
    λ m. off_common s (message decl m) n (un m),
  ),
)

-- (1) and (3): what is accepted is of the form, with its events; what is refused is not, and the number is its place
pub read_right : (decl : Bytes) (root : Elem) → T (ok_message decl root) → (s : Bytes) → Promise decl root s (read decl root s)
read_right decl root ok s = promise decl root s (read decl root s) (read-sound decl root s) (read-unique decl root s ok)

-- (2): every message of the form is accepted, with its events
pub read_all : (decl : Bytes) (root : Elem) → T (ok_message decl root) → (m : Message root) → read decl root (message decl m) ≡ done (message_events decl m)
read_all decl root ok m = go (read decl root (message decl m)) (read-unique decl root (message decl m) ok m)
  where
    go : (o : Res) → Unique (message decl m) o (message decl m) (message_events decl m) → o ≡ done (message_events decl m)
    go (done es) u = ap done (u refl)
    go (stuck n) u = absurd (off_neq (message decl m) (message decl m) n u refl)

-- two trees that print the same bytes say the same
pub unambiguous : (decl : Bytes) (root : Elem) → T (ok_message decl root) → (m m' : Message root) → message decl m ≡ message decl m'
    → message_events decl m ≡ message_events decl m'
unambiguous decl root ok m m' e =
    let a = read_all decl root ok m in
    let b = read_all decl root ok m' in
    let c : read decl root (message decl m) ≡ read decl root (message decl m') = ap (read decl root) e in
    cc

-- a message has one place
pub place-one : (decl : Bytes) (root : Elem) (s : Bytes) (n n' : ℕ) → IsPlace decl root s n → IsPlace decl root s n' → n ≡ n'
place-one decl root s n n' a b = omega (arith, a.0.1, b.0.1, a.1 b.0.0, b.1 a.0.0)
