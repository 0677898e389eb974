-- THE PROFILE TREE passes the test, so the theorems hold of it.
--   profile_ok        it passes
--   read_right        what the reader accepts is of the form, with its tree's events; where it is stuck, that is the one place
--   read_all          every message of the form is accepted, with its tree's events
--   unambiguous       two trees of the same bytes say the same
--   place-one         a message has one place
--   stuck_at n o, not_of_form   where the reader computes to the place n, the bytes are refused with 2 at n
use Prim.Native.Nat.{ℕ}
use mathlib.Core.Bool.{Bool, false}
use mathlib.Core.Path.{◌≡◌}
use lib.Dec.{T, eqb, eqb→eq}
use Rattle.laws.specs.Bytes.{Bytes}
use Rattle.tree.specs.Form.{Message, message, message_events, IsPlace, NotOfForm}
use Rattle.tree.specs.Apart.{ok_message}
use Rattle.tree.specs.Reader.{Res, Res.done, Res.stuck, read}
use Rattle.tree.specs.Pain008.{document, declaration}
use Rattle.tree.proofs.Whole as whole

pub profile_ok : T (ok_message declaration document)
profile_ok = tt

pub read_right : (s : Bytes) → whole.Promise declaration document s (read declaration document s)
read_right s = whole.read_right declaration document profile_ok s

pub read_all : (m : Message document) → read declaration document (message declaration m) ≡ done (message_events declaration m)
read_all m = whole.read_all declaration document profile_ok m

pub unambiguous : (m m' : Message document) → message declaration m ≡ message declaration m' → message_events declaration m ≡ message_events declaration m'
unambiguous m m' e = whole.unambiguous declaration document profile_ok m m' e

pub place-one : (s : Bytes) (n n' : ℕ) → IsPlace declaration document s n → IsPlace declaration document s n' → n ≡ n'
place-one s n n' a b = whole.place-one declaration document s n n' a b

abbrev pub stuck_at : ℕ → Res → Bool
stuck_at n (done es) = false
stuck_at n (stuck m) = eqb m n

pub not_of_form : (s : Bytes) (n : ℕ) → T (stuck_at n (read declaration document s)) → NotOfForm declaration document s n
not_of_form s n = go (read declaration document s) (read_right s)
  where
    go : (o : Res) → whole.Promise declaration document s o → T (stuck_at n o) → NotOfForm declaration document s n
    go (done es) p t = absurd t
    go (stuck m) p t = rw (eqb→eq m n t) at p
