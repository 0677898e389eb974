-- THE BEGINNING OF A MESSAGE, by cases. What the reader computes of some bytes is a fact about the form and the place.
--   white_space                     of the 256 bytes tab, LF, CR and space are white space, and no other is
--   beginnings, beginnings-refused  some bytes and their places; each of them is refused with 2 at its place
--   is_of_form, is_not_of_form      what the reader's answers say, of every description that passes the test
use Prim.Native.Nat.{ℕ}
use mathlib.Core.Bool.{not, beq}
use mathlib.Core.List.{List, [], ◌∷◌, ◌++◌}
use lib.Dec.{T}
use Rattle.laws.specs.Bytes.{Bytes, ascii, has}
use Rattle.laws.specs.Lists.{All}
use Rattle.laws.proofs.Below.{every, of-each}
use Rattle.tree.specs.Form.{Elem, white, OfForm, NotOfForm}
use Rattle.tree.specs.Apart.{ok_message}
use Rattle.tree.specs.Reader.{Res, Res.done, Res.stuck, read}
use Rattle.tree.specs.Pain008.{document, declaration}
use Rattle.tree.proofs.Ways.{accepted}
use Rattle.tree.proofs.Whole as whole
use Rattle.tree.proofs.Pain008.{stuck_at, not_of_form}

pub white_space : T (every 256 (λ c. beq (white c) (has (9 ∷ 10 ∷ 13 ∷ 32 ∷ []) c)))
white_space = tt

abbrev beginnings : List (Bytes × ℕ)
beginnings =
    -- a beginning of a message of the form: its length
    (ascii " \n\t\r", 4)
    ∷ (ascii "<?x", 3)
    ∷ (declaration, 38)
    -- VT, FF, NUL and a no-break space are no white space
    ∷ (11 ∷ [], 0)
    ∷ (12 ∷ [], 0)
    ∷ (0 ∷ [], 0)
    ∷ (32 ∷ 0xC2 ∷ 0xA0 ∷ [], 1)
    -- a second declaration, one after a space, one after a byte order mark, one in single quotes, one that says more
    ∷ (declaration ++ declaration, 39)
    ∷ (32 ∷ declaration, 2)
    ∷ (0xEF ∷ 0xBB ∷ 0xBF ∷ declaration, 0)
    ∷ (ascii "<?xml version='1.0' encoding='UTF-8'?>", 14)
    ∷ (ascii "<?xml version=\"1.0\" encoding=\"UTF-8\" standalone=\"no\"?>", 36)
    ∷ []

pub beginnings-refused : All (λ p. NotOfForm declaration document p.0 p.1) beginnings
beginnings-refused =
    of-each (λ p. stuck_at p.1 (read declaration document p.0)) (λ p. NotOfForm declaration document p.0 p.1) (λ p t. not_of_form p.0 p.1 t) beginnings tt

-- ─── what the answers say, of every description that passes the test ───

pub is_of_form : (d : Bytes) (e : Elem) → T (ok_message d e) → (s : Bytes) → T (accepted (read d e s)) → OfForm d e s
is_of_form d e ok s = go (read d e s) (whole.read_right d e ok s)
  where
    go : (o : Res) → whole.Promise d e s o → T (accepted o) → OfForm d e s
    go (done es) p t = (p.0, p.1)
    go (stuck n) p t = absurd t

pub is_not_of_form : (d : Bytes) (e : Elem) → T (ok_message d e) → (s : Bytes) → T (not (accepted (read d e s))) → OfForm d e s → ⊥
is_not_of_form d e ok s = go (read d e s) (whole.read_right d e ok s)
  where
    go : (o : Res) → whole.Promise d e s o → T (not (accepted o)) → OfForm d e s → ⊥
    go (done es) p t = absurd t
    go (stuck n) p t = p.0
