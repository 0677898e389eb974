-- NOTHING WAS SAID, in the list of what each part said.
--   none_said   in a list where no part said anything
--   forgotten   where the parts from one on are taken back
use Prim.Native.Nat.{ℕ, zero, suc, ◌-◌, ◌≤◌}
use native.Mathlib.Omega.{arith}
use mathlib.Core.List.{List, [], ◌++◌}
use mathlib.Core.Path.{◌≡◌, refl, ◌∙◌}
use lib.Dec.{ltb}
use lib.ListN.{length, get_or, take, replicate, get_or-append}
use lib.Seq.{length-take-le, get_or-take, get_or-append_right}
use Rattle.laws.proofs.Tests.{ltb-cases}
use Rattle.heard.specs.declared.Word.{Word}
use Rattle.heard.specs.State.{if_true, nothing}

pub none_said : (n p : ℕ) → get_or (replicate n nothing ++ []) p nothing ≡ nothing
none_said zero p = refl
none_said (suc n) zero = refl
none_said (suc n) (suc p) = none_said n p

pub forgotten : (l m r : List Word) (n k p : ℕ) → n ≤ length l → m ≡ replicate k nothing → r ≡ []
    → get_or (take n l ++ (m ++ r)) p nothing ≡ if_true (ltb p n) (get_or l p nothing) nothing
forgotten l m r n k p h e f =
    ltb-cases (λ z. get_or (take n l ++ (m ++ r)) p nothing ≡ if_true z (get_or l p nothing) nothing) p n
    (λ s. get_or-append (take n l) (m ++ r) nothing p (omega (arith, length-take-le n l h)) ∙ get_or-take n l p nothing s)
    (λ g. get_or-append_right (take n l) (m ++ r) p nothing (omega (arith, length-take-le n l h)) ∙ rw (e, f) (none_said k (p - length (take n l))))
