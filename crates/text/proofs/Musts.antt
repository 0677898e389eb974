-- A TEST AND WHAT IT DECIDES.
--   between-under, between-over, between_in   a number is below its bounds, above them, or within
--   must-test, good-is                        where a good judgement comes out, the test held, and the number stated is the one that comes out
--   bad-stays                                 where a bad one comes out, it does so of each test that fails with this one
use Prim.Native.Nat.{ℕ, ◌≤◌, ◌<◌}
use mathlib.Core.Bool.{Bool, true, false, and-false}
use mathlib.Core.Path.{◌≡◌, refl, sym}
use borrow.Author.Tests.{le-leb, lt-leb}
use Rattle.std.specs.Prelude.{Err, Ok}
use Rattle.laws.specs.Bytes.{between}
use Rattle.profile.specs.declared.Flaw.{Flaw}
use Rattle.text.specs.Rules.{Judged, must}

module _ (a b c : ℕ) where
  pub between-under : c < a → between a b c ≡ false
  between-under h = rw (lt-leb a c h)

  pub between-over : b < c → between a b c ≡ false
  between-over h = rw (lt-leb c b h, and-false)

  pub between_in : a ≤ c → c ≤ b → between a b c ≡ true
  between_in l h = rw (le-leb a c l, le-leb c b h)

pub must-test : (b : Bool) (f : Flaw) (j : Judged) (n : ℕ) → must b f j ≡ Ok n → b ≡ true
must-test true f j n e = refl
must-test false f j n e = cc

pub good-is : (b : Bool) (f : Flaw) (m n : ℕ) → must b f (Ok m) ≡ Ok n → m ≡ n
good-is true f m n e = cc
good-is false f m n e = cc

pub bad-stays : (b c : Bool) (f g : Flaw) (m : ℕ) (j : Judged) → must b f (Ok m) ≡ Err g → (b ≡ false → c ≡ false) → Err g ≡ must c f j
bad-stays true c f g m j e w = cc
bad-stays false c f g m j e w = rw (w refl) (sym e)
