-- THE MIX OF AN ADDRESS AS ONE FORMULA, and what each test of the code says of it.
--   mix-formula   A GOOD MIX: town and country at any date; else neither town nor street, number or post code, but country or line, at an early date
--   with_town, with_detail, late, with_line, only-country   the tests of the code, one after the other
use mathlib.Core.Bool.{Bool, true, false, not, ◌&&◌, ◌||◌}
use mathlib.Core.Path.{◌≡◌, refl}
use Rattle.message.specs.declared.Address.{Address}
use Rattle.message.specs.Addresses.{good_mix}

abbrev address : Bool → Bool → Bool → Bool → Address
address d t c l = record { detail = d; town = t; country = c; line = l }

formula : (z d t c l : Bool) → good_mix z (address d t c l) ≡ (t && c) || (((not t && not d) && (c || l)) && z)
formula z d true true true = refl
formula z d true true false = refl
formula z d true false true = refl
formula z d true false false = refl
formula z true false true true = refl
formula z true false true false = refl
formula z true false false true = refl
formula z true false false false = refl
formula z false false true true = refl
formula z false false true false = refl
formula z false false false true = refl
formula z false false false false = refl

pub mix-formula : (early : Bool) (a : Address) → good_mix early a ≡ (a.town && a.country) || (((not a.town && not a.detail) && (a.country || a.line)) && early)
mix-formula early a = formula early a.detail a.town a.country a.line

or_false : (b : Bool) → b ≡ b || false
or_false true = refl
or_false false = refl

and_false : (b : Bool) → false ≡ b && false
and_false true = refl
and_false false = refl

module _ (early : Bool) (a : Address) where
  pub with_town : a.town ≡ true → a.country ≡ good_mix early a
  with_town t = rw (mix-formula early a, t) (or_false a.country)

  module _ (t : a.town ≡ false) where
    pub with_detail : a.detail ≡ true → false ≡ good_mix early a
    with_detail d = rw (mix-formula early a, t, d) refl

    module _ (d : a.detail ≡ false) where
      pub late : early ≡ false → false ≡ good_mix early a
      late z = rw (mix-formula early a, t, d, z) (and_false (a.country || a.line))

      pub with_line : early ≡ true → a.line ≡ true → true ≡ good_mix early a
      with_line z l = rw (mix-formula early a, t, d, z, l) (go a.country)
        where
          go : (c : Bool) → true ≡ (c || true) && true
          go true = refl
          go false = refl

      pub only-country : early ≡ true → a.line ≡ false → a.country ≡ good_mix early a
      only-country z l = rw (mix-formula early a, t, d, z, l) (go a.country)
        where
          go : (c : Bool) → c ≡ (c || false) && true
          go true = refl
          go false = refl
