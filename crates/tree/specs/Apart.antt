-- THE TEST THAT A DESCRIPTION MUST PASS: no two tags that can meet begin alike. It is computed; the theorems hold of every description that passes it.
--   apart s t              neither word is a beginning of the other
--   ok_elem, ok_items        the tags that can meet in an element are apart
--   ok_message decl root    and so are the declaration and the root's tag
use Rattle.std.specs.Prelude.{Bool, true, false, not, ◌&&◌, [], ◌∷◌, eqb}
use Rattle.laws.specs.Bytes.{Bytes}
use Rattle.tree.specs.Form.{Elem, Items, Elem.elem, Items.none, Items.item, opening, closing, white}

abbrev pub apart : Bytes → Bytes → Bool
apart [] t = false
apart (a ∷ s) [] = false
apart (a ∷ s) (b ∷ t) = elim (eqb a b) [ true ↦ apart s t | false ↦ true ]

-- t is apart from the opening tags of the items and from the closing tag g
abbrev pub clear : Bytes → Items → Bytes → Bool
clear t none g = apart t g && apart g t
clear t (item h e is) g = (apart t (opening e) && apart (opening e) t) && clear t is g

abbrev mutual
  pub ok_elem : Elem → Bool
  ok_elem (elem p nm at k is) = ok_items is (closing (elem p nm at k is))

  pub ok_items : Items → Bytes → Bool
  ok_items none g = true
  ok_items (item h e is) g = clear (opening e) is g && (ok_elem e && ok_items is g)

abbrev pub no_white : Bytes → Bool
no_white [] = false
no_white (c ∷ s) = not (white c)

-- the root's opening tag and the declaration are apart, and the declaration does not begin with white space
abbrev pub ok_message : Bytes → Elem → Bool
ok_message decl root = ok_elem root && (apart decl (opening root) && no_white decl)
