-- THE WRITER'S ANSWERS on the list of the examples, computed.
--   rooms    28 at the bytes needed: of 1,743 bytes one too few, and just enough
--   many     27 at the batches needed: 65 collections at the ceiling 1; 27 comes before 28
--   judged-first   the refusals of the list come before both
use mathlib.Core.List.{[], ◌∷◌, ◌++◌, map}
use mathlib.Core.Path.{◌≡◌, refl}
use lib.ListN.{replicate}
use Rattle.laws.specs.Lists.{concat}
use Rattle.put.specs.Numerals.{decimal_of}
use Rattle.profile.specs.Refusals.{fault}
use Rattle.bundle.specs.Bundle.{ceil}
use Rattle.daylist.proofs.Cases.{creditor_line, first, day_list}
use Rattle.written.specs.Written.{written}
use Rattle.write.specs.Write.{Answer.success, Answer.refused, answer_for}

rooms : map (answer_for day_list 2) (0 ∷ 1742 ∷ 1743 ∷ []) ≡ refused (fault 28 1743) ∷ refused (fault 28 1743) ∷ success 1743 ∷ []
unfolding answer_for written decimal_of ceil
rooms = refl

many : answer_for (creditor_line ++ concat (replicate 65 first)) 1 0 ≡ refused (fault 27 65)
unfolding answer_for ceil
many = refl

judged-first : answer_for (creditor_line ++ concat (replicate 65 first)) 0 0 ≡ refused (fault 22 0)
unfolding answer_for
judged-first = refl
