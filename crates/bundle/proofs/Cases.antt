-- BENCH CASES, by computation. Terms are numbers here.
--   star_11         ★11 Terms A A B A B A A, ceiling 2: batches of collections 1 2, 4 6, 7, 3 5
--   star_11_need    so four are needed
--   star_11_labels  the number of each collection's batch, from 0
--   sixty_four      64 collections at ceiling 1 need 64 batches, 65 need 65
use Prim.Native.Nat.{ℕ}
use mathlib.Core.List.{List, [], ◌∷◌, map}
use mathlib.Core.Path.{◌≡◌, refl}
use lib.Dec.{eqb}
use lib.ListN.{replicate}
use Rattle.laws.specs.Lists.{number}
use Rattle.bundle.specs.Bundle.{bundle, ceil}
use Rattle.bundle.specs.Labels.{need_of, labels_of}

abbrev AABABAA : List ℕ
AABABAA = 10 ∷ 10 ∷ 11 ∷ 10 ∷ 11 ∷ 10 ∷ 10 ∷ []

pub star_11 : map (map (λ p. p.0)) (bundle (λ p. p.1) eqb 2 (number 1 AABABAA)) ≡ (1 ∷ 2 ∷ []) ∷ (4 ∷ 6 ∷ []) ∷ (7 ∷ []) ∷ (3 ∷ 5 ∷ []) ∷ []
star_11 = refl

pub star_11_need : need_of 2 AABABAA ≡ 4
unfolding ceil
star_11_need = refl

pub star_11_labels : labels_of 2 AABABAA ≡ 0 ∷ 0 ∷ 3 ∷ 1 ∷ 3 ∷ 1 ∷ 2 ∷ []
unfolding ceil
star_11_labels = refl

pub sixty_four : (need_of 1 (replicate 64 7) ≡ 64) × (need_of 1 (replicate 65 7) ≡ 65)
unfolding ceil
sixty_four = (refl, refl)
