-- THE RANK OF A BYTE, by which one look at a table finds a run of letters. Not to be believed: no promise to a caller speaks of it.
--   rank c            2 for a byte of the letter set but `/`, 1 for `/`, 0 for every other byte
--   ranks_from c n     the ranks of the bytes from c on, n of them
--   at_least k c       the rank of c is at least k
--   ranked t          the table t begins with the ranks of all bytes
use Rattle.std.specs.Prelude.{ℕ, zero, suc, Bool, true, false, [], ◌∷◌, eqb, leb, take}
use Rattle.laws.specs.Bytes.{Bytes, same}
use Rattle.marks.specs.Marks.{letter}

abbrev pub rank : ℕ → ℕ
rank c = elim (letter c) [ true ↦ elim (eqb c 47) [ true ↦ 1 | false ↦ 2 ] | false ↦ 0 ]

abbrev pub ranks_from : ℕ → ℕ → Bytes
ranks_from c zero = []
ranks_from c (suc n) = rank c ∷ ranks_from (suc c) n

abbrev pub at_least : ℕ → ℕ → Bool
at_least k c = leb k (rank c)

unfoldable pub ranked : Bytes → Bool
ranked t = same (take 256 t) (ranks_from 0 256)
