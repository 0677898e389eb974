-- ONE LIST PUT INTO ANOTHER: what a row filler and a writer leave behind. To be believed; definitions only.
--   put_at out at xs   `out` with the elements of `xs` from the place `at` on, and otherwise as it was
use Rattle.std.specs.Prelude.{List, ◌++◌, ℕ, ◌+◌, length, take, drop}

unfoldable pub put_at : List ℕ → ℕ → List ℕ → List ℕ
put_at out at xs = take at out ++ (xs ++ drop (at + length xs) out)
