-- THE LAWS OF `put_at`.
--   put_nil, put-append, put_all   nothing is put; one thing after another; all of a list over the whole of another
--   length-put                     the length stays
--   get_before, get_behind, get_in   a number before what was put, after it, and in it
--   put_back                       what comes back of a part that was lent
--   put_one, put_two, put_step     one store; two; one store of a copying loop
--   row_of_sets                    a row of stores
use mathlib.Core.Path.{◌≡◌, ap, sym, ◌∙◌}
use mathlib.Core.List.{List, [], ◌∷◌, ◌++◌, append_assoc, append-nil}
use Prim.Native.Nat.{ℕ, ◌+◌, ◌-◌, ◌≤◌, ◌<◌}
use native.Mathlib.Nat.{add-zero, add_assoc}
use native.Mathlib.Numerals.{add-one}
use native.Mathlib.Omega.{arith}
use lib.ListN.{length, take, drop, set, get_or, length-append, length-take, length-drop, length-set, take-append-drop, drop_of_length-le, get_or-append}
use lib.Seq.{length-take-le, get_or-take, get_or-drop, get_or-append-add, take_at, drop_at, drop-drop, set_split, sets, sets-eq}
use Rattle.laws.specs.Put.{put_at}
use Rattle.laws.proofs.Loops.{drop-step}

pub put_nil : (out : List ℕ) (at : ℕ) → put_at out at [] ≡ out
unfolding put_at
put_nil out at = rw (add-zero, take-append-drop)

pub length-put : (out : List ℕ) (at : ℕ) (xs : List ℕ) → at + length xs ≤ length out → length (put_at out at xs) ≡ length out
unfolding put_at
length-put out at xs h = simp (length-append, length-take, length-drop) (omega arith)

-- one thing after another
pub put-append : (out : List ℕ) (at : ℕ) (xs ys : List ℕ) → at ≤ length out → put_at out at (xs ++ ys) ≡ put_at (put_at out at xs) (at + length xs) ys
unfolding put_at
put-append out at xs ys h =
    let n : length (take at out ++ xs) ≡ at + length xs = simp length-append (omega (arith, length-take-le at out h)) in
    let e : take at out ++ (xs ++ drop (at + length xs) out) ≡ (take at out ++ xs) ++ drop (at + length xs) out = simp append_assoc in
    let d : drop (at + length xs + length ys) ((take at out ++ xs) ++ drop (at + length xs) out) ≡ drop (at + length (xs ++ ys)) out =
    rw (← drop-drop (length ys) (at + length xs) ((take at out ++ xs) ++ drop (at + length xs) out), drop_at (take at out ++ xs) _ _ n, drop-drop, length-append, add_assoc)
    in
    rw (e, take_at (take at out ++ xs) _ _ n, d, append_assoc, append_assoc)

-- a number before what was put, after it, and in it
pub get_before : (out xs : List ℕ) (at i : ℕ) → i < at → at ≤ length out → get_or (put_at out at xs) i 0 ≡ get_or out i 0
unfolding put_at
get_before out xs at i h room =
    get_or-append (take at out) (xs ++ drop (at + length xs) out) 0 i (omega (arith, length-take-le at out room)) ∙ get_or-take at out i 0 h

pub get_behind : (out xs : List ℕ) (at i : ℕ) → at + length xs ≤ i → at + length xs ≤ length out → get_or (put_at out at xs) i 0 ≡ get_or out i 0
unfolding put_at
get_behind out xs at i h room =
    let n : length (take at out) ≡ at = length-take-le at out (omega arith) in
    let j : ℕ = i - (at + length xs) in
    let e : i ≡ length (take at out) + (length xs + j) = omega arith in
    ap (λ (k : ℕ). get_or (take at out ++ (xs ++ drop (at + length xs) out)) k 0) e
    ∙ get_or-append-add (take at out) (xs ++ drop (at + length xs) out) (length xs + j) 0
    ∙ get_or-append-add xs (drop (at + length xs) out) j 0
    ∙ get_or-drop (at + length xs) out j 0
    ∙ ap (λ (k : ℕ). get_or out k 0) (omega arith)

pub get_in : (out xs : List ℕ) (at j : ℕ) → j < length xs → at ≤ length out → get_or (put_at out at xs) (at + j) 0 ≡ get_or xs j 0
unfolding put_at
get_in out xs at j h room =
    let n : length (take at out) ≡ at = length-take-le at out room in
    ap (λ (k : ℕ). get_or (take at out ++ (xs ++ drop (at + length xs) out)) (k + j) 0) (sym n)
    ∙ get_or-append-add (take at out) (xs ++ drop (at + length xs) out) j 0
    ∙ get_or-append xs (drop (at + length xs) out) 0 j h

-- what stands in the whole once a part that was lent, from a to e, has come back as ys
pub put_back : (t ys : List ℕ) (a e : ℕ) → a ≤ e → length ys ≡ e - a → take a t ++ (ys ++ drop (e - a) (drop a t)) ≡ put_at t a ys
unfolding put_at
put_back t ys a e h n = rw (drop-drop, n)

-- one store
pub put_one : (l : List ℕ) (i v : ℕ) → i < length l → set l i v ≡ put_at l i (v ∷ [])
unfolding put_at
put_one l i v h = rw (set_split l i v h, add-one)

-- two stores, one after the other
pub put_two : (l : List ℕ) (i v w : ℕ) → i + 1 < length l → set (set l i v) (i + 1) w ≡ put_at l i (v ∷ w ∷ [])
put_two l i v w h =
    put_one (set l i v) (i + 1) w (simp length-set (omega arith))
    ∙ ap (λ (m : List ℕ). put_at m (i + 1) (w ∷ [])) (put_one l i v (omega arith))
    ∙ sym (put-append l i (v ∷ []) (w ∷ []) (omega arith))

-- a row of stores from the front that is as long as the list
pub row_of_sets : (vs l : List ℕ) → length l ≡ length vs → sets l 0 vs ≡ vs
row_of_sets vs l h = rw (sets-eq vs l 0 (omega arith), drop_of_length-le l {i = 0 + length vs} (omega arith), append-nil vs)

-- one store of a copying loop, with the rest still to be put after it
pub put_step : (out xs : List ℕ) (at i : ℕ) → i < length xs → at < length out → put_at (set out at (get_or xs i 0)) (at + 1) (drop (i + 1) xs) ≡ put_at out at (drop i xs)
put_step out xs at i h room =
    rw (drop-step xs i h, put_one out at (get_or xs i 0) room) (sym (put-append out at (get_or xs i 0 ∷ []) (drop (i + 1) xs) (omega arith)))

-- all of a list over the whole of another that is as long
pub put_all : (out xs : List ℕ) → length out ≡ length xs → put_at out 0 xs ≡ xs
unfolding put_at
put_all out xs h = rw (drop_of_length-le out {i = 0 + length xs} (omega arith), append-nil xs)
