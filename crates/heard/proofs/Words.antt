-- WHAT WAS SAID, PART BY PART: after events it is the definitions' `the p`, in numbers. One law over the part p, for each of the three ways to go on.
--   word_of o            the one element of a part, or none, as a word
--   saying-word         after the events that only say something
--   inside-word         inside a batch, for a part before the transaction
--   step-word           for a part before the batch
--   saying-mark         a mark stays
--   span-word, declared-word, worth_word   the columns of a word are those of the definitions
--   count_word, sum-word   what is declared in a word differs where its text does
use Prim.Native.Nat.{ℕ}
use mathlib.Core.Bool.{Bool, true, false, not}
use mathlib.Core.List.{List, [], ◌∷◌}
use mathlib.Core.Option.{Option, none, some}
use mathlib.Core.Path.{◌≡◌, refl, ap, ◌∙◌}
use lib.Dec.{eqb, ltb}
use Rattle.profile.specs.Totals.{count_differs, sum_differs}
use Rattle.profile.specs.declared.NumberOfTransactions.{NumberOfTransactions}
use Rattle.profile.specs.declared.ControlSum.{ControlSum}
use Rattle.tree.specs.Parts as part
use Rattle.message.specs.declared.Told.{Told}
use Rattle.message.specs.Message.{is, all_of, last_or, worth, worth_of}
use Rattle.message.specs.Verdict.{unless, differs, start_and_length, declared}
use Rattle.heard.specs.declared.Word.{Word}
use Rattle.heard.specs.State.{if_true, when, nothing, word, count_of, sum_of, State, added, began, saying, inside_batch, step}
use Rattle.heard.proofs.Fold.{by_bool, fold, project, keeps}

abbrev pub word_of : Option Told → Word
word_of none = nothing
word_of (some t) = word t

-- a word that goes by itself
abbrev hear : ℕ → Word → Told → Word
hear p x t = if_true (is p t) (word t) x

pub saying-word : (p : ℕ) (d : Option Told) (st : State) (ts : List Told) → st.said p ≡ word_of d → (fold saying st ts).said p ≡ word_of (last_or d (all_of p ts))
saying-word p d st ts e =
    project saying (hear p) (λ x. x.said p) (λ x t. refl) st ts ∙ ap (λ (w : Word). fold (hear p) w ts) e ∙ keeps p word d word_of (λ t. refl) ts

pub inside-word : (p : ℕ) (d : Option Told) (st : State) (ts : List Told) → ltb p part.transaction ≡ true → st.said p ≡ word_of d
    → (fold inside_batch st ts).said p ≡ word_of (last_or d (all_of p ts))
inside-word p d st ts h e =
    project inside_batch (hear p) (λ x. x.said p) same st ts ∙ ap (λ (w : Word). fold (hear p) w ts) e ∙ keeps p word d word_of (λ t. refl) ts
  where
    same : (x : State) (t : Told) → (inside_batch x t).said p ≡ hear p (x.said p) t
    same x t = by_bool (λ z. hear p ((if_true z (added x) x).said p) t ≡ hear p (x.said p) t) (is part.transaction t) (rw h refl) refl

pub step-word : (p : ℕ) (d : Option Told) (st : State) (ts : List Told) → ltb p part.batch ≡ true → ltb p part.transaction ≡ true → st.said p ≡ word_of d
    → (fold step st ts).said p ≡ word_of (last_or d (all_of p ts))
unfolding step
step-word p d st ts h i e =
    project step (hear p) (λ x. x.said p) same st ts ∙ ap (λ (w : Word). fold (hear p) w ts) e ∙ keeps p word d word_of (λ t. refl) ts
  where
    in_batch : (x : State) (t : Told) → (inside_batch x t).said p ≡ hear p (x.said p) t
    in_batch x t = by_bool (λ z. hear p ((if_true z (added x) x).said p) t ≡ hear p (x.said p) t) (is part.transaction t) (rw i refl) refl

    same : (x : State) (t : Told) → (step x t).said p ≡ hear p (x.said p) t
    same x t =
        in_batch (if_true (is part.batch t) (began x) x) t
        ∙ by_bool (λ z. hear p ((if_true z (began x) x).said p) t ≡ hear p (x.said p) t) (is part.batch t) (rw h refl) refl

pub saying-mark : (p : ℕ) (st : State) (ts : List Told) → (st.said p).mark ≡ 1 → ((fold saying st ts).said p).mark ≡ 1
saying-mark p st [] h = h
saying-mark p st (t ∷ ts) h = saying-mark p (saying st t) ts (by_bool (λ z. (if_true z (word t) (st.said p)).mark ≡ 1) (is p t) refl h)

pub span-word : (o : Option Told) → (word_of o).start ∷ (word_of o).length ∷ [] ≡ start_and_length o
span-word none = refl
span-word (some t) = refl

pub declared-word : (o : Option Told) → (word_of o).mark ∷ (word_of o).worth ∷ [] ≡ declared o
declared-word none = refl
declared-word (some t) = refl

pub worth_word : (o : Option Told) → (word_of o).worth ≡ worth_of o
worth_word none = refl
worth_word (some t) = refl

when-not : (z : Bool) (p : ℕ) → when (not z) p ≡ unless z p
when-not true p = refl
when-not false p = refl

pub count_word : (o : Option Told) (n : NumberOfTransactions) → when (count_differs (count_of (word_of o)) n) (word_of o).start ≡ differs o n.0
count_word none n = refl
count_word (some t) n = when-not (eqb (worth t) n.0) t.start

pub sum-word : (o : Option Told) (c : ControlSum) → when (sum_differs (sum_of (word_of o)) c) (word_of o).start ≡ differs o c.0
sum-word none c = refl
sum-word (some t) c = when-not (eqb (worth t) c.0) t.start
