-- WHAT THE CHECK PROMISES of its answer and of the two lent tables. To be believed; definitions only.
--   said_by m                             what the message m says
--   table_after v table numbers           a table afterwards, for the verdict v
--   Checks s slips rows v slips' rows'   of the message s, with the tables at entry: the verdict v, and the tables at exit
use Rattle.std.specs.Prelude.{ℕ, ◌<◌, ◌≤◌, List, ◌≡◌, ◌⊎◌, length}
use Rattle.laws.specs.Bytes.{Bytes}
use Rattle.laws.specs.Put.{put_at}
use Rattle.profile.specs.Limits.{most_bytes}
use Rattle.profile.specs.Refusals.{fault}
use Rattle.tree.specs.Form.{Message, message, message_events, NotOfForm}
use Rattle.tree.specs.Pain008.{document, declaration}
use Rattle.message.specs.declared.Told.{Told}
use Rattle.message.specs.Message.{tell}
use Rattle.message.specs.Verdict.{Room, Verdict, Verdict.accepted, Verdict.refused, verdict_of, slips_of, rows_of}

abbrev pub said_by : Message document → List Told
said_by m = tell (message declaration m) (message_events declaration m)

abbrev pub room_of : List ℕ → List ℕ → Room
room_of slips rows = record { slips = length slips; rows = length rows }

-- a table after the check: on acceptance the rows from 0 and the rest as it was; on refusal as at entry
abbrev pub table_after : Verdict → List ℕ → List ℕ → List ℕ
table_after (accepted t) table numbers = put_at table 0 numbers
table_after (refused f) table numbers = table

module _ (s : Bytes) (slips rows : List ℕ) (v : Verdict) (slips' rows' : List ℕ) where
  -- 1: longer than the profile allows
  pub record Long : Type 0 where
    pub long : most_bytes < length s
    pub answer : v ≡ refused (fault 1 most_bytes)
    pub slips-kept : slips' ≡ slips
    pub rows-kept : rows' ≡ rows

  -- 2: not of the form
  pub record OutOfForm : Type 0 where
    pub short : length s ≤ most_bytes
    pub place : ℕ
    pub not_of_form : NotOfForm declaration document s place
    pub answer : v ≡ refused (fault 2 place)
    pub slips-kept : slips' ≡ slips
    pub rows-kept : rows' ≡ rows

  -- else: the message is read, and the stages from 3 on decide
  pub record ByStages : Type 0 where
    pub short : length s ≤ most_bytes
    pub read : Message document
    pub bytes : message declaration read ≡ s
    pub answer : v ≡ verdict_of (room_of slips rows) (said_by read)
    pub slips_are : slips' ≡ table_after v slips (slips_of (said_by read))
    pub rows_are : rows' ≡ table_after v rows (rows_of (said_by read))

  pub record Checks : Type 0 where
    pub case : Long ⊎ (OutOfForm ⊎ ByStages)
