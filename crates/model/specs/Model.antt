-- The reference model, which the scope paper calls the ledger: "a right for every byte in each iomode .. and eight
-- slots".
use Rattle.std.specs.Prelude.{ℕ, zero, suc, Bool, true, false, not, ◌&&◌, ◌||◌, List, [], ◌∷◌, map, length, replicate, ltb}
use Rattle.base.specs.Limits.{most_segments, slot_count}
use Rattle.base.specs.Answer.{Answer, accepted, refused, given, pick}
use Rattle.base.specs.Iomodes.{iomode_of}
use Rattle.base.specs.Ranges.{last_byte, range_last, to_the_end}
use Rattle.base.specs.declared.iomode.Iomode.{Iomode}
use Rattle.base.specs.declared.iomode.Iomode.TheVariants.{Any}
use Rattle.octets.specs.Numbers.{bytes_from, same_bytes}
use Rattle.layout4.specs.Layout4s.{WholeLayout, layout4}
use Rattle.segments.specs.declared.Right.{Right}
use Rattle.segments.specs.declared.Right.TheVariants as table
use Rattle.segments.specs.declared.Segment.{Segment}
use Rattle.segments.specs.declared.Table.{Table}
use Rattle.segments.specs.Segments.{Mode, READ, RW, acts_on, any_below, in_entries, segments_of, within}
use Rattle.store.specs.Store.{Body, Slot, empty, holds}

-- "A byte's right, per iomode, is none, granted under a body, or recalled under a body."
pub data ByteRight : Type 0 where
  none : ByteRight
  granted : Body → ByteRight
  recalled : Body → ByteRight

pub record Model : Type 0 where
  pub right : Mode → ℕ → ByteRight
  pub slots : List Slot

-- "a right for every byte in each iomode, at first none, and eight slots, at first empty"
abbrev pub start : Model
start = record { right = λ m x. none; slots = replicate slot_count empty }

-- ---- events

-- "fed only the events' own bytes and numbers": a grant's layout4; offset, length and iomode of a return and a recall
pub data Event : Type 0 where
  Grant : List ℕ → Event
  Return : ℕ → ℕ → ℕ → Event
  Recall : ℕ → ℕ → ℕ → Event
  Revoke : Event

-- what an event does to a byte that it covers
pub data Action : Type 0 where
  grants : Body → Action
  returns : Action
  recalls : Action
  revokes : Action

-- an event whose own bytes and numbers are accepted; first and len are the offset and the length that it gives (of a
-- revoke, which gives none, 0 and 2^64 - 1)
pub record Command : Type 0 where
  pub action : Action
  pub iomode : Iomode
  pub first : ℕ
  pub last : ℕ
  pub len : ℕ

-- the range (5), then the iomode (3)
unfoldable pub range_command : Action → ℕ → ℕ → ℕ → Answer Command
range_command d offset len number =
    given (range_last offset len) λ last.
    given (iomode_of number) λ iomode.
    accepted (record { action = d; iomode = iomode; first = offset; last = last; len = len })

-- the body is named by its bytes
unfoldable pub grant_command : List ℕ → WholeLayout → Command
grant_command bytes w = record {
  action = grants (bytes_from w.frame.body.len bytes w.frame.body.start);
  iomode = w.frame.iomode;
  first = w.frame.offset;
  last = w.frame.last;
  len = w.frame.length;
}

-- "the event's own bytes and numbers (5 before 3)"; a revoke is of every byte in both iomodes
unfoldable pub read_command : Event → Answer Command
read_command (Grant bytes) = given (layout4 bytes) λ w. accepted (grant_command bytes w)
read_command (Return offset len number) = range_command returns offset len number
read_command (Recall offset len number) = range_command recalls offset len number
read_command Revoke = accepted (record { action = revokes; iomode = Any; first = 0; last = last_byte; len = to_the_end })

-- whether byte x in iomode m lies in the event's range and iomode
unfoldable pub covers : Command → Mode → ℕ → Bool
covers o m x = acts_on o.iomode m && within o.first o.last x

-- "A grant makes its range granted. A return makes its range none; .. A recall turns granted into recalled and
-- nothing else. A revoke makes every byte none in both iomodes."
abbrev pub right_after : Action → ByteRight → ByteRight
right_after (grants b) r = granted b
right_after returns r = none
right_after recalls none = none
right_after recalls (granted b) = recalled b
right_after recalls (recalled b) = recalled b
right_after revokes r = none

-- the right of byte x in iomode m after a command, from the right r before it
unfoldable pub after_at : Command → Mode → ℕ → ByteRight → ByteRight
after_at o m x r = pick (covers o m x) (right_after o.action r) r

-- ---- tests on the right of one byte

-- "Held means granted or recalled."
abbrev pub is_held : ByteRight → Bool
is_held none = false
is_held (granted b) = true
is_held (recalled b) = true

abbrev pub is_recalled : ByteRight → Bool
is_recalled none = false
is_recalled (granted b) = false
is_recalled (recalled b) = true

-- whether a right names the body b
abbrev pub is_under : Body → ByteRight → Bool
is_under b none = false
is_under b (granted c) = same_bytes b c
is_under b (recalled c) = same_bytes b c

-- 21: "a byte of the grant is held in that iomode under another body"
abbrev pub stops21 : Action → ByteRight → Bool
stops21 (grants b) r = is_held r && not (is_under b r)
stops21 returns r = false
stops21 recalls r = false
stops21 revokes r = false

-- 22: "a byte of the grant is recalled in that iomode"
abbrev pub stops22 : Action → ByteRight → Bool
stops22 (grants b) r = is_recalled r
stops22 returns r = false
stops22 recalls r = false
stops22 revokes r = false

-- ---- slots

-- whether a slot holds the body: all its bytes are equal
unfoldable pub in_slots : Body → List Slot → Bool
in_slots b [] = false
in_slots b (empty ∷ ss) = in_slots b ss
in_slots b (holds c ∷ ss) = same_bytes b c || in_slots b ss

-- the number of the first slot that holds the body
unfoldable pub slot_of : Body → List Slot → ℕ
slot_of b [] = 0
slot_of b (empty ∷ ss) = suc (slot_of b ss)
slot_of b (holds c ∷ ss) = pick (same_bytes b c) 0 (suc (slot_of b ss))

-- "all 8 slots are named"
unfoldable pub none_empty : List Slot → Bool
none_empty [] = true
none_empty (empty ∷ ss) = false
none_empty (holds c ∷ ss) = none_empty ss

-- the slots with the body in the lowest empty one
unfoldable pub in_lowest : Body → List Slot → List Slot
in_lowest b [] = []
in_lowest b (empty ∷ ss) = holds b ∷ ss
in_lowest b (holds c ∷ ss) = holds c ∷ in_lowest b ss

-- "A granted body in no slot takes the lowest empty one"
abbrev pub placed : Action → List Slot → List Slot
placed (grants b) ss = pick (in_slots b ss) ss (in_lowest b ss)
placed returns ss = ss
placed recalls ss = ss
placed revokes ss = ss

-- 24: "the grant's body is not on the shelf and all 8 slots are named"
abbrev pub stops24 : Action → List Slot → Bool
stops24 (grants b) ss = not (in_slots b ss) && none_empty ss
stops24 returns ss = false
stops24 recalls ss = false
stops24 revokes ss = false

-- a right as the table has it, with the number of the body's slot
abbrev pub with_slot : List Slot → ByteRight → Right
with_slot ss none = table.None
with_slot ss (granted b) = table.Granted (record { 0 = slot_of b ss })
with_slot ss (recalled b) = table.Recalled (record { 0 = slot_of b ss })

-- ---- every byte of the file: the bytes 0 to N (demand 3 and the worked examples are for N = 2^64 - 1)

-- the answer n where the test holds, else what follows
abbrev pub refuse : ℕ → Bool → ℕ → ℕ
refuse n true next = n
refuse n false next = next

-- by an answer: 0 is accepted, any other number is a refusal
abbrev pub if_accepted : {A : Type 0} → ℕ → A → A → A
if_accepted zero a b = a
if_accepted (suc n) a b = b

module _ (N : ℕ) where
  -- whether the test holds of a byte of the file, in one iomode or the other
  unfoldable pub any_byte : (Mode → ℕ → Bool) → Bool
  any_byte p = any_below (p READ) (suc N) || any_below (p RW) (suc N)

  -- whether the event covers a byte whose right passes the test
  unfoldable pub meets : Command → (ByteRight → Bool) → Model → Bool
  meets o test M = any_byte (λ m x. covers o m x && test (M.right m x))

  -- 25: "a recall meets no held byte in its range and iomode"
  abbrev pub stops25 : Action → Command → Model → Bool
  stops25 (grants b) o M = false
  stops25 returns o M = false
  stops25 recalls o M = not (meets o is_held M)
  stops25 revokes o M = false

  -- "a slot whose body no right names is emptied"
  unfoldable pub if_named : (Mode → ℕ → ByteRight) → Slot → Slot
  if_named right empty = empty
  if_named right (holds b) = pick (any_byte (λ m x. is_under b (right m x))) (holds b) empty

  -- the model after an event that is accepted
  unfoldable pub act : Command → Model → Model
  act o M =
      let right : Mode → ℕ → ByteRight = λ m x. after_at o m x (M.right m x) in
      record { right = right; slots = map (if_named right) (placed o.action M.slots) }

  -- "Its segments are demand 3's lists: first and last byte, right, slot; other bytes are none"
  unfoldable pub segments_in : Model → Mode → List Segment
  segments_in M m = segments_of N (λ x. with_slot M.slots (M.right m x))

  -- 23: "the resulting table would need more than 32 segments in an iomode"
  unfoldable pub has_too_many : Model → Bool
  has_too_many M = ltb most_segments (length (segments_in M READ)) || ltb most_segments (length (segments_in M RW))

  -- "then 21, 22, 25, 24, 23"; 0 for accepted
  unfoldable pub verdict : Command → Model → ℕ
  verdict o M =
      refuse 21 (meets o (stops21 o.action) M)
      (refuse 22 (meets o (stops22 o.action) M)
      (refuse 25 (stops25 o.action o M)
      (refuse 24 (stops24 o.action M.slots)
      (refuse 23 (has_too_many (act o M))
      0))))

  -- an event that is refused before rights and slots are asked, as by its own bytes and numbers, gets that number
  unfoldable pub answer_to : Answer Command → Model → ℕ
  answer_to (refused n) M = n
  answer_to (accepted o) M = verdict o M

  -- "A refused event changes nothing; an accepted one acts as said above."
  unfoldable pub model_after : Answer Command → Model → Model
  model_after (refused n) M = M
  model_after (accepted o) M = if_accepted (verdict o M) (act o M) M

  -- "and the table's other places blank"
  unfoldable pub table_of : Model → Table
  table_of M = record { read = in_entries (segments_in M READ); rw = in_entries (segments_in M RW) }

-- ---- lists of events

-- A reference model as demand 3 takes it. What it keeps is of some type L: rights and slots, and maybe more, by which
-- it may refuse an event.
pub record ReferenceModel (L : Type 0) : Type 0 where
  -- what is kept before the first event
  pub first : L
  -- the rights and slots in what is kept
  pub model : L → Model
  -- an event's command; or its refusal, by its own bytes and numbers or by what is kept beside rights and slots
  pub command : Event → L → Answer Command
  -- what is kept after an event
  pub next : Event → L → L

-- rights and slots and nothing else, "fed only the events' own bytes and numbers"
abbrev pub rights_and_slots : ℕ → ReferenceModel Model
rights_and_slots N = record {
  first = start;
  model = λ M. M;
  command = λ e M. read_command e;
  next = λ e M. model_after N (read_command e) M;
}

-- the answers to a list of events: a command is judged by rights and slots
unfoldable pub answers : {L : Type 0} → ℕ → ReferenceModel L → List Event → L → List ℕ
answers N ref [] l = []
answers N ref (e ∷ es) l = answer_to N (ref.command e l) (ref.model l) ∷ answers N ref es (ref.next e l)

-- what is kept after the last event
unfoldable pub run : {L : Type 0} → ReferenceModel L → List Event → L → L
run ref [] l = l
run ref (e ∷ es) l = run ref es (ref.next e l)
