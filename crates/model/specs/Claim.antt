-- Demand 3, stated of any calls on what is kept of a file and a body store, and of any reference model. What is kept
-- is of some type K, and a table is read off it: it is a table, or holds one.
use Rattle.std.specs.Prelude.{ℕ, suc, ◌≤◌, ◌<◌, ◌^◌, ◌≡◌, Bool, false, List, [], ◌∷◌, ◌++◌, length, get_or}
use Rattle.base.specs.Answer.{Answer, accepted, refused}
use Rattle.base.specs.Lists.{Each}
use Rattle.base.specs.Ranges.{last_byte}
use Rattle.octets.specs.Numbers.{AllBytes}
use Rattle.segments.specs.declared.Right.{Right}
use Rattle.segments.specs.declared.Right.TheVariants.{None, Granted, Recalled}
use Rattle.segments.specs.declared.Segment.{Segment}
use Rattle.segments.specs.declared.Table.{Table}
use Rattle.segments.specs.Segments.{Mode, list_in, right_at}
use Rattle.store.specs.Store.{Slot, empty, holds, store_of, zero_store, Body}
use Rattle.model.specs.Model.{ByteRight, none, granted, recalled, Model, Event, Grant, Return, Recall, Revoke}
use Rattle.model.specs.Model.{Command, ReferenceModel, after_at, answers, covers, if_accepted, read_command, run}
use Rattle.model.specs.Model.{table_of}
use Rattle.model.specs.SlotsShown.{slots_in}

-- what a call gives: its answer (0 for accepted), what is kept of the file, and the store
pub record CallResult (K : Type 0) : Type 0 where
  pub answer : ℕ
  pub kept : K
  pub store : List ℕ

-- a call for each event, on what is kept and a store
abbrev pub Calls : Type 0 → Type 0
Calls K = Event → K → List ℕ → CallResult K

-- ---- events as the calls' types have them: a grant's bytes are bytes, an offset is below 2^64 (any length and
-- iomode number will do)

abbrev pub Fits : Event → Type 0
Fits (Grant bytes) = AllBytes bytes
Fits (Return offset len number) = offset < 2 ^ 64
Fits (Recall offset len number) = offset < 2 ^ 64
Fits Revoke = Unit {0}

-- ---- the rights, as table and store show them

-- the right under the body in the named slot; none where the slot is empty
abbrev pub under_slot : (Body → ByteRight) → Slot → ByteRight
under_slot c empty = none
under_slot c (holds b) = c b

abbrev pub with_body : List Slot → Right → ByteRight
with_body ss None = none
with_body ss (Granted s) = under_slot granted (get_or ss s.0 empty)
with_body ss (Recalled s) = under_slot recalled (get_or ss s.0 empty)

-- the right of byte x in iomode m, with its body
unfoldable pub right_in : Table → List ℕ → Mode → ℕ → ByteRight
right_in t store m x = with_body (slots_in t store) (right_at (list_in t m) x)

-- ---- the rights that the accepted events give

-- the command of an event, in a list of one, where its answer is 0; nothing where it was refused
unfoldable pub accepted_command : Answer Command → ℕ → List Command
accepted_command (accepted o) answer = if_accepted answer (o ∷ []) []
accepted_command (refused n) answer = []

-- the commands of the accepted events of a list, by their own bytes and numbers
unfoldable pub accepted_of : List Event → List ℕ → List Command
accepted_of [] ns = []
accepted_of (e ∷ es) [] = []
accepted_of (e ∷ es) (n ∷ ns) = accepted_command (read_command e) n ++ accepted_of es ns

-- "the right that the accepted events covering that byte and iomode give, taken in order"
unfoldable pub right_given : List Command → Mode → ℕ → ByteRight → ByteRight
right_given [] m x r = r
right_given (o ∷ os) m x r = right_given os m x (after_at o m x r)

-- ---- lists that show the rights

-- "the ordered list of segments", of bytes of the file, "each with its layout body"
unfoldable pub Ordered : List Slot → ℕ → List Segment → Type 0
Ordered ss from [] = Unit {0}
Ordered ss from (s ∷ l) =
    (from ≤ s.first)
    × (s.first ≤ s.last)
    × (s.last ≤ last_byte)
    × (with_body ss s.right ≡ none → ⊥)
    × Ordered ss (suc s.last) l

-- "that shows them"
pub record Showing (ss : List Slot) (right : ℕ → ByteRight) (l : List Segment) : Type 0 where
  pub ordered : Ordered ss 0 l
  pub shows : (x : ℕ) → x ≤ last_byte → with_body ss (right_at l x) ≡ right x

-- ---- a list of calls, "each handed the table and shelf that the last one left"

module _ {K : Type 0} (call : Calls K) where
  -- the answers, and what the last call leaves: what is kept, and the store
  unfoldable pub answered : List Event → K → List ℕ → List ℕ
  answered [] k store = []
  answered (e ∷ es) k store = (call e k store).answer ∷ answered es (call e k store).kept (call e k store).store

  unfoldable pub kept_left : List Event → K → List ℕ → K
  kept_left [] k store = k
  kept_left (e ∷ es) k store = kept_left es (call e k store).kept (call e k store).store

  unfoldable pub store_left : List Event → K → List ℕ → List ℕ
  store_left [] k store = store
  store_left (e ∷ es) k store = store_left es (call e k store).kept (call e k store).store

-- whether an event covers a byte and iomode, by its own bytes and numbers
abbrev pub in_reach : Answer Command → Mode → ℕ → Bool
in_reach (accepted o) m x = covers o m x
in_reach (refused n) m x = false

module _ {K : Type 0} (table : K → Table) where
  -- "An accepted event changes no right outside its range and iomode; a refused one changes nothing."
  pub record Confined (e : Event) (k : K) (store : List ℕ) (l : CallResult K) : Type 0 where
    pub elsewhere : l.answer ≡ 0 → (m : Mode) (x : ℕ) → x ≤ last_byte → in_reach (read_command e) m x ≡ false
        → right_in (table l.kept) l.store m x ≡ right_in (table k) store m x
    pub unchanged : (l.answer ≡ 0 → ⊥) → (l.kept ≡ k) × (l.store ≡ store)

  unfoldable pub EachConfined : Calls K → List Event → K → List ℕ → Type 0
  EachConfined call [] k store = Unit {0}
  EachConfined call (e ∷ es) k store =
      Confined e k store (call e k store)
      × EachConfined call es (call e k store).kept (call e k store).store

-- table: the table in what is kept; first: what is kept before the first event, with an empty table in it
-- (`same_table` says so of the empty list); ref: the reference model. Of the calls on tables these are the table
-- itself, `empty_table` and `rights_and_slots last_byte`.
module _ {K L : Type 0} (table : K → Table) (first : K) (ref : ReferenceModel L) (call : Calls K) where
  -- What demand 3 says of one list of events. got: the calls' answers; t, store: what they leave; M: the rights and
  -- slots of the reference model after the list.
  pub record Agreed (es : List Event) (got : List ℕ) (t : Table) (store : List ℕ) (M : Model) : Type 0 where
    -- "Each is accepted, or refused with its number, exactly when the scope paper's ledger does so on the same list."
    pub same_answers : got ≡ answers last_byte ref es ref.first
    -- "every byte of the file has, in each iomode, the right that the accepted events covering that byte and iomode
    -- give, taken in order"
    pub rights : (m : Mode) (x : ℕ) → x ≤ last_byte → right_in t store m x ≡ right_given (accepted_of es got) m x none
    -- "and the ledger shows the same"
    pub same_rights : (m : Mode) (x : ℕ) → x ≤ last_byte → M.right m x ≡ right_given (accepted_of es got) m x none
    -- "An accepted event changes no right outside its range and iomode; a refused one changes nothing."
    pub confined : EachConfined table call es first zero_store
    -- "The table kept is the one worked out afresh from those rights and the ledger's slots."
    pub same_table : t ≡ table_of last_byte M
    -- and those are the slots that table and store show
    pub same_slots : slots_in t store ≡ M.slots
    -- "In each iomode it is the ordered list of segments that shows them, each with its layout body,"
    pub shows : (m : Mode) → Showing (slots_in t store) (M.right m) (list_in t m)
    -- "and every other such list has more segments."
    pub fewest : (m : Mode) (l : List Segment) → Showing (slots_in t store) (M.right m) l
        → (l ≡ list_in t m → ⊥) → length (list_in t m) < length l
    -- "The shelf's bytes are the ledger's."
    pub same_store : store ≡ store_of M.slots

  -- "Start from an empty table and a zeroed shelf .. For every list of grants, returns, recalls and revokes, refused
  -- ones among them, .. this holds."
  abbrev pub Demand3 : Type 0
  Demand3 = (es : List Event) → Each Fits es
      → Agreed es
      (answered call es first zero_store)
      (table (kept_left call es first zero_store))
      (store_left call es first zero_store)
      (ref.model (run ref es ref.first))
