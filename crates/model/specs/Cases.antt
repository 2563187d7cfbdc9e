-- Worked examples of the table: lists of events, and what the model must make of them on a file of 2^64 bytes. Here
-- are two that the scope paper does not star and some of our own; examples/specs/Examples.antt has the starred ones.
use Rattle.std.specs.Prelude.{ℕ, zero, suc, ◌+◌, ◌≡◌, List, [], ◌∷◌, ◌++◌, replicate}
use Rattle.base.specs.Ranges.{last_byte, to_the_end}
use Rattle.octets.specs.Numbers.{be_bytes}
use Rattle.segments.specs.declared.Right.TheVariants as table
use Rattle.segments.specs.declared.Segment.{Segment}
use Rattle.segments.specs.Segments.{READ, RW}
use Rattle.store.specs.Store.{Body}
use Rattle.model.specs.Model.{Event, Grant, Return, Recall, Revoke, answers, rights_and_slots, run, segments_in}
use Rattle.model.specs.Model.{start}

-- so many data servers, each with one filehandle, in 56 bytes
unfoldable pub servers : ℕ → List ℕ
servers zero = []
servers (suc n) =
    replicate 16 7 ++ be_bytes 4 0 ++ replicate 16 0 ++ be_bytes 4 1 ++ be_bytes 4 4 ++ replicate 4 9 ++ be_bytes 4 0
    ++ be_bytes 4 0 ++ servers n

-- a layout body of one mirror with a unit and n servers; bodies with different hints are different
unfoldable pub body_of : ℕ → ℕ → ℕ → Body
body_of unit n hint = be_bytes 8 unit ++ be_bytes 4 1 ++ be_bytes 4 n ++ servers n ++ be_bytes 4 0 ++ be_bytes 4 hint

-- a layout4 of 108 bytes with a body of one server
unfoldable pub grant_bytes : ℕ → ℕ → ℕ → ℕ → List ℕ
grant_bytes offset len number hint =
    be_bytes 8 offset ++ be_bytes 8 len ++ be_bytes 4 number ++ be_bytes 4 4 ++ be_bytes 4 80 ++ body_of 0 1 hint

-- the grant of a range in an iomode, by its number, under the body with a hint
abbrev pub grant_event : ℕ → ℕ → ℕ → ℕ → Event
grant_event offset len number hint = Grant (grant_bytes offset len number hint)

-- the segment of the bytes first to last, granted or recalled under the body in slot i
abbrev pub granted_in : ℕ → ℕ → ℕ → Segment
granted_in i first last = record { first = first; last = last; right = table.Granted (record { 0 = i }) }

abbrev pub recalled_in : ℕ → ℕ → ℕ → Segment
recalled_in i first last = record { first = first; last = last; right = table.Recalled (record { 0 = i }) }

-- events, the numbers that they are answered, and the segments after them
pub record Case : Type 0 where
  pub events : List Event
  pub numbers : List ℕ
  pub read : List Segment
  pub rw : List Segment

abbrev pub CaseHolds : Case → Type 0
CaseHolds c =
    (answers last_byte (rights_and_slots last_byte) c.events start ≡ c.numbers)
    × (segments_in last_byte (run (rights_and_slots last_byte) c.events start) READ ≡ c.read)
    × (segments_in last_byte (run (rights_and_slots last_byte) c.events start) RW ≡ c.rw)

-- returns in RW of n single bytes, every other byte from x on
abbrev pub returns_from : ℕ → ℕ → List Event
returns_from zero x = []
returns_from (suc n) x = Return x 1 2 ∷ returns_from n (x + 2)

-- grants in RW of n single bytes from x on, each under a body of its own
abbrev pub bodies_from : ℕ → ℕ → List Event
bodies_from zero x = []
bodies_from (suc n) x = grant_event x 1 2 x ∷ bodies_from n (suc x)

abbrev pub cases : List Case
cases =
    -- a recall of bytes that are not held is 25, whatever is held beside them
    record {
      events = grant_event 0 100 2 0 ∷ Recall 100 5 2 ∷ Recall 0 100 1 ∷ [];
      numbers = 0 ∷ 25 ∷ 25 ∷ [];
      read = [];
      rw = granted_in 0 0 99 ∷ [];
    }
    -- a recall in READ leaves what is held in RW
    ∷ record {
      events = grant_event 0 100 2 0 ∷ grant_event 0 100 1 0 ∷ Recall 10 10 1 ∷ [];
      numbers = 0 ∷ 0 ∷ 0 ∷ [];
      read = granted_in 0 0 9 ∷ recalled_in 0 10 19 ∷ granted_in 0 20 99 ∷ [];
      rw = granted_in 0 0 99 ∷ [];
    }
    -- a byte held under another body is 21, a recalled one 22, and before either the range is judged, then the iomode
    ∷ record {
      events = grant_event 0 100 2 0 ∷ Recall 10 10 2 ∷ grant_event 15 10 2 1 ∷ grant_event 15 10 2 0 ∷ Return 0 0 9
          ∷ Return 0 1 9 ∷ [];
      numbers = 0 ∷ 0 ∷ 21 ∷ 22 ∷ 5 ∷ 3 ∷ [];
      read = [];
      rw = granted_in 0 0 9 ∷ recalled_in 0 10 19 ∷ granted_in 0 20 99 ∷ [];
    }
    -- "8 bodies held: a ninth, on bytes not held, is 24; after one is wholly returned it is accepted in that slot."
    ∷ record {
      events = bodies_from 8 0 ++ (grant_event 8 1 2 8 ∷ Return 3 1 2 ∷ grant_event 8 1 2 8 ∷ []);
      numbers = 0 ∷ 0 ∷ 0 ∷ 0 ∷ 0 ∷ 0 ∷ 0 ∷ 0 ∷ 24 ∷ 0 ∷ 0 ∷ [];
      read = [];
      rw = granted_in 0 0 0 ∷ granted_in 1 1 1 ∷ granted_in 2 2 2 ∷ granted_in 4 4 4 ∷ granted_in 5 5 5
          ∷ granted_in 6 6 6 ∷ granted_in 7 7 7 ∷ granted_in 3 8 8 ∷ [];
    }
    -- "A grant whose body is on the shelf uses that slot; otherwise the lowest unnamed one."
    ∷ record {
      events = grant_event 0 1 2 0 ∷ grant_event 1 1 1 0 ∷ grant_event 2 1 2 1 ∷ [];
      numbers = 0 ∷ 0 ∷ 0 ∷ [];
      read = granted_in 0 1 1 ∷ [];
      rw = granted_in 0 0 0 ∷ granted_in 1 2 2 ∷ [];
    }
    -- a revoke takes every right away
    ∷ record {
      events = grant_event 0 100 2 0 ∷ grant_event 0 100 1 1 ∷ Revoke ∷ [];
      numbers = 0 ∷ 0 ∷ 0 ∷ [];
      read = [];
      rw = [];
    }
    -- "32 segments in an iomode and a return inside one, touching neither of its ends: 23. The same return of the
    -- whole file: accepted."
    ∷ record {
      events = grant_event 0 65 2 0 ∷ (returns_from 31 1 ++ (Return 63 1 2 ∷ Return 0 to_the_end 2 ∷ []));
      numbers = replicate 32 0 ++ (23 ∷ 0 ∷ []);
      read = [];
      rw = [];
    }
    ∷ []
