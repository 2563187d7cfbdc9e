-- The starred lines of the scope paper's worked examples: one list of cases of one type, and what each case says of
-- the definitions.
use Rattle.std.specs.Prelude.{ℕ, ◌^◌, ◌-◌, ◌≡◌, true, List, [], ◌∷◌, replicate}
use Rattle.base.specs.Answer.{Answer, accepted, refused, given}
use Rattle.base.specs.Ranges.{last_byte, range_last, to_the_end}
use Rattle.report.specs.Writing.{reports_written}
use Rattle.segments.specs.declared.Segment.{Segment}
use Rattle.segments.specs.declared.Table.{Table}
use Rattle.segments.specs.Segments.{in_entries}
use Rattle.store.specs.Store.{Body, empty, holds, store_of}
use Rattle.route.specs.Routes.{routed}
use Rattle.model.specs.Cases as cases
use Rattle.model.specs.Cases.{Case, body_of, grant_event, granted_in, recalled_in}
use Rattle.model.specs.Model.{Recall, Return}

pub data Example : Type 0 where
  -- events: their answers, and the segments after them
  Events : Case → Example
  -- these segments are held in RW under a body in slot 0; the offset and the length of a write; its stripe, and the
  -- length of its piece
  Write : Body → List Segment → ℕ → ℕ → Answer (ℕ × ℕ) → Example
  -- offset and length of a range, and its last byte
  Range : ℕ → ℕ → Answer ℕ → Example
  -- the body of a report with nothing in it
  NoReport : List ℕ → Example

abbrev pub table_with : List Segment → Table
table_with rw = record { read = in_entries []; rw = in_entries rw }

abbrev pub ExampleHolds : Example → Type 0
ExampleHolds (Events c) = cases.CaseHolds c
ExampleHolds (Write b rw offset len answer) =
    given (routed true (table_with rw) (store_of (holds b ∷ replicate 7 empty)) offset len)
    (λ p. accepted (p.stripe.0, p.length)) ≡ answer
ExampleHolds (Range offset len last) = range_last offset len ≡ last
ExampleHolds (NoReport bytes) = reports_written 0 [] [] 4096 ≡ accepted bytes

abbrev pub examples : List Example
examples =
    -- "Unit 4,096, 3 servers: offset 4,095, length 2 gives stripe 0, piece 1."
    Write (body_of 4096 3 0) (granted_in 0 0 last_byte ∷ []) 4095 2 (accepted (0, 1))
    -- "Same: offset 17,592,186,044,416 (2^44) gives stripe 1, not 0."
    ∷ Write (body_of 4096 3 0) (granted_in 0 0 last_byte ∷ []) 17592186044416 1 (accepted (1, 1))
    -- "Unit 2^62, 4 servers: offset 13,835,058,055,282,163,712 gives stripe 3."
    ∷ Write (body_of (2 ^ 62) 4 0) (granted_in 0 0 last_byte ∷ []) 13835058055282163712 1 (accepted (3, 1))
    -- "Range offset 2^64 - 1: length 2^64 - 1 is one byte; length 1 is refused 5; length 0 is refused 5."
    ∷ Range (2 ^ 64 - 1) (2 ^ 64 - 1) (accepted (2 ^ 64 - 1))
    ∷ Range (2 ^ 64 - 1) 1 (refused 5)
    ∷ Range (2 ^ 64 - 1) 0 (refused 5)
    -- "Grant RW 0..99, return 40..59: segments 0..39 and 60..99."
    ∷ Events (record {
      events = grant_event 0 100 2 0 ∷ Return 40 20 2 ∷ [];
      numbers = 0 ∷ 0 ∷ [];
      read = [];
      rw = granted_in 0 0 39 ∷ granted_in 0 60 99 ∷ [];
    })
    -- "Then grant 40..59 under the same body: one segment 0..99."
    ∷ Events (record {
      events = grant_event 0 100 2 0 ∷ Return 40 20 2 ∷ grant_event 40 20 2 0 ∷ [];
      numbers = 0 ∷ 0 ∷ 0 ∷ [];
      read = [];
      rw = granted_in 0 0 99 ∷ [];
    })
    -- "Under another body, with the first still held at 0..39 and 60..99: three segments."
    ∷ Events (record {
      events = grant_event 0 100 2 0 ∷ Return 40 20 2 ∷ grant_event 40 20 2 1 ∷ [];
      numbers = 0 ∷ 0 ∷ 0 ∷ [];
      read = [];
      rw = granted_in 0 0 39 ∷ granted_in 1 40 59 ∷ granted_in 0 60 99 ∷ [];
    })
    -- "Recall RW 10..19 of 0..99: three segments; writing at 10 is 17, at 20 is allowed."
    ∷ Events (record {
      events = grant_event 0 100 2 0 ∷ Recall 10 10 2 ∷ [];
      numbers = 0 ∷ 0 ∷ [];
      read = [];
      rw = granted_in 0 0 9 ∷ recalled_in 0 10 19 ∷ granted_in 0 20 99 ∷ [];
    })
    ∷ Write (body_of 0 1 0) (granted_in 0 0 9 ∷ recalled_in 0 10 19 ∷ granted_in 0 20 99 ∷ []) 10 1 (refused 17)
    ∷ Write (body_of 0 1 0) (granted_in 0 0 9 ∷ recalled_in 0 10 19 ∷ granted_in 0 20 99 ∷ []) 20 1 (accepted (0, 1))
    -- "A recall on an empty table is 25; a return there is accepted."
    ∷ Events (record {
      events = Recall 0 to_the_end 3 ∷ Return 0 to_the_end 3 ∷ [];
      numbers = 25 ∷ 0 ∷ [];
      read = [];
      rw = [];
    })
    -- "Report body with nothing in it: eight zero bytes."
    ∷ NoReport (0 ∷ 0 ∷ 0 ∷ 0 ∷ 0 ∷ 0 ∷ 0 ∷ 0 ∷ [])
    ∷ []
