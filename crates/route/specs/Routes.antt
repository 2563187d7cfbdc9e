-- "Where an I/O goes": by the right at its first byte, and the layout body under which that byte is held.
use Rattle.std.specs.Prelude.{ℕ, ◌+◌, ◌%◌, ◌<◌, ◌≡◌, Bool, true, false, List, [], ◌∷◌}
use Rattle.base.specs.Answer.{Answer, accepted, refused, given, or_else, pick}
use Rattle.base.specs.Bits.{bit}
use Rattle.base.specs.Ranges.{request_last}
use Rattle.base.specs.declared.iomode.Iomode.{Iomode}
use Rattle.base.specs.declared.iomode.Iomode.TheVariants.{Read, ReadWrite}
use Rattle.layout.specs.Layouts.{Layout, layout_body}
use Rattle.segments.specs.declared.Right.{Right}
use Rattle.segments.specs.declared.Right.TheVariants.{None, Granted, Recalled}
use Rattle.segments.specs.declared.Segment.{Segment}
use Rattle.segments.specs.declared.Table.{Table}
use Rattle.segments.specs.Segments.{Mode, READ, RW, list_in, within}
use Rattle.store.specs.Store.{body_in, slot_at}
use Rattle.soundness.specs.Sound.{sound}
use Rattle.route.specs.Stripes.{piece_length, stripe_of}
use Rattle.route.specs.Mirrors.{all_of, best_mirror, only}
use Rattle.route.specs.declared.piece.Piece.{Piece}

-- ---- the right at a byte

-- the iomode that an answer names; it is never ANY
abbrev pub iomode_for : Mode → Iomode
iomode_for READ = Read
iomode_for RW = ReadWrite

-- a granted segment, as far as an I/O is concerned: its iomode, the slot of its body and its last byte
pub record Grant : Type 0 where
  pub iomode : Iomode
  pub slot : ℕ
  pub last : ℕ

-- 17: "the first byte of an I/O request lacks the right": recalled bytes serve no I/O
abbrev pub grant_of : Iomode → Right → ℕ → Answer Grant
grant_of iomode None last = refused 17
grant_of iomode (Granted s) last = accepted (record { iomode = iomode; slot = s.0; last = last })
grant_of iomode (Recalled s) last = refused 17

unfoldable pub grant_in : Iomode → List Segment → ℕ → Answer Grant
grant_in iomode [] x = refused 17
grant_in iomode (s ∷ l) x =
    pick (within s.first s.last x) (grant_of iomode s.right s.last) (grant_in iomode l x)

abbrev pub grant_at : Table → Mode → ℕ → Answer Grant
grant_at t m x = grant_in (iomode_for m) (list_in t m) x

-- ---- what serves

-- flag 4, the bit of that value: "no reads on a read-write layout"; flag 8: "write one mirror"
abbrev pub no_reads : ℕ → Bool
no_reads flags = bit 4 flags

abbrev pub one_mirror : ℕ → Bool
one_mirror flags = bit 8 flags

-- the layout body in a slot
unfoldable pub layout_in : List ℕ → ℕ → Answer Layout
layout_in store slot = layout_body (body_in (slot_at store slot))

-- a grant that serves a request, and the layout under which it does
pub record Serving : Type 0 where
  pub grant : Grant
  pub layout : Layout

-- the grant of an iomode at a byte, with the layout body in its slot
unfoldable pub grant_with_layout : Table → Mode → List ℕ → ℕ → Answer Serving
grant_with_layout t m store x =
    given (grant_at t m x) λ g.
    given (layout_in store g.slot) λ l.
    accepted (record { grant = g; layout = l })

-- ".. RW granted under a body without flag 4"
unfoldable pub read_through_rw : Table → List ℕ → ℕ → Answer Serving
read_through_rw t store x =
    given (grant_with_layout t RW store x) λ v.
    pick (no_reads v.layout.summary.flags) (refused 17) (accepted v)

-- "A write needs RW granted. A read needs READ granted, or RW granted under a body without flag 4; where both serve
-- at its first byte, RW is used." (C-11)
unfoldable pub served : Bool → Table → List ℕ → ℕ → Answer Serving
served true t store x = grant_with_layout t RW store x
served false t store x = or_else (read_through_rw t store x) (grant_with_layout t READ store x)

-- ---- the answer

-- the stripe of a byte, by the layout's unit and its servers in each mirror
abbrev pub stripe_in : Layout → ℕ → ℕ
stripe_in l x = stripe_of l.summary.unit l.summary.servers x

-- "A read names one mirror: the highest efficiency, lowest number on a tie; each mirror is judged by the efficiency
-- of the server that holds the stripe of the request's first byte." (C-12) "A write names all mirrors, as a set of
-- bits, or with flag 8 only the mirror that this same rule picks in the write's own body."
unfoldable pub mirrors_named : Bool → List ℕ → Layout → ℕ → ℕ
mirrors_named write body l stripe =
    pick write
    (pick (one_mirror l.summary.flags) (only (best_mirror body l.starts l.summary.mirrors stripe))
    (all_of l.summary.mirrors))
    (only (best_mirror body l.starts l.summary.mirrors stripe))

-- "The answer gives iomode, slot number, stripe number, offset, piece length and mirrors." "The offset on the server
-- is the file offset."
unfoldable pub piece_at : Bool → List ℕ → ℕ → ℕ → Serving → Piece
piece_at write store offset len v = record {
  iomode = v.grant.iomode;
  slot = record { 0 = v.grant.slot };
  stripe = record { 0 = stripe_in v.layout offset };
  offset = offset;
  length = piece_length v.layout.summary.unit v.layout.summary.servers v.grant.last offset len;
  mirrors = mirrors_named write (body_in (slot_at store v.grant.slot)) v.layout (stripe_in v.layout offset);
}

-- "Order: 20, 5, 17."
unfoldable pub routed : Bool → Table → List ℕ → ℕ → ℕ → Answer Piece
routed write t store offset len =
    pick (sound t store)
    (given (request_last offset len) λ last.
    given (served write t store offset) λ v.
    accepted (piece_at write store offset len v))
    (refused 20)

-- a piece from offset on that fills its stripe unit, as it can with more than one server only
pub record FillsUnit (store : List ℕ) (offset : ℕ) (p : Piece) : Type 0 where
  pub layout : Layout
  pub read : layout_in store p.slot.0 ≡ accepted layout
  pub several : 1 < layout.summary.servers
  pub filled : offset % layout.summary.unit + p.length ≡ layout.summary.unit
