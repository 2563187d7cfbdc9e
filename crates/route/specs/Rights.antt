-- What serves an I/O, said of the rights of its first byte with their bodies, as demand 3 has them, and not of a
-- table.
use Rattle.std.specs.Prelude.{ℕ, Bool, true, false, List}
use Rattle.base.specs.Answer.{Answer, accepted, refused, given, or_else, pick}
use Rattle.base.specs.declared.iomode.Iomode.{Iomode}
use Rattle.base.specs.declared.iomode.Iomode.TheVariants.{Read, ReadWrite}
use Rattle.layout.specs.Layouts.{layout_body}
use Rattle.store.specs.Store.{Body, body_in, slot_at}
use Rattle.model.specs.Model.{ByteRight, none, granted, recalled}
use Rattle.route.specs.Routes.{no_reads}
use Rattle.route.specs.declared.piece.Piece.{Piece}

-- the iomode and the layout body that serve
pub record ServedUnder : Type 0 where
  pub iomode : Iomode
  pub body : Body

-- 17: "the first byte of an I/O request lacks the right"
abbrev pub by_grant : Iomode → ByteRight → Answer ServedUnder
by_grant iomode none = refused 17
by_grant iomode (granted b) = accepted (record { iomode = iomode; body = b })
by_grant iomode (recalled b) = refused 17

-- ".. or RW granted under a body without flag 4"
unfoldable pub reads_by_rw : ByteRight → Answer ServedUnder
reads_by_rw rw =
    given (by_grant ReadWrite rw) λ v.
    given (layout_body v.body) λ l.
    pick (no_reads l.summary.flags) (refused 17) (accepted v)

-- "A write needs RW granted. A read needs READ granted, or RW granted under a body without flag 4; where both serve
-- at its first byte, RW is used." (C-11)
-- read, rw: the byte's rights in the two iomodes
abbrev pub served_by_rights : Bool → ByteRight → ByteRight → Answer ServedUnder
served_by_rights true read rw = by_grant ReadWrite rw
served_by_rights false read rw = or_else (reads_by_rw rw) (by_grant Read read)

-- what an answered piece is served under: its iomode, and the body in its slot
abbrev pub served_of : List ℕ → Piece → ServedUnder
served_of store p = record { iomode = p.iomode; body = body_in (slot_at store p.slot.0) }
