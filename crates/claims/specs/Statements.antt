-- What the claims say of a refusal's number, of an offset in a layout body, of a piece of an I/O in a table, of a
-- byte's right, of the mirrors named, and of a grant of a byte.
use Rattle.std.specs.Prelude.{ℕ, ◌+◌, ◌-◌, ◌^◌, ◌≤◌, ◌<◌, ◌≡◌, ◌⊎◌, List, [], ◌∷◌, Bool, true, false, not, ◌&&◌, ◌||◌, eqb, get_or, length}
use Rattle.base.specs.Answer.{Answer, accepted, refused}
use Rattle.base.specs.Bits.{bit}
use Rattle.octets.specs.Numbers.{be_value, bytes_from}
use Rattle.xdr.specs.Parsed.{ok}
use Rattle.server.specs.Servers.{server_efficiency_offset, server_handles_offset, server_at, server_stateid_offset}
use Rattle.server.specs.declared.item.Server.{Server}
use Rattle.layout.specs.Layouts.{Layout, layout_body}
use Rattle.segments.specs.declared.Right.TheVariants.{Granted}
use Rattle.segments.specs.declared.Table.{Table}
use Rattle.segments.specs.Segments.{Mode, RW, blank, list_in}
use Rattle.model.specs.Model.{Action, grants, returns, recalls, revokes, Command, covers}
use Rattle.model.specs.Model.{ByteRight, none, granted, recalled}
use Rattle.store.specs.Store.{Body, body_in, slot_at}
use Rattle.route.specs.Routes.{FillsUnit, iomode_for, mirrors_named, routed}
use Rattle.route.specs.declared.piece.Piece.{Piece}

-- whether a number is in a list
abbrev pub is_one_of : ℕ → List ℕ → Bool
is_one_of n [] = false
is_one_of n (k ∷ ks) = eqb n k || is_one_of n ks

-- a data server is read at this offset, and its fields are where RFC 8435 has them: 16, 20 and 36 bytes on
pub record ServerAt (s : List ℕ) (at : ℕ) : Type 0 where
  pub server : Server
  pub next : ℕ
  pub read : server_at s at ≡ ok server next
  pub device : server.device ≡ at
  pub efficiency : server.efficiency ≡ be_value (bytes_from 4 s (at + server_efficiency_offset))
  pub stateid : server.stateid ≡ at + server_stateid_offset
  pub handles : server.handles ≡ be_value (bytes_from 4 s (at + server_handles_offset))

-- a piece lies in one segment of the iomode that it names, granted under the slot that it names; for a write that
-- iomode is RW. It ends with the request, with that segment, or with its stripe unit
pub record PieceLies (write : Bool) (t : Table) (store : List ℕ) (offset len : ℕ) (p : Piece) : Type 0 where
  pub mode : Mode
  pub named : p.iomode ≡ iomode_for mode
  pub index : ℕ
  pub there : index < length (list_in t mode)
  pub first : (get_or (list_in t mode) index blank).first ≤ offset
  pub last : offset + p.length - 1 ≤ (get_or (list_in t mode) index blank).last
  pub right : (get_or (list_in t mode) index blank).right ≡ Granted p.slot
  pub ends : (p.length ≡ len) ⊎ (((get_or (list_in t mode) index blank).last ≡ offset + p.length - 1)
      ⊎ FillsUnit store offset p)
  pub in_rw : write ≡ true → mode ≡ RW

-- whether a byte's right is granted
abbrev pub is_granted : ByteRight → Bool
is_granted none = false
is_granted (granted b) = true
is_granted (recalled b) = false

-- whether a layout body is accepted, and has no flag 4
abbrev pub is_without_flag4 : Answer Layout → Bool
is_without_flag4 (accepted l) = not (bit 4 l.summary.flags)
is_without_flag4 (refused n) = false

-- whether a byte's right is granted under a body without flag 4
abbrev pub is_granted_without_flag4 : ByteRight → Bool
is_granted_without_flag4 none = false
is_granted_without_flag4 (granted b) = is_without_flag4 (layout_body b)
is_granted_without_flag4 (recalled b) = false

-- whether a byte has the right that a request needs, by its rights in the two iomodes: "A write needs RW granted. A
-- read needs READ granted, or RW granted under a body without flag 4"
abbrev pub has_right : Bool → ByteRight → ByteRight → Bool
has_right true read rw = is_granted rw
has_right false read rw = is_granted read || is_granted_without_flag4 rw

-- a read's piece is the same bytes as a write's, at the same stripe of the same layout body, whose layout is l; its
-- one mirror is the write's under flag 8, and else one of all, which the write names
pub record ReadAsWritten (l : Layout) (write read : Piece) : Type 0 where
  pub iomode : read.iomode ≡ write.iomode
  pub slot : read.slot ≡ write.slot
  pub stripe : read.stripe ≡ write.stripe
  pub offset : read.offset ≡ write.offset
  pub length : read.length ≡ write.length
  pub mirror : (b : ℕ) × (read.mirrors ≡ 2 ^ b) × (b < l.summary.mirrors)
  pub one : bit 8 l.summary.flags ≡ true → read.mirrors ≡ write.mirrors
  pub all : bit 8 l.summary.flags ≡ false → write.mirrors ≡ 2 ^ l.summary.mirrors - 1

-- mirror b of the first n has the highest efficiency of them, and the lowest number of those that have it
pub record BestOf (efficiency : ℕ → ℕ) (n b : ℕ) : Type 0 where
  pub below : b < n
  pub highest : (m : ℕ) → m < n → efficiency m ≤ efficiency b
  pub lowest : (m : ℕ) → m < b → efficiency m < efficiency b

-- some request is answered with piece p under body b and names one mirror: a read, or a write where l has flag 8
pub record OneMirrorNamed (b : Body) (l : Layout) (p : Piece) : Type 0 where
  pub write : Bool
  pub one : (write && not (bit 8 l.summary.flags)) ≡ false
  pub table : Table
  pub store : List ℕ
  pub offset : ℕ
  pub len : ℕ
  pub answered : routed write table store offset len ≡ accepted p
  pub under : body_in (slot_at store p.slot.0) ≡ b

-- byte x is one of the piece's
abbrev pub InPiece : ℕ → Piece → Type 0
InPiece x p = (p.offset ≤ x) × (x < p.offset + p.length)

-- the mirrors by 01's own sentence: "each mirror is judged by the efficiency of its first data server"
abbrev pub by_first_servers : Bool → List ℕ → Layout → ℕ
by_first_servers write body l = mirrors_named write body l 0

abbrev pub is_grant : Action → Bool
is_grant (grants b) = true
is_grant returns = false
is_grant recalls = false
is_grant revokes = false

-- whether an accepted event grants byte x in iomode m
abbrev pub grants_byte : Mode → ℕ → Command → Bool
grants_byte m x o = is_grant o.action && covers o m x
