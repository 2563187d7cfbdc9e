-- The scope's table of refusal numbers; 18 and 19 are not used.
use Rattle.std.specs.Prelude.{ℕ}
use Rattle.base.specs.declared.refusal.Fault.{Fault}
use Rattle.base.specs.declared.refusal.Fault.TheVariants as fault
use Rattle.base.specs.declared.refusal.Refusal.{Refusal}
use Rattle.base.specs.declared.refusal.Refusal.TheVariants as refusal

abbrev pub number_of : Refusal → ℕ
-- the bytes run out before an item is complete
number_of (refusal.Fault fault.BytesRunOut) = 1
-- bytes are left over
number_of (refusal.Fault fault.BytesLeftOver) = 2
-- iomode is not allowed: a grant takes READ or RW; return and recall take all three
number_of (refusal.Fault fault.IomodeNotAllowed) = 3
-- layout type is not 4
number_of (refusal.Fault fault.LayoutTypeUnknown) = 4
-- a range or I/O request breaks the rules
number_of (refusal.Fault fault.RangeInvalid) = 5
-- a padding byte is not 0
number_of (refusal.Fault fault.PaddingNotZero) = 6
-- a boolean is neither 0 nor 1
number_of (refusal.Fault fault.BooleanInvalid) = 7
-- a count or length is outside its limit, a binding's set of versions is above 15, or an error list's length is not
-- the counts' sum
number_of (refusal.Fault fault.OutsideLimit) = 8
-- a later mirror's server count differs from the first's
number_of (refusal.Fault fault.ServerCountDiffers) = 9
-- unit and first server count disagree
number_of (refusal.Fault fault.UnitDisagrees) = 10
-- an unknown flag bit
number_of (refusal.Fault fault.FlagUnknown) = 11
-- a version entry breaks its rule
number_of (refusal.Fault fault.VersionInvalid) = 12
-- device id, or filehandle and version counts, differ in binding
number_of refusal.BindingDiffers = 13
-- no version that the caller speaks
number_of refusal.NoSupportedVersion = 14
-- the chosen entry is version 4, not tight, and the server's stateid is not 16 zero bytes
number_of refusal.StateidNotZero = 15
-- mirror or stripe number beyond the layout
number_of refusal.BeyondLayout = 16
-- the first byte of an I/O request lacks the right
number_of refusal.RightMissing = 17
-- table or shelf is unsound
number_of refusal.Unsound = 20
-- a byte of the grant is held in that iomode under another body
number_of refusal.HeldUnderOtherBody = 21
-- a byte of the grant is recalled in that iomode
number_of refusal.RecalledInRange = 22
-- the resulting table would need more than 32 segments in an iomode
number_of refusal.TooManySegments = 23
-- the grant's body is not on the shelf and all 8 slots are named
number_of refusal.NoFreeSlot = 24
-- a recall meets no held byte in its range and iomode
number_of refusal.NothingHeld = 25
-- the output is too short
number_of refusal.OutputTooShort = 26
-- an error's operation is not 5, 25 or 38 (COMMIT, READ, WRITE), or its status is 0
number_of (refusal.Fault fault.ErrorInvalid) = 27
-- a time's nanoseconds are 1,000,000,000 or more, or its seconds are negative (C-13)
number_of (refusal.Fault fault.TimeInvalid) = 28

-- what a reader finds wrong, by the same table
abbrev pub fault_number : Fault → ℕ
fault_number f = number_of (refusal.Fault f)
