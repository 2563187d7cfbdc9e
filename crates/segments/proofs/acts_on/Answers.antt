-- `segments::acts_on` meets its contract: one way out for each iomode.
use Rattle.base.specs.Answer.{pick}
use Rattle.base.specs.declared.iomode.Iomode.TheVariants.{Read, ReadWrite}
use Rattle.segments.specs.Segments.{READ, RW, acts_on}
use mathlib.Core.Bool.{Bool, true, false, not}
use mathlib.Core.Path.{◌≡◌, refl}
use Rattle.segments.proofs.acts_on.Goals as goal

in-read : (t : Bool) → t ≡ acts_on Read (pick t READ RW)
unfolding pick
in-read true = refl
in-read false = refl

in_rw : (t : Bool) → not t ≡ acts_on ReadWrite (pick t READ RW)
unfolding pick
in_rw true = refl
in_rw false = refl

pub returns-in-Read : goal.returns-in-Read
returns-in-Read c = rw c.in-Read.is (in-read _)

pub returns-in-ReadWrite : goal.returns-in-ReadWrite
returns-in-ReadWrite c = rw c.in-ReadWrite.is (in_rw _)
