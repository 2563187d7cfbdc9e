-- "READ is 1, RW is 2, ANY is 3."
use Rattle.std.specs.Prelude.{ℕ, eqb}
use Rattle.base.specs.Answer.{Answer, accepted, refused, pick}
use Rattle.base.specs.declared.iomode.Iomode.{Iomode}
use Rattle.base.specs.declared.iomode.Iomode.TheVariants.{Read, ReadWrite, Any}

abbrev pub number_of_iomode : Iomode → ℕ
number_of_iomode Read = 1
number_of_iomode ReadWrite = 2
number_of_iomode Any = 3

-- "return and recall take all three"
unfoldable pub iomode_of : ℕ → Answer Iomode
iomode_of n =
    pick (eqb n 1) (accepted Read) (pick (eqb n 2) (accepted ReadWrite) (pick (eqb n 3) (accepted Any) (refused 3)))

-- "a grant takes READ or RW"
unfoldable pub grant_iomode_of : ℕ → Answer Iomode
grant_iomode_of n = pick (eqb n 1) (accepted Read) (pick (eqb n 2) (accepted ReadWrite) (refused 3))
