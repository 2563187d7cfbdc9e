-- "A netid is classed by comparison with `tcp`, `tcp6`, `udp`, `udp6`, `rdma`, `rdma6`; anything else is "other" and
-- accepted."
use Rattle.std.specs.Prelude.{ℕ, List, [], ◌∷◌}
use Rattle.base.specs.Answer.{pick}
use Rattle.octets.specs.Numbers.{same_bytes}
use Rattle.device.specs.declared.netid.NetidClass.{NetidClass}
use Rattle.device.specs.declared.netid.NetidClass.TheVariants.{Other, Tcp, Tcp6, Udp, Udp6, Rdma, Rdma6}

-- the six in ASCII
abbrev pub tcp : List ℕ
tcp = 116 ∷ 99 ∷ 112 ∷ []

abbrev pub tcp6 : List ℕ
tcp6 = 116 ∷ 99 ∷ 112 ∷ 54 ∷ []

abbrev pub udp : List ℕ
udp = 117 ∷ 100 ∷ 112 ∷ []

abbrev pub udp6 : List ℕ
udp6 = 117 ∷ 100 ∷ 112 ∷ 54 ∷ []

abbrev pub rdma : List ℕ
rdma = 114 ∷ 100 ∷ 109 ∷ 97 ∷ []

abbrev pub rdma6 : List ℕ
rdma6 = 114 ∷ 100 ∷ 109 ∷ 97 ∷ 54 ∷ []

-- the whole netid is compared: its length, and each byte
unfoldable pub class_of : List ℕ → NetidClass
class_of s =
    pick (same_bytes s tcp) Tcp
    (pick (same_bytes s tcp6) Tcp6
    (pick (same_bytes s udp) Udp
    (pick (same_bytes s udp6) Udp6
    (pick (same_bytes s rdma) Rdma
    (pick (same_bytes s rdma6) Rdma6 Other)))))
