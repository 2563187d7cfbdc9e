-- Stripes: "Stripe number = (offset div unit) mod servers; with one server it is 0." Counted from the file's start,
-- at full width. It is the server's number in its mirror. RFC 8435, 6, calls another number so, that of a whole
-- stripe: offset div (servers times unit).
use Rattle.std.specs.Prelude.{ℕ, ◌+◌, ◌-◌, ◌/◌, ◌%◌, min, leb}
use Rattle.base.specs.Answer.{pick}

-- how many bytes of its unit are left from a byte on
unfoldable pub unit_rest : ℕ → ℕ → ℕ
unit_rest unit offset = unit - offset % unit

unfoldable pub stripe_of : ℕ → ℕ → ℕ → ℕ
stripe_of unit servers offset = pick (leb servers 1) 0 (offset / unit % servers)

-- "The piece answered is the shortest of the request, the rest of that segment, and, with more than one server, the
-- rest of the stripe unit."
unfoldable pub piece_length : ℕ → ℕ → ℕ → ℕ → ℕ → ℕ
piece_length unit servers last offset len =
    pick (leb servers 1) (min len (last - offset + 1)) (min (min len (last - offset + 1)) (unit_rest unit offset))
