-- ff_layout4 and ff_mirror4 of RFC 8435, 5.1. "Layout body: stripe unit (8); mirror count (4) and mirrors; flags (4);
-- statistics hint (4, any). A mirror: server count (4) and servers."
use Rattle.std.specs.Prelude.{ℕ, ◌+◌, ◌-◌, ◌*◌, Bool, List, [], ◌∷◌, ◌++◌, map, length, get_or, leb, ltb, eqb}
use Rattle.base.specs.Answer.{Answer, refused, pick}
use Rattle.base.specs.Limits.{known_flags, longest_body, most_mirrors, most_servers, most_starts}
use Rattle.base.specs.Lists.{padded}
use Rattle.octets.specs.Numbers.{be_at}
use Rattle.xdr.specs.Parsed.{Parsed, ok, fault, then, many_at, whole}
use Rattle.xdr.specs.Items.{count_at, num_at}
use Rattle.server.specs.Servers.{server_at}
use Rattle.server.specs.declared.item.Server.{Server}
use Rattle.layout.specs.declared.front_and_tail.Front.{Front}
use Rattle.layout.specs.declared.front_and_tail.Tail.{Tail}
use Rattle.layout.specs.declared.body.Summary.{Summary}

-- "with one server the unit is 0; with more we require it to be above 0"
unfoldable pub unit_fits : ℕ → ℕ → Bool
unit_fits unit servers = pick (eqb servers 1) (eqb unit 0) (leb 1 unit)

-- "1 to 8 mirrors; 1 to 16 servers a mirror". Unit and first server count are held against each other at that count.
unfoldable pub front_at : List ℕ → ℕ → Parsed Front
front_at s at =
    then (num_at 8 s at) λ unit p1.
    then (count_at 1 most_mirrors s p1) λ mirrors p2.
    then (count_at 1 most_servers s p2) λ servers p3.
    pick (unit_fits unit servers) (ok (record { unit = unit; mirrors = mirrors; servers = servers }) p3) (fault 10)

-- "all mirrors have the same server count": a mirror after the first, which had n servers
unfoldable pub mirror_at : ℕ → List ℕ → ℕ → Parsed (List Server)
mirror_at n s at = then (count_at 1 most_servers s at) λ count p. pick (eqb count n) (many_at server_at n s p) (fault 9)

-- the mirrors, from after the first server count
unfoldable pub mirrors_at : ℕ → ℕ → List ℕ → ℕ → Parsed (List (List Server))
mirrors_at mirrors servers s at =
    then (many_at server_at servers s at) λ first p1.
    then (many_at (mirror_at servers) (mirrors - 1) s p1) λ others p2.
    ok (first ∷ others) p2

-- "Flags are bits 1 .., 2 .., 4 .., 8 ..; any other bit is refused": a number above 15 has another bit
unfoldable pub tail_at : List ℕ → ℕ → Parsed Tail
tail_at s at =
    then (num_at 4 s at) λ flags p1.
    pick (leb flags known_flags) (then (num_at 4 s p1) λ hint p2. ok (record { flags = flags; hint = hint }) p2)
    (fault 11)

-- where the flags are, counted from the end of a body: "flags (4); statistics hint (4, any)", and nothing may follow
abbrev pub flags_from_end : ℕ
flags_from_end = 8

-- the number there, which in an accepted body is its flags; 0 where there are fewer bytes
unfoldable pub flags_at_end : List ℕ → ℕ
flags_at_end s = pick (leb flags_from_end (length s)) (be_at 4 s (length s - flags_from_end)) 0

-- 16 entries a mirror: where each of its servers starts, then zeros
unfoldable pub rows : List (List Server) → List ℕ
rows [] = []
rows (m ∷ ms) = padded most_servers 0 (map (λ v. v.device) m) ++ rows ms

-- "says where each server starts, by mirror and by stripe, as byte offsets from the body's first byte, with 0 in
-- unused places"
unfoldable pub starts_of : List (List Server) → List ℕ
starts_of mirrors = padded most_starts 0 (rows mirrors)

-- where a mirror's server of a stripe starts, in such a table: 0 beyond its entries; no stripe reaches into the next
-- mirror's
unfoldable pub start_at : List ℕ → ℕ → ℕ → ℕ
start_at starts mirror stripe = pick (ltb stripe most_servers) (get_or starts (mirror * most_servers + stripe) 0) 0

-- "The reader's summary": the numbers, and where each server starts
pub record Layout : Type 0 where
  pub summary : Summary
  pub starts : List ℕ

-- the body, front to back
unfoldable pub layout_at : List ℕ → Parsed Layout
layout_at s =
    then (front_at s 0) λ front p1.
    then (mirrors_at front.mirrors front.servers s p1) λ mirrors p2.
    then (tail_at s p2) λ tail p3.
    ok (record {
      summary = record {
        unit = front.unit;
        mirrors = front.mirrors;
        servers = front.servers;
        flags = tail.flags;
        hint = tail.hint;
      };
      starts = starts_of mirrors;
    }) p3

-- "body at most 4,090 bytes, tested before anything in it"; nothing may follow
unfoldable pub layout_body : List ℕ → Answer Layout
layout_body s = pick (leb (length s) longest_body) (whole s (layout_at s)) (refused 8)
