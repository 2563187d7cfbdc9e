-- What the answers of the route's functions say, and what those inside this crate promise.
use Rattle.std.specs.Prelude.{ℕ, Bool, List, Option, None, Some}
use Rattle.base.specs.Answer.{Answer, accepted, refused, given, pick}
use Rattle.layout.specs.Layouts.{flags_at_end}
use Rattle.segments.specs.declared.Table.{Table}
use Rattle.store.specs.Store.{body_in, slot_at}
use Rattle.route.specs.Routes as routes
use Rattle.route.specs.declared.request.Serving.{Serving}
use Rattle.route.specs.declared.rights.Grant.{Grant}

abbrev pub grant_value : Grant → routes.Grant
grant_value g = record { iomode = g.iomode; slot = g.slot.0; last = g.last }

-- none is 17
abbrev pub answer_of_grant : Option Grant → Answer routes.Grant
answer_of_grant (Some g) = accepted (grant_value g)
answer_of_grant None = refused 17

abbrev pub serving_of : Serving → routes.Serving
serving_of v = record { grant = grant_value v.grant; layout = record { summary = v.summary; starts = v.starts } }

-- ---- inside this crate

-- the grant that serves a request
abbrev pub serving_grant : Bool → Table → List ℕ → ℕ → Answer routes.Grant
serving_grant write t store x = given (routes.served write t store x) λ v. accepted v.grant

-- a grant of RW, where it serves reads: flag 4 is not at the end of its body
unfoldable pub grant_for_reads : List ℕ → Answer routes.Grant → Answer routes.Grant
grant_for_reads store a =
    given a λ g.
    pick (routes.no_reads (flags_at_end (body_in (slot_at store g.slot)))) (refused 17) (accepted g)

-- the slot whose body is to be read: the grant's, and 0 where there is none
abbrev pub slot_asked : Answer routes.Grant → ℕ
slot_asked (accepted g) = g.slot
slot_asked (refused n) = 0
