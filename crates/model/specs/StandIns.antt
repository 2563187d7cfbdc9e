-- Stand-ins for the calls: "One that refuses everything, or accepts events and changes nothing, or obeys only the
-- first, falls to demand 3."
use Rattle.std.specs.Prelude.{ℕ, ◌&&◌, List, eqb}
use Rattle.base.specs.Answer.{pick}
use Rattle.segments.specs.declared.Table.{Table}
use Rattle.model.specs.Model.{Event}
use Rattle.model.specs.Claim.{Calls}

module _ {K : Type 0} where
  -- refuses every event, with a number that may depend on event, what is kept and store
  abbrev pub refuses_all : (Event → K → List ℕ → ℕ) → Calls K
  refuses_all number e k store = record { answer = number e k store; kept = k; store = store }

  -- answers as the calls do, and changes nothing
  abbrev pub changes_nothing : Calls K → Calls K
  changes_nothing call e k store = record { answer = (call e k store).answer; kept = k; store = store }

  -- obeys while no byte is held; afterwards it answers as others do and changes nothing
  abbrev pub first_only : (K → Table) → Calls K → Calls K → Calls K
  first_only table call later e k store =
      pick (eqb (table k).read.count 0 && eqb (table k).rw.count 0)
      (call e k store)
      (record { answer = (later e k store).answer; kept = k; store = store })
