-- `claims::bodies_refuse_as_listed` is one law for each body.
use Rattle.claims.proofs.BodyRefusals.{device_refusals, layout_refusals, layout4_refusals, reports_refusals, return_refusals, written_refusals}
use Rattle.claims.proofs.bodies_refuse_as_listed.Goals as goal

pub returns : goal.returns
returns _ = (
  λ s. (layout_refusals s).refusal,
  λ s. (layout4_refusals s).refusal,
  λ s. (device_refusals s).refusal,
  λ s. (return_refusals s).refusal,
  λ o errors room. (written_refusals o errors room).refusal,
  λ count heads errors room. (reports_refusals count heads errors room).refusal,
)
