-- `claims::bindings_refuse_as_listed` is a law of `binding`.
use Rattle.binding.proofs.RefusalLaws.{refused_as_listed}
use Rattle.claims.proofs.bindings_refuse_as_listed.Goals as goal

pub returns : goal.returns
returns _ = refused_as_listed
