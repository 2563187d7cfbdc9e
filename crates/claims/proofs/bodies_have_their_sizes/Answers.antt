-- `claims::bodies_have_their_sizes` is the laws of sizes beside it; the smallest bodies are computed.
use mathlib.Core.Path.{refl}
use Rattle.base.specs.Answer.{given, pick}
use Rattle.base.specs.Iomodes.{grant_iomode_of}
use Rattle.base.specs.Ranges.{range_last, request_last}
use Rattle.octets.specs.Numbers.{all_zero, be_bytes, be_from, be_value}
use Rattle.xdr.specs.Items.{bytes_at, count_at, num_at, opaque_at, range_at}
use Rattle.xdr.specs.Parsed.{as_item, many_at, then, whole}
use Rattle.server.specs.Servers.{handles_at, server_head_at, server_at}
use Rattle.layout.specs.Layouts.{front_at, layout_at, layout_body, mirrors_at, tail_at, unit_fits}
use Rattle.layout4.specs.Layout4s.{frame_at, layout4, layout4_at}
use Rattle.model.specs.Cases.{body_of, grant_bytes, servers}
use Rattle.claims.proofs.BodySizes.{layout_least, layout4_least}
use Rattle.claims.proofs.bodies_have_their_sizes.Goals as goal

pub returns : goal.returns
unfolding given pick grant_iomode_of range_last request_last be_bytes be_from be_value all_zero bytes_at count_at num_at opaque_at as_item many_at then whole handles_at server_head_at server_at front_at layout_at layout_body mirrors_at tail_at unit_fits frame_at layout4 layout4_at range_at body_of grant_bytes servers
returns _ = (
  layout_least,
  (refl, refl),
  layout4_least,
  (refl, refl),
)
