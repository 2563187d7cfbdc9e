-- What is shown of bytes.
use Rattle.std.specs.Prelude.{ℕ, ◌+◌, List, [], drop, length, leb, take}
use Rattle.base.specs.Answer.{pick}
use Rattle.base.specs.Limits.{device_id_size}

-- the device id at an offset; nothing where its bytes run out
unfoldable pub device_id_at : List ℕ → ℕ → List ℕ
device_id_at s at = pick (leb (at + device_id_size) (length s)) (take device_id_size (drop at s)) []
