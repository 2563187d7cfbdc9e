-- ff_device_versions4 of RFC 8435, 4.1: "each version, minor, rsize, wsize (4 each) and the tightly-coupled boolean"
use Rattle.std.specs.Prelude.{ℕ, List, Bool, false, not, ◌&&◌, ◌||◌, leb, eqb}
use Rattle.base.specs.Answer.{pick}
use Rattle.xdr.specs.Parsed.{Parsed, ok, fault, then}
use Rattle.xdr.specs.Items.{num_at, bool_at}
use Rattle.device.specs.declared.version.Version.{Version}

-- "Version 3 has minor 0 and is not tight (RFC 8435)"
abbrev pub fits_version3 : Version → Bool
fits_version3 v = eqb v.version 3 && (eqb v.minor 0 && not v.tight)

-- "version 4 has minor 0, 1 or 2"
abbrev pub fits_version4 : Version → Bool
fits_version4 v = eqb v.version 4 && leb v.minor 2

-- "sizes are above 0 (ours)"; RFC 8435 has no version but 3 and 4
unfoldable pub version_fits : Version → Bool
version_fits v = leb 1 v.rsize && (leb 1 v.wsize && (fits_version3 v || fits_version4 v))

-- a version entry whose fields are read, up to the offset after it
unfoldable pub checked_version : Version → ℕ → Parsed Version
checked_version v at = pick (version_fits v) (ok v at) (fault 12)

-- "A version entry is judged after all its five fields are read."
unfoldable pub version_at : List ℕ → ℕ → Parsed Version
version_at s at =
    then (num_at 4 s at) λ version p.
    then (num_at 4 s p) λ minor q.
    then (num_at 4 s q) λ rsize t.
    then (num_at 4 s t) λ wsize u.
    then (bool_at s u) λ tight v.
    checked_version (record { version = version; minor = minor; rsize = rsize; wsize = wsize; tight = tight }) v

-- what is in an entry without a version
abbrev pub blank_version : Version
blank_version = record { version = 0; minor = 0; rsize = 0; wsize = 0; tight = false }
