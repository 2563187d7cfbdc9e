-- The table of starts as the loops fill it: what they read, stored from an index on. A step in between: `starts_of`
-- says what comes of it.
use Rattle.std.specs.Prelude.{ℕ, ◌+◌, List, [], ◌∷◌, map, Result, Ok, Err}
use Rattle.std.proofs.lemmas.List.Edits.{sets}
use Rattle.base.specs.Limits.{most_servers}
use Rattle.base.specs.Refusals.{fault_number}
use Rattle.base.specs.declared.refusal.Fault.{Fault}
use Rattle.xdr.specs.Parsed.{Parsed, ok, fault, then}
use Rattle.server.specs.declared.item.Server.{Server}
use Rattle.xdr.specs.declared.Cursor.{Cursor}

-- the table and the offset after what was read; a refusal says nothing of the table
abbrev pub parsed_of_starts : Result Cursor Fault → List ℕ → Parsed (List ℕ)
parsed_of_starts (Ok c) table = ok table c.at
parsed_of_starts (Err e) table = fault (fault_number e)

-- the starts of a mirror's servers from the index k on
unfoldable pub with_servers : ℕ → Parsed (List Server) → List ℕ → Parsed (List ℕ)
with_servers k x table = then x λ servers at. ok (sets table k (map (λ v. v.device) servers)) at

-- each mirror 16 entries after the one before
unfoldable pub set_rows : List ℕ → ℕ → List (List Server) → List ℕ
set_rows table k [] = table
set_rows table k (m ∷ ms) = set_rows (sets table k (map (λ v. v.device) m)) (k + most_servers) ms

unfoldable pub with_mirrors : ℕ → Parsed (List (List Server)) → List ℕ → Parsed (List ℕ)
with_mirrors k x table = then x λ mirrors at. ok (set_rows table k mirrors) at
