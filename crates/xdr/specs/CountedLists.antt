-- Counted lists, read into arrays: "address count (1 to 8), each ..".
use Rattle.std.specs.Prelude.{ℕ, List}
use Rattle.base.specs.Lists.{padded}
use Rattle.xdr.specs.Parsed.{Parsed, ok, then, many_at}
use Rattle.xdr.specs.Items.{count_at}

-- how many items there are, and the entries: the items first, the others blank
pub record Listed (A : Type 0) : Type 0 where
  pub count : ℕ
  pub entries : List A

-- a count from `least` to `most`, and as many items, in an array of `most` entries
unfoldable pub list_at : {A : Type 0} → ℕ → ℕ → (List ℕ → ℕ → Parsed A) → A → List ℕ → ℕ → Parsed (Listed A)
list_at least most item blank s at =
    then (count_at least most s at) λ n p.
    then (many_at item n s p) λ l q.
    ok (record { count = n; entries = padded most blank l }) q
