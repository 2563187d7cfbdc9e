-- Laws of an edit of a table, from the edits of its two lists: both fit, or it is 23.
use Rattle.std.proofs.Common.{ℕ, ◌≡◌, None, Some}
use Rattle.base.specs.Answer.{accepted, refused}
use Rattle.base.specs.declared.iomode.Iomode.{Iomode}
use Rattle.segments.specs.declared.Segments.{Segments}
use Rattle.segments.specs.declared.Table.{Table}
use Rattle.segments.specs.Segments.{READ, RW, acts_on}
use Rattle.table.specs.declared.change.Change.{Change}
use Rattle.table.specs.Edits.{edited_where, table_edited}

module _ (c : Change) (i : Iomode) (lo hi : ℕ) (t : Table) where
  pub both_fit_lem : (read w : Segments) → Some read ≡ edited_where (acts_on i READ) c lo hi t.read
      → Some w ≡ edited_where (acts_on i RW) c lo hi t.rw
      → table_edited c i lo hi t ≡ accepted (record { read = read; rw = w })
  unfolding table_edited
  both_fit_lem read w g h = rw (← g, ← h)

  pub read_over : None ≡ edited_where (acts_on i READ) c lo hi t.read → table_edited c i lo hi t ≡ refused 23
  unfolding table_edited
  read_over g = rw (← g)

  pub rw_over : (read : Segments) → Some read ≡ edited_where (acts_on i READ) c lo hi t.read
      → None ≡ edited_where (acts_on i RW) c lo hi t.rw → table_edited c i lo hi t ≡ refused 23
  unfolding table_edited
  rw_over read g h = rw (← g, ← h)
