-- `claims::records_stand_for_tables` is the law of the same content in `record`.
use Rattle.abi_table.proofs.TableRoundTrip.{record_back, table_back}
use Rattle.claims.proofs.records_stand_for_tables.Goals as goal

pub returns : goal.returns
returns _ = (table_back, record_back)
