-- Layout bodies and layout4s in plain numbers: 0 and the values, or the refusal's number and zeros.
use Rattle.std.specs.Prelude.{replicate}
use Rattle.base.specs.Limits.{most_starts}
use Rattle.base.specs.Answer.{Answer, accepted, refused}
use Rattle.base.specs.Iomodes.{number_of_iomode}
use Rattle.xdr.specs.declared.Part.{Part}
use Rattle.layout.specs.Layouts.{Layout}
use Rattle.layout.specs.declared.body.Summary.{Summary}
use Rattle.layout4.specs.Layout4s.{WholeLayout}
use Rattle.abi_wire.specs.declared.layouts.PartRecord.{PartRecord}
use Rattle.abi_wire.specs.declared.layouts.SummaryRecord.{SummaryRecord}
use Rattle.abi_wire.specs.declared.layouts.LayoutResult.{LayoutResult}
use Rattle.abi_wire.specs.declared.layouts.Layout4Result.{Layout4Result}

abbrev pub part_record : Part → PartRecord
part_record p = record { start = p.start; len = p.len }

abbrev pub summary_record : Summary → SummaryRecord
summary_record s = record {
  unit = s.unit;
  mirrors = s.mirrors;
  servers = s.servers;
  flags = s.flags;
  hint = s.hint;
}

abbrev pub no_part : PartRecord
no_part = record { start = 0; len = 0 }

abbrev pub no_summary : SummaryRecord
no_summary = record { unit = 0; mirrors = 0; servers = 0; flags = 0; hint = 0 }

unfoldable pub layout_result : Answer Layout → LayoutResult
layout_result (accepted l) = record { refusal = 0; summary = summary_record l.summary; starts = l.starts }
layout_result (refused n) = record { refusal = n; summary = no_summary; starts = replicate most_starts 0 }

unfoldable pub layout4_result : Answer WholeLayout → Layout4Result
layout4_result (accepted w) = record {
  refusal = 0;
  iomode = number_of_iomode w.frame.iomode;
  offset = w.frame.offset;
  length = w.frame.length;
  last = w.frame.last;
  body = part_record w.frame.body;
  summary = summary_record w.body.summary;
  starts = w.body.starts;
}
layout4_result (refused n) = record {
  refusal = n;
  iomode = 0;
  offset = 0;
  length = 0;
  last = 0;
  body = no_part;
  summary = no_summary;
  starts = replicate most_starts 0;
}
