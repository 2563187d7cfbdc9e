-- "layout4: offset (8), length (8), iomode (4), layout type (4, must be 4), body length (4), body."
use Rattle.std.specs.Prelude.{ℕ, ◌+◌, List, length, leb, eqb}
use Rattle.base.specs.Limits.{longest_body}
use Rattle.base.specs.Answer.{Answer, pick}
use Rattle.base.specs.Iomodes.{grant_iomode_of}
use Rattle.octets.specs.Numbers.{bytes_from}
use Rattle.xdr.specs.Parsed.{Parsed, ok, fault, then, as_item, whole}
use Rattle.xdr.specs.Items.{bytes_at, count_at, num_at, padding, range_at}
use Rattle.layout.specs.Layouts.{Layout, layout_body}
use Rattle.layout4.specs.declared.frame.Frame.{Frame}
use Rattle.layout4.specs.declared.whole.Layout4.{Layout4}

-- "Length is checked before iomode": the range is judged when both its numbers are read. "A body length above 4,090
-- is refused as 8"
unfoldable pub frame_at : List ℕ → ℕ → Parsed Frame
frame_at s at =
    then (range_at s at) λ range p1.
    then (num_at 4 s p1) λ number p2.
    then (as_item (grant_iomode_of number) p2) λ iomode p3.
    then (num_at 4 s p3) λ kind p4.
    pick (eqb kind 4)
    (then (count_at 0 longest_body s p4) λ size p5.
    ok (record { range = range; iomode = iomode; size = size }) p5)
    (fault 4)

-- frame: a layout4, in which `body` is where the body's bytes are; body: the summary of what these bytes say
pub record WholeLayout : Type 0 where
  pub frame : Layout4
  pub body : Layout

-- "one that with its padding is longer than the bytes left as 1. The body must fill its length exactly": the body is
-- the item's value, so it is judged between its bytes and its padding
unfoldable pub layout4_at : List ℕ → Parsed WholeLayout
layout4_at s =
    then (frame_at s 0) λ frame p1.
    pick (leb (p1 + frame.size + padding frame.size) (length s))
    (then (as_item (layout_body (bytes_from frame.size s p1)) p1) λ body p2.
    then (bytes_at frame.size s p2) λ part p3.
    ok (record {
      frame = record {
        offset = frame.range.offset;
        length = frame.range.length;
        last = frame.range.last;
        iomode = frame.iomode;
        body = part;
      };
      body = body;
    }) p3)
    (fault 1)

-- "and nothing follows"
unfoldable pub layout4 : List ℕ → Answer WholeLayout
layout4 s = whole s (layout4_at s)
