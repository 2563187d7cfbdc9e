-- What holds of an event whose own bytes and numbers are accepted: the granted body, and the range.
use Prim.Native.Nat.{ℕ, ◌+◌, ◌-◌, ◌^◌, ◌≤◌, ◌<◌}
use mathlib.Core.Path.{◌≡◌, refl, sym, ap, ◌∙◌}
use mathlib.Core.Bool.{Bool, true, false}
use mathlib.Core.List.{List}
use native.Mathlib.Omega.{arith}
use borrow.Author.Tests.{leb-true}
use lib.Dec.{eqb, leb}
use lib.ListN.{length, drop}
use Rattle.base.specs.Answer.{Answer, accepted, refused, given, pick}
use Rattle.base.specs.Iomodes.{iomode_of}
use Rattle.base.specs.Ranges.{last_byte, largest_sum, range_last, request_last, to_the_end}
use Rattle.base.specs.declared.iomode.Iomode.{Iomode}
use Rattle.base.proofs.AnswerLaws.{given_inv, never_accepted, same_answer}
use Rattle.octets.specs.Numbers.{be_value, bytes_from}
use Rattle.octets.proofs.NumberLaws.{be_small, dropped_bytes, length_bytes, taken_bytes}
use Rattle.xdr.specs.Parsed.{ok}
use Rattle.xdr.proofs.Accepted.{bytes_read, count_read, item_accepted, number_read, pick_inv, range_read, then_inv, same_value, whole_read}
use Rattle.layout.specs.Layouts.{layout_body}
use Rattle.layout4.specs.Layout4s.{WholeLayout, frame_at, layout4, layout4_at}
use Rattle.xdr.specs.declared.range.Range.{Range}
use Rattle.layout4.specs.declared.frame.Frame.{Frame}
use Rattle.model.specs.Model.{Action, returns, recalls, Event, Grant, Return, Recall, Revoke, Command, grant_command, read_command, range_command}
use Rattle.base.specs.Answer.{is_accepted}
use Rattle.model.specs.Claim.{Fits}
use Rattle.model.proofs.Inv.{GoodCommand}

-- ---- ranges

pub range_ends : (offset len last : ℕ) → offset < 2 ^ 64 → range_last offset len ≡ accepted last → (offset ≤ last) × (last ≤ last_byte)
unfolding range_last request_last pick
range_ends offset len last h e = go (eqb len to_the_end) (leb 1 len) (leb (offset + len) largest_sum) refl refl e
  where
    go : (t u w : Bool) → leb 1 len ≡ u → leb (offset + len) largest_sum ≡ w
        → pick t (accepted last_byte) (pick u (pick w (accepted (offset + len - 1)) (refused 5)) (refused 5)) ≡ accepted last
        → (offset ≤ last) × (last ≤ last_byte)
    go true u w j k f = let p : last_byte ≡ last = same_answer f in omega arith
    go false true true j k f =
        let p : offset + len - 1 ≡ last = same_answer f in
        let a : 1 ≤ len = leb-true 1 len j in
        let b : offset + len ≤ largest_sum = leb-true (offset + len) largest_sum k in
        omega arith
    go false true false j k f = never_accepted 5 last f
    go false false w j k f = never_accepted 5 last f

-- ---- an accepted layout4

pub record Read4 (s : List ℕ) (w : WholeLayout) : Type 0 where
  pub body : layout_body (bytes_from w.frame.body.len s w.frame.body.start) ≡ accepted w.body
  pub size : w.frame.body.len ≤ 4090
  pub within : w.frame.body.start + w.frame.body.len ≤ length s
  pub offset : w.frame.offset ≡ be_value (bytes_from 8 s 0)
  pub eight : 8 ≤ length s
  pub range : range_last w.frame.offset w.frame.length ≡ accepted w.frame.last

frame_read : (s : List ℕ) (at : ℕ) (f : Frame) (p : ℕ) → frame_at s at ≡ ok f p
    → (f.range.offset ≡ be_value (bytes_from 8 s at)) × (at + 8 ≤ length s) × (range_last f.range.offset f.range.length ≡ accepted f.range.last) × (f.size ≤ 4090)
unfolding frame_at
frame_read s at f p h =
    let a = then_inv _ _ f p h in
    let r = range_read s at a.item a.next a.first in
    let o = number_read 8 s at a.item.offset (at + 8) r.offset in
    let b = then_inv _ _ f p a.rest in
    let c = then_inv _ _ f p b.rest in
    let d = then_inv _ _ f p c.rest in
    let t = pick_inv _ _ 4 f p d.rest in
    let k = then_inv _ _ f p t.chosen in
    let n = count_read 0 4090 s d.next k.item k.next k.first in
    let e : record { range = a.item; iomode = c.item; size = k.item } ≡ f = same_value k.rest in
    let er : a.item ≡ f.range = ap (λ (x : Frame). x.range) e in
    let es : k.item ≡ f.size = ap (λ (x : Frame). x.size) e in (
      ap (λ (x : Range). x.offset) (sym er) ∙ o.value,
      o.within,
      rw (← er) r.last,
      omega (arith, n.high),
    )

pub layout4_read : (s : List ℕ) (w : WholeLayout) → layout4 s ≡ accepted w → Read4 s w
unfolding layout4 layout4_at
layout4_read s w h =
    let q = whole_read s (layout4_at s) w h in
    let a = then_inv _ _ w (length s) q in
    let f = frame_read s 0 a.item a.next a.first in
    let t = pick_inv _ _ 1 w (length s) a.rest in
    let b = then_inv _ _ w (length s) t.chosen in
    let l = item_accepted (layout_body (bytes_from a.item.size s a.next)) a.next b.item b.next b.first in
    let c = then_inv _ _ w (length s) b.rest in
    let k = bytes_read a.item.size s b.next c.item c.next c.first in
    let e = same_value c.rest in
    rw (← e, k.value, ← l.1)
    (record {
      body = l.0;
      size = f.3;
      within = omega (arith, k.end, k.within);
      offset = f.0;
      eight = f.1;
      range = f.2;
    })

-- ---- the granted body, and the range of every event

pub read_small : (e : Event) → Fits e → GoodCommand (read_command e)
unfolding read_command given grant_command range_command
read_small (Grant bytes) h = go (layout4 bytes) refl
  where
    go : (a : Answer WholeLayout) → layout4 bytes ≡ a → GoodCommand (given a λ w. accepted (grant_command bytes w))
    go (refused n) e = tt
    go (accepted w) e =
        let r = layout4_read bytes w e in
        let n = w.frame.body.len in
        let at = w.frame.body.start in
        record {
          read = ap is_accepted r.body;
          small = let l : length (bytes_from n bytes at) ≡ n = length_bytes n bytes at r.within in omega (arith, r.size);
          bytes = taken_bytes n (drop at bytes) (dropped_bytes at bytes h);
        }
read_small (Return offset len number) h = go (range_last offset len) (iomode_of number)
  where
    go : (a : Answer ℕ) (b : Answer Iomode)
        → GoodCommand (given a λ last. given b λ iomode. accepted (record { action = returns; iomode = iomode; first = offset; last = last; len = len }))
    go (accepted last) (accepted m) = tt
    go (accepted last) (refused n) = tt
    go (refused n) b = tt
read_small (Recall offset len number) h = go (range_last offset len) (iomode_of number)
  where
    go : (a : Answer ℕ) (b : Answer Iomode)
        → GoodCommand (given a λ last. given b λ iomode. accepted (record { action = recalls; iomode = iomode; first = offset; last = last; len = len }))
    go (accepted last) (accepted m) = tt
    go (accepted last) (refused n) = tt
    go (refused n) b = tt
read_small Revoke h = tt

range_in_file : (d : Action) (offset len number : ℕ) (o : Command) → offset < 2 ^ 64 → range_command d offset len number ≡ accepted o
    → (o.first ≤ o.last) × (o.last ≤ last_byte)
unfolding range_command
range_in_file d offset len number o h e =
    let a = given_inv (range_last offset len) _ o e in
    let b = given_inv (iomode_of number) _ o a.rest in
    let r = range_ends offset len a.value h a.first in
    let f : record { action = d; iomode = b.value; first = offset; last = a.value; len = len } ≡ o = same_answer b.rest in
    let ef : offset ≡ o.first = ap (λ (x : Command). x.first) f in
    let el : a.value ≡ o.last = ap (λ (x : Command). x.last) f in
    (omega (arith, r.0), omega (arith, r.1))

pub read_range : (e : Event) (o : Command) → Fits e → read_command e ≡ accepted o → (o.first ≤ o.last) × (o.last ≤ last_byte)
unfolding read_command grant_command
read_range (Grant bytes) o h e =
    let a = given_inv (layout4 bytes) _ o e in
    let r = layout4_read bytes a.value a.first in
    let n : length (bytes_from 8 bytes 0) ≡ 8 = length_bytes 8 bytes 0 r.eight in
    let s : be_value (bytes_from 8 bytes 0) < 256 ^ length (bytes_from 8 bytes 0) = be_small (bytes_from 8 bytes 0) (taken_bytes 8 bytes h) in
    let s8 : be_value (bytes_from 8 bytes 0) < 256 ^ 8 = rw n at s in
    let k : a.value.frame.offset < 2 ^ 64 = omega (arith, r.offset) in
    let q = range_ends a.value.frame.offset a.value.frame.length a.value.frame.last k r.range in
    let f : grant_command bytes a.value ≡ o = same_answer a.rest in
    let ef : a.value.frame.offset ≡ o.first = ap (λ (x : Command). x.first) f in
    let el : a.value.frame.last ≡ o.last = ap (λ (x : Command). x.last) f in
    (omega (arith, q.0), omega (arith, q.1))
read_range (Return offset len number) o h e = range_in_file returns offset len number o h e
read_range (Recall offset len number) o h e = range_in_file recalls offset len number o h e
read_range Revoke o h e =
    let el : last_byte ≡ o.last = ap (λ (x : Command). x.last) (same_answer e) in
    let ef : 0 ≡ o.first = ap (λ (x : Command). x.first) (same_answer e) in
    (omega arith, omega arith)
