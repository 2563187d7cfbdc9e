-- The model makes of each worked example what the scope paper says: computed on a short file, which no grant of an example reaches past, and so true of
-- one of 2^64 bytes.
use Prim.Native.Nat.{ℕ}
use mathlib.Core.Path.{◌≡◌, refl, sym, ◌∙◌}
use mathlib.Core.Bool.{Bool, true, ◌&&◌}
use mathlib.Core.List.{List, [], ◌∷◌}
use borrow.Author.Tests.{leb-true}
use lib.Dec.{leb}
use Rattle.base.specs.Answer.{given, pick}
use Rattle.base.specs.Iomodes.{grant_iomode_of, iomode_of}
use Rattle.base.specs.Lists.{Each}
use Rattle.base.specs.Ranges.{last_byte, range_last, request_last}
use Rattle.base.proofs.AnswerLaws.{both}
use Rattle.octets.specs.Numbers.{all_zero, be_bytes, be_from, be_value, same_bytes}
use Rattle.xdr.specs.Parsed.{as_item, many_at, then, whole}
use Rattle.xdr.specs.Items.{bytes_at, count_at, num_at, opaque_at, range_at}
use Rattle.server.specs.Servers.{handles_at, server_head_at, server_at}
use Rattle.layout.specs.Layouts.{front_at, layout_at, layout_body, mirrors_at, tail_at, unit_fits}
use Rattle.layout4.specs.Layout4s.{frame_at, layout4, layout4_at}
use Rattle.segments.specs.Segments.{READ, RW, any_below, in_front, scan, segments_of, with_byte}
use Rattle.model.specs.Model.{act, after_at, answer_to, answers, any_byte, rights_and_slots, covers, grant_command, if_named, in_lowest, in_slots, meets, model_after, none_empty, read_command, range_command, run, segments_in, slot_of, start, has_too_many, verdict}
use Rattle.model.specs.Cases.{Case, CaseHolds, body_of, cases, grant_bytes, servers}
use Rattle.model.proofs.ShortFiles.{all_stay, example_longer, stays, stays_in}

-- what a case says of a file of the bytes 0 to N
abbrev pub HoldsOn : ℕ → Case → Type 0
HoldsOn N c =
    (answers N (rights_and_slots N) c.events start ≡ c.numbers)
    × (segments_in N (run (rights_and_slots N) c.events start) READ ≡ c.read)
    × (segments_in N (run (rights_and_slots N) c.events start) RW ≡ c.rw)

-- whether no grant of a case goes past byte N
abbrev pub stays_below : ℕ → Case → Bool
stays_below N c = all_stay N c.events && leb N last_byte

pub in_full : (N : ℕ) (c : Case) → stays_below N c ≡ true → HoldsOn N c → CaseHolds c
in_full N c s h =
    let p = both (all_stay N c.events) (leb N last_byte) s in
    let r = example_longer N last_byte (leb-true N last_byte p.1) c.events p.0 in
    (sym r.0 ∙ h.0, sym (r.1 READ) ∙ h.1, sym (r.1 RW) ∙ h.2)

abbrev all_stay_below : ℕ → List Case → Bool
all_stay_below N [] = true
all_stay_below N (c ∷ cs) = stays_below N c && all_stay_below N cs

all_in_full : (N : ℕ) (cs : List Case) → all_stay_below N cs ≡ true → Each (HoldsOn N) cs → Each CaseHolds cs
all_in_full N [] s h = tt
all_in_full N (c ∷ cs) s h =
    let p = both (stays_below N c) (all_stay_below N cs) s in
    (in_full N c p.0 h.0, all_in_full N cs p.1 h.1)

cases_short : Each (HoldsOn 120) cases
unfolding answers run answer_to model_after verdict act has_too_many segments_in if_named meets any_byte in_lowest none_empty slot_of in_slots after_at covers range_command any_below in_front scan segments_of with_byte same_bytes iomode_of read_command grant_command given pick body_of servers grant_bytes be_bytes be_from be_value layout4 layout4_at frame_at range_at range_last request_last grant_iomode_of then as_item whole many_at all_zero bytes_at count_at num_at opaque_at server_head_at handles_at server_at front_at layout_at layout_body mirrors_at tail_at unit_fits
cases_short = ((refl, refl, refl), ((refl, refl, refl), ((refl, refl, refl), ((refl, refl, refl), ((refl, refl, refl), ((refl, refl, refl), ((refl, refl, refl), tt)))))))

cases_stay : all_stay_below 120 cases ≡ true
unfolding all_stay stays stays_in read_command grant_command range_command given pick body_of servers grant_bytes be_bytes be_from be_value layout4 layout4_at frame_at range_at range_last request_last grant_iomode_of iomode_of then as_item whole many_at all_zero bytes_at count_at num_at opaque_at server_head_at handles_at server_at front_at layout_at layout_body mirrors_at tail_at unit_fits
cases_stay = refl

pub cases_hold : Each CaseHolds cases
cases_hold = all_in_full 120 cases cases_stay cases_short
