-- The starred examples hold, by computation: those with events on a file of the bytes 0 to 120, past which none of them grants, and so on one of 2^64.
use Prim.Native.Nat.{ℕ}
use mathlib.Core.Path.{◌≡◌, refl}
use mathlib.Core.Bool.{Bool, true, ◌&&◌}
use mathlib.Core.List.{List, [], ◌∷◌}
use Rattle.base.specs.Answer.{given, pick}
use Rattle.base.specs.Best.{best}
use Rattle.base.specs.Iomodes.{grant_iomode_of, iomode_of}
use Rattle.base.specs.Lists.{Each, padded}
use Rattle.base.specs.Ranges.{range_last, request_last}
use Rattle.base.proofs.AnswerLaws.{both}
use Rattle.layout.specs.Layouts.{front_at, layout_at, layout_body, mirror_at, mirrors_at, rows, start_at, starts_of, tail_at, unit_fits}
use Rattle.layout4.specs.Layout4s.{frame_at, layout4, layout4_at}
use Rattle.octets.specs.Numbers.{all_zero, be_at, be_bytes, be_from, be_value, le_at, le_bytes, le_value, same_bytes}
use Rattle.model.specs.Cases.{body_of, grant_bytes, servers}
use Rattle.model.specs.Model.{act, after_at, answer_to, answers, any_byte, covers, grant_command, if_named, in_lowest, in_slots, meets, model_after, none_empty, read_command, range_command, run, segments_in, slot_of, has_too_many, verdict}
use Rattle.model.proofs.Examples.{HoldsOn, in_full, stays_below}
use Rattle.model.proofs.ShortFiles.{all_stay, stays, stays_in}
use Rattle.model.specs.SlotsShown.{all_distinct, slots_from, slots_in}
use Rattle.soundness.specs.Sound.{all_blank, apart, apart_from_next, is_in_order, is_fit, segments_sound, slot_sound, slots_sound, sound}
use Rattle.report.specs.Reports.{error_fits}
use Rattle.report.specs.Writing.{all_fit, body_bytes, counts, error_bytes, errors_bytes, fitted, head_bytes, checked_reports, checked_report, reports_bytes, reports_written, return_written}
use Rattle.statistics.specs.StatisticBytes.{statistics_bytes, statistics_part}
use Rattle.statistics.specs.StatisticChecks.{checked_statistics}
use Rattle.route.specs.Mirrors.{best_mirror, efficiency_of}
use Rattle.route.specs.Routes.{grant_in, grant_with_layout, layout_in, mirrors_named, piece_at, routed, served}
use Rattle.route.specs.Stripes.{piece_length, stripe_of, unit_rest}
use Rattle.segments.specs.Segments.{any_below, any_names, in_front, in_entries, is_named, scan, segments_of, with_byte}
use Rattle.server.specs.Servers.{handles_at, server_head_at, server_at}
use Rattle.store.specs.Store.{body_in, kind_in, length_in, slot_bytes, store_of}
use Rattle.xdr.specs.Items.{bytes_at, count_at, num_at, opaque_at, range_at}
use Rattle.xdr.specs.Parsed.{as_item, many_at, then, whole}
use Rattle.examples.specs.Examples.{Example, Events, NoReport, Range, Write, ExampleHolds, examples}

-- the last byte of a file on which the events are computed
abbrev short : ℕ
short = 120

-- what an example says of such a file
abbrev HoldsShort : Example → Type 0
HoldsShort (Events c) = HoldsOn short c
HoldsShort (Write b rw offset len answer) = ExampleHolds (Write b rw offset len answer)
HoldsShort (Range offset len last) = ExampleHolds (Range offset len last)
HoldsShort (NoReport bytes) = ExampleHolds (NoReport bytes)

-- whether no grant of an example goes past its last byte
abbrev stay_short : List Example → Bool
stay_short [] = true
stay_short (Events c ∷ xs) = stays_below short c && stay_short xs
stay_short (Write b rw offset len answer ∷ xs) = stay_short xs
stay_short (Range offset len last ∷ xs) = stay_short xs
stay_short (NoReport bytes ∷ xs) = stay_short xs

all_in_full : (xs : List Example) → stay_short xs ≡ true → Each HoldsShort xs → Each ExampleHolds xs
all_in_full [] s h = tt
all_in_full (Events c ∷ xs) s h =
    let p = both (stays_below short c) (stay_short xs) s in
    (in_full short c p.0 h.0, all_in_full xs p.1 h.1)
all_in_full (Write b rw offset len answer ∷ xs) s h = (h.0, all_in_full xs s h.1)
all_in_full (Range offset len last ∷ xs) s h = (h.0, all_in_full xs s h.1)
all_in_full (NoReport bytes ∷ xs) s h = (h.0, all_in_full xs s h.1)

examples_short : Each HoldsShort examples
unfolding given pick grant_iomode_of iomode_of padded range_last request_last front_at layout_at layout_body mirror_at mirrors_at rows start_at starts_of tail_at unit_fits frame_at layout4 layout4_at range_at be_at be_bytes be_from be_value le_at le_bytes le_value same_bytes body_of grant_bytes servers act after_at answer_to answers any_byte covers grant_command if_named in_lowest in_slots meets model_after none_empty read_command range_command run segments_in slot_of has_too_many verdict all_blank apart apart_from_next is_in_order is_fit all_distinct segments_sound slot_sound slots_from slots_in slots_sound sound error_fits all_fit body_bytes counts error_bytes errors_bytes fitted head_bytes checked_reports checked_report reports_bytes reports_written return_written checked_statistics statistics_bytes statistics_part best best_mirror efficiency_of grant_in grant_with_layout layout_in mirrors_named piece_at routed served piece_length stripe_of unit_rest any_below any_names in_front in_entries is_named scan segments_of with_byte handles_at server_head_at server_at body_in kind_in length_in slot_bytes store_of all_zero bytes_at count_at num_at opaque_at as_item many_at then whole
examples_short = (refl, (refl, (refl, (refl, (refl, (refl, ((refl, refl, refl), ((refl, refl, refl), ((refl, refl, refl), ((refl, refl, refl), (refl, (refl, ((refl, refl, refl), (refl, tt))))))))))))))

examples_stay : stay_short examples ≡ true
unfolding all_stay stays stays_in read_command grant_command range_command given pick body_of servers grant_bytes be_bytes be_from be_value layout4 layout4_at frame_at range_at range_last request_last grant_iomode_of iomode_of then as_item whole many_at all_zero bytes_at count_at num_at opaque_at server_head_at handles_at server_at front_at layout_at layout_body mirrors_at tail_at unit_fits
examples_stay = refl

pub examples_hold : Each ExampleHolds examples
examples_hold = all_in_full examples examples_stay examples_short
