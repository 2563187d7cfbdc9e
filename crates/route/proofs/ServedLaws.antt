-- What holds of a granted byte, of what serves a request, of the body in a slot that a granted segment names, and which grant serves.
use Prim.Native.Nat.{ℕ, zero, suc, ◌+◌, ◌-◌, ◌≤◌, ◌<◌}
use mathlib.Core.Path.{◌≡◌, refl, sym, ap, ◌∙◌}
use mathlib.Core.Bool.{Bool, true, false, false≢true, or-true}
use mathlib.Core.List.{List, [], ◌∷◌}
use native.Mathlib.Omega.{arith}
use borrow.Author.Tests.{eq-eqb, leb-true, lt-ltb, ltb-true, ne_eqb}
use lib.Dec.{leb, eqb}
use lib.ListN.{length, get_or}
use Rattle.base.specs.Answer.{Answer, accepted, refused, given, or_else, pick}
use Rattle.base.specs.Ranges.{largest_sum, request_last}
use Rattle.base.specs.declared.iomode.Iomode.{Iomode}
use Rattle.base.proofs.AnswerLaws.{accepted_value, both, given_inv, given_or_else, given_pick, given_refused, never_accepted, never_refused}
use Rattle.base.proofs.AnswerLaws.{pick_not_refused, same_answer, same_refusal}
use Rattle.layout.specs.Layouts.{Layout, unit_fits}
use Rattle.layout.proofs.LayoutLaws.{accepted_limits, flags_at_end_lem}
use Rattle.segments.specs.declared.Right.{Right}
use Rattle.segments.specs.declared.Right.TheVariants.{None, Granted, Recalled}
use Rattle.segments.specs.declared.Segment.{Segment}
use Rattle.segments.specs.declared.Table.{Table}
use Rattle.segments.specs.Segments.{Mode, READ, RW, any_names, blank, is_named, is_of_slot, list_in, right_at, within}
use Rattle.store.specs.Store.{body_in, slot_at}
use Rattle.base.specs.Answer.{is_accepted}
use Rattle.soundness.specs.Sound.{has_slot, is_in_order, sound}
use Rattle.soundness.proofs.SoundParts.{in_order, listed, named_in, named_sound, sounds}
use Rattle.route.specs.Answers.{grant_for_reads, serving_grant, slot_asked}
use Rattle.soundness.specs.Validations.{layout_if_sound, layout_named}
use Rattle.route.specs.Routes.{Grant, Serving, grant_at, grant_in, grant_of, grant_with_layout, iomode_for, layout_in, no_reads, read_through_rw, served}

-- ---- a granted byte

pub record Found (m : Iomode) (l : List Segment) (x : ℕ) (g : Grant) : Type 0 where
  pub iomode : g.iomode ≡ m
  pub index : ℕ
  pub in_list : index < length l
  pub first : (get_or l index blank).first ≤ x
  pub inside : x ≤ g.last
  pub last : (get_or l index blank).last ≡ g.last
  pub right : (get_or l index blank).right ≡ Granted (record { 0 = g.slot })
  pub shown : right_at l x ≡ Granted (record { 0 = g.slot })

granted_is : (m : Iomode) (r : Right) (n : ℕ) (g : Grant) → grant_of m r n ≡ accepted g
    → (r ≡ Granted (record { 0 = g.slot })) × (n ≡ g.last) × (g.iomode ≡ m)
granted_is m None n g e = never_accepted 17 g e
granted_is m (Granted s) n g e =
    let f = same_answer {a = record { iomode = m; slot = s.0; last = n }} e in
    (ap (λ (h : Grant). Granted (record { 0 = h.slot })) f, ap (λ (h : Grant). h.last) f, ap (λ (h : Grant). h.iomode) (sym f))
granted_is m (Recalled s) n g e = never_accepted 17 g e

pub grant_found : (m : Iomode) (l : List Segment) (x : ℕ) (g : Grant) → grant_in m l x ≡ accepted g → Found m l x g
unfolding grant_in right_at pick
grant_found m [] x g e = never_accepted 17 g e
grant_found m (s ∷ l) x g e = go (within s.first s.last x) refl e (grant_found m l x g)
  where
    go : (b : Bool) → within s.first s.last x ≡ b → pick b (grant_of m s.right s.last) (grant_in m l x) ≡ accepted g
        → (grant_in m l x ≡ accepted g → Found m l x g) → Found m (s ∷ l) x g
    go true h k rest =
        let u = both (leb s.first x) (leb x s.last) h in
        let r = granted_is m s.right s.last g k in
        let lo : s.first ≤ x = leb-true s.first x u.0 in
        let hi : x ≤ s.last = leb-true x s.last u.1 in
        let e : s.last ≡ g.last = r.1 in
        record {
          iomode = r.2;
          index = 0;
          in_list = omega arith;
          first = lo;
          inside = omega arith;
          last = e;
          right = r.0;
          shown = ap (λ (b : Bool). pick b s.right (right_at l x)) h ∙ r.0;
        }
    go false h k rest =
        let f = rest k in
        let d : f.index < length l = f.in_list in
        record {
          iomode = f.iomode;
          index = suc f.index;
          in_list = omega arith;
          first = f.first;
          inside = f.inside;
          last = f.last;
          right = f.right;
          shown = ap (λ (b : Bool). pick b s.right (right_at l x)) h ∙ f.shown;
        }

-- a byte without a grant is refused with 17
pub grant_refused : (m : Iomode) (l : List Segment) (x n : ℕ) → grant_in m l x ≡ refused n → n ≡ 17
unfolding grant_in pick
grant_refused m [] x n e = sym (same_refusal {A = Grant} 17 n e)
grant_refused m (s ∷ l) x n e = go (within s.first s.last x) e (grant_refused m l x n)
  where
    here : (r : Right) → grant_of m r s.last ≡ refused n → n ≡ 17
    here None k = sym (same_refusal {A = Grant} 17 n k)
    here (Granted i) k = never_refused (record { iomode = m; slot = i.0; last = s.last }) n k
    here (Recalled i) k = sym (same_refusal {A = Grant} 17 n k)

    go : (b : Bool) → pick b (grant_of m s.right s.last) (grant_in m l x) ≡ refused n → (grant_in m l x ≡ refused n → n ≡ 17) → n ≡ 17
    go true k rest = here s.right k
    go false k rest = rest k

-- ---- what serves

-- what serves is a grant of an iomode, with the layout body in its slot; for a write that iomode is RW
pub record Serves (write : Bool) (t : Table) (store : List ℕ) (x : ℕ) (v : Serving) : Type 0 where
  pub mode : Mode
  pub iomode : v.grant.iomode ≡ iomode_for mode
  pub grant : grant_at t mode x ≡ accepted v.grant
  pub layout : layout_in store v.grant.slot ≡ accepted v.layout
  pub in_rw : write ≡ true → mode ≡ RW

module _ (t : Table) (store : List ℕ) (x : ℕ) where
  by_iomode : (write : Bool) (m : Mode) (v : Serving) → (write ≡ true → m ≡ RW) → grant_with_layout t m store x ≡ accepted v → Serves write t store x v
  unfolding grant_with_layout
  by_iomode write m v w e =
      let r = given_inv _ _ v e in
      let q = given_inv _ _ v r.rest in
      let k : record { grant = r.value; layout = q.value } ≡ v = same_answer q.rest in
      record {
        mode = m;
        iomode = ap (λ (u : Serving). u.grant.iomode) (sym k) ∙ (grant_found (iomode_for m) (list_in t m) x r.value r.first).iomode;
        grant = r.first ∙ ap (λ (u : Serving). accepted u.grant) k;
        layout = ap (λ (u : Serving). layout_in store u.grant.slot) (sym k) ∙ (q.first ∙ ap (λ (u : Serving). accepted u.layout) k);
        in_rw = w;
      }

  -- what serves a read through RW is RW's grant
  through_rw : (v : Serving) → read_through_rw t store x ≡ accepted v → grant_with_layout t RW store x ≡ accepted v
  unfolding read_through_rw
  through_rw v e =
      let r = given_inv _ _ v e in
      r.first ∙ (pick_not_refused _ 17 (accepted r.value) v r.rest).1

  pub what_serves : (write : Bool) (v : Serving) → served write t store x ≡ accepted v → Serves write t store x v
  unfolding served
  what_serves true v e = by_iomode true RW v (λ w. refl) e
  what_serves false v e = go (read_through_rw t store x) refl e
    where
      go : (a : Answer Serving) → read_through_rw t store x ≡ a → or_else a (grant_with_layout t READ store x) ≡ accepted v → Serves false t store x v
      go (accepted u) f k = by_iomode false RW v (λ w. refl) (through_rw v (f ∙ k))
      go (refused n) f k = by_iomode false READ v (λ w. absurd (false≢true w)) k

  -- what serves a write serves a read too, where its layout has no flag 4
  pub write_serves_a_read : (v : Serving) → served true t store x ≡ accepted v → no_reads v.layout.summary.flags ≡ false → served false t store x ≡ accepted v
  unfolding served read_through_rw given pick
  write_serves_a_read v e h = rw (e, h)

  -- where no grant serves, nothing does
  pub no_grant_serves : (write : Bool) (n : ℕ) → serving_grant write t store x ≡ refused n → served write t store x ≡ refused n
  no_grant_serves write n e = given_refused (served write t store x) (λ v. v.grant) n e

-- ---- limits

pub request_some : (offset len last : ℕ) → request_last offset len ≡ accepted last → 1 ≤ len
unfolding request_last pick
request_some offset len last e = leb-true 1 len (go (leb 1 len) e)
  where
    go : (b : Bool) → pick b (pick (leb (offset + len) largest_sum) (accepted (offset + len - 1)) (refused 5)) (refused 5) ≡ accepted last → b ≡ true
    go true k = refl
    go false k = never_accepted 5 last k

pub request_refused : (offset len n : ℕ) → request_last offset len ≡ refused n → n ≡ 5
unfolding request_last pick
request_refused offset len n e = go (leb 1 len) (leb (offset + len) largest_sum) e
  where
    go : (b c : Bool) → pick b (pick c (accepted (offset + len - 1)) (refused 5)) (refused 5) ≡ refused n → n ≡ 5
    go true true k = never_refused (offset + len - 1) n k
    go true false k = sym (same_refusal {A = ℕ} 5 n k)
    go false c k = sym (same_refusal {A = ℕ} 5 n k)

pub unit_some : (unit servers : ℕ) → unit_fits unit servers ≡ true → 1 < servers → 0 < unit
unfolding unit_fits pick
unit_some unit servers e h =
    let n : eqb servers 1 ≡ false = ne_eqb servers 1 (λ k. omega arith) in
    leb-true 1 unit (sym (ap (λ (b : Bool). pick b (eqb unit 0) (leb 1 unit)) n) ∙ e)

pub served_limits : (write : Bool) (t : Table) (store : List ℕ) (offset len last : ℕ) (v : Serving) → request_last offset len ≡ accepted last
    → served write t store offset ≡ accepted v
    → (1 ≤ len) × (offset ≤ v.grant.last) × (1 ≤ v.layout.summary.mirrors) × (v.layout.summary.mirrors ≤ 8)
    × (1 < v.layout.summary.servers → 0 < v.layout.summary.unit)
unfolding layout_in
served_limits write t store offset len last v r s =
    let w = what_serves t store offset write v s in
    let f = grant_found (iomode_for w.mode) (list_in t w.mode) offset v.grant w.grant in
    let l = accepted_limits (body_in (slot_at store v.grant.slot)) v.layout w.layout in (
      request_some offset len last r,
      f.inside,
      l.mirrors_some,
      l.mirrors_few,
      unit_some v.layout.summary.unit v.layout.summary.servers l.unit_fits_lem,
    )

-- ---- the body in a slot that a granted segment names

slot_at_lem : (l : List Segment) (k : ℕ) → is_in_order l ≡ true → k < length l → has_slot (get_or l k blank).right ≡ true
slot_at_lem [] k o h = absurd (omega arith)
slot_at_lem (s ∷ l) zero o h = (in_order s l o).fit.under
slot_at_lem (s ∷ l) (suc k) o h = slot_at_lem l k (in_order s l o).rest (omega arith)

named_at : (l : List Segment) (k i : ℕ) → k < length l → (get_or l k blank).right ≡ Granted (record { 0 = i }) → any_names i l ≡ true
unfolding any_names
named_at [] k i h e = absurd (omega arith)
named_at (s ∷ l) zero i h e = rw (e, eq-eqb i i refl)
named_at (s ∷ l) (suc k) i h e = rw (named_at l k i (omega arith) e) (or-true (is_of_slot i s.right))

module _ (t : Table) (store : List ℕ) (s : sound t store ≡ true) where
  -- the slot under which a byte is granted is one of the eight, and named
  slot_named : (m : Mode) (x : ℕ) (g : Grant) → grant_at t m x ≡ accepted g → (g.slot < 8) × (is_named t g.slot ≡ true)
  slot_named m x g e =
      let f = grant_found (iomode_for m) (list_in t m) x g e in
      let w = sounds t store s in
      let h : has_slot (Granted (record { 0 = g.slot })) ≡ true = ap has_slot (sym f.right) ∙ slot_at_lem (list_in t m) f.index (listed t store w m).rising f.in_list in
      (ltb-true g.slot 8 h, named_in t store w m g.slot (named_at (list_in t m) f.index g.slot f.in_list f.right))

  -- the body under which a byte is granted is one that the layout body's reader accepts
  body_accepted : (m : Mode) (x : ℕ) (g : Grant) → grant_at t m x ≡ accepted g → is_accepted (layout_in store g.slot) ≡ true
  unfolding layout_in
  body_accepted m x g e =
      let n = slot_named m x g e in
      (named_sound t store (sounds t store s) g.slot n.0 n.1).read

  -- and what the validation reads in that slot
  body_if_sound : (m : Mode) (x : ℕ) (g : Grant) → grant_at t m x ≡ accepted g → layout_if_sound t store g.slot ≡ layout_in store g.slot
  unfolding layout_if_sound layout_named layout_in pick
  body_if_sound m x g e = let n = slot_named m x g e in rw (s, lt-ltb g.slot 8 n.0, n.1)

  -- the grant that serves: its layout is the one in its slot, which is what the validation reads where it is asked for that slot
  module _ (write : Bool) (x : ℕ) (g : Grant) (i : ℕ) (e : serving_grant write t store x ≡ accepted g) (f : i ≡ slot_asked (serving_grant write t store x)) where
    its_serving : (v : Serving) × (served write t store x ≡ accepted v) × (v.grant ≡ g)
    its_serving = let r = given_inv _ _ g e in (r.value, r.first, same_answer r.rest)

    layout_asked : (v : Serving) → served write t store x ≡ accepted v → v.grant ≡ g → layout_if_sound t store i ≡ accepted v.layout
    layout_asked v h k =
        let w = what_serves t store x write v h in
        ap (λ (j : ℕ). layout_if_sound t store j) (f ∙ ap slot_asked e ∙ ap (λ (h : Grant). h.slot) (sym k))
        ∙ (body_if_sound w.mode x v.grant w.grant ∙ w.layout)

    pub layout_read_serves : (l : Layout) → layout_if_sound t store i ≡ accepted l → served write t store x ≡ accepted (record { grant = g; layout = l })
    layout_read_serves l h =
        let r = its_serving in
        let k : r.0.layout ≡ l = same_answer (sym (layout_asked r.0 r.1 r.2) ∙ h) in
        r.1 ∙ (λ j. accepted (record { grant = r.2 j; layout = k j }))

    pub layout_not_refused : (n : ℕ) → layout_if_sound t store i ≡ refused n → ⊥
    layout_not_refused n h =
        let r = its_serving in
        never_accepted n r.0.layout (sym h ∙ layout_asked r.0 r.1 r.2)

  -- ---- the grants alone

  -- the layout body under which a byte is granted
  pub layout_of : (m : Mode) (x : ℕ) (g : Grant) → grant_at t m x ≡ accepted g → (l : Layout) × (layout_in store g.slot ≡ accepted l)
  layout_of m x g e = accepted_value (layout_in store g.slot) (body_accepted m x g e)

  -- a grant always has its layout
  grant_has_its_layout : (m : Mode) (x : ℕ) → given (grant_with_layout t m store x) (λ v. accepted v.grant) ≡ grant_at t m x
  unfolding grant_with_layout given
  grant_has_its_layout m x = go (grant_at t m x) refl
    where
      go : (a : Answer Grant) → grant_at t m x ≡ a → given (grant_with_layout t m store x) (λ v. accepted v.grant) ≡ a
      go (accepted g) e = rw (e, (layout_of m x g e).1)
      go (refused n) e = rw e

  -- the grant of RW that serves reads is the one without flag 4 at its body's end
  rw_grant_for_reads : (x : ℕ) → given (read_through_rw t store x) (λ v. accepted v.grant) ≡ grant_for_reads store (grant_at t RW x)
  unfolding read_through_rw grant_with_layout grant_for_reads layout_in given
  rw_grant_for_reads x = go (grant_at t RW x) refl
    where
      go : (a : Answer Grant) → grant_at t RW x ≡ a → given (read_through_rw t store x) (λ v. accepted v.grant) ≡ grant_for_reads store a
      go (accepted g) e =
          let l = layout_of RW x g e in
          let k = flags_at_end_lem (body_in (slot_at store g.slot)) l.0 l.1 in
          rw (e, l.1, k) (given_pick (no_reads l.0.summary.flags) 17 (record { grant = g; layout = l.0 }) (λ v. accepted v.grant))
      go (refused n) e = rw e

  -- a write is served by the grant of RW
  pub write_grant : (write : Bool) (x : ℕ) → write ≡ true → serving_grant write t store x ≡ grant_at t RW x
  unfolding served
  write_grant write x h = rw h (grant_has_its_layout RW x)

  -- and a read by the grant of RW, unless flag 4 is at the end of its body, else by that of READ
  pub read_grant : (write : Bool) (x : ℕ) → write ≡ false → serving_grant write t store x ≡ or_else (grant_for_reads store (grant_at t RW x)) (grant_at t READ x)
  unfolding served
  read_grant write x h =
      rw (h, ← rw_grant_for_reads x, ← grant_has_its_layout READ x) (given_or_else (read_through_rw t store x) (grant_with_layout t READ store x) (λ v. v.grant))

  -- ---- refusals

  with_layout_refused : (m : Mode) (x n : ℕ) → grant_with_layout t m store x ≡ refused n → n ≡ 17
  unfolding given
  with_layout_refused m x n h =
      grant_refused (iomode_for m) (list_in t m) x n (sym (grant_has_its_layout m x) ∙ ap (λ (a : Answer Serving). given a (λ v. accepted v.grant)) h)

  -- a request that is not served is refused with 17
  pub served_refused : (write : Bool) (x n : ℕ) → served write t store x ≡ refused n → n ≡ 17
  unfolding served
  served_refused true x n h = with_layout_refused RW x n h
  served_refused false x n h = go (read_through_rw t store x) h
    where
      go : (a : Answer Serving) → or_else a (grant_with_layout t READ store x) ≡ refused n → n ≡ 17
      go (accepted v) k = never_refused v n k
      go (refused j) k = with_layout_refused READ x n k
