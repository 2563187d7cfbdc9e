-- What holds of an I/O request's answer: the piece lies in the request, in its segment and in its stripe unit, and its stripe is that of each of
-- its bytes; a write has a grant; a refusal is 20, 5 or 17.
use Prim.Native.Nat.{ℕ, ◌+◌, ◌-◌, ◌/◌, ◌%◌, ◌^◌, ◌≤◌, ◌<◌}
use mathlib.Core.Path.{◌≡◌, refl, sym, ap, ◌∙◌}
use mathlib.Core.Logic.{◌⊎◌, inl, inr}
use mathlib.Core.Bool.{Bool, true, false}
use mathlib.Core.List.{List}
use native.Mathlib.Decide.{dec_lt}
use native.Mathlib.Nat.{mod-lt}
use native.Mathlib.Omega.{arith}
use lib.ListN.{length, get_or}
use Rattle.base.specs.Answer.{Answer, accepted, refused, given, pick}
use Rattle.base.specs.Ranges.{request_last}
use Rattle.base.proofs.AnswerLaws.{given_inv, never_accepted, never_refused, same_answer, same_refusal}
use Rattle.layout.specs.Layouts.{Layout}
use Rattle.layout.proofs.LayoutLaws.{accepted_limits}
use Rattle.segments.specs.declared.Right.TheVariants.{Granted}
use Rattle.segments.specs.declared.Table.{Table}
use Rattle.segments.specs.Segments.{Mode, RW, blank, list_in, right_at}
use Rattle.store.specs.Store.{body_in, slot_at}
use Rattle.soundness.specs.Sound.{sound}
use Rattle.route.specs.Routes.{FillsUnit, Serving, iomode_for, layout_in, mirrors_named, piece_at, routed, served, stripe_in}
use Rattle.route.specs.Stripes.{piece_length, unit_rest}
use Rattle.route.specs.declared.piece.Piece.{Piece}
use Rattle.route.proofs.MirrorLaws.{some_named}
use Rattle.route.proofs.ServedLaws.{grant_found, request_refused, served_limits, served_refused, what_serves}
use Rattle.route.proofs.StripeLaws.{one_stripe, piece_ends, piece_in_len, piece_in_rest, piece_in_unit_rest, piece_some, same_unit, stripe_by_unit}

-- a piece ends with its request, with its segment, whose last byte is end, or with its unit
ends_of : (store : List ℕ) (offset len : ℕ) (p : Piece) (v : Serving) (end : ℕ) → layout_in store p.slot.0 ≡ accepted v.layout
    → piece_length v.layout.summary.unit v.layout.summary.servers v.grant.last offset len ≡ p.length
    → offset ≤ v.grant.last → end ≡ v.grant.last → (1 < v.layout.summary.servers → 0 < v.layout.summary.unit)
    → (p.length ≡ len) ⊎ ((end ≡ offset + p.length - 1) ⊎ FillsUnit store offset p)
unfolding unit_rest
ends_of store offset len p v end h n c d u =
    go (piece_ends v.layout.summary.unit v.layout.summary.servers v.grant.last offset len)
  where
    L : ℕ
    L = piece_length v.layout.summary.unit v.layout.summary.servers v.grant.last offset len

    go : (L ≡ len) ⊎ ((L ≡ v.grant.last - offset + 1) ⊎ ((1 < v.layout.summary.servers) × (L ≡ unit_rest v.layout.summary.unit offset)))
        → (p.length ≡ len) ⊎ ((end ≡ offset + p.length - 1) ⊎ FillsUnit store offset p)
    go (inl e) = inl (sym n ∙ e)
    go (inr (inl e)) = let k : p.length ≡ v.grant.last - offset + 1 = sym n ∙ e in inr (inl (omega arith))
    go (inr (inr e)) =
        let k : p.length ≡ v.layout.summary.unit - offset % v.layout.summary.unit = sym n ∙ e.1 in
        inr (inr (record { layout = v.layout; read = h; several = e.0; filled = omega (arith, k, mod-lt offset (u e.0)) }))

-- ---- a request's answer by parts

pub record Routed (write : Bool) (t : Table) (store : List ℕ) (offset len : ℕ) (p : Piece) : Type 0 where
  pub sound : sound t store ≡ true
  pub last : ℕ
  pub range : request_last offset len ≡ accepted last
  pub serving : Serving
  pub serves : served write t store offset ≡ accepted serving
  pub piece : piece_at write store offset len serving ≡ p

module _ (write : Bool) (t : Table) (store : List ℕ) (offset len : ℕ) where
  module _ (p : Piece) (e : routed write t store offset len ≡ accepted p) where
    pub by_parts : Routed write t store offset len p
    unfolding routed pick
    by_parts = go (sound t store) refl e
      where
        go : (b : Bool) → sound t store ≡ b
            → pick b (given (request_last offset len) λ last. given (served write t store offset) λ v. accepted (piece_at write store offset len v)) (refused 20) ≡ accepted p
            → Routed write t store offset len p
        go true h k =
            let r = given_inv _ _ p k in
            let s = given_inv _ _ p r.rest in
            record {
              sound = h;
              last = r.value;
              range = r.first;
              serving = s.value;
              serves = s.first;
              piece = same_answer s.rest;
            }
        go false h k = never_accepted 20 p k

    -- the piece begins where the request does, and is no longer
    pub piece_in_request : (1 ≤ p.length) × (p.length ≤ len) × (p.offset ≡ offset)
    unfolding piece_at
    piece_in_request =
        let r = by_parts in
        let v = r.serving in
        let m = served_limits write t store offset len r.last v r.range r.serves in
        let n : piece_length v.layout.summary.unit v.layout.summary.servers v.grant.last offset len ≡ p.length = ap (λ (q : Piece). q.length) r.piece in
        let a = piece_some v.layout.summary.unit v.layout.summary.servers v.grant.last offset len m.0 m.4 in
        let b = piece_in_len v.layout.summary.unit v.layout.summary.servers v.grant.last offset len in
        (omega arith, omega arith, ap (λ (q : Piece). q.offset) (sym r.piece))

    -- a segment of the piece's iomode that is granted under the piece's slot and holds all of the piece
    pub record Held : Type 0 where
      pub mode : Mode
      pub iomode : p.iomode ≡ iomode_for mode
      pub index : ℕ
      pub in_list : index < length (list_in t mode)
      pub first : (get_or (list_in t mode) index blank).first ≤ offset
      pub last : offset + p.length - 1 ≤ (get_or (list_in t mode) index blank).last
      pub right : (get_or (list_in t mode) index blank).right ≡ Granted p.slot
      pub ends : (p.length ≡ len) ⊎ (((get_or (list_in t mode) index blank).last ≡ offset + p.length - 1) ⊎ FillsUnit store offset p)
      pub shown : right_at (list_in t mode) offset ≡ Granted p.slot
      pub in_rw : write ≡ true → mode ≡ RW

    pub piece_in_segment : Held
    unfolding piece_at
    piece_in_segment =
        let r = by_parts in
        let v = r.serving in
        let w = what_serves t store offset write v r.serves in
        let f = grant_found (iomode_for w.mode) (list_in t w.mode) offset v.grant w.grant in
        let m = served_limits write t store offset len r.last v r.range r.serves in
        let n : piece_length v.layout.summary.unit v.layout.summary.servers v.grant.last offset len ≡ p.length = ap (λ (q : Piece). q.length) r.piece in
        let b = piece_in_rest v.layout.summary.unit v.layout.summary.servers v.grant.last offset len in
        let c : offset ≤ v.grant.last = f.inside in
        let d : (get_or (list_in t w.mode) f.index blank).last ≡ v.grant.last = f.last in
        let s : Granted (record { 0 = v.grant.slot }) ≡ Granted p.slot = ap (λ (q : Piece). Granted q.slot) r.piece in
        record {
          mode = w.mode;
          iomode = ap (λ (q : Piece). q.iomode) (sym r.piece) ∙ w.iomode;
          index = f.index;
          in_list = f.in_list;
          first = f.first;
          last = omega arith;
          right = f.right ∙ s;
          ends = ends_of store offset len p v _ (ap (λ (q : Piece). layout_in store q.slot.0) (sym r.piece) ∙ w.layout) n c d m.4;
          shown = f.shown ∙ s;
          in_rw = w.in_rw;
        }

    -- ---- by the layout in the piece's slot
    module _ (l : Layout) (h : layout_in store p.slot.0 ≡ accepted l) where
      -- that layout serves
      pub its_layout : by_parts.serving.layout ≡ l
      unfolding piece_at
      its_layout =
          let r = by_parts in
          let v = r.serving in
          let w = what_serves t store offset write v r.serves in
          let i : v.grant.slot ≡ p.slot.0 = ap (λ (q : Piece). q.slot.0) r.piece in
          same_answer (sym w.layout ∙ (ap (λ (j : ℕ). layout_in store j) i ∙ h))

      some_servers : 1 ≤ l.summary.servers
      unfolding layout_in
      some_servers = (accepted_limits (body_in (slot_at store p.slot.0)) l h).servers_some

      -- with more than one server, each byte of the piece is in the unit of the first
      bytes_in_unit : 1 < l.summary.servers → (x : ℕ) → offset ≤ x → x < offset + p.length → x / l.summary.unit ≡ offset / l.summary.unit
      unfolding piece_at
      bytes_in_unit k x lo hi =
          let r = by_parts in
          let v = r.serving in
          let m = served_limits write t store offset len r.last v r.range r.serves in
          let g : v.layout ≡ l = its_layout in
          let c : 1 < v.layout.summary.servers = rw g k in
          let n : piece_length v.layout.summary.unit v.layout.summary.servers v.grant.last offset len ≡ p.length = ap (λ (q : Piece). q.length) r.piece in
          let b = piece_in_unit_rest v.layout.summary.unit v.layout.summary.servers v.grant.last offset len c in
          let u = same_unit v.layout.summary.unit offset (x - offset) (m.4 c) (omega arith) in
          let z : x ≡ offset + (x - offset) = omega arith in
          rw (← g) (ap (λ (y : ℕ). y / v.layout.summary.unit) z ∙ u)

      -- so are its first and its last
      pub piece_in_unit : 1 < l.summary.servers → offset / l.summary.unit ≡ (offset + p.length - 1) / l.summary.unit
      piece_in_unit k = let a = piece_in_request in sym (bytes_in_unit k (offset + p.length - 1) (omega arith) (omega arith))

      its_stripe : p.stripe.0 ≡ stripe_in l offset
      unfolding piece_at
      its_stripe = ap (λ (q : Piece). q.stripe.0) (sym by_parts.piece) ∙ ap (λ (y : Layout). stripe_in y offset) its_layout

      -- "Stripe number = (offset div unit) mod servers; with one server it is 0."
      pub stripe_of_one : l.summary.servers ≡ 1 → p.stripe.0 ≡ 0
      stripe_of_one k = its_stripe ∙ sym (one_stripe l.summary.unit l.summary.servers offset (omega arith))

      pub stripe_of_each : 1 < l.summary.servers → (x : ℕ) → offset ≤ x → x < offset + p.length → p.stripe.0 ≡ x / l.summary.unit % l.summary.servers
      stripe_of_each k x lo hi =
          its_stripe ∙ sym (stripe_by_unit l.summary.unit l.summary.servers offset (x / l.summary.unit) k (bytes_in_unit k x lo hi))

      -- either way it is the stripe of each of the piece's bytes
      pub stripe_of_byte : (x : ℕ) → offset ≤ x → x < offset + p.length → p.stripe.0 ≡ stripe_in l x
      stripe_of_byte x lo hi = go (dec_lt 1 l.summary.servers)
        where
          go : Dec (1 < l.summary.servers) → p.stripe.0 ≡ stripe_in l x
          go (yes k) =
              stripe_of_each k x lo hi ∙ stripe_by_unit l.summary.unit l.summary.servers x (x / l.summary.unit) k refl
          go (no k) =
              let s = some_servers in
              stripe_of_one (omega arith) ∙ one_stripe l.summary.unit l.summary.servers x (omega arith)

      -- the stripe and the mirrors are the layout's
      pub stripe_below : p.stripe.0 < l.summary.servers
      stripe_below = go (dec_lt 1 l.summary.servers)
        where
          go : Dec (1 < l.summary.servers) → p.stripe.0 < l.summary.servers
          go (yes k) =
              let e = its_stripe ∙ sym (stripe_by_unit l.summary.unit l.summary.servers offset (offset / l.summary.unit) k refl) in
              rw e (mod-lt (offset / l.summary.unit) (omega arith))
          go (no k) = let s = some_servers in let e = stripe_of_one (omega arith) in omega arith

      pub its_mirrors : p.mirrors ≡ mirrors_named write (body_in (slot_at store p.slot.0)) l (stripe_in l offset)
      unfolding piece_at
      its_mirrors =
          let v = by_parts.serving in
          let i : v.grant.slot ≡ p.slot.0 = ap (λ (q : Piece). q.slot.0) by_parts.piece in
          ap (λ (q : Piece). q.mirrors) (sym by_parts.piece)
          ∙ (ap (λ (j : ℕ). mirrors_named write (body_in (slot_at store j)) v.layout (stripe_in v.layout offset)) i
          ∙ ap (λ (y : Layout). mirrors_named write (body_in (slot_at store p.slot.0)) y (stripe_in y offset)) its_layout)

      -- they go by the piece's stripe
      pub mirrors_by_stripe : p.mirrors ≡ mirrors_named write (body_in (slot_at store p.slot.0)) l p.stripe.0
      mirrors_by_stripe = its_mirrors ∙ ap (λ (k : ℕ). mirrors_named write (body_in (slot_at store p.slot.0)) l k) (sym its_stripe)

      pub mirrors_below : (1 ≤ p.mirrors) × (p.mirrors < 2 ^ l.summary.mirrors)
      unfolding layout_in
      mirrors_below =
          let body = body_in (slot_at store p.slot.0) in
          rw its_mirrors (some_named write body l (stripe_in l offset) (accepted_limits body l h).mirrors_some)

  -- "Order: 20, 5, 17."
  pub refusals_are_listed : (n : ℕ) → routed write t store offset len ≡ refused n → (n ≡ 20) ⊎ (n ≡ 5) ⊎ (n ≡ 17)
  unfolding routed pick given
  refusals_are_listed n e = go (sound t store) refl e
    where
      third : sound t store ≡ true → (a : Answer Serving) → served write t store offset ≡ a
          → given a (λ v. accepted (piece_at write store offset len v)) ≡ refused n → (n ≡ 20) ⊎ (n ≡ 5) ⊎ (n ≡ 17)
      third h (accepted v) s k = never_refused (piece_at write store offset len v) n k
      third h (refused j) s k = inr (inr (sym (same_refusal {A = Piece} j n k) ∙ served_refused t store h write offset j s))

      second : sound t store ≡ true → (a : Answer ℕ) → request_last offset len ≡ a
          → given a (λ last. given (served write t store offset) λ v. accepted (piece_at write store offset len v)) ≡ refused n
          → (n ≡ 20) ⊎ (n ≡ 5) ⊎ (n ≡ 17)
      second h (accepted last) r k = third h (served write t store offset) refl k
      second h (refused j) r k = inr (inl (sym (same_refusal {A = Piece} j n k) ∙ request_refused offset len j r))

      go : (b : Bool) → sound t store ≡ b
          → pick b (given (request_last offset len) λ last. given (served write t store offset) λ v. accepted (piece_at write store offset len v)) (refused 20) ≡ refused n
          → (n ≡ 20) ⊎ (n ≡ 5) ⊎ (n ≡ 17)
      go true h k = second h (request_last offset len) refl k
      go false h k = inl (sym (same_refusal {A = Piece} 20 n k))

-- "A write needs RW granted."
pub write_needs_a_grant : (t : Table) (store : List ℕ) (offset len : ℕ) (p : Piece) → routed true t store offset len ≡ accepted p
    → right_at (list_in t RW) offset ≡ Granted p.slot
write_needs_a_grant t store offset len p e =
    let h = piece_in_segment true t store offset len p e in
    ap (λ (m : Mode). right_at (list_in t m) offset) (sym (h.in_rw refl)) ∙ h.shown
