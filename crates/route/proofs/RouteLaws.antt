-- What each way out of the route's functions leaves.
use Prim.Native.Nat.{ℕ, ◌+◌, ◌≤◌, ◌<◌}
use mathlib.Core.Path.{◌≡◌, ap, ◌∙◌}
use mathlib.Core.Bool.{Bool, true, false}
use mathlib.Core.List.{List}
use lib.ListN.{length, drop, get_or}
use Rattle.base.specs.Answer.{Answer, accepted, refused, given, pick}
use Rattle.base.specs.declared.StripeNumber.{StripeNumber}
use Rattle.base.specs.declared.iomode.Iomode.{Iomode}
use Rattle.base.specs.Ranges.{request_last}
use Rattle.base.proofs.AnswerLaws.{pick_false, pick_true}
use Rattle.layout.specs.Layouts.{flags_at_end}
use Rattle.segments.specs.declared.Segment.{Segment}
use Rattle.segments.specs.declared.Table.{Table}
use Rattle.segments.specs.Segments.{within}
use Rattle.lookup.proofs.LookupLaws.{next_segment, no_segment}
use Rattle.store.specs.Store.{body_in, slot_at}
use Rattle.soundness.specs.Sound.{sound}
use Rattle.route.specs.Routes.{Grant, Serving, grant_in, grant_of, mirrors_named, no_reads, piece_at, routed, served, stripe_in}
use Rattle.route.specs.Answers.{grant_for_reads}
use Rattle.route.specs.Stripes.{piece_length}
use Rattle.route.specs.declared.piece.Piece.{Piece}

-- ---- the segments looked through from the front

module _ (m : Iomode) (x : ℕ) (l : List Segment) (k : ℕ) where
  pub grant_next : (d : Segment) → k < length l
      → grant_in m (drop k l) x
      ≡ pick (within (get_or l k d).first (get_or l k d).last x)
      (grant_of m (get_or l k d).right (get_or l k d).last)
      (grant_in m (drop (k + 1) l) x)
  unfolding grant_in
  grant_next d h = ap (λ (l : List Segment). grant_in m l x) (next_segment l k d h)

  pub grant_none : length l ≤ k → grant_in m (drop k l) x ≡ refused 17
  unfolding grant_in
  grant_none h = ap (λ (l : List Segment). grant_in m l x) (no_segment l k h)

-- ---- a grant of RW that serves reads

module _ (store : List ℕ) (a : Answer Grant) where
  pub no_grant_for_reads : (n : ℕ) → a ≡ refused n → grant_for_reads store a ≡ refused n
  unfolding grant_for_reads given
  no_grant_for_reads n e = rw e

  module _ (g : Grant) (e : a ≡ accepted g) where
    pub with_flag_4 : no_reads (flags_at_end (body_in (slot_at store g.slot))) ≡ true → grant_for_reads store a ≡ refused 17
    unfolding grant_for_reads given
    with_flag_4 h = rw e (pick_true _ _ _ h)

    pub without_flag_4 : no_reads (flags_at_end (body_in (slot_at store g.slot))) ≡ false → grant_for_reads store a ≡ accepted g
    unfolding grant_for_reads given
    without_flag_4 h = rw e (pick_false _ _ _ h)

-- ---- the answer

pub piece_is : (write : Bool) (store : List ℕ) (offset len : ℕ) (v : Serving) (stripe : StripeNumber) (piece mirrors : ℕ) (slot body : List ℕ)
    → stripe ≡ record { 0 = stripe_in v.layout offset }
    → piece ≡ piece_length v.layout.summary.unit v.layout.summary.servers v.grant.last offset len
    → slot ≡ slot_at store v.grant.slot → body ≡ body_in slot → mirrors ≡ mirrors_named write body v.layout stripe.0
    → ◌≡◌ {A = Piece}
    (record { iomode = v.grant.iomode; slot = record { 0 = v.grant.slot }; stripe = stripe; offset = offset; length = piece; mirrors = mirrors })
    (piece_at write store offset len v)
unfolding piece_at
piece_is write store offset len v stripe piece mirrors slot body s p b c m =
    let n : mirrors ≡ mirrors_named write (body_in (slot_at store v.grant.slot)) v.layout (stripe_in v.layout offset) =
    m
    ∙ (ap (λ (x : List ℕ). mirrors_named write x v.layout stripe.0) (c ∙ ap body_in b)
    ∙ ap (λ (x : StripeNumber). mirrors_named write (body_in (slot_at store v.grant.slot)) v.layout x.0) s) in
    λ i. record { iomode = v.grant.iomode; slot = record { 0 = v.grant.slot }; stripe = s i; offset = offset; length = p i; mirrors = n i }

-- ---- the request

module _ (write : Bool) (t : Table) (store : List ℕ) (offset len : ℕ) where
  pub is_unsound : sound t store ≡ false → routed write t store offset len ≡ refused 20
  unfolding routed pick
  is_unsound h = rw h

  pub range_refused : (n : ℕ) → sound t store ≡ true → request_last offset len ≡ refused n → routed write t store offset len ≡ refused n
  unfolding routed pick given
  range_refused n h e = rw (h, e)

  pub not_served : (last n : ℕ) → sound t store ≡ true → request_last offset len ≡ accepted last → served write t store offset ≡ refused n
      → routed write t store offset len ≡ refused n
  unfolding routed pick given
  not_served last n h e s = rw (h, e, s)

  pub is_served : (last : ℕ) (v : Serving) (p : Piece) → sound t store ≡ true → request_last offset len ≡ accepted last
      → served write t store offset ≡ accepted v → p ≡ piece_at write store offset len v → accepted p ≡ routed write t store offset len
  unfolding routed pick given
  is_served last v p h e s k = rw (h, e, s) (ap (λ (q : Piece). accepted q) k)
