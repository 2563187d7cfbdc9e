-- Which requests are answered, by the rights of their first byte; the iomode of an answered read; and that it goes where a write of the same bytes goes.
use Prim.Native.Nat.{ℕ, ◌-◌}
use mathlib.Core.Path.{◌≡◌, refl, sym, ap, ◌∙◌}
use mathlib.Core.Bool.{Bool, true, false, not, false≢true}
use mathlib.Core.List.{List}
use native.Mathlib.Omega.{arith}
use Rattle.base.specs.Answer.{Answer, accepted, refused, given, is_accepted, or_else, pick}
use Rattle.base.specs.Best.{best}
use Rattle.base.specs.Bits.{bit}
use Rattle.base.specs.Ranges.{request_last}
use Rattle.base.specs.declared.iomode.Iomode.{Iomode}
use Rattle.base.specs.declared.iomode.Iomode.TheVariants.{Read, ReadWrite}
use Rattle.base.proofs.AnswerLaws.{given_inv, given_refused, neither, never_accepted, same_answer, the_first}
use Rattle.base.proofs.BestLaws.{best_is_one}
use Rattle.layout.specs.Layouts.{Layout, layout_body}
use Rattle.layout.proofs.LayoutLaws.{accepted_limits}
use Rattle.segments.specs.declared.Table.{Table}
use Rattle.segments.specs.Segments.{READ, RW}
use Rattle.store.specs.Store.{Body, body_in, slot_at}
use Rattle.model.specs.Model.{ByteRight, none, granted, recalled}
use Rattle.model.specs.Claim.{right_in}
use Rattle.soundness.specs.Sound.{sound}
use Rattle.route.specs.Mirrors.{best_mirror, efficiency_of, only}
use Rattle.route.specs.Rights.{ServedUnder, by_grant, reads_by_rw, served_by_rights, served_of}
use Rattle.route.specs.Routes.{layout_in, no_reads, one_mirror, piece_at, routed, stripe_in}
use Rattle.route.specs.declared.piece.Piece.{Piece}
use Rattle.route.proofs.MirrorLaws.{all_named, one_named}
use Rattle.route.proofs.PieceLaws.{by_parts, its_layout, its_mirrors}
use Rattle.route.proofs.RightsServed.{routed_by_rights}
use Rattle.route.proofs.RouteLaws.{is_served, range_refused}
use Rattle.route.proofs.ServedLaws.{request_refused, write_serves_a_read}
use Rattle.claims.specs.Statements.{ReadAsWritten, has_right, is_granted, is_granted_without_flag4}

-- ---- one right

granted_serves : (i : Iomode) (r : ByteRight) → is_granted r ≡ true → (b : Body) × (by_grant i r ≡ accepted (record { iomode = i; body = b }))
granted_serves i none h = absurd (false≢true h)
granted_serves i (granted b) h = (b, refl)
granted_serves i (recalled b) h = absurd (false≢true h)

not_granted : (i : Iomode) (r : ByteRight) → is_granted r ≡ false → by_grant i r ≡ refused 17
not_granted i none h = refl
not_granted i (granted b) h = absurd (false≢true (sym h))
not_granted i (recalled b) h = refl

-- a right in RW serves reads, or it does not
data OfRw (w : ByteRight) : Type 0 where
  serves : (b : Body) → reads_by_rw w ≡ accepted (record { iomode = ReadWrite; body = b }) → is_granted_without_flag4 w ≡ true → OfRw w
  fails : (n : ℕ) → reads_by_rw w ≡ refused n → is_granted_without_flag4 w ≡ false → OfRw w

of_rw : (w : ByteRight) → OfRw w
unfolding reads_by_rw given pick
of_rw none = fails 17 refl refl
of_rw (granted b) = go (layout_body b) refl
  where
    flag : (l : Layout) → layout_body b ≡ accepted l → (f : Bool) → no_reads l.summary.flags ≡ f → OfRw (granted b)
    flag l e true h = fails 17 (rw (e, h)) (rw (e, h))
    flag l e false h = serves b (rw (e, h)) (rw (e, h))

    go : (a : Answer Layout) → layout_body b ≡ a → OfRw (granted b)
    go (accepted l) e = flag l e (no_reads l.summary.flags) refl
    go (refused n) e = fails n (rw e) (rw e)
of_rw (recalled b) = fails 17 refl refl

-- ---- the rights of a byte

-- what serves a read, once it is known what RW does
once_rw : (r w : ByteRight) {a : Answer ServedUnder} → reads_by_rw w ≡ a → served_by_rights false r w ≡ or_else a (by_grant Read r)
once_rw r w f = ap (λ (x : Answer ServedUnder). or_else x (by_grant Read r)) f

rights_serve : (write : Bool) (r w : ByteRight) → has_right write r w ≡ true → (v : ServedUnder) × (served_by_rights write r w ≡ accepted v)
rights_serve true r w h = let k = granted_serves ReadWrite w h in (_, k.1)
rights_serve false r w h = go (of_rw w)
  where
    go : OfRw w → (v : ServedUnder) × (served_by_rights false r w ≡ accepted v)
    go (serves b f g) = (_, once_rw r w f)
    go (fails n f g) = let k = granted_serves Read r (the_first (is_granted r) (is_granted_without_flag4 w) h g) in (_, once_rw r w f ∙ k.1)

rights_refuse : (write : Bool) (r w : ByteRight) → has_right write r w ≡ false → served_by_rights write r w ≡ refused 17
rights_refuse true r w h = not_granted ReadWrite w h
rights_refuse false r w h = go (of_rw w)
  where
    none_of : (is_granted r ≡ false) × (is_granted_without_flag4 w ≡ false)
    none_of = neither (is_granted r) (is_granted_without_flag4 w) h

    go : OfRw w → served_by_rights false r w ≡ refused 17
    go (serves b f g) = absurd (false≢true (sym none_of.1 ∙ g))
    go (fails n f g) = once_rw r w f ∙ not_granted Read r none_of.0

-- ---- which requests are answered

pub out_of_order : (write : Bool) (t : Table) (store : List ℕ) (offset len n : ℕ) → sound t store ≡ true → request_last offset len ≡ refused n
    → routed write t store offset len ≡ refused 5
out_of_order write t store offset len n s e = range_refused write t store offset len n s e ∙ ap (λ (k : ℕ). refused k) (request_refused offset len n e)

module _ (write : Bool) (t : Table) (store : List ℕ) (offset len last : ℕ) (s : sound t store ≡ true) (e : request_last offset len ≡ accepted last) where
  by_rights : given (routed write t store offset len) (λ p. accepted (served_of store p)) ≡ served_by_rights write (right_in t store READ offset) (right_in t store RW offset)
  unfolding given
  by_rights = routed_by_rights t store s write offset len ∙ rw e

  pub with_right : has_right write (right_in t store READ offset) (right_in t store RW offset) ≡ true → is_accepted (routed write t store offset len) ≡ true
  with_right h = let k = rights_serve write _ _ h in ap is_accepted (given_inv _ _ k.0 (by_rights ∙ k.1)).first

  pub without_right : has_right write (right_in t store READ offset) (right_in t store RW offset) ≡ false → routed write t store offset len ≡ refused 17
  without_right h = given_refused _ (served_of store) 17 (by_rights ∙ rights_refuse write _ _ h)

-- ---- the iomode of a read

module _ (t : Table) (store : List ℕ) (offset len : ℕ) (p : Piece) (e : routed false t store offset len ≡ accepted p) where
  abbrev R : ByteRight
  R = right_in t store READ offset

  abbrev W : ByteRight
  W = right_in t store RW offset

  -- the rights give what the piece is served under
  served_under : accepted (served_of store p) ≡ served_by_rights false R W
  unfolding given
  served_under =
      let r = by_parts false t store offset len p e in
      ap (λ (a : Answer Piece). given a (λ p. accepted (served_of store p))) (sym e) ∙ by_rights false t store offset len r.last r.sound r.range

  iomode_is : (v : ServedUnder) → served_by_rights false R W ≡ accepted v → p.iomode ≡ v.iomode
  iomode_is v h = ap (λ (u : ServedUnder). u.iomode) (same_answer {a = served_of store p} (served_under ∙ h))

  pub read_by_rw : is_granted_without_flag4 W ≡ true → p.iomode ≡ ReadWrite
  read_by_rw h = go (of_rw W)
    where
      go : OfRw W → p.iomode ≡ ReadWrite
      go (serves b f g) = iomode_is (record { iomode = ReadWrite; body = b }) (once_rw R W f)
      go (fails n f g) = absurd (false≢true (sym g ∙ h))

  pub read_by_read : is_granted_without_flag4 W ≡ false → p.iomode ≡ Read
  read_by_read h = go (of_rw W) (is_granted R) refl
    where
      go : OfRw W → (b : Bool) → is_granted R ≡ b → p.iomode ≡ Read
      go (serves b f g) c q = absurd (false≢true (sym h ∙ g))
      go (fails n f g) true q = let k = granted_serves Read R q in iomode_is (record { iomode = Read; body = k.0 }) (once_rw R W f ∙ k.1)
      go (fails n f g) false q = never_accepted 17 (served_of store p) (sym (served_under ∙ (once_rw R W f ∙ not_granted Read R q)))

-- ---- a read of bytes that a write may go to

pub read_as_written : (t : Table) (store : List ℕ) (offset len : ℕ) (p : Piece) (l : Layout) → routed true t store offset len ≡ accepted p
    → layout_in store p.slot.0 ≡ accepted l → bit 4 l.summary.flags ≡ false
    → (q : Piece) × (routed false t store offset len ≡ accepted q) × ReadAsWritten l p q
unfolding piece_at layout_in best_mirror
read_as_written t store offset len p l e h f =
    let r = by_parts true t store offset len p e in
    let v = r.serving in
    let g : v.layout ≡ l = its_layout true t store offset len p e l h in
    let s = write_serves_a_read t store offset v r.serves (ap (λ (y : Layout). no_reads y.summary.flags) g ∙ f) in
    let q = piece_at false store offset len v in
    let answered : routed false t store offset len ≡ accepted q = sym (is_served false t store offset len r.last v q r.sound r.range s refl) in
    let same : piece_at true store offset len v ≡ p = r.piece in
    let body = body_in (slot_at store p.slot.0) in
    let slot : v.grant.slot ≡ p.slot.0 = ap (λ (x : Piece). x.slot.0) same in
    let at_slot : layout_in store q.slot.0 ≡ accepted l = ap (λ (i : ℕ). layout_in store i) slot ∙ h in
    let named = its_mirrors true t store offset len p e l h in
    let read_named = its_mirrors false t store offset len q answered l at_slot ∙ one_named false (body_in (slot_at store v.grant.slot)) l (stripe_in l offset) refl in
    let efficiency = efficiency_of (body_in (slot_at store v.grant.slot)) l.starts (stripe_in l offset) in
    let n = l.summary.mirrors in
    let some = (accepted_limits body l h).mirrors_some in (
      q,
      answered,
      record {
        iomode = ap (λ (x : Piece). x.iomode) same;
        slot = ap (λ (x : Piece). x.slot) same;
        stripe = ap (λ (x : Piece). x.stripe) same;
        offset = ap (λ (x : Piece). x.offset) same;
        length = ap (λ (x : Piece). x.length) same;
        mirror = (best efficiency (n - 1), read_named, omega (arith, best_is_one efficiency (n - 1), some));
        one = λ k.
            let b : not (one_mirror l.summary.flags) ≡ false = ap not k in
            read_named
            ∙ (ap (λ (i : ℕ). only (best_mirror (body_in (slot_at store i)) l.starts n (stripe_in l offset))) slot
            ∙ sym (named ∙ one_named true body l (stripe_in l offset) b));
        all = λ k. let b : not (one_mirror l.summary.flags) ≡ true = ap not k in named ∙ all_named true body l (stripe_in l offset) b;
      },
    )
