-- A byte is served exactly where its rights, with their bodies, say so, and under the body of that right.
use Prim.Native.Nat.{ℕ}
use mathlib.Core.Path.{◌≡◌, refl, sym, ap, ap₂, ◌∙◌}
use mathlib.Core.Bool.{Bool, true, false}
use mathlib.Core.List.{List, [], ◌∷◌}
use Rattle.base.specs.Answer.{Answer, accepted, refused, given, or_else, pick}
use Rattle.base.specs.Ranges.{request_last}
use Rattle.base.specs.declared.SlotNumber.{SlotNumber}
use Rattle.base.specs.declared.iomode.Iomode.{Iomode}
use Rattle.base.specs.declared.iomode.Iomode.TheVariants.{ReadWrite}
use Rattle.layout.specs.Layouts.{Layout}
use Rattle.segments.specs.declared.Right.{Right}
use Rattle.segments.specs.declared.Right.TheVariants.{None, Granted, Recalled}
use Rattle.segments.specs.declared.Segment.{Segment}
use Rattle.segments.specs.declared.Table.{Table}
use Rattle.segments.specs.Segments.{Mode, READ, RW, list_in, right_at, within}
use Rattle.store.specs.Store.{Slot, body_in, slot_at}
use Rattle.model.specs.Model.{granted, recalled}
use Rattle.model.specs.SlotsShown.{slots_in}
use Rattle.soundness.specs.Sound.{sound}
use Rattle.model.specs.Claim.{right_in, under_slot, with_body}
use Rattle.soundness.proofs.SoundParts.{holding, sounds}
use Rattle.model.proofs.SlotRights.{Under}
use Rattle.soundness.proofs.SoundRights.{under_at}
use Rattle.route.specs.Routes.{Serving, grant_at, grant_in, grant_of, grant_with_layout, iomode_for, layout_in, no_reads, piece_at, read_through_rw, routed, served}
use Rattle.route.specs.Rights.{ServedUnder, by_grant, reads_by_rw, served_by_rights, served_of}
use Rattle.base.proofs.AnswerLaws.{given_or_else, given_pick}
use Rattle.route.proofs.ServedLaws.{layout_of}

-- ---- a grant at a byte

-- the grant that a list has at a byte is that of the right that it shows there
grant_shown : (m : Iomode) (l : List Segment) (x : ℕ) → (last : ℕ) × (grant_in m l x ≡ grant_of m (right_at l x) last)
unfolding grant_in right_at pick
grant_shown m [] x = (0, refl)
grant_shown m (s ∷ l) x = go (within s.first s.last x) (grant_shown m l x)
  where
    go : (b : Bool) → (last : ℕ) × (grant_in m l x ≡ grant_of m (right_at l x) last)
        → (last : ℕ) × (pick b (grant_of m s.right s.last) (grant_in m l x) ≡ grant_of m (pick b s.right (right_at l x)) last)
    go true rest = (s.last, refl)
    go false rest = rest

module _ (t : Table) (store : List ℕ) (s : sound t store ≡ true) where
  -- a byte that a list shows as granted has that right, under the body in the slot
  pub granted_under : (m : Mode) (x : ℕ) (i : SlotNumber) → right_at (list_in t m) x ≡ Granted i → right_in t store m x ≡ granted (body_in (slot_at store i.0))
  unfolding right_in
  granted_under m x i e =
      let w : Under (slots_in t store) (Granted i) = rw e at (under_at t store (sounds t store s) m x) in
      let h = holding t store (sounds t store s) i.0 w.0 w.1 in
      ap (with_body (slots_in t store)) e ∙ (ap (under_slot granted) w.1 ∙ ap granted (sym h.body))

  -- a byte's grant and its right in an iomode: granted, under the body in the grant's slot, or no grant
  data Seen (m : Mode) (x : ℕ) : Type 0 where
    by_grant_lem : (slot last : ℕ) → grant_at t m x ≡ accepted (record { iomode = iomode_for m; slot = slot; last = last })
        → right_in t store m x ≡ granted (body_in (slot_at store slot)) → Seen m x
    without : grant_at t m x ≡ refused 17 → ((i : Iomode) → by_grant i (right_in t store m x) ≡ refused 17) → Seen m x

  seen : (m : Mode) (x : ℕ) → Seen m x
  unfolding right_in
  seen m x = go (right_at (list_in t m) x) refl (grant_shown (iomode_for m) (list_in t m) x) (under_at t store (sounds t store s) m x)
    where
      go : (r : Right) → right_at (list_in t m) x ≡ r → (last : ℕ) × (grant_at t m x ≡ grant_of (iomode_for m) (right_at (list_in t m) x) last)
          → Under (slots_in t store) (right_at (list_in t m) x) → Seen m x
      go None e g u =
          without (g.1 ∙ ap (λ (r : Right). grant_of (iomode_for m) r g.0) e) (λ i. ap (λ (r : Right). by_grant i (with_body (slots_in t store) r)) e)
      go (Granted i) e g u =
          by_grant_lem i.0 g.0 (g.1 ∙ ap (λ (r : Right). grant_of (iomode_for m) r g.0) e) (granted_under m x i e)
      go (Recalled i) e g u =
          let w : Under (slots_in t store) (Recalled i) = rw e at u in
          without (g.1 ∙ ap (λ (r : Right). grant_of (iomode_for m) r g.0) e)
          (λ k. ap (λ (r : Right). by_grant k (with_body (slots_in t store) r)) e ∙ ap (λ (c : Slot). by_grant k (under_slot recalled c)) w.1)

  -- ---- what serves

  -- what a grant serves under: its iomode, and the body in its slot
  abbrev served_by : Serving → ServedUnder
  served_by v = record { iomode = v.grant.iomode; body = body_in (slot_at store v.grant.slot) }

  abbrev under : Serving → Answer ServedUnder
  under v = accepted (served_by v)

  granted_by_right : (m : Mode) (x : ℕ) → given (grant_with_layout t m store x) under ≡ by_grant (iomode_for m) (right_in t store m x)
  unfolding grant_with_layout given
  granted_by_right m x = go (seen m x)
    where
      go : Seen m x → given (grant_with_layout t m store x) under ≡ by_grant (iomode_for m) (right_in t store m x)
      go (by_grant_lem i last e r) = let l = layout_of t store s m x _ e in rw (e, l.1, r)
      go (without e r) = rw (e, r (iomode_for m))

  read_by_right : (x : ℕ) → given (read_through_rw t store x) under ≡ reads_by_rw (right_in t store RW x)
  unfolding grant_with_layout read_through_rw reads_by_rw layout_in given
  read_by_right x = go (seen RW x)
    where
      read : (slot last : ℕ) (a : Answer Layout)
          → given (given (given a λ l. accepted (record { grant = record { iomode = ReadWrite; slot = slot; last = last }; layout = l })) λ v. pick (no_reads v.layout.summary.flags) (refused 17) (accepted v)) under
          ≡ given a (λ l. pick (no_reads l.summary.flags) (refused 17) (accepted (record { iomode = ReadWrite; body = body_in (slot_at store slot) })))
      read slot last (accepted l) = given_pick (no_reads l.summary.flags) 17 (record { grant = record { iomode = ReadWrite; slot = slot; last = last }; layout = l }) under
      read slot last (refused n) = refl

      go : Seen RW x → given (read_through_rw t store x) under ≡ reads_by_rw (right_in t store RW x)
      go (by_grant_lem i last e r) = rw (e, r) (read i last (layout_in store i))
      go (without e r) = rw (e, r ReadWrite)

  served_by_rights_lem : (write : Bool) (x : ℕ) → given (served write t store x) under ≡ served_by_rights write (right_in t store READ x) (right_in t store RW x)
  unfolding served
  served_by_rights_lem true x = granted_by_right RW x
  served_by_rights_lem false x =
      given_or_else (read_through_rw t store x) (grant_with_layout t READ store x) served_by ∙ ap₂ or_else (read_by_right x) (granted_by_right READ x)

  -- ---- the answer

  -- where a request that is in order goes, by the rights of its first byte
  pub routed_by_rights : (write : Bool) (offset len : ℕ) → given (routed write t store offset len) (λ p. accepted (served_of store p))
      ≡ given (request_last offset len) (λ last. served_by_rights write (right_in t store READ offset) (right_in t store RW offset))
  unfolding routed pick given piece_at
  routed_by_rights write offset len = rw s (go (request_last offset len))
    where
      piece : (a : Answer Serving) → given (given a λ v. accepted (piece_at write store offset len v)) (λ p. accepted (served_of store p)) ≡ given a under
      piece (accepted v) = refl
      piece (refused n) = refl

      go : (a : Answer ℕ) → given (given a λ last. given (served write t store offset) λ v. accepted (piece_at write store offset len v)) (λ p. accepted (served_of store p))
          ≡ given a (λ last. served_by_rights write (right_in t store READ offset) (right_in t store RW offset))
      go (accepted last) = piece (served write t store offset) ∙ served_by_rights_lem write offset
      go (refused n) = refl
