-- What an event leaves of a pair where it does nothing of the pair's case, or only hears an ACK, or only
-- forces.
use Rattle.std.proofs.Common.{◌≡◌, ◌∙◌, ◌⊎◌, inl, inr, ℕ, Bool, true, false, ◌||◌, ◌&&◌, [], refl, sym, subst, arith}
use Rattle.std.specs.List.{list_any}
use Rattle.protocol.specs.declared.names.Case.{Case}
use Rattle.protocol.specs.declared.records.Record.{Record}
use Rattle.protocol_words.specs.Variants.{ClearedRecord, VoteNo, VoteRead, VoteYes}
use Rattle.protocol.specs.Records.{has, in_list, is_commit, is_prepare, boot_after}
use Rattle.protocol.specs.Nodes.{Effect, after, told_first}
use Rattle.protocol.specs.Memory.{Memory}
use Rattle.protocol.specs.CoordinatorRows.{forced, plain}
use Rattle.protocol.specs.Outcomes.{is_told_aborted}
use Rattle.protocol.specs.Views.{IsOpenAlike}
use Rattle.proof_pairs.specs.Reading.{Reading}
use Rattle.proof_pairs.specs.ParentMoves
use Rattle.proof_pairs.specs.readings.ReadingOf.{reading_from, ParentHalf, ChildHalf, Wire, is_told_committed, is_told_of_txn}
use Rattle.proof_pairs.proofs.readings.Lists.{has-cons}
use Rattle.proof_steps.proofs.children.Moves.{onward, unmoved}
use Rattle.proof_steps.proofs.parents.Halves.{acked_of}
use Rattle.proof_steps.proofs.parents.Moves
use Rattle.proof_steps.proofs.parents.Turns.{Turn, remembered, half, net_part, told_outcome, reading, seen, Says, Fine, Fits_in, at_root, fine_silent, fine_forced, fine_plain}
use Rattle.proof_steps.proofs.parents.Wires.{Silent, wire-silent}
use Rattle.proof_steps.proofs.parents.Writes.{wrote, hardens, did, stands_so, begun_after, accepts_so, counts_so, is_told_so, told-first}

pub or_twice : (a b : Bool) → (a || (a || b)) ≡ (a || b)
or_twice a b = grind arith

-- Readings.

module _ (manager above : Bool) (k : ChildHalf) where
  abbrev R : Bool → Bool → ParentHalf → Wire → Reading
  R root o p v = reading_from root manager o above p k v

  pub reading-hardens : (root o : Bool) (p : ParentHalf) (v : Wire)
      → R root ((root && p.commit_kept) || o) (hardens p) v ≡ ParentMoves.hardens_parent (R root o p v)
  reading-hardens true o p v = simp (or_twice)
  reading-hardens false o p v = simp (or_twice)

module _ (turn : Turn) where
  open turn use {n, h, net, c, t, manager, above, k, up, inv}

  abbrev m : Memory
  m = remembered turn

  abbrev p0 : ParentHalf
  p0 = half turn

  abbrev v0 : Wire
  v0 = net_part turn

  abbrev o0 : Bool
  o0 = told_outcome turn

  -- what an effect does of the pair's case beside its records: nothing
  pub record DoesNothing (e : Effect) : Type 0 where
    pub accepts : accepts_so c t e ≡ false
    pub yes_votes : counts_so c t VoteYes e ≡ false
    pub no_votes : counts_so c t VoteNo e ≡ false
    pub read_votes : counts_so c t VoteRead e ≡ false
    pub committed : is_told_so (is_told_committed c.txn) e.told ≡ false
    pub aborted : is_told_so (is_told_aborted c.txn) e.told ≡ false
    pub told : is_told_so (is_told_of_txn c.txn) e.told ≡ false

  pub did_nothing : (e : Effect) (p : ParentHalf) → DoesNothing e → did e c t p ≡ p
  did_nothing e p d = rw (d.accepts, d.yes_votes, d.no_votes, d.read_votes, d.committed, d.aborted) refl

  -- an input leaves what is remembered, but that it may hear an ACK
  pub record Rests : Type 0 where
    pub acked : Bool
    pub says : Says turn m.phase (in_list m.accepted t) acked
    pub why : (acked ≡ acked_of m c t) ⊎ ((acked ≡ true) × (v0.ack ≡ true))

  pub rests_as : Says turn m.phase (in_list m.accepted t) (acked_of m c t) → Rests
  rests_as s = record { acked = acked_of m c t; says = s; why = inl refl }

  -- the half that it leaves
  abbrev pub rested : Bool → ParentHalf
  rested b = record p0 { acked = b }

  pub rest_fits : (b : Bool) → (b ≡ acked_of m c t) ⊎ ((b ≡ true) × (v0.ack ≡ true))
      → Fits_in turn (seen turn o0 (rested b) v0)
  rest_fits b (inl e) =
      subst (λ (x : Bool). Fits_in turn (seen turn o0 (rested x) v0)) (sym e)
      (unmoved c.txn.presumption (reading turn) inv)
  rest_fits b (inr e) =
      subst (λ (x : Bool). Fits_in turn (seen turn o0 (rested x) v0)) (sym e.0)
      (Moves.hears_ack c.txn.presumption (reading turn) inv (record { said = e.1 }))

  -- as the half is written after an event
  pub shown : (b : Bool) → stands_so false m.phase (in_list m.accepted t) b p0.begun p0 ≡ rested b
  shown b = rw up refl

  told_still : (e : Effect) → DoesNothing e
      → list_any (is_told_of_txn c.txn) (told_first e.told n.told) ≡ list_any (is_told_of_txn c.txn) n.told
  told_still e d = told-first (is_told_of_txn c.txn) e.told n.told ∙ rw (d.told) refl

  pub begun_silent : (e : Effect) → e.written ≡ [] → DoesNothing e → begun_after m.phase (after n h e) c
      ≡ p0.begun
  begun_silent e none d = rw (none, told_still e d) refl

  pub begun_forced : (e : Effect) (r : Record) → e.written ≡ forced r → is_commit c r ≡ false → DoesNothing e
      → begun_after m.phase (after n h e) c ≡ p0.begun
  begun_forced e r one q d = rw (one, told_still e d) (simp (has-cons, q))

  pub begun_plain : (e : Effect) (r : Record) → e.written ≡ plain r → is_commit c r ≡ false → DoesNothing e
      → begun_after m.phase (after n h e) c ≡ p0.begun
  begun_plain e r one q d = rw (one, told_still e d) (simp (has-cons, q))

  -- a record that is not of the pair's case
  pub record Unrelated (r : Record) : Type 0 where
    pub same : (b : Bool) (p : ParentHalf) → wrote r c t b p ≡ p
    pub commits : is_commit c r ≡ false
    pub boot : (x : ℕ) → boot_after x r ≡ x

  -- that a report was seen to, of whichever case
  pub cleared_unrelated : (d : Case) → Unrelated (ClearedRecord d)
  cleared_unrelated d = record { same = λ b p. refl; commits = refl; boot = λ x. refl }

  module _ (e : Effect) (later : IsOpenAlike turn.place (after n h e) c) (d : DoesNothing e) (s : Rests)
      (silent : Silent c t net e.messages) where
    abbrev now : Bool
    now = begun_after m.phase (after n h e) c

    pub quiet_fine : e.written ≡ [] → Fine turn e
    quiet_fine none =
        fine_silent turn e later m.phase (in_list m.accepted t) s.acked s.says v0
        (wire-silent c t net e.messages silent) none
        (subst (λ (x : ParentHalf). Fits_in turn
        (seen turn o0 (stands_so false m.phase (in_list m.accepted t) s.acked now x) v0))
        (sym (did_nothing e p0 d))
        (subst (λ (x : Bool). Fits_in turn
        (seen turn o0 (stands_so false m.phase (in_list m.accepted t) s.acked x p0) v0))
        (sym (begun_silent e none d))
        (subst (λ (x : ParentHalf). Fits_in turn (seen turn o0 x v0)) (sym (shown s.acked))
        (rest_fits s.acked s.why))))

    -- a record of another case was written, unforced
    pub plain_elsewhere : (r : Record) → e.written ≡ plain r → Unrelated r → Fine turn e
    plain_elsewhere r one u =
        fine_plain turn e later m.phase (in_list m.accepted t) s.acked s.says v0
        (wire-silent c t net e.messages silent) r u.boot one
        (subst (λ (x : ParentHalf). Fits_in turn
        (seen turn o0 (stands_so false m.phase (in_list m.accepted t) s.acked now x) v0))
        (sym (u.same _ (did e c t p0) ∙ did_nothing e p0 d))
        (subst (λ (x : Bool). Fits_in turn
        (seen turn o0 (stands_so false m.phase (in_list m.accepted t) s.acked x p0) v0))
        (sym (begun_plain e r one u.commits d))
        (subst (λ (x : ParentHalf). Fits_in turn (seen turn o0 x v0)) (sym (shown s.acked))
        (rest_fits s.acked s.why))))

    hardened : (b : Bool) → (b ≡ acked_of m c t) ⊎ ((b ≡ true) × (v0.ack ≡ true))
        → Fits_in turn (seen turn ((at_root turn && p0.commit_kept) || o0) (hardens (rested b)) v0)
    hardened b why =
        let old = rest_fits b why in
        let r = seen turn o0 (rested b) v0 in
        subst (λ (x : Reading). Fits_in turn x)
        (sym (reading-hardens manager above k (at_root turn) o0 (rested b) v0))
        (onward c.txn.presumption (reading turn) r (ParentMoves.hardens_parent r) old
        (Moves.hardens c.txn.presumption r old.invariant up))

    -- and forced
    pub forced_elsewhere : (r : Record) → e.written ≡ forced r → Unrelated r → Fine turn e
    forced_elsewhere r one u =
        fine_forced turn e later m.phase (in_list m.accepted t) s.acked s.says v0
        (wire-silent c t net e.messages silent) r u.boot one
        (subst (λ (q : Bool). Fits_in turn (seen turn ((at_root turn && (q || p0.commit_kept)) || o0)
        (stands_so false m.phase (in_list m.accepted t) s.acked now
        (hardens (wrote r c t (has (is_prepare c) n.life) (did e c t p0)))) v0))
        (sym u.commits)
        (subst (λ (x : ParentHalf). Fits_in turn (seen turn ((at_root turn && p0.commit_kept) || o0)
        (stands_so false m.phase (in_list m.accepted t) s.acked now (hardens x)) v0))
        (sym (u.same _ (did e c t p0) ∙ did_nothing e p0 d))
        (subst (λ (x : Bool). Fits_in turn (seen turn ((at_root turn && p0.commit_kept) || o0)
        (stands_so false m.phase (in_list m.accepted t) s.acked x (hardens p0)) v0))
        (sym (begun_forced e r one u.commits d))
        (subst (λ (x : ParentHalf). Fits_in turn
        (seen turn ((at_root turn && p0.commit_kept) || o0) (hardens x) v0))
        (sym (shown s.acked)) (hardened s.acked s.why)))))
