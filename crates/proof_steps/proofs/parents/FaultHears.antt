-- A fault after which nothing of the pair's case was appended: the pair's parent fails, after what it
-- heard.
use Rattle.std.proofs.Common.{◌≡◌, ◌∙◌, Bool, true, false, ◌||◌, refl, sym, ap, subst, arith}
use Rattle.protocol.specs.Nodes.{Effect}
use Rattle.protocol.specs.Memory.{Memory, Phase, Idle, Open, Asked, Over}
use Rattle.proof_pairs.specs.Reading.{Reading, is_live}
use Rattle.proof_pairs.specs.Invariant.{Common}
use Rattle.proof_pairs.specs.ParentCrash
use Rattle.proof_pairs.specs.readings.ReadingOf.{ParentHalf, ChildHalf, Wire, reading_from, is_begun, is_dead}
use Rattle.proof_steps.proofs.children.Moves.{common_of, onward}
use Rattle.proof_steps.proofs.parents.Faults.{down, heard_so}
use Rattle.proof_steps.proofs.parents.Halves.{live_phase, phase_of}
use Rattle.proof_steps.proofs.parents.Known.{clash}
use Rattle.proof_steps.proofs.parents.Moves
use Rattle.proof_steps.proofs.parents.Own
use Rattle.proof_steps.proofs.parents.Readings.{Live}
use Rattle.proof_steps.proofs.parents.Turns.{Turn, Says, Fits_in, seen, remembered, half, net_part, told_outcome, reading, at_root}

or-true : (a : Bool) → (a || true) ≡ true
or-true a = grind arith

dead-now : is_dead false false true false ≡ true
unfolding is_dead
dead-now = refl

module _ (manager above : Bool) (k : ChildHalf) where
  abbrev X : Bool → Bool → ParentHalf → Wire → Reading
  X root o p v = reading_from root manager o above p k v

  reading-fails_live : (root o : Bool) (p : ParentHalf) (v : Wire) → Live root o p v
      → X root o (down p.accepted p.acked true p) v ≡ ParentCrash.parent_fails (X root o p v)
  reading-fails_live true o p v l =
      let f = l.undecided refl in
      rw (l.begun, l.live, l.no_commit, f) (simp (dead-now))
  reading-fails_live false o p v l =
      let f = l.given refl in
      rw (f, l.live, l.no_prepare, l.never_promised, l.no_read) (simp (dead-now, or-true))

  reading-fails_closed : (root o b : Bool) (p : ParentHalf) (v : Wire) → is_live p.phase ≡ false
      → (root ≡ true → b ≡ p.begun)
      → X root o (down p.accepted p.acked b p) v ≡ ParentCrash.parent_fails (X root o p v)
  reading-fails_closed true o b p v e f =
      let g = f refl in
      rw (g, e) refl
  reading-fails_closed false o b p v e f = rw e refl

live_begun : (ph : Phase) → is_live (live_phase ph) ≡ true → is_begun ph ≡ true
live_begun Open e = refl
live_begun Asked e = refl
live_begun Idle e = absurd (cc)
live_begun Over e = absurd (cc)

module _ (turn : Turn) where
  open turn use {place, n, h, net, c, t, manager, above, k, up, nested}

  abbrev m : Memory
  m = remembered turn

  abbrev p0 : ParentHalf
  p0 = half turn

  abbrev v0 : Wire
  v0 = net_part turn

  abbrev o0 : Bool
  o0 = told_outcome turn

  abbrev root : Bool
  root = at_root turn

  -- What an input leads to even where the device fails: what is remembered, and what was accepted and heard.
  pub record Hears (e : Effect) : Type 0 where
    pub phase : Phase
    pub accepted : Bool
    pub acked : Bool
    pub says : Says turn phase accepted acked
    pub half_then : ParentHalf
    pub is : heard_so e c t p0 ≡ half_then
    pub same_phase : half_then.phase ≡ p0.phase
    pub same_begun : half_then.begun ≡ p0.begun
    pub fits : Fits_in turn (seen turn o0 (record half_then { accepted = accepted; acked = acked }) v0)
    pub lives : is_live p0.phase ≡ true → is_begun phase ≡ true
    pub rests : is_live p0.phase ≡ false → root ≡ true → is_begun phase ≡ is_begun m.phase

  -- a case that can still be decided
  live_from : (p : ParentHalf) → Common (seen turn o0 p v0) → is_live p.phase ≡ true → p.begun ≡ true
      → Live root o0 p v0
  live_from p common l b =
      let u = common.undecided l in
      record {
        begun = b;
        live = l;
        given = given;
        no_commit = u.no_commit;
        undecided = u.root_undecided;
        no_prepare = u.no_prepare.0;
        never_promised = u.no_prepare.1;
        no_read = u.no_read;
      }
    where
      given : root ≡ false → v0.given ≡ true
      given f = by_test v0.given refl
        where
          by_test : (b : Bool) → v0.given ≡ b → v0.given ≡ true
          by_test true g = g
          by_test false g = clash (is_live p.phase) l (common.unborn (rw (f, g) refl)).closed

  begun_live : is_live p0.phase ≡ true → p0.begun ≡ true
  begun_live l = Own.begun_by turn refl
      (live_begun m.phase (sym (ap (λ b. is_live (phase_of b m.phase)) up) ∙ l))

  -- the parent fails after what it heard
  pub failing : (e : Effect) (y : Hears e) (b : Bool) → (is_begun y.phase ≡ true → b ≡ true)
      → (is_begun y.phase ≡ is_begun m.phase → b ≡ p0.begun)
      → Fits_in turn (seen turn o0 (down y.accepted y.acked b y.half_then) v0)
  failing e y b f g = by_live (is_live p0.phase) refl
    where
      p1 : ParentHalf
      p1 = record y.half_then { accepted = y.accepted; acked = y.acked }

      r1 : Reading
      r1 = seen turn o0 (record y.half_then { accepted = y.accepted; acked = y.acked }) v0

      fails : Fits_in turn (ParentCrash.parent_fails
          (seen turn o0 (record y.half_then { accepted = y.accepted; acked = y.acked }) v0))
      fails = onward c.txn.presumption (reading turn) _ _ y.fits
          (Moves.parent_fails c.txn.presumption
          (seen turn o0 (record y.half_then { accepted = y.accepted; acked = y.acked }) v0)
          y.fits.invariant
          (record { up = is_up }))
        where
          is_up : y.half_then.failed ≡ false
          is_up = ap (λ (p : ParentHalf). p.failed) (sym y.is) ∙ up

      by_live : (l : Bool) → is_live p0.phase ≡ l
          → Fits_in turn (seen turn o0 (down y.accepted y.acked b y.half_then) v0)
      by_live true l =
          subst (λ (x : Bool). Fits_in turn (seen turn o0 (down y.accepted y.acked x y.half_then) v0))
          (sym (f (y.lives l)))
          (subst (λ (x : Reading). Fits_in turn x)
          (sym (reading-fails_live manager above k root o0
          (record y.half_then { accepted = y.accepted; acked = y.acked }) v0
          (live_from (record y.half_then { accepted = y.accepted; acked = y.acked })
          (common_of c.txn.presumption _ y.fits.invariant)
          (ap is_live y.same_phase ∙ l) (y.same_begun ∙ begun_live l))))
          fails)
      by_live false l =
          subst (λ (x : Reading). Fits_in turn x)
          (sym (reading-fails_closed manager above k root o0 b
          (record y.half_then { accepted = y.accepted; acked = y.acked }) v0
          (ap is_live y.same_phase ∙ l) (λ i. g (y.rests l i) ∙ sym y.same_begun)))
          fails

  -- the parent fails, and heard nothing
  pub fails_still : Fits_in turn (seen turn o0 (down p0.accepted p0.acked p0.begun p0) v0)
  fails_still = by_live (is_live p0.phase) refl
    where
      fails : Fits_in turn (ParentCrash.parent_fails (reading turn))
      fails = Moves.parent_fails c.txn.presumption (reading turn) turn.inv (record { up = up })

      by_live : (l : Bool) → is_live p0.phase ≡ l
          → Fits_in turn (seen turn o0 (down p0.accepted p0.acked p0.begun p0) v0)
      by_live true l =
          subst (λ (x : Bool). Fits_in turn (seen turn o0 (down p0.accepted p0.acked x p0) v0))
          (sym (begun_live l))
          (subst (λ (x : Reading). Fits_in turn x)
          (sym (reading-fails_live manager above k root o0 p0 v0
          (live_from p0 (common_of c.txn.presumption (reading turn) turn.inv) l (begun_live l))))
          fails)
      by_live false l =
          subst (λ (x : Reading). Fits_in turn x)
          (sym (reading-fails_closed manager above k root o0 p0.begun p0 v0 l (λ i. refl))) fails
