-- What a turn of the pair's own case leads to even where the device fails in it, after no record of it.
use Rattle.std.proofs.Common.{◌≡◌, ◌∙◌, Bool, true, false, ◌||◌, [], ◌∷◌, refl, sym, ap, subst, arith, if◌then◌else◌}
use Rattle.protocol.specs.declared.names.Ticket.{Ticket}
use Rattle.protocol.specs.declared.messages.Message.TheVariants.{Joined}
use Rattle.protocol.specs.declared.standings.Standing.TheVariants.{Active}
use Rattle.protocol.specs.declared.standings.Vote.{Vote}
use Rattle.protocol.specs.Names.{same_ticket}
use Rattle.protocol.specs.NameLaws.{same_case-refl}
use Rattle.protocol.specs.Nodes.{Effect}
use Rattle.protocol.specs.Memory.{Memory, Phase, Idle, Open, Asked, Over, has_child}
use Rattle.protocol.specs.CoordinatorRows.{Row}
use Rattle.protocol.specs.Reactions.{row_effect}
use Rattle.protocol.specs.Standings.{CoordinatorView}
use Rattle.proof_pairs.specs.Reading.{Reading, is_live}
use Rattle.proof_pairs.specs.ParentMoves
use Rattle.proof_pairs.specs.readings.ReadingOf.{ParentHalf, Wire, is_begun}
use Rattle.proof_pairs.specs.turns.CoordinatorTurns.{CaseTurn, CountsVote}
use Rattle.proof_pairs.specs.turns.CoordinatorTurns
use Rattle.proof_pairs.specs.turns.LeafTurns.{Hears as HearsMessage}
use Rattle.proof_steps.proofs.children.Moves.{unmoved}
use Rattle.proof_steps.proofs.parents.FaultHears.{Hears}
use Rattle.proof_steps.proofs.parents.Faults.{heard_so}
use Rattle.proof_steps.proofs.parents.Halves.{live_phase}
use Rattle.proof_steps.proofs.parents.Own
use Rattle.proof_steps.proofs.parents.Own.{Goes, heard}
use Rattle.proof_steps.proofs.parents.OwnActive
use Rattle.proof_steps.proofs.parents.OwnPromised
use Rattle.proof_steps.proofs.parents.OwnPromised.{not_open}
use Rattle.proof_steps.proofs.parents.Quiet.{Rests, rest_fits}
use Rattle.proof_steps.proofs.parents.Turns.{Turn, Fits_in, seen, remembered, half, net_part, told_outcome, reading}
use Rattle.proof_steps.proofs.parents.Votes

or-false : (a : Bool) → (a || false) ≡ a
or-false a = grind arith

or-true : (a : Bool) → (a || true) ≡ true
or-true a = grind arith

module _ (turn : Turn) where
  open turn use {place, parent, n, h, net, c, t, up, inv}

  abbrev m : Memory
  m = remembered turn

  abbrev p0 : ParentHalf
  p0 = half turn

  abbrev v0 : Wire
  v0 = net_part turn

  abbrev o0 : Bool
  o0 = told_outcome turn

  abbrev v : CoordinatorView
  v = Own.v turn

  -- Of an input that leaves what is remembered, but that an ACK is heard.
  pub of_rests : (e : Effect) → heard_so e c t p0 ≡ p0 → Rests turn → Hears turn e
  of_rests e is r = record {
    phase = m.phase;
    accepted = p0.accepted;
    acked = r.acked;
    says = r.says;
    half_then = p0;
    is = is;
    same_phase = refl;
    same_begun = refl;
    fits = rest_fits turn r.acked r.why;
    lives = λ l. live_begun m.phase (sym (ap is_live (OwnPromised.phase_stays turn)) ∙ l);
    rests = λ l i. refl;
  }
    where
      live_begun : (ph : Phase) → is_live (live_phase ph) ≡ true → is_begun ph ≡ true
      live_begun Open e = refl
      live_begun Asked e = refl
      live_begun Idle e = absurd (cc)
      live_begun Over e = absurd (cc)

  -- Of one that moves a case that can still be decided.
  pub of_goes : (e : Effect) (ph : Phase) → is_live p0.phase ≡ true → Goes turn ph → is_begun ph ≡ true
      → (q : ParentHalf) → heard_so e c t p0 ≡ q → q.phase ≡ p0.phase → q.begun ≡ p0.begun → q.accepted
      ≡ p0.accepted
      → q.acked ≡ p0.acked → Fits_in turn (seen turn o0 q v0) → Hears turn e
  of_goes e ph l s b q is f g i j fits = record {
    phase = ph;
    accepted = p0.accepted;
    acked = p0.acked;
    says = s;
    half_then = q;
    is = is;
    same_phase = f;
    same_begun = g;
    fits = subst (λ (a : Bool). Fits_in turn
        (seen turn o0 (record q { accepted = a; acked = p0.acked }) v0)) i
        (subst (λ (a : Bool). Fits_in turn (seen turn o0 (record q { acked = a }) v0)) j fits);
    lives = λ x. b;
    rests = λ x y. absurd (let z = sym l ∙ x in cc);
  }

  pub plain_goes : (row : Row) (ph : Phase) → is_live p0.phase ≡ true → Goes turn ph → is_begun ph ≡ true
      → heard_so (row_effect c row) c t p0 ≡ p0 → Hears turn (row_effect c row)
  plain_goes row ph l s b is =
      of_goes (row_effect c row) ph l s b p0 is refl refl refl refl
      (unmoved c.txn.presumption (reading turn) inv)

  pub active_live : v.standing ≡ Active → is_live p0.phase ≡ true
  active_live e = ap is_live (OwnActive.active_phase turn e)

  -- a vote was heard
  pub heard_vote : (e : Effect) (u : Ticket) (w : Vote) → e.accepts ≡ [] → e.counts ≡ (c, (u, w)) ∷ []
      → heard_so e c t p0 ≡ heard w (same_ticket u t) p0
  heard_vote e u w none one = rw (none, one) (simp (same_case-refl, or-false))

  pub vote_goes : (e : Effect) (u : Ticket) (w : Vote) (i : CountsVote place n h c u w)
      → CoordinatorTurns.Consents w
      → e.accepts ≡ [] → e.counts ≡ (c, (u, w)) ∷ [] → (ph : Phase) → Goes turn ph → is_begun ph ≡ true
      → Hears turn e
  vote_goes e u w i k none one ph s b =
      of_goes e ph (ap is_live (Votes.phase turn u w i)) s b (heard w (same_ticket u t) p0)
      (heard_vote e u w none one) refl refl refl refl
      (Votes.hears turn u w i k)

  -- JOINED is accepted
  pub joined_goes : (u : Ticket) → HearsMessage h (Joined c u) → v.standing ≡ Active
      → has_child v.accepted u.child ≡ false
      → (row : Row) → row.accepts ≡ u ∷ [] → row.counts ≡ [] → Hears turn (row_effect c row)
  joined_goes u i e f row one none = record {
    phase = Open;
    accepted = p0.accepted || same_ticket u t;
    acked = p0.acked;
    says = OwnActive.joined_says turn u i e f;
    half_then = record p0 { took_part = same_ticket u t || p0.took_part };
    is = rw (one, none) (simp (same_case-refl, or-false));
    same_phase = refl;
    same_begun = refl;
    fits = subst (λ (x : Reading). Fits_in turn x) (sym (by_test (same_ticket u t)))
        (OwnActive.accepts_fits turn u i e (same_ticket u t) refl);
    lives = λ l. refl;
    rests = λ l x. absurd (let z = sym (active_live e) ∙ l in cc);
  }
    where
      by_test : (b : Bool) → seen turn o0
          (record p0 { accepted = p0.accepted || b; acked = p0.acked; took_part = b || p0.took_part }) v0
          ≡ (if b then ParentMoves.accepts (reading turn) else reading turn)
      by_test true = simp (or-true)
      by_test false = simp (or-false)
