-- A restart of a cascaded coordinator keeps the invariant of its pairs, whatever is left of its log.
use Rattle.std.proofs.Common.{◌≡◌, ◌∙◌, inl, inr, ◌||◌, ◌&&◌, ℕ, Bool, true, false, List, [], ◌∷◌, ◌++◌, take, drop, refl, sym, ap, subst, arith}
use Rattle.std.specs.Prelude.{not}
use Rattle.protocol.specs.declared.names.Case.{Case}
use Rattle.protocol.specs.declared.names.Presumption.{Presumption}
use Rattle.protocol.specs.declared.names.ProcessId.{ProcessId}
use Rattle.protocol.specs.declared.names.Ticket.{Ticket}
use Rattle.protocol.specs.declared.messages.Envelope.{Envelope}
use Rattle.protocol.specs.declared.messages.Message.{Message}
use Rattle.protocol.specs.declared.messages.Message.TheVariants.{Joined, Read}
use Rattle.protocol.specs.declared.records.Record.{Record}
use Rattle.protocol.specs.declared.standings.Standing.TheVariants.{Collecting}
use Rattle.protocol.specs.declared.trees.TreeProcess.{TreeProcess}
use Rattle.protocol.specs.Names.{child_case, process_of, same_case, same_process, same_ticket}
use Rattle.protocol.specs.NameLaws.{same_case_tells, same_process_tells}
use Rattle.protocol.specs.Records.{has, is_abort, is_commit, is_end, is_prepare}
use Rattle.protocol.specs.Memory.{Idle, Memory}
use Rattle.protocol.specs.Nodes.{Below, Node, Place, kept, role_of}
use Rattle.protocol.specs.Outcomes.{is_joined_message, is_read_message, sent}
use Rattle.protocol.specs.Reactions.{is_prepared_standing}
use Rattle.protocol.specs.Restarts.{coordinator_reopens, left_of, recorded_view, restart_fails, restarted, resumes}
use Rattle.protocol.specs.Views.{IsOpenAlike}
use Rattle.proof_pairs.specs.ChildCrash
use Rattle.proof_pairs.specs.Invariant.{Common}
use Rattle.proof_pairs.specs.Reading.{Reading}
use Rattle.proof_pairs.specs.readings.ReadingOf.{ParentHalf, Wire, reading_from, wire}
use Rattle.proof_pairs.proofs.readings.RestartStep.{promises}
use Rattle.proof_processes.specs.WorldHolds.{AllGo, GoesBy, InvariantOf, IsFree, IsPair, gives_other, is_record_of}
use Rattle.proof_processes.proofs.CaseFronts.{commit_behind_promise}
use Rattle.proof_processes.proofs.CaseOrders.{AllFit}
use Rattle.proof_processes.proofs.CoordinatorKept.{memory_empty}
use Rattle.proof_processes.proofs.GivenCases.{same_of, sent_other}
use Rattle.proof_processes.proofs.PairOf.{given}
use Rattle.proof_processes.proofs.Phases.{collecting_undecided, standing_at}
use Rattle.proof_processes.proofs.RootLogs.{idle_standing, recorded_stands}
use Rattle.proof_processes.proofs.Tests.{both, either, has-append, in_first, in_front, left, not_both, right}
use Rattle.proof_processes.proofs.Worlds.{has_other}
use Rattle.proof_steps.proofs.children.FailMoves
use Rattle.proof_steps.proofs.children.Moves
use Rattle.proof_steps.proofs.children.Moves.{Fits}
use Rattle.proof_steps.specs.cascades.Messages.{AllSentBy}
use Rattle.proof_steps.proofs.cascades.Ends.{EndsDecided, ends_front, ends_more, none_reopens}
use Rattle.proof_steps.proofs.cascades.Fails.{OwnFront, as_front, front_of}
use Rattle.proof_steps.proofs.cascades.Faults
use Rattle.proof_steps.proofs.cascades.Halves.{OwnHalf, as_child, own_half_at}
use Rattle.proof_steps.proofs.cascades.Messages.{hears, wire_behind}
use Rattle.proof_steps.proofs.cascades.Opens.{live, open_by_phase}
use Rattle.proof_steps.proofs.cascades.ReadCases.{Reads, said_read}
use Rattle.proof_steps.proofs.cascades.ReadSteps.{Keeps}
use Rattle.proof_steps.proofs.cascades.ReadsHold.{lost}
use Rattle.proof_steps.proofs.cascades.RestartHalves.{IsLost, aborted_collects, half_breaks, half_restarts, left_whole, reading-loses, reading-restarts, restarted_own}
use Rattle.proof_steps.proofs.cascades.Resumes.{in_doubt, resumed_said}
use Rattle.proof_steps.proofs.cascades.Turns.{opens}

both_more : (a b c d : Bool) → (a ≡ true → c ≡ true) → (b ≡ true → d ≡ true) → (a && b) ≡ true → (c && d)
    ≡ true
both_more a b c d f g e = grind arith

second : (a b : Bool) → (a && b) ≡ true → b ≡ true
second a b e = grind arith

-- READ of a case is said by its process

said_by_owner : (tree : List TreeProcess) (d : Case) (net : List Envelope) → AllGo tree net
    → sent (is_read_message d) net ≡ true → said_read (process_of d) d net ≡ true
unfolding sent
said_by_owner tree d [] g e = e
said_by_owner tree d (l ∷ ls) g e = elim (either (is_read_message d l.message) _ e) [
  | inl now ↦ left (same_process l.from (process_of d) && is_read_message d l.message)
      (said_read (process_of d) d ls)
      (by_message l.message refl now)
  | inr rest ↦ right (same_process l.from (process_of d) && is_read_message d l.message)
      (said_read (process_of d) d ls) (said_by_owner tree d ls g.1 rest)
]
  where
    and_true : (a b : Bool) → a ≡ true → b ≡ true → (a && b) ≡ true
    and_true a b e f = grind arith

    same : (a b : ProcessId) → a ≡ b → same_process a b ≡ true
    same a b f = elim (same_process_tells a b) [ inl s ↦ s.0 | inr o ↦ absurd (o.1 f) ]

    by_message : (m : Message) → l.message ≡ m → is_read_message d m ≡ true
        → (same_process l.from (process_of d) && is_read_message d l.message) ≡ true
    by_message (Read x) f k =
        and_true (same_process l.from (process_of d)) (is_read_message d l.message)
        (same l.from (process_of d)
        (sym (subst (λ (y : Message). GoesBy tree l y) f g.0).0
        ∙ ap process_of (same_of x d k)))
        (ap (is_read_message d) f ∙ k)
    by_message m f k = absurd (cc)

-- JOINED of a free ticket named the pair's case
gives_another : (c x : Case) (t : Ticket) → same_case x c ≡ false → (m : Message) → is_joined_message x t m
    ≡ true
    → gives_other c t m ≡ true
gives_another c x t e (Joined d u) f =
    let b = both (same_case d x) (same_ticket u t) f in
    and_not (same_ticket u t) (same_case d c) b.1 (ap (λ (y : Case). same_case y c) (same_of d x b.0) ∙ e)
  where
    and_not : (a b : Bool) → a ≡ true → b ≡ false → (a && not b) ≡ true
    and_not a b e f = grind arith
gives_another c x t e m f = absurd (cc)

pub joined_to : (net : List Envelope) (c x : Case) (t : Ticket) → IsFree net c t
    → sent (is_joined_message x t) net ≡ true → x ≡ c
joined_to net c x t free e = elim (same_case_tells x c) [
  | inl s ↦ s.1
  | inr o ↦ absurd (let k = sym free ∙ sent_other (is_joined_message x t) (gives_other c t) net
      (gives_another c x t o.0) e in cc)
]

module _ (c : Case) (t : Ticket) (p : ProcessId) (tree : List TreeProcess) (n : Node) (net : List Envelope)
    (fit : AllFit [] (kept n)) (ends : EndsDecided (kept n)) (keeps : Keeps t.child p tree net n)
    (reads : Reads (record { me = t.child; role = Below p; tree = tree }) net n) (go : AllGo tree net)
    (free : IsFree net c t) (pr : Presumption) (root outcome above : Bool) (half : ParentHalf) (o : Bool)
    (j : ℕ) where
  abbrev d : Case
  d = child_case c.txn t

  abbrev place : Place
  place = record { me = t.child; role = Below p; tree = tree }

  abbrev q : OwnHalf
  q = own_half_at o n d

  abbrev v : Wire
  v = wire c t net

  abbrev R : OwnHalf → Wire → Reading
  R x w = reading_from root false outcome above half (as_child x) w

  abbrev r0 : Reading
  r0 = R q v

  abbrev rs : List Record
  rs = left_of n j

  abbrev new : List Record
  new = coordinator_reopens rs

  abbrev front : OwnFront
  front = front_of d rs

  holds : (x : Record → Bool) → has x n.forced ≡ true → has x (left_of n j) ≡ true
  holds x e = in_first x n.forced (take j n.unforced) e

  had : (x : Record → Bool) → has x (left_of n j) ≡ true → has x (kept n) ≡ true
  had x e = ap (has x) (sym (left_whole t.child p tree n j d)) ∙ in_first x rs (drop j n.unforced) e

  whole_fit : AllFit [] (left_of n j ++ drop j n.unforced)
  whole_fit = subst (AllFit []) (sym (left_whole t.child p tree n j d)) fit

  ends_left : EndsDecided (left_of n j)
  ends_left = ends_front rs (drop j n.unforced) whole_fit
      (subst EndsDecided (sym (left_whole t.child p tree n j d)) ends)

  -- The Abort that it appends.

  collecting : has (is_abort d) (coordinator_reopens (left_of n j)) ≡ true
      → standing_at (left_of n j) d Idle ≡ Collecting
  collecting e = sym (recorded_stands d rs) ∙ aborted_collects d rs e

  unpromised : has (is_abort d) (coordinator_reopens (left_of n j)) ≡ true
      → has (is_prepare d) (left_of n j) ≡ false
  unpromised e = (collecting_undecided rs d Idle (collecting e)).no_prepare

  promise_of : (r : Record) → is_prepare d r ≡ true → is_record_of d r ≡ true
  promise_of r e = grind arith

  issued : has (is_prepare d) n.life ≡ true → v.issued ≡ true
  issued e =
      let g = keeps.issues.recorded_is_given d (has_other (is_prepare d)
      (is_record_of d) n.life promise_of e) in
      let y = given net c.txn t g.1 in
      subst (λ (x : Case). sent (is_joined_message x t) net ≡ true)
      (joined_to net c y.of t free y.joined) y.joined

  not_read : has (is_prepare d) n.life ≡ true → v.read ≡ false
  not_read e = by_test v.read refl
    where
      by_test : (b : Bool) → v.read ≡ b → v.read ≡ false
      by_test false f = f
      by_test true f = not_both (is_prepare d) (has (is_prepare d) n.life) e
          (reads.read_promised_nothing d (said_by_owner tree d net go f))

  lost_so : (aborted : Bool)
      → (aborted ≡ true → has (is_abort d) (coordinator_reopens (left_of n j)) ≡ true)
      → IsLost aborted (has (is_prepare d) n.life) front.prepare q.prepare_ever v.issued v.read
  lost_so aborted f e =
      let b = both aborted (has (is_prepare d) n.life) e in
      let a = f b.0 in (
        unpromised a,
        (
          lost t.child p tree net n keeps reads j d b.1 (idle_standing d rs (collecting a)) (unpromised a),
          (issued b.1, not_read b.1),
        ),
      )

  module _ (inv : InvariantOf pr r0) where
    common : Common r0
    common = Moves.common_of pr r0 inv

    is_front : ChildCrash.IsChildFront (as_front front) r0
    is_front = record {
      holds_prepared = holds (is_prepare d);
      holds_learnt_commit = holds (is_commit d);
      holds_learnt_abort = both_more (has (is_abort d) n.forced) (has (is_prepare d) n.forced)
          (has (is_abort d) rs) (has (is_prepare d) rs) (holds (is_abort d)) (holds (is_prepare d));
      holds_heuristic = λ x. absurd (cc);
      holds_forgot = λ x. absurd (cc);
      had_prepared = had (is_prepare d);
      had_learnt_commit = had (is_commit d);
      had_learnt_abort = both_more (has (is_abort d) rs) (has (is_prepare d) rs)
          (has (is_abort d) (kept n)) (has (is_prepare d) (kept n)) (had (is_abort d)) (had (is_prepare d));
      had_heuristic = λ x. absurd (cc);
      had_forgot = λ x. absurd (cc);
      heuristic_behind_prepared = λ x. absurd (cc);
      commit_behind_prepared = λ x. commit_behind_promise d rs (drop j n.unforced) whole_fit x
          (ap (has (is_prepare d)) (left_whole t.child p tree n j d)
          ∙ (common.learnt_commit_stands_behind (had (is_commit d) x)).0);
      abort_behind_prepared = λ x. second (has (is_abort d) rs) (has (is_prepare d) rs) x;
      commit_behind_heuristic = λ x y. absurd (cc);
      abort_behind_heuristic = λ x y. absurd (cc);
      forgot_behind_heuristic = λ x. absurd (cc);
      same_decision = λ x. refl;
    }

    -- The net: it asks for the outcome of a case in doubt.

    abbrev all_then : List Record
    all_then = left_of n j ++ coordinator_reopens (left_of n j)

    ends_then : EndsDecided all_then
    ends_then = ends_more rs new (λ x. none_reopens (is_end x) (λ i. refl) (λ y ts. refl) rs)
        (λ x. none_reopens (is_prepare x) (λ i. refl) (λ y ts. refl) rs) ends_left

    only_left : (x : Record → Bool) → has x new ≡ false → has x all_then ≡ has x (left_of n j)
    only_left x none = has-append x rs new ∙ (ap (λ b. has x rs || b) none ∙ or-false (has x rs))
      where
        or-false : (a : Bool) → (a || false) ≡ a
        or-false a = grind arith

    apart_abort : (l a f : Bool) → (a ≡ true → f ≡ false) → ((l || a) && f) ≡ (l && f)
    apart_abort l a f e = grind arith

    asks : is_prepared_standing (recorded_view all_then d).standing
        ≡ (front.prepare && not front.commit && not (front.abort && front.prepare) && not false)
    asks =
        in_doubt all_then d (ends_then d)
        ∙ rw (
          only_left (is_prepare d) (none_reopens (is_prepare d) (λ i. refl) (λ y ts. refl) rs),
          only_left (is_commit d) (none_reopens (is_commit d) (λ i. refl) (λ y ts. refl) rs),
          has-append (is_abort d) rs new,
          apart_abort (has (is_abort d) rs) (has (is_abort d) new) (has (is_prepare d) rs) unpromised,
        ) refl

    -- The restart.

    closed : (k : Node) → k.failed ≡ false → k.heard ≡ [] → IsOpenAlike place k d → opens place k d ≡ false
    closed k up e a =
        open_by_phase place k d up a ∙ ap (λ (m : Memory). live m.phase) (memory_empty place k d e)

    pub restart_fits : (below : role_of tree t.child ≡ Below p) → (p ≡ t.child → ⊥) → IsPair tree c t
        → IsOpenAlike place (restarted place n j) d
        → AllSentBy t.child (resumes (Below p) t.child all_then)
        → AllGo tree (resumes (Below p) t.child all_then)
        → Fits pr r0 (R (own_half_at (opens place (restarted place n j) d) (restarted place n j) d)
        (wire c t (net ++ resumes (Below p) t.child all_then)))
    restart_fits below apart pair a sent_here goes =
        let k = restarted place n j in
        let ls = resumes (Below p) t.child all_then in
        let said = promises r0 common in
        let x = own_half_at (opens place k d) k d in
        let same : x ≡ own_half_at false k d = ap (λ y. own_half_at y k d) (closed k refl refl a) in
        let heard : wire c t (net ++ ls) ≡ record v {
          inquire = (front.prepare && not front.commit && not
              (front.abort && front.prepare) && not false) || v.inquire;
        } =
        wire_behind tree t.child p below apart c t pair refl net ls sent_here goes
        ∙ (ap (λ s. hears s v) (resumed_said c t t.child p all_then)
        ∙ ap (λ y. record v { inquire = y || v.inquire }) asks) in
        subst (λ (z : OwnHalf). Fits pr r0 (R z (wire c t (net ++ ls))))
        (sym (same ∙ half_restarts t.child p tree n j d o))
        (subst (λ (w : Wire). Fits pr r0 (R (restarted_own false front
        (record {
          prepare = front.prepare;
          commit = front.commit;
          abort = front.abort || has
              (is_abort d) new;
        })
        (has (is_abort d) new) (has (is_prepare d) n.life) q) w)) (sym heard)
        (subst (λ (z : Reading). Fits pr r0 z)
        (sym (reading-restarts root outcome above half q v front front (has (is_abort d) new)
        (has (is_prepare d) n.life)
        said.quiet_open (had (is_prepare d)) (λ y z. holds (is_prepare d) (said.once y z)) said.asked
        (lost_so (has (is_abort d) new) (λ y. y)) unpromised))
        (FailMoves.restarts pr (as_front front) r0 inv is_front)))

    -- The device fails in it.

    pub restart_breaks : (a f : ℕ) → AllFit [] (kept (restart_fails place n j a f))
        → Fits pr r0 (R (own_half_at false (restart_fails place n j a f) d) v)
    restart_breaks a f fit_then =
        let k = restart_fails place n j a f in
        let s = ChildCrash.child_loses (as_front front) r0 in
        let said = promises r0 common in
        let some = λ (y : has (is_abort d) (take a new) ≡ true). in_front (is_abort d) a new y in
        let same = half_breaks t.child p tree n j d a f o (λ y. (common.child_forced_promise y).1) in
        Faults.fails_as d n v pr root outcome above half o inv k fit_then
        (λ x y. in_first x n.forced (take f (take j n.unforced ++ take a new)) y) s
        (ap (λ (z : OwnHalf). R z v) same
        ∙ reading-loses root outcome above half q v front (front_of d k.forced)
        (has (is_abort d) (take a new))
        (has (is_prepare d) n.life) said.quiet_open (had (is_prepare d))
        (λ y z. holds (is_prepare d) (said.once y z)) said.asked
        (lost_so (has (is_abort d) (take a new)) some)
        (λ y. unpromised (some y))
        (λ y. sym (ap (λ (z : OwnHalf). z.prepare_kept) same)
        ∙ in_first (is_prepare d) k.forced k.unforced y))
        (FailMoves.loses pr (as_front front) r0 inv is_front)
        (record {
          failed = refl;
          prepared = refl;
          learnt_commit = refl;
          learnt_abort = refl;
          no_heuristic = refl;
          never_heuristic = refl;
          no_forgot = refl;
        })
