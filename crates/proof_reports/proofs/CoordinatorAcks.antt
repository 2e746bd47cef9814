-- When a coordinator acknowledges by the second version, and with what findings.
use Rattle.std.proofs.Common.{◌≡◌, ◌∙◌, inl, inr, Bool, true, false, Option, Some, None, List, [], ◌∷◌, ◌++◌, refl, sym, ap, subst, if◌then◌else◌}
use Rattle.std.specs.List.{flat_map}
use Rattle.std.specs.Prelude.{map}
use Rattle.protocol.specs.declared.names.Case.{Case}
use Rattle.protocol.specs.declared.names.ProcessId.{ProcessId}
use Rattle.protocol.specs.declared.names.Presumption.{Presumption}
use Rattle.protocol.specs.declared.names.Presumption.TheVariants.{PresumeAbort, PresumeCommit}
use Rattle.protocol.specs.declared.names.Ticket.{Ticket}
use Rattle.protocol.specs.declared.names.Outcome.{Outcome}
use Rattle.protocol_words.specs.Variants.{AbortRecord, AbortedOutcome, CommittedOutcome, EndRecord}
use Rattle.protocol.specs.declared.messages.Finding.{Finding}
use Rattle.protocol.specs.declared.messages.Message.{Message}
use Rattle.protocol.specs.declared.messages.Message.TheVariants.{Abort, Ack, Commit, Inquire, No, Read, Yes}
use Rattle.protocol.specs.declared.messages.Envelope.{Envelope}
use Rattle.protocol.specs.declared.records.Record.{Record}
use Rattle.protocol.specs.declared.records.Reports.{Reports}
use Rattle.protocol.specs.declared.standings.Standing.{Standing}
use Rattle.protocol.specs.declared.standings.Standing.TheVariants.{Unknown, Active, Collecting, Prepared, Committing, Aborting, Heuristic}
use Rattle.protocol.specs.Names.{child_case, presumed}
use Rattle.protocol.specs.Records.{in_order, none_of}
use Rattle.protocol.specs.Nodes.{Effect, First, Heard, Node, Place, Second, Version, Written}
use Rattle.protocol.specs.CoordinatorRows.{Row, Seat, abort_answered, acknowledges_abort, acknowledges_at_last, acknowledges_at_once, each, forced, other_tickets, posted_up, tells_outcome}
use Rattle.protocol.specs.Reactions.{seat_of}
use Rattle.protocol.specs.Restarts.{coordinator_resumes, recorded_view, resumes_by}
use Rattle.protocol.specs.Standings.{CoordinatorView, coordinator_view, found_below, unknown_findings}
use Rattle.proof_pairs.specs.turns.CoordinatorTurns.{Acknowledges, CaseTurn, CoordinatorTurn, HasDecided, HearsChild, abort_act, abort_again, abort_comes, abort_presumed_commit, accepts, acknowledges, aborts, clears, answers, asks, asks_for_votes, begins, commit_again, commit_presumed_abort, commits, counts_vote, does_nothing, ends, finds_nobody, gives_again, gives_fresh, gives_up, hears_no, invites, of_case, passes_abort, passes_commit, presumes, promises, reads_only, refuses, repeats_yes, rests, sends_work, waits_for_acks}
use Rattle.proof_reports.specs.SinceOpened.{IsAmong}
use Rattle.proof_reports.proofs.Found.{among_either}

module _ (d : Case) (o : Outcome) (fs : List Finding) where
  abbrev Among : List Envelope → Type 0
  Among ls = IsAmong (Ack d o fs) ls

  never_each : {A : Type 0} (s : Seat) (f : Case → Message) → ((c : Case) → f c ≡ Ack d o fs → ⊥)
      → (ts : List Ticket) → Among (each s f ts) → A
  never_each s f differs [] i = absurd i
  never_each s f differs (t ∷ ts) (inl e) = absurd (differs (child_case s.own.txn t) e)
  never_each s f differs (t ∷ ts) (inr i) = never_each s f differs ts i

  never_map : {A : Type 0} (f : Ticket → Envelope) → ((t : Ticket) → (f t).message ≡ Ack d o fs → ⊥)
      → (ts : List Ticket) → Among (map f ts) → A
  never_map f differs [] i = absurd i
  never_map f differs (t ∷ ts) (inl e) = absurd (differs t e)
  never_map f differs (t ∷ ts) (inr i) = never_map f differs ts i

  no_abort : (c : Case) → Abort c ≡ Ack d o fs → ⊥
  no_abort c e = cc

  no_commit : (c : Case) → Commit c ≡ Ack d o fs → ⊥
  no_commit c e = cc

  pub one_up : (me : ProcessId) (parent : Option ProcessId) (m : Message) → Among (posted_up me parent m)
      → m ≡ Ack d o fs
  one_up me None m i = absurd i
  one_up me (Some p) m (inl e) = e
  one_up me (Some p) m (inr i) = absurd i

  -- it is this one
  pub record Same (c : Case) (p : Outcome) (gs : List Finding) : Type 0 where
    pub case_so : c ≡ d
    pub outcome_so : p ≡ o
    pub found_so : gs ≡ fs

  same : (c : Case) (p : Outcome) (gs : List Finding) → Ack c p gs ≡ Ack d o fs → Same c p gs
  same c p gs e = record {
    case_so = let f : c ≡ d = cc in f;
    outcome_so = let f : p ≡ o = cc in f;
    found_so = let f : gs ≡ fs = cc in f;
  }

  pub tells_no_ack : (p : Outcome) (c : Case) → tells_outcome p c ≡ Ack d o fs → ⊥
  tells_no_ack CommittedOutcome c e = cc
  tells_no_ack AbortedOutcome c e = cc

  -- A restart acknowledges nothing.

  resumed_none : {A : Type 0} (s : Seat) (v : CoordinatorView) (st : Standing) → Among (resumes_by s v st) → A
  resumed_none s v Committing i = never_each s Commit no_commit v.owed i
  resumed_none s v Aborting i = never_each s Abort no_abort v.owed i
  resumed_none s v Prepared i = absurd (let e = one_up s.me s.parent (Inquire s.own) i in cc)
  resumed_none s v Unknown i = absurd i
  resumed_none s v Active i = absurd i
  resumed_none s v Collecting i = absurd i
  resumed_none s v Heuristic i = absurd i

  pub flat_none : (f : Case → List Envelope) → ((c : Case) → Among (f c) → ⊥) → (cs : List Case)
      → Among (flat_map f cs) → ⊥
  flat_none f differs [] i = i
  flat_none f differs (c ∷ cs) i = elim (among_either (Ack d o fs) (f c) (flat_map f cs) i) [
    | inl a ↦ differs c a
    | inr b ↦ flat_none f differs cs b
  ]

  pub resumes_none : (me : ProcessId) (parent : Option ProcessId) (rs : List Record) (cs : List Case)
      → Among (flat_map (coordinator_resumes me parent rs) cs) → ⊥
  resumes_none me parent rs cs =
      flat_none (coordinator_resumes me parent rs)
      (λ c i. resumed_none (record { me = me; parent = parent; own = c }) (recorded_view rs c)
      (recorded_view rs c).standing i) cs

-- How a case comes to acknowledge: nothing is known of it; or it gives up while it is open, or with nobody to
-- wait for; or the last acknowledgement has come.
pub data AcksBy (place : Place) (parent : Option ProcessId) (n : Node) (h : Heard) (c : Case)
    (ws : List Written)
    (o : Outcome) (fs : List Finding) : Type 0 where
  unknown_acks : unknown_findings Second c ≡ fs → AcksBy place parent n h c ws o fs
  open_acks : ws ≡ [] → (coordinator_view place n c).standing ≡ Active → AcksBy place parent n h c ws o fs
  alone_acks : (us : List Ticket) → ws ≡ forced (AbortRecord c us) → none_of us ≡ true
      → (coordinator_view place n c).standing ≡ Collecting → AcksBy place parent n h c ws o fs
  last_acks : (t : Ticket) (gs : List Finding) → HearsChild place n h c t (λ d. Ack d o gs)
      → HasDecided o (coordinator_view place n c).standing
      → none_of (other_tickets t (coordinator_view place n c).owed) ≡ true
      → in_order (found_below place n c o gs) ≡ fs → (r : Option Reports) (b : Bool)
      → ws ≡ record { entry = EndRecord c r; is_forced = b } ∷ [] → AcksBy place parent n h c ws o fs

module _ (place : Place) (parent : Option ProcessId) (n : Node) (h : Heard) (second : h.version ≡ Second)
    (d : Case) (o : Outcome) (fs : List Finding)
  where
    abbrev AmongThem : List Envelope → Type 0
    AmongThem ls = IsAmong (Ack d o fs) ls

    abbrev By : Case → List Written → Type 0
    By c ws = (c ≡ d) × AcksBy place parent n h c ws o fs

    -- an abort that is acknowledged
    abort_up : (s : Seat) (p : Presumption) → AmongThem (acknowledges_abort s p) → s.own ≡ d
    abort_up s PresumeAbort i = absurd i
    abort_up s PresumeCommit i =
        (same d o fs s.own AbortedOutcome [] (one_up d o fs s.me s.parent
        (Ack s.own AbortedOutcome []) i)).case_so

    answered : (s : Seat) (v : Version) → v ≡ Second → (us : List Ticket) → AmongThem (abort_answered s v us)
        → (none_of us ≡ true) × AmongThem (acknowledges_abort s s.own.txn.presumption)
    answered s First e us i = absurd (cc)
    answered s Second e us i = by_none (none_of us) refl i
      where
        by_none : (b : Bool) → none_of us ≡ b
            → AmongThem (if b then acknowledges_abort s s.own.txn.presumption else [])
            → (none_of us ≡ true) × AmongThem (acknowledges_abort s s.own.txn.presumption)
        by_none true f j = (f, j)
        by_none false f j = absurd j

    once_none : {A : Type 0} (v : Version) → v ≡ Second → (s : Seat) (p : Outcome)
        → AmongThem (acknowledges_at_once v s p) → A
    once_none First e s p i = absurd (cc)
    once_none Second e s p i = absurd i

    last_up : (v : Version) → v ≡ Second → (s : Seat) (p : Outcome) (gs : List Finding)
        → AmongThem (acknowledges_at_last v s p gs) → Same d o fs s.own p (in_order gs)
    last_up First e s p gs i = absurd i
    last_up Second e s p gs i =
        same d o fs s.own p (in_order gs) (one_up d o fs s.me s.parent (Ack s.own p (in_order gs)) i)

    unknown_is : (v : Version) → v ≡ Second → (c : Case) (p : Outcome) (q : Presumption) (st : Standing)
        (gs : List Finding) → Acknowledges v c p q st gs → unknown_findings Second c ≡ gs
    unknown_is _ e _ _ _ _ _ (commit_presumed_abort v c) = ap (λ (x : Version). unknown_findings x c) (sym e)
    unknown_is _ e _ _ _ _ _ (commit_again c p) = absurd (cc)
    unknown_is _ e _ _ _ _ _ (abort_presumed_commit v c) = ap (λ (x : Version). unknown_findings x c) (sym e)
    unknown_is _ e _ _ _ _ _ (abort_again c p) = absurd (cc)

    either_way : {A : Type 0} (xs ys : List Envelope) → AmongThem (xs ++ ys) → (AmongThem xs → A)
        → (AmongThem ys → A) → A
    either_way xs ys i f g = elim (among_either (Ack d o fs) xs ys i) [ inl a ↦ f a | inr b ↦ g b ]

    each_none : {A : Type 0} (c : Case) (ts : List Ticket)
        → AmongThem (each (seat_of place parent c) Abort ts) → A
    each_none c ts i = never_each d o fs (seat_of place parent c) Abort (no_abort d o fs) ts i

    commits_none : {A : Type 0} (c : Case) (ts : List Ticket)
        → AmongThem (each (seat_of place parent c) Commit ts) → A
    commits_none c ts i = never_each d o fs (seat_of place parent c) Commit (no_commit d o fs) ts i

    up_none : {A : Type 0} (m : Message) → (m ≡ Ack d o fs → ⊥) → AmongThem (posted_up place.me parent m) → A
    up_none m differs i = absurd (differs (one_up d o fs place.me parent m i))

    -- a case that collects and has nobody to wait for
    alone : (c : Case) (us : List Ticket) → (coordinator_view place n c).standing ≡ Collecting
        → AmongThem (abort_answered (seat_of place parent c) h.version us)
        → By c (forced (AbortRecord c us))
    alone c us at i =
        let a = answered (seat_of place parent c) h.version second us i in
        (abort_up (seat_of place parent c) c.txn.presumption a.1, alone_acks us refl a.0 at)

    never_alone : {A : Type 0} (c : Case) (us : List Ticket) → c.txn.presumption ≡ PresumeAbort
        → AmongThem (abort_answered (seat_of place parent c) h.version us) → A
    never_alone c us f i =
        let a = answered (seat_of place parent c) h.version second us i in
        absurd (subst (λ (p : Presumption). AmongThem (acknowledges_abort (seat_of place parent c) p)) f a.1)

    at_last : (c : Case) (t : Ticket) (p : Outcome) (gs : List Finding)
        → HearsChild place n h c t (λ x. Ack x p gs)
        → HasDecided p (coordinator_view place n c).standing
        → none_of (other_tickets t (coordinator_view place n c).owed) ≡ true → (r : Option Reports) (b : Bool)
        → Same d o fs c p (in_order (found_below place n c p gs))
        → By c (record { entry = EndRecord c r; is_forced = b } ∷ [])
    at_last c t p gs hears from last r b k = (
      k.case_so,
      subst (λ (q : Outcome). AcksBy place parent n h c
          (record { entry = EndRecord c r; is_forced = b } ∷ []) q fs)
          k.outcome_so (acks_so p (from) hears k.found_so),
    )
      where
        acks_so : (q : Outcome) → HasDecided q (coordinator_view place n c).standing
            → HearsChild place n h c t (λ x. Ack x q gs) → in_order (found_below place n c q gs) ≡ fs
            → AcksBy place parent n h c (record { entry = EndRecord c r; is_forced = b } ∷ []) q fs
        acks_so q from' hears' found = last_acks t gs hears' from' last found r b refl

    case_acks : (c : Case) (row : Row) → CaseTurn place parent n h c row → AmongThem row.messages
        → By c row.written
    case_acks c _ (rests r) i = absurd i
    case_acks c _ (invites q e s k a) (inl i) = absurd (cc)
    case_acks c _ (invites q e s k a) (inr i) = absurd i
    case_acks c _ (accepts t e s a) i = absurd i
    case_acks c _ (sends_work q t op e s k l) (inl i) = absurd (cc)
    case_acks c _ (sends_work q t op e s k l) (inr i) = absurd i
    case_acks c _ (finds_nobody e s f) i = up_none (Read c) (λ x. cc) i
    case_acks c _ (asks_for_votes PresumeAbort e s f g) i =
        never_map d o fs _ (λ t x. cc) (coordinator_view place n c).accepted i
    case_acks c _ (asks_for_votes PresumeCommit e s f g) i =
        never_map d o fs _ (λ t x. cc) (coordinator_view place n c).accepted i
    case_acks c _ (gives_up why p e s f) i =
        either_way (acknowledges_abort (seat_of place parent c) p)
        (each (seat_of place parent c) Abort (coordinator_view place n c).accepted) i
        (λ j. (abort_up (seat_of place parent c) p j, open_acks refl s))
        (λ j. each_none c (coordinator_view place n c).accepted j)
    case_acks c _ (counts_vote t w v k e) i = absurd i
    case_acks c _ (reads_only t w ys p v e f) i = up_none (Read c) (λ x. cc) i
    case_acks c _ (commits t w ys PresumeAbort v e f g) i = commits_none c ys i
    case_acks c _ (commits t w ys PresumeCommit v e f g) i = commits_none c ys i
    case_acks c _ (promises t w ys p v e f) i = up_none (Yes c) (λ x. cc) i
    case_acks c _ (hears_no t us PresumeAbort v e f) i =
        either_way (posted_up place.me parent (No c)) (each (seat_of place parent c) Abort us) i
        (λ j. up_none (No c) (λ x. cc) j) (λ j. each_none c us j)
    case_acks c _ (hears_no t us PresumeCommit v e f) i =
        either_way (posted_up place.me parent (No c)) (each (seat_of place parent c) Abort us) i
        (λ j. up_none (No c) (λ x. cc) j) (λ j. each_none c us j)
    case_acks c _ (aborts _ us PresumeAbort (abort_act x e e') s f g) i = each_none c us i
    case_acks c _ (aborts _ us PresumeCommit (abort_act x e e') s f g) i = each_none c us i
    case_acks c _ (aborts _ us PresumeAbort (abort_comes q e e') s f g) i =
        either_way (abort_answered (seat_of place parent c) h.version us)
        (each (seat_of place parent c) Abort us) i
        (λ j. never_alone c us g j) (λ j. each_none c us j)
    case_acks c _ (aborts _ us PresumeCommit (abort_comes q e e') s f g) i =
        either_way (abort_answered (seat_of place parent c) h.version us)
        (each (seat_of place parent c) Abort us) i
        (λ j. alone c us s j) (λ j. each_none c us j)
    case_acks c _ (passes_commit PresumeAbort e s f) i =
        either_way (acknowledges_at_once h.version (seat_of place parent c) CommittedOutcome)
        (each (seat_of place parent c) Commit (coordinator_view place n c).promised) i
        (λ j. once_none h.version second (seat_of place parent c) CommittedOutcome j)
        (λ j. commits_none c (coordinator_view place n c).promised j)
    case_acks c _ (passes_commit PresumeCommit e s f) i =
        commits_none c (coordinator_view place n c).promised i
    case_acks c _ (passes_abort PresumeAbort e s f) i = each_none c (coordinator_view place n c).promised i
    case_acks c _ (passes_abort PresumeCommit e s f) i =
        either_way (acknowledges_at_once h.version (seat_of place parent c) AbortedOutcome)
        (each (seat_of place parent c) Abort (coordinator_view place n c).promised) i
        (λ j. once_none h.version second (seat_of place parent c) AbortedOutcome j)
        (λ j. each_none c (coordinator_view place n c).promised j)
    case_acks c _ (repeats_yes k e s) i = up_none (Yes c) (λ x. cc) i
    case_acks c _ (asks e s) i = up_none (Inquire c) (λ x. cc) i
    case_acks c _ (refuses k e r) i = up_none (No c) (λ x. cc) i
    case_acks c _ (acknowledges p gs e a) i =
        let k = same d o fs c p gs (one_up d o fs place.me parent (Ack c p gs) i) in (
          k.case_so,
          unknown_acks (unknown_is h.version second c p c.txn.presumption
              (coordinator_view place n c).standing gs a
              ∙ k.found_so),
        )
    case_acks c _ (waits_for_acks t p gs e f g j) i = absurd i
    case_acks c _ (ends t p gs e f g j) i =
        at_last c t p gs e f j _ _
        (last_up h.version second (seat_of place parent c) p (found_below place n c p gs) i)
    case_acks c _ (clears e a f g) i = absurd i
    case_acks c _ (answers t p e a) (inl i) = absurd (tells_no_ack d o fs p (child_case c.txn t) i)
    case_acks c _ (answers t p e a) (inr i) = absurd i

    pub turn_acks : (e : Effect) → CoordinatorTurn place parent n h e → AmongThem e.messages
        → AcksBy place parent n h d e.written o fs
    turn_acks _ (does_nothing j) i = absurd i
    turn_acks _ (of_case c row t) i =
        let k = case_acks c row t i in
        subst (λ (x : Case). AcksBy place parent n h x row.written o fs) k.0 k.1
    turn_acks _ (begins p a e) i = absurd i
    turn_acks _ (gives_again p x t a e f) (inl i) = absurd (cc)
    turn_acks _ (gives_again p x t a e f) (inr i) = absurd i
    turn_acks _ (gives_fresh p x a e f) (inl i) = absurd (cc)
    turn_acks _ (gives_fresh p x a e f) (inr i) = absurd i
    turn_acks _ (presumes x t e f) (inl i) =
        absurd (tells_no_ack d o fs (presumed x.presumption) (child_case x t) i)
    turn_acks _ (presumes x t e f) (inr i) = absurd i
