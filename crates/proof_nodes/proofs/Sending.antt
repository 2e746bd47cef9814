-- A decision that a process keeps, and has not ended, was sent to whom it names.
use Rattle.std.proofs.Common.{◌≡◌, ◌∙◌, ◌||◌, ℕ, Bool, true, false, if◌then◌else◌, Option, Some, None, List, [], ◌∷◌, ◌++◌, length, map, slice_get, inl, inr, refl, sym, ap, subst, append_assoc}
use Rattle.std.specs.List.{AllByRecursion, flat_map}
use Rattle.std.proofs.lemmas.List.{append-nil}
use Rattle.std.proofs.lemmas.Grind.{flat_map-append}
use Rattle.protocol.specs.declared.messages.Envelope.{Envelope}
use Rattle.protocol.specs.declared.names.Case.{Case}
use Rattle.protocol.specs.declared.names.Outcome.{Outcome}
use Rattle.protocol_words.specs.Variants.{AbortRecord, AbortedOutcome, CommitRecord, CommittedOutcome, EndRecord}
use Rattle.protocol.specs.declared.names.Presumption.{Presumption}
use Rattle.protocol.specs.declared.names.Presumption.TheVariants.{PresumeAbort, PresumeCommit}
use Rattle.protocol.specs.declared.names.ProcessId.{ProcessId}
use Rattle.protocol.specs.declared.names.Ticket.{Ticket}
use Rattle.protocol.specs.declared.records.Record.{Record}
use Rattle.protocol.specs.declared.records.Record.TheVariants.{Opened}
use Rattle.protocol.specs.declared.records.Reports.{Reports}
use Rattle.protocol.specs.declared.standings.Standing.{Standing}
use Rattle.protocol_words.specs.standing
use Rattle.protocol.specs.CoordinatorRows.{Seat}
use Rattle.protocol.specs.Memory.{Idle, fresh_memory}
use Rattle.protocol.specs.NameLaws.{same_case-refl}
use Rattle.protocol.specs.Names.{same_case}
use Rattle.protocol.specs.Nodes.{AtLeaf, AtRoot, Below, IsCoordinator, Role}
use Rattle.protocol.specs.Records.{cases_in, has, has_case, is_abort, is_collecting, is_commit, is_end, is_prepare, none_of, owing_by, owing_in, record_case}
use Rattle.protocol.specs.Restarts.{case_stays, coordinator_resumes, recorded_view, resumes_by, staying, stays}
use Rattle.protocol.specs.Standings.{coordinator_standing, phase_standing, standing_by, view_at}
use Rattle.proof_processes.specs.WorldHolds.{is_of, is_record_of}
use Rattle.proof_processes.proofs.Tests.{case_is, either, first_false, has-append, has-cons, has-nil, right, second_false}
use Rattle.proof_processes.proofs.Worlds.{has_other}
use Rattle.proof_steps.proofs.crashes.Named.{all_owed}
use Rattle.proof_runs.proofs.worlds.Cases.{recorded_listed}
use Rattle.node_engine.specs.Again.{decided_by, telling, tellings_by}

-- Lists of messages.

-- the message is one of these
pub record Among (e : Envelope) (net : List Envelope) : Type 0 where
  pub front : List Envelope
  pub rest : List Envelope
  pub parts : net ≡ front ++ e ∷ rest

abbrev pub AreAmong : List Envelope → List Envelope → Type 0
AreAmong net es = AllByRecursion (λ e. Among e net) es

at_front : (front rest : List Envelope) (e : Envelope) → slice_get (front ++ e ∷ rest) (length front) ≡ Some e
at_front [] rest e = refl
at_front (x ∷ front) rest e = at_front front rest e

pub stands_in : (e : Envelope) (net : List Envelope) → Among e net → (place : ℕ)
    × (slice_get net place ≡ Some e)
stands_in e net h = (
  length h.front,
  ap (λ (xs : List Envelope). slice_get xs (length h.front)) h.parts
      ∙ at_front h.front h.rest e,
)

among_more : (net more : List Envelope) (e : Envelope) → Among e net → Among e (net ++ more)
among_more net more e h = record {
  front = h.front;
  rest = h.rest ++ more;
  parts = ap (λ (xs : List Envelope). xs ++ more) h.parts ∙ append_assoc h.front (e ∷ h.rest) more;
}

pub all_more : (net more es : List Envelope) → AreAmong net es → AreAmong (net ++ more) es
all_more net more [] h = tt
all_more net more (e ∷ es) h = (among_more net more e h.0, all_more net more es h.1)

-- these are in a list between others
pub between : (front es rest : List Envelope) → AreAmong (front ++ (es ++ rest)) es
between front [] rest = tt
between front (e ∷ es) rest = (
  record { front = front; rest = es ++ rest; parts = refl },
  subst (λ (xs : List Envelope). AreAmong xs es) (append_assoc front (e ∷ []) (es ++ rest))
      (between (front ++ e ∷ []) es rest),
)

-- they are at its end
pub at_end : (front es : List Envelope) → AreAmong (front ++ es) es
at_end front es = subst (λ (xs : List Envelope). AreAmong (front ++ xs) es) (append-nil es)
    (between front es [])

-- What was sent of a case's decision.

-- while the case has not ended, its decision was sent to whom it names
pub record Sent (net : List Envelope) (me : ProcessId) (rs : List Record) (c : Case) : Type 0 where
  pub committed : has (is_end c) rs ≡ false → has (is_commit c) rs ≡ true
      → AreAmong net (map (telling me c CommittedOutcome) (owing_by c rs))
  pub aborted : has (is_end c) rs ≡ false → has (is_commit c) rs ≡ false → has (is_abort c) rs ≡ true
      → AreAmong net (map (telling me c AbortedOutcome) (owing_by c rs))

-- two lists of records say the same of a case's decision
pub record Alike (xs ys : List Record) (c : Case) : Type 0 where
  pub ended : has (is_end c) xs ≡ has (is_end c) ys
  pub committed : has (is_commit c) xs ≡ has (is_commit c) ys
  pub aborted : has (is_abort c) xs ≡ has (is_abort c) ys
  pub owing : owing_by c xs ≡ owing_by c ys

module _ (net : List Envelope) (me : ProcessId) where
  pub sent_more : (more : List Envelope) (rs : List Record) (c : Case) → Sent net me rs c
      → Sent (net ++ more) me rs c
  sent_more more rs c h = record {
    committed = λ e k. all_more net more _ (h.committed e k);
    aborted = λ e k a. all_more net more _ (h.aborted e k a);
  }

  pub sent_alike : (xs ys : List Record) (c : Case) → Alike xs ys c → Sent net me ys c → Sent net me xs c
  sent_alike xs ys c a h = record {
    committed = λ e k. subst (λ (ts : List Ticket). AreAmong net (map (telling me c CommittedOutcome) ts))
        (sym a.owing)
        (h.committed (sym a.ended ∙ e) (sym a.committed ∙ k));
    aborted = λ e k b. subst (λ (ts : List Ticket). AreAmong net (map (telling me c AbortedOutcome) ts))
        (sym a.owing)
        (h.aborted (sym a.ended ∙ e) (sym a.committed ∙ k) (sym a.aborted ∙ b));
  }

-- By the view of a case.

idle_decides : (p : Presumption) → decided_by (phase_standing p Idle) ≡ None
idle_decides PresumeAbort = refl
idle_decides PresumeCommit = refl

pub some_are : (a b : List Envelope) → Some a ≡ Some b → a ≡ b
some_are a b e = cc

module _ (me : ProcessId) (c : Case) where
  -- what is sent once more, by the records alone
  abbrev pub resent : List Record → Option (List Envelope)
  resent rs = let v = recorded_view rs c in tellings_by me c v v.standing

  abbrev resent_to : List Ticket → Option Outcome → Option (List Envelope)
  resent_to ts None = None
  resent_to ts (Some o) = Some (map (telling me c o) ts)

  by_standing : (s : Standing) (rs : List Record) → let v = view_at s rs c fresh_memory in
      tellings_by me c v v.standing ≡ resent_to (owing_by c rs) (decided_by s)
  by_standing standing.Unknown rs = refl
  by_standing standing.Active rs = refl
  by_standing standing.Collecting rs = refl
  by_standing standing.Prepared rs = refl
  by_standing standing.Heuristic rs = refl
  by_standing standing.Committing rs =
      ap (λ (ts : List Ticket). Some (map (telling me c CommittedOutcome) ts))
      (all_owed CommittedOutcome (owing_by c rs))
  by_standing standing.Aborting rs =
      ap (λ (ts : List Ticket). Some (map (telling me c AbortedOutcome) ts))
      (all_owed AbortedOutcome (owing_by c rs))

  resent_is : (rs : List Record)
      → resent rs ≡ resent_to (owing_by c rs) (decided_by (coordinator_standing rs c fresh_memory))
  unfolding recorded_view
  resent_is rs = by_standing (coordinator_standing rs c fresh_memory) rs

  by_flags : (net : List Envelope) (E C A K P N : Bool) (s : Standing) (ts : List Ticket)
      → decided_by s ≡ None
      → (E ≡ false → C ≡ true → AreAmong net (map (telling me c CommittedOutcome) ts))
      → (E ≡ false → C ≡ false → A ≡ true → AreAmong net (map (telling me c AbortedOutcome) ts))
      → (es : List Envelope) → resent_to ts (decided_by (standing_by E C A K P N s)) ≡ Some es
      → AreAmong net es
  by_flags net true C A K P N s ts q f g es e = absurd (cc)
  by_flags net false true A K P true s ts q f g es e = absurd (cc)
  by_flags net false true A K P false s ts q f g es e = subst (AreAmong net) (some_are _ _ e) (f refl refl)
  by_flags net false false true K P true s ts q f g es e = absurd (cc)
  by_flags net false false true K P false s ts q f g es e =
      subst (AreAmong net) (some_are _ _ e) (g refl refl refl)
  by_flags net false false false true P N s ts q f g es e = absurd (cc)
  by_flags net false false false false true N s ts q f g es e = absurd (cc)
  by_flags net false false false false false N s ts q f g es e =
      let none : None ≡ Some es = sym (ap (resent_to ts) q) ∙ e in absurd (cc)

  -- what is sent once more was sent
  pub resent_was_sent : (net : List Envelope) (rs : List Record) → Sent net me rs c → (es : List Envelope)
      → resent rs ≡ Some es → AreAmong net es
  resent_was_sent net rs h es e =
      by_flags net (has (is_end c) rs) (has (is_commit c) rs) (has (is_abort c) rs) (has (is_prepare c) rs)
      (has (is_collecting c) rs) (none_of (owing_by c rs))
      (phase_standing c.txn.presumption Idle) (owing_by c rs)
      (idle_decides c.txn.presumption) h.committed h.aborted es (sym (resent_is rs) ∙ e)

  -- A restart sends the decision again.

  module _ (parent : Option ProcessId) where
    abbrev seat : Seat
    seat = record { me = me; parent = parent; own = c }

    abbrev resumed_to : List Ticket → Option Outcome → List Envelope → List Envelope
    resumed_to ts None es = es
    resumed_to ts (Some o) es = map (telling me c o) ts

    resumes_at : (s : Standing) (rs : List Record) → let v = view_at s rs c fresh_memory in
        resumes_by seat v v.standing ≡ resumed_to (owing_by c rs) (decided_by s)
        (resumes_by seat v v.standing)
    resumes_at standing.Unknown rs = refl
    resumes_at standing.Active rs = refl
    resumes_at standing.Collecting rs = refl
    resumes_at standing.Prepared rs = refl
    resumes_at standing.Heuristic rs = refl
    resumes_at standing.Committing rs =
        ap (λ (ts : List Ticket). map (telling me c CommittedOutcome) ts)
        (all_owed CommittedOutcome (owing_by c rs))
    resumes_at standing.Aborting rs =
        ap (λ (ts : List Ticket). map (telling me c AbortedOutcome) ts)
        (all_owed AbortedOutcome (owing_by c rs))

    resumes_so : (rs : List Record) (o : Outcome)
        → decided_by (coordinator_standing rs c fresh_memory) ≡ Some o
        → coordinator_resumes me parent rs c ≡ map (telling me c o) (owing_by c rs)
    unfolding recorded_view
    resumes_so rs o e =
        resumes_at (coordinator_standing rs c fresh_memory) rs
        ∙ ap (λ (d : Option Outcome). resumed_to (owing_by c rs) d
        (let v = view_at (coordinator_standing rs c fresh_memory) rs c fresh_memory
        in resumes_by seat v v.standing)) e

none_named : (ts : List Ticket) → none_of ts ≡ true → ts ≡ []
unfolding none_of
none_named [] e = refl
none_named (t ∷ ts) e = absurd (cc)

commits_by : (E C A K P N : Bool) (s : Standing) → E ≡ false → C ≡ true → N ≡ false
    → decided_by (standing_by E C A K P N s) ≡ Some CommittedOutcome
commits_by E C A K P N s e k n = rw (e, k, n) refl

aborts_by : (E C A K P N : Bool) (s : Standing) → E ≡ false → C ≡ false → A ≡ true → N ≡ false
    → decided_by (standing_by E C A K P N s) ≡ Some AbortedOutcome
aborts_by E C A K P N s e k a n = rw (e, k, a, n) refl

-- one of the cases, and what it sends
in_flat : (f : Case → List Envelope) (cs : List Case) (c : Case) → has_case cs c ≡ true
    → (front : List Envelope) × (rest : List Envelope) × (flat_map f cs ≡ front ++ (f c ++ rest))
unfolding has_case
in_flat f [] c e = absurd (cc)
in_flat f (d ∷ cs) c e = elim (either (same_case d c) (has_case cs c) e) [
  | inl now ↦ ([], flat_map f cs, ap (λ (x : Case). f x ++ flat_map f cs) (case_is d c now))
  | inr more ↦ (let r = in_flat f cs c more in (
    f d ++ r.0,
    r.1,
    ap (λ (xs : List Envelope). f d ++ xs) r.2 ∙ sym (append_assoc (f d) r.0 (f c ++ r.1)),
  ))
]

commit_is_of : (c : Case) (r : Record) → is_commit c r ≡ true → is_record_of c r ≡ true
commit_is_of c (CommitRecord d ts) e = e
commit_is_of c r e = absurd (cc)

abort_is_of : (c : Case) (r : Record) → is_abort c r ≡ true → is_record_of c r ≡ true
abort_is_of c (AbortRecord d ts) e = e
abort_is_of c r e = absurd (cc)

module _ (net : List Envelope) (me : ProcessId) (parent : Option ProcessId) (rs : List Record)
    (c : Case) where
  abbrev sent_again : List Envelope
  sent_again = flat_map (coordinator_resumes me parent rs) (cases_in rs)

  -- what is resumed of the case is among what a restart sends
  resumed_among : has (is_record_of c) rs ≡ true → AreAmong (net ++ sent_again)
      (coordinator_resumes me parent rs c)
  resumed_among there =
      let r = in_flat (coordinator_resumes me parent rs) (cases_in rs) c (recorded_listed rs c there) in
      let es = coordinator_resumes me parent rs c in
      subst (λ (xs : List Envelope). AreAmong xs es)
      (append_assoc net r.0 (es ++ r.1) ∙ ap (λ (xs : List Envelope). net ++ xs) (sym r.2))
      (between (net ++ r.0) es r.1)

  decided_resumes : (o : Outcome) → has (is_record_of c) rs ≡ true
      → (none_of (owing_by c rs) ≡ false → decided_by (coordinator_standing rs c fresh_memory) ≡ Some o)
      → AreAmong (net ++ sent_again) (map (telling me c o) (owing_by c rs))
  decided_resumes o there stands = by_none (none_of (owing_by c rs)) refl
    where
      by_none : (b : Bool) → none_of (owing_by c rs) ≡ b
          → AreAmong (net ++ sent_again) (map (telling me c o) (owing_by c rs))
      by_none true e =
          subst (λ (ts : List Ticket). AreAmong (net ++ sent_again) (map (telling me c o) ts))
          (sym (none_named (owing_by c rs) e)) tt
      by_none false e =
          subst (AreAmong (net ++ sent_again)) (resumes_so me c parent rs o (stands e)) (resumed_among there)

  pub restart_sends : Sent (net ++ sent_again) me rs c
  restart_sends = record {
    committed = λ e k. decided_resumes CommittedOutcome
        (has_other (is_commit c) (is_record_of c) rs (commit_is_of c) k)
        (λ n. commits_by (has (is_end c) rs) (has (is_commit c) rs) (has (is_abort c) rs)
        (has (is_prepare c) rs)
        (has (is_collecting c) rs) (none_of (owing_by c rs)) (phase_standing c.txn.presumption Idle) e k n);
    aborted = λ e k a. decided_resumes AbortedOutcome
        (has_other (is_abort c) (is_record_of c) rs (abort_is_of c) a)
        (λ n. aborts_by (has (is_end c) rs) (has (is_commit c) rs) (has (is_abort c) rs)
        (has (is_prepare c) rs)
        (has (is_collecting c) rs) (none_of (owing_by c rs)) (phase_standing c.txn.presumption Idle) e k a n);
  }

-- One record more.

or_false : (b : Bool) → (b || false) ≡ b
or_false true = refl
or_false false = refl

one_more : (q : Record → Bool) (rs : List Record) (r : Record) → has q (rs ++ r ∷ []) ≡ (has q rs || q r)
one_more q rs r =
    has-append q rs (r ∷ []) ∙ ap (λ (b : Bool). has q rs || b)
    (has-cons q r [] ∙ ap (λ (b : Bool). q r || b) (has-nil q) ∙ or_false (q r))

not_said : (q : Record → Bool) (rs : List Record) (r : Record) → q r ≡ false → has q (rs ++ r ∷ []) ≡ has q rs
not_said q rs r e = one_more q rs r ∙ (ap (λ (b : Bool). has q rs || b) e ∙ or_false (has q rs))

owing_more : (c : Case) (rs : List Record) (r : Record)
    → owing_by c (rs ++ r ∷ []) ≡ owing_by c rs ++ owing_in c r
unfolding owing_by
owing_more c rs r =
    flat_map-append (owing_in c) rs (r ∷ [])
    ∙ ap (λ (ts : List Ticket). flat_map (owing_in c) rs ++ ts) (append-nil (owing_in c r))

alike_more : (rs : List Record) (r : Record) (c : Case) → is_end c r ≡ false → is_commit c r ≡ false
    → is_abort c r ≡ false
    → owing_in c r ≡ [] → Alike (rs ++ r ∷ []) rs c
alike_more rs r c e k a o = record {
  ended = not_said (is_end c) rs r e;
  committed = not_said (is_commit c) rs r k;
  aborted = not_said (is_abort c) rs r a;
  owing = owing_more c rs r ∙ (ap (λ (ts : List Ticket). owing_by c rs ++ ts) o ∙ append-nil (owing_by c rs));
}

-- a case that was not decided owes nobody
none_owed : (c : Case) (rs : List Record) → has (is_commit c) rs ≡ false → has (is_abort c) rs ≡ false
    → owing_by c rs ≡ []
unfolding owing_by has
none_owed c [] k a = refl
none_owed c (r ∷ rs) k a =
    ap (λ (ts : List Ticket). ts ++ flat_map (owing_in c) rs)
    (by_record r (first_false (is_commit c r) (has (is_commit c) rs) k)
    (first_false (is_abort c r) (has (is_abort c) rs) a))
    ∙ none_owed c rs (second_false (is_commit c r) (has (is_commit c) rs) k)
    (second_false (is_abort c r) (has (is_abort c) rs) a)
  where
    by_record : (x : Record) → is_commit c x ≡ false → is_abort c x ≡ false → owing_in c x ≡ []
    by_record (CommitRecord d ts) e f = ap (λ (b : Bool). if b then ts else []) e
    by_record (AbortRecord d ts) e f = ap (λ (b : Bool). if b then ts else []) f
    by_record x e f = refl

-- the case has no record that ends or decides it
pub record IsUndecided (rs : List Record) (c : Case) : Type 0 where
  pub ended : has (is_end c) rs ≡ false
  pub committed : has (is_commit c) rs ≡ false
  pub aborted : has (is_abort c) rs ≡ false

true_is_not : {A : Type 0} (b : Bool) → b ≡ true → b ≡ false → A
true_is_not b e f = absurd (let clash : true ≡ false = sym e ∙ f in cc)

module _ (net : List Envelope) (me : ProcessId) (rs : List Record) (c : Case) (ts : List Ticket) where
  own_owing : (o : Record) → owing_in c o ≡ ts → IsUndecided rs c → owing_by c (rs ++ o ∷ []) ≡ ts
  own_owing o e u =
      owing_more c rs o ∙ (ap (λ (us : List Ticket). us ++ owing_in c o)
      (none_owed c rs u.committed u.aborted) ∙ e)

  named : (b : Bool) → b ≡ true → (if b then ts else []) ≡ ts
  named b e = ap (λ (x : Bool). if x then ts else []) e

  pub commit_sent : IsUndecided rs c → AreAmong net (map (telling me c CommittedOutcome) ts) → (d : Case)
      → Sent net me rs d → Sent net me (rs ++ CommitRecord c ts ∷ []) d
  commit_sent u sent d h = by_case (same_case c d) refl
    where
      x : Record
      x = CommitRecord c ts

      own : Sent net me (rs ++ x ∷ []) c
      own = record {
        committed = λ e k. subst (λ (us : List Ticket). AreAmong net (map (telling me c CommittedOutcome) us))
            (sym (own_owing x (named (same_case c c) (same_case-refl c)) u)) sent;
        aborted = λ e k a. true_is_not (has (is_commit c) (rs ++ x ∷ []))
            (one_more (is_commit c) rs x ∙ right (has (is_commit c) rs) (same_case c c) (same_case-refl c)) k;
      }

      by_case : (b : Bool) → same_case c d ≡ b → Sent net me (rs ++ x ∷ []) d
      by_case true e = subst (λ (y : Case). Sent net me (rs ++ x ∷ []) y) (case_is c d e) own
      by_case false e = sent_alike net me (rs ++ x ∷ []) rs d
          (alike_more rs x d refl e refl (ap (λ (b : Bool). if b then ts else []) e)) h

  pub abort_sent : IsUndecided rs c → AreAmong net (map (telling me c AbortedOutcome) ts) → (d : Case)
      → Sent net me rs d → Sent net me (rs ++ AbortRecord c ts ∷ []) d
  abort_sent u sent d h = by_case (same_case c d) refl
    where
      x : Record
      x = AbortRecord c ts

      own : Sent net me (rs ++ x ∷ []) c
      own = record {
        committed = λ e k. true_is_not (has (is_commit c) (rs ++ x ∷ [])) k
            (not_said (is_commit c) rs x refl ∙ u.committed);
        aborted = λ e k a. subst (λ (us : List Ticket). AreAmong net (map (telling me c AbortedOutcome) us))
            (sym (own_owing x (named (same_case c c) (same_case-refl c)) u)) sent;
      }

      by_case : (b : Bool) → same_case c d ≡ b → Sent net me (rs ++ x ∷ []) d
      by_case true e = subst (λ (y : Case). Sent net me (rs ++ x ∷ []) y) (case_is c d e) own
      by_case false e = sent_alike net me (rs ++ x ∷ []) rs d
          (alike_more rs x d refl refl e (ap (λ (b : Bool). if b then ts else []) e)) h

pub end_sent : (net : List Envelope) (me : ProcessId) (rs : List Record) (c : Case)
    (found : Option Reports) (d : Case)
    → Sent net me rs d → Sent net me (rs ++ EndRecord c found ∷ []) d
end_sent net me rs c found d h = by_case (same_case c d) refl
  where
    x : Record
    x = EndRecord c found

    over : same_case c d ≡ true → has (is_end d) (rs ++ x ∷ []) ≡ true
    over e = one_more (is_end d) rs x ∙ right (has (is_end d) rs) (same_case c d) e

    by_case : (b : Bool) → same_case c d ≡ b → Sent net me (rs ++ x ∷ []) d
    by_case true e = record {
      committed = λ n k. true_is_not (has (is_end d) (rs ++ x ∷ [])) (over e) n;
      aborted = λ n k a. true_is_not (has (is_end d) (rs ++ x ∷ [])) (over e) n;
    }
    by_case false e = sent_alike net me (rs ++ x ∷ []) rs d (alike_more rs x d e refl refl refl) h

-- a record that neither ends nor decides its case
pub quiet_sent : (net : List Envelope) (me : ProcessId) (rs : List Record) (r : Record) (d : Case)
    → is_end d r ≡ false
    → is_commit d r ≡ false → is_abort d r ≡ false → owing_in d r ≡ [] → Sent net me rs d
    → Sent net me (rs ++ r ∷ []) d
quiet_sent net me rs r d e k a o h = sent_alike net me (rs ++ r ∷ []) rs d (alike_more rs r d e k a o) h

-- A trim.

module _ (role : Role) (coordinator : IsCoordinator role) (whole : List Record) (d : Case) where
  stays_as : (behind : List Record) (x : Record) → stays role whole behind x
      ≡ case_stays whole (record_case x)
  stays_as behind x = by_role role coordinator
    where
      by_role : (r : Role) → IsCoordinator r → stays r whole behind x ≡ case_stays whole (record_case x)
      by_role AtRoot i = refl
      by_role (Below p) i = refl
      by_role (AtLeaf p) i = absurd i

  no_end : (r : Record) → is_record_of d r ≡ false → is_end d r ≡ false
  no_end (EndRecord c x) e = e
  no_end r e = refl

  no_commit : (r : Record) → is_record_of d r ≡ false → is_commit d r ≡ false
  no_commit (CommitRecord c ts) e = e
  no_commit r e = refl

  no_abort : (r : Record) → is_record_of d r ≡ false → is_abort d r ≡ false
  no_abort (AbortRecord c ts) e = e
  no_abort r e = refl

  none_owing : (r : Record) → is_record_of d r ≡ false → owing_in d r ≡ []
  none_owing (CommitRecord c ts) e = ap (λ (b : Bool). if b then ts else []) e
  none_owing (AbortRecord c ts) e = ap (λ (b : Bool). if b then ts else []) e
  none_owing r e = refl

  same_head : (q : Record → Bool) (r : Record) (xs ys : List Record) → has q xs ≡ has q ys
      → has q (r ∷ xs) ≡ has q (r ∷ ys)
  same_head q r xs ys e = has-cons q r xs ∙ (ap (λ (b : Bool). q r || b) e ∙ sym (has-cons q r ys))

  other_head : (q : Record → Bool) (r : Record) (xs ys : List Record) → q r ≡ false → has q xs ≡ has q ys
      → has q xs ≡ has q (r ∷ ys)
  other_head q r xs ys n e = e ∙ sym (has-cons q r ys ∙ ap (λ (b : Bool). b || has q ys) n)

  both_have : (r : Record) (xs ys : List Record) → Alike xs ys d → Alike (r ∷ xs) (r ∷ ys) d
  unfolding owing_by
  both_have r xs ys h = record {
    ended = same_head (is_end d) r xs ys h.ended;
    committed = same_head (is_commit d) r xs ys h.committed;
    aborted = same_head (is_abort d) r xs ys h.aborted;
    owing = ap (λ (ts : List Ticket). owing_in d r ++ ts) h.owing;
  }

  one_has : (r : Record) (xs ys : List Record) → is_record_of d r ≡ false → Alike xs ys d
      → Alike xs (r ∷ ys) d
  unfolding owing_by
  one_has r xs ys n h = record {
    ended = other_head (is_end d) r xs ys (no_end r n) h.ended;
    committed = other_head (is_commit d) r xs ys (no_commit r n) h.committed;
    aborted = other_head (is_abort d) r xs ys (no_abort r n) h.aborted;
    owing = h.owing ∙ sym (ap (λ (ts : List Ticket). ts ++ flat_map (owing_in d) ys) (none_owing r n));
  }

  -- a record that goes is of another case than one that stays
  goes_apart : case_stays whole (Some d) ≡ true → (o : Option Case) → case_stays whole o ≡ false
      → is_of d o ≡ false
  goes_apart k None e = refl
  goes_apart k (Some c) e = by_same (same_case c d) refl
    where
      by_same : (b : Bool) → same_case c d ≡ b → same_case c d ≡ false
      by_same false f = f
      by_same true f = true_is_not (case_stays whole (Some d)) k
          (ap (λ (x : Case). case_stays whole (Some x)) (sym (case_is c d f)) ∙ e)

  -- one that stays is of another case than one that goes
  stays_apart : case_stays whole (Some d) ≡ false → (o : Option Case) → case_stays whole o ≡ true
      → is_of d o ≡ false
  stays_apart k None e = refl
  stays_apart k (Some c) e = by_same (same_case c d) refl
    where
      by_same : (b : Bool) → same_case c d ≡ b → same_case c d ≡ false
      by_same false f = f
      by_same true f = true_is_not (case_stays whole (Some c)) e
          (ap (λ (x : Case). case_stays whole (Some x)) (case_is c d f) ∙ k)

  all_stay : case_stays whole (Some d) ≡ true → (rs : List Record) → Alike (staying role whole rs) rs d
  all_stay k [] = record { ended = refl; committed = refl; aborted = refl; owing = refl }
  all_stay k (r ∷ rs) = by_test (stays role whole rs r) refl (all_stay k rs)
    where
      by_test : (b : Bool) → stays role whole rs r ≡ b → Alike (staying role whole rs) rs d
          → Alike (if b then r ∷ staying role whole rs else staying role whole rs) (r ∷ rs) d
      by_test true e h = both_have r (staying role whole rs) rs h
      by_test false e h = one_has r (staying role whole rs) rs
          (goes_apart k (record_case r) (sym (stays_as rs r) ∙ e)) h

  none_stays : case_stays whole (Some d) ≡ false → (rs : List Record) → Alike [] (staying role whole rs) d
  none_stays k [] = record { ended = refl; committed = refl; aborted = refl; owing = refl }
  none_stays k (r ∷ rs) = by_test (stays role whole rs r) refl (none_stays k rs)
    where
      by_test : (b : Bool) → stays role whole rs r ≡ b → Alike [] (staying role whole rs) d
          → Alike [] (if b then r ∷ staying role whole rs else staying role whole rs) d
      by_test true e h = one_has r [] (staying role whole rs)
          (stays_apart k (record_case r) (sym (stays_as rs r) ∙ e)) h
      by_test false e h = h

  nothing_sent : (net : List Envelope) (me : ProcessId) → Sent net me [] d
  nothing_sent net me = record {
    committed = λ e k. true_is_not (has (is_commit d) []) k (has-nil (is_commit d));
    aborted = λ e k a. true_is_not (has (is_abort d) []) a (has-nil (is_abort d));
  }

  back : (xs ys : List Record) → Alike xs ys d → Alike ys xs d
  back xs ys h = record {
    ended = sym h.ended;
    committed = sym h.committed;
    aborted = sym h.aborted;
    owing = sym h.owing;
  }

  pub staying_sent : (net : List Envelope) (me : ProcessId) → Sent net me whole d
      → Sent net me (staying role whole whole) d
  staying_sent net me h = by_test (case_stays whole (Some d)) refl
    where
      by_test : (b : Bool) → case_stays whole (Some d) ≡ b → Sent net me (staying role whole whole) d
      by_test true k = sent_alike net me (staying role whole whole) whole d (all_stay k whole) h
      by_test false k = sent_alike net me (staying role whole whole) [] d
          (back [] (staying role whole whole) (none_stays k whole))
          (nothing_sent net me)

  pub behind_opened : (net : List Envelope) (me : ProcessId) (k : ℕ) (rs : List Record) → Sent net me rs d
      → Sent net me (Opened k ∷ rs) d
  behind_opened net me k rs h = sent_alike net me (Opened k ∷ rs) rs d
      (back rs (Opened k ∷ rs) (one_has (Opened k) rs rs refl
      (record { ended = refl; committed = refl; aborted = refl; owing = refl }))) h
