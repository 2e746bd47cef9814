-- Over every run each ticket number is given once, and each manager keeps its part of the world's invariant.
use Rattle.std.proofs.Common.{◌≡◌, ◌∙◌, inl, inr, true, List, [], ◌++◌, refl, sym, ap, subst}
use Rattle.protocol.specs.declared.names.Case.{Case}
use Rattle.protocol.specs.declared.names.ProcessId.{ProcessId}
use Rattle.protocol.specs.declared.names.Ticket.{Ticket}
use Rattle.protocol.specs.declared.messages.Envelope.{Envelope}
use Rattle.protocol.specs.declared.trees.TreeProcess.{TreeProcess}
use Rattle.protocol.specs.NameLaws.{same_process_tells}
use Rattle.protocol.specs.Records.{has}
use Rattle.protocol.specs.Nodes.{Place, Role, AtLeaf, place_of, role_of, Node, Effect, opened_node}
use Rattle.protocol.specs.Memory.{memory_of, active_ticket}
use Rattle.protocol.specs.Standings.{some_case}
use Rattle.protocol.specs.Restarts.{left_of, reopens}
use Rattle.protocol.specs.Outcomes.{sent, is_joined_message}
use Rattle.protocol.specs.World.{World, Move, Made, IsRun, opens, makes, put_at}
use Rattle.protocol.proofs.RunLaws.{makes_at}
use Rattle.proof_pairs.specs.turns.Steps.{StepOf, heard_in, handled, failed_in, passed, failed_passing, reopened, failed_reopening, trims_log, failed_trimming}
use Rattle.proof_pairs.proofs.turns.Steps.{step_of, turn_of}
use Rattle.proof_processes.specs.Lasts.{logs_of, Lasts}
use Rattle.proof_processes.specs.Numbers.{IsIssuer, TicketNumbers}
use Rattle.proof_processes.specs.WorldHolds.{NodeHolds, SameSelf}
use Rattle.proof_processes.proofs.Boots.{Booted}
use Rattle.proof_processes.proofs.BootsHold.{all_booted, boots_of}
use Rattle.proof_processes.proofs.Issuing.{Issued, self_at, issued_elsewhere, still_issued}
use Rattle.proof_processes.proofs.GivenCases.{Remembered, remembered_elsewhere}
use Rattle.proof_processes.proofs.ManagerBranches.{still_remembered}
use Rattle.proof_processes.proofs.Promises.{quiet_resumes}
use Rattle.proof_processes.proofs.Selves.{Self, self_same}
use Rattle.proof_processes.proofs.Tickets.{active_found, active_is_own, joined_answers, answer_is_own}
use Rattle.proof_processes.proofs.Worlds.{all_last}

-- JOINED is sent for tickets of the sender only.

none_sent : {A : Type 0} (d : Case) (t : Ticket) → sent (is_joined_message d t) [] ≡ true → A
unfolding sent
none_sent d t e = absurd (cc)

joined_is_own : (place : Place) (n : Node) (m : Move) (e : Effect) (k : Node) → StepOf place n m e k
    → (d : Case)
    (t : Ticket) → sent (is_joined_message d t) e.messages ≡ true → t.child ≡ place.me
joined_is_own place n m _ _ (handled i g hp np r) d t e =
    answer_is_own place n (heard_in m i) d t place.role
    (joined_answers place n (heard_in m i) d t place.role g (turn_of place n (heard_in m i) g r).turn e)
joined_is_own place n m _ _ (reopened k hp) d t e =
    absurd (let x = sym (quiet_resumes (is_joined_message d t) (λ x. refl) (λ x. refl)
    (λ x. refl) place.role place.me
    (left_of n k ++ reopens place.role (left_of n k))) ∙ e in cc)
joined_is_own place n m _ _ (failed_in i f g fl hp np r) d t e = none_sent d t e
joined_is_own place n m _ _ (passed i hp r) d t e = none_sent d t e
joined_is_own place n m _ _ (failed_passing i f fl hp r) d t e = none_sent d t e
joined_is_own place n m _ _ (failed_reopening k f fl hp) d t e = none_sent d t e
joined_is_own place n m _ _ (trims_log hp up) d t e = none_sent d t e
joined_is_own place n m _ _ (failed_trimming f fl hp up) d t e = none_sent d t e

-- Runs.

-- a process is put in its place: it made a step, or another one did
pub put_or_other : (P Q : ProcessId → Node → Type 0) (q p : ProcessId) (k : Node) (at : ProcessId → Node)
    → Q q k
    → ((q ≡ p → ⊥) → P p (at p) → Q p (at p)) → P p (at p) → Q p (put_at q k at p)
put_or_other P Q q p k at now other old = elim (same_process_tells q p) [
  | inl t ↦ rw t.0 (subst (λ (x : ProcessId). Q x k) t.1 now)
  | inr f ↦ rw f.0 (other f.1 old)
]

abbrev IssuedBy : List TreeProcess → List Envelope → ProcessId → Node → Type 0
IssuedBy tree net p k = IsIssuer (role_of tree p) → Issued (place_of tree p) net k

opened_issued : (place : Place) → Issued place [] opened_node
unfolding sent memory_of
opened_issued place = record {
  given_once = λ up d t own e. absurd (cc);
  given_before = λ d t own e. absurd (cc);
  active_was_sent = λ up. tt;
}

pub all_issued : (tree : List TreeProcess) (es : List Made) (w : World) → IsRun tree es w → (p : ProcessId)
    → IssuedBy tree w.net p (w.at p)
all_issued tree _ _ opens p = λ i. opened_issued (place_of tree p)
all_issued tree _ _ (makes es w m e w' run stands step) p =
    let at = makes_at tree w m e w' step in
    let q = m.step.process in
    let s = step_of (place_of tree q) (w.at q) m e at.node at.made in
    subst (λ (x : World). IssuedBy tree x.net p (x.at p)) (sym at.world)
    (put_or_other (IssuedBy tree w.net) (IssuedBy tree (w.net ++ e.messages)) q p at.node w.at
    (λ i. still_issued (place_of tree q) w.net (w.at q) i (all_booted tree es w run q)
    (all_issued tree es w run q i)
    m e at.node s)
    (λ other old i. issued_elsewhere (place_of tree p) w.net e.messages (w.at p) (old i)
    (λ d t f own. other (sym (joined_is_own (place_of tree q) (w.at q) m e at.node s d t f) ∙ own)))
    (all_issued tree es w run p))

abbrev RememberedBy : List TreeProcess → List Envelope → ProcessId → Node → Type 0
RememberedBy tree net p k = (q : ProcessId) → role_of tree p ≡ AtLeaf q
    → Remembered (record { me = p; role = AtLeaf q; tree = tree }) net k

opened_remembered : (place : Place) → Remembered place [] opened_node
unfolding has sent memory_of
opened_remembered place = record {
  recorded_is_given = λ d e. absurd (cc);
  remembered_is_given = λ up d f. absurd (f refl);
  promised_was_asked = λ d e. absurd (cc);
  open_is_unmarked = λ up d e. absurd (cc);
  accepts_none = refl;
}

pub all_remembered : (tree : List TreeProcess) (es : List Made) (w : World) → IsRun tree es w
    → (p : ProcessId)
    → RememberedBy tree w.net p (w.at p)
all_remembered tree _ _ opens p = λ q leaf. opened_remembered
    (record { me = p; role = AtLeaf q; tree = tree })
all_remembered tree _ _ (makes es w m e w' run stands step) p =
    let at = makes_at tree w m e w' step in
    let x = m.step.process in
    let s = step_of (place_of tree x) (w.at x) m e at.node at.made in
    subst (λ (y : World). RememberedBy tree y.net p (y.at p)) (sym at.world)
    (put_or_other (RememberedBy tree w.net) (RememberedBy tree (w.net ++ e.messages)) x p at.node w.at
    (λ q leaf. still_remembered x q tree w.net (w.at x)
    (subst (λ (r : Role). Lasts r (logs_of (w.at x))) leaf (all_last tree es w run x))
    (subst (λ (r : Role). Issued (record { me = x; role = r; tree = tree }) w.net (w.at x)) leaf
    (all_issued tree es w run x (subst IsIssuer (sym leaf) tt)))
    (all_remembered tree es w run x q leaf) m stands e at.node
    (subst (λ (r : Role). StepOf (record { me = x; role = r; tree = tree }) (w.at x) m e at.node) leaf s))
    (λ other old q leaf. remembered_elsewhere
    (record { me = p; role = AtLeaf q; tree = tree }) w.net e.messages
    (w.at p) (old q leaf))
    (all_remembered tree es w run p))

-- What is stated of it.

numbers_of : (place : Place) (net : List Envelope) (n : Node) → Issued place net n → TicketNumbers place net n
numbers_of place net n h = record {
  given_once = h.given_once;
  given_before = h.given_before;
  active_was_joined = λ up d e t f. (
    active_is_own place n e d t f,
    active_found (λ x u. sent (is_joined_message x u) net ≡ true) (self_at place n).active d t
        (h.active_was_sent up)
        (ap (λ (s : Self). active_ticket s.active d) (self_same place n (some_case place) e) ∙ f),
  );
}

-- at each process that gives tickets
pub numbers_are_given_once : (tree : List TreeProcess) (es : List Made) (w : World) → IsRun tree es w
    → (p : ProcessId)
    → IsIssuer (role_of tree p) → TicketNumbers (place_of tree p) w.net (w.at p)
numbers_are_given_once tree es w run p i =
    numbers_of (place_of tree p) w.net (w.at p) (all_issued tree es w run p i)

pub same_self : (place : Place) (n : Node) (c d : Case) → SameSelf (memory_of place n c) (memory_of place n d)
same_self place n c d =
    let e = self_same place n d c in record {
      begun = ap (λ (s : Self). s.begun) e;
      given = ap (λ (s : Self). s.given) e;
      issued = ap (λ (s : Self). s.issued) e;
      active = ap (λ (s : Self). s.active) e;
    }

manager_holds : (me p : ProcessId) (tree : List TreeProcess) (net : List Envelope) (n : Node)
    → (let place : Place = record
    { me = me; role = AtLeaf p; tree = tree } in Lasts (AtLeaf p) (logs_of n) → Booted (logs_of n)
    → TicketNumbers place net n → Remembered place net n → NodeHolds place net n)
manager_holds me p tree net n last booted numbers known = record {
  lasts = last;
  boots = boots_of n booted;
  self = same_self (record { me = me; role = AtLeaf p; tree = tree }) n;
  role = (
    record { open_is_unmarked = known.open_is_unmarked; accepts_none = known.accepts_none },
    record {
      given_once = numbers.given_once;
      given_before = numbers.given_before;
      recorded_is_given = known.recorded_is_given;
      remembered_is_given = known.remembered_is_given;
      active_was_joined = numbers.active_was_joined;
      promised_was_asked = known.promised_was_asked;
    },
  );
}

-- each manager
pub managers_hold : (tree : List TreeProcess) (es : List Made) (w : World) → IsRun tree es w
    → (q p : ProcessId)
    → role_of tree q ≡ AtLeaf p → NodeHolds (place_of tree q) w.net (w.at q)
managers_hold tree es w run q p leaf =
    let at : (r : Role) → Place = λ r. record { me = q; role = r; tree = tree } in
    subst (λ (r : Role). NodeHolds (at r) w.net (w.at q)) (sym leaf)
    (manager_holds q p tree w.net (w.at q)
    (subst (λ (r : Role). Lasts r (logs_of (w.at q))) leaf (all_last tree es w run q))
    (all_booted tree es w run q)
    (subst (λ (r : Role). TicketNumbers (at r) w.net (w.at q)) leaf
    (numbers_are_given_once tree es w run q (subst IsIssuer (sym leaf) tt)))
    (all_remembered tree es w run q p leaf))
