-- What each step sends: a parent's messages go to their cases' owners, and who says YES promised.
use Rattle.std.proofs.Common.{◌≡◌, ◌∙◌, inl, inr, Bool, true, false, Option, Some, None, List, [], ◌∷◌, refl, sym, subst, if◌then◌else◌}
use Rattle.std.specs.List.{flat_map}
use Rattle.protocol.specs.declared.names.Case.{Case}
use Rattle.protocol.specs.declared.names.ProcessId.{ProcessId}
use Rattle.protocol.specs.declared.names.Ticket.{Ticket}
use Rattle.protocol.specs.declared.names.Outcome.{Outcome}
use Rattle.protocol_words.specs.Variants.{AbortedOutcome, CommittedOutcome}
use Rattle.protocol.specs.declared.messages.Message.{Message}
use Rattle.protocol.specs.declared.messages.Message.TheVariants.{Join, Joined, Work, Prepare, Yes, No, Read, Commit, Abort, Ack, Inquire}
use Rattle.protocol.specs.declared.messages.Envelope.{Envelope}
use Rattle.protocol.specs.declared.records.Record.{Record}
use Rattle.protocol.specs.declared.standings.Standing.{Standing}
use Rattle.protocol.specs.declared.standings.Standing.TheVariants.{Unknown, Active, Collecting, Prepared, Committing, Aborting, Heuristic}
use Rattle.protocol.specs.declared.events.Input.{Input}
use Rattle.protocol.specs.Names.{child_case, same_case}
use Rattle.protocol.specs.NameLaws.{same_case_tells}
use Rattle.protocol.specs.Records.{cases_in}
use Rattle.protocol.specs.Nodes.{Role, AtRoot, Below, AtLeaf, Place, Node, Heard, Effect, Written}
use Rattle.protocol.specs.Standings.{CoordinatorView, ManagerView}
use Rattle.protocol.specs.CoordinatorRows.{Seat, tells_outcome, post, each, posted_up}
use Rattle.protocol.specs.ManagerRows.{Leaf, is_acknowledged}
use Rattle.protocol.specs.Reactions.{leaf_of, seat_of}
use Rattle.protocol.specs.Outcomes.{sent, is_yes_message}
use Rattle.protocol.specs.Restarts.{resumes, resumes_by, coordinator_resumes, manager_resumes, inquires_by, untold_inquiry, recorded_view, recorded_branch}
use Rattle.proof_pairs.specs.turns.LeafTurns.{LeafTurn, does_nothing, gives_again, gives_fresh, votes_yes, votes_read, votes_no, repeats_yes, refuses, obeys, notes, acknowledges_told, acknowledges, drops, asks, decides, forgets}
use Rattle.proof_pairs.specs.turns.Written.{IsForCase, IsFromCase, Sends, down, upward, invites, AllSent, MayWrite, writes_nothing, for_act, for_report, for_child, for_parent, presumes, gives}
use Rattle.proof_processes.specs.Owns.{is_own_case, GoesToOwner, AllGoToOwners}
use Rattle.proof_processes.proofs.Tests.{either}
use Rattle.proof_processes.proofs.Memories.{same_self}
use Rattle.proof_processes.proofs.Owning.{goes_both}
use Rattle.protocol.specs.declared.messages.Finding.{Finding}

-- Addresses.

goes_down : (c : Case) (t : Ticket) (m : Message) → IsForCase (child_case c.txn t) m → GoesToOwner t.child m
goes_down c t (Work d k op) e = subst (λ (x : Case). is_own_case t.child x ≡ true) (sym e)
    (same_self t.child)
goes_down c t (Prepare d k) e = subst (λ (x : Case). is_own_case t.child x ≡ true) (sym e)
    (same_self t.child)
goes_down c t (Commit d) e = subst (λ (x : Case). is_own_case t.child x ≡ true) (sym e) (same_self t.child)
goes_down c t (Abort d) e = subst (λ (x : Case). is_own_case t.child x ≡ true) (sym e) (same_self t.child)
goes_down c t (Join d) e = tt
goes_down c t (Joined d u) e = tt
goes_down c t (Yes d) e = tt
goes_down c t (No d) e = tt
goes_down c t (Read d) e = tt
goes_down c t (Ack d o fs) e = tt
goes_down c t (Inquire d) e = tt

goes_up : (c : Case) (p : ProcessId) (m : Message) → IsFromCase c m → GoesToOwner p m
goes_up c p (Yes d) e = tt
goes_up c p (No d) e = tt
goes_up c p (Read d) e = tt
goes_up c p (Ack d o fs) e = tt
goes_up c p (Inquire d) e = tt
goes_up c p (Join d) e = tt
goes_up c p (Joined d u) e = tt
goes_up c p (Work d k op) e = absurd e
goes_up c p (Prepare d k) e = absurd e
goes_up c p (Commit d) e = absurd e
goes_up c p (Abort d) e = absurd e

sends_goes : (s : Seat) (l : Envelope) → Sends s l → GoesToOwner l.to l.message
sends_goes s _ (down t m e) = goes_down s.own t m e
sends_goes s _ (upward p m e f) = goes_up s.own p m f
sends_goes s _ (invites q) = tt

all_go : (s : Seat) (ls : List Envelope) → AllSent s ls → AllGoToOwners ls
all_go s [] a = tt
all_go s (l ∷ ls) a = (sends_goes s l a.0, all_go s ls a.1)

told_goes : (c : Case) (t : Ticket) (o : Outcome)
    → GoesToOwner t.child (tells_outcome o (child_case c.txn t))
told_goes c t CommittedOutcome = same_self t.child
told_goes c t AbortedOutcome = same_self t.child

pub written_goes : (place : Place) (parent : Option ProcessId) (n : Node) (i : Input) (ws : List Written)
    (ls : List Envelope)
    → MayWrite place parent n i ws ls → AllGoToOwners ls
written_goes place parent n i ws ls (writes_nothing e f) = subst AllGoToOwners (sym f) tt
written_goes place parent n i ws ls (for_act a c e f one sent) = all_go (seat_of place parent c) ls sent
written_goes place parent n i ws ls (for_report c e f g one h) = subst AllGoToOwners (sym h) tt
written_goes place parent n i ws ls (for_child c x t e one sent) = all_go (seat_of place parent c) ls sent
written_goes place parent n i ws ls (for_parent c k m e f one sent) = all_go (seat_of place parent c) ls
    sent
written_goes place parent n i ws ls (presumes x t o e f) =
    subst AllGoToOwners (sym f) (told_goes (record { txn = x; ticket = None }) t o, tt)
written_goes place parent n i ws ls (gives p d t e f k j a) = subst AllGoToOwners (sym f) (tt, tt)

acknowledged : (l : Leaf) (o : Outcome) (fs : List Finding) (b : Bool)
    → AllGoToOwners (if b then post l.me l.parent (Ack l.own o fs) ∷ [] else [])
acknowledged l o fs true = (tt, tt)
acknowledged l o fs false = tt

pub leaf_goes : (place : Place) (p : ProcessId) (n : Node) (h : Heard) (e : Effect)
    → LeafTurn place p n h e → AllGoToOwners e.messages
leaf_goes place p n h _ does_nothing = tt
leaf_goes place p n h _ (gives_again d t i a) = (tt, tt)
leaf_goes place p n h _ (gives_fresh d i a s) = (tt, tt)
leaf_goes place p n h _ (votes_yes d k ws i a) = (tt, tt)
leaf_goes place p n h _ (votes_read d k i a) = (tt, tt)
leaf_goes place p n h _ (votes_no d k i a) = (tt, tt)
leaf_goes place p n h _ (repeats_yes d k i a) = (tt, tt)
leaf_goes place p n h _ (refuses d k i a) = (tt, tt)
leaf_goes place p n h _ (obeys d o i k) = acknowledged (leaf_of place p d) o _
    (is_acknowledged d.txn.presumption o)
leaf_goes place p n h _ (notes d o i k) = acknowledged (leaf_of place p d) o _
    (is_acknowledged d.txn.presumption o)
leaf_goes place p n h _ (acknowledges_told d o i k) = acknowledged (leaf_of place p d) o _
    (is_acknowledged d.txn.presumption o)
leaf_goes place p n h _ (acknowledges d o i k) = acknowledged (leaf_of place p d) o _
    (is_acknowledged d.txn.presumption o)
leaf_goes place p n h _ (drops d i a) = acknowledged (leaf_of place p d) AbortedOutcome _
    (is_acknowledged d.txn.presumption AbortedOutcome)
leaf_goes place p n h _ (asks d i k) = (tt, tt)
leaf_goes place p n h _ (decides d o i k) = tt
leaf_goes place p n h _ (forgets d i k) = tt

-- Restarts.

module _ (s : Seat) where
  resent_up : (m : Message) → IsFromCase s.own m → (o : Option ProcessId) → s.parent ≡ o
      → AllSent s (posted_up s.me o m)
  resent_up m f None e = tt
  resent_up m f (Some p) e = (upward p m e f, tt)

  resent_commits : (ts : List Ticket) → AllSent s (each s Commit ts)
  resent_commits [] = tt
  resent_commits (t ∷ ts) = (down t (Commit (child_case s.own.txn t)) refl, resent_commits ts)

  resent_aborts : (ts : List Ticket) → AllSent s (each s Abort ts)
  resent_aborts [] = tt
  resent_aborts (t ∷ ts) = (down t (Abort (child_case s.own.txn t)) refl, resent_aborts ts)

  resumed : (v : CoordinatorView) (st : Standing) → AllSent s (resumes_by s v st)
  resumed v Committing = resent_commits v.owed
  resumed v Aborting = resent_aborts v.owed
  resumed v Prepared = resent_up (Inquire s.own) refl s.parent refl
  resumed v Unknown = tt
  resumed v Active = tt
  resumed v Collecting = tt
  resumed v Heuristic = tt

untold : (me p : ProcessId) (c : Case) (o : Option Outcome) → AllGoToOwners (untold_inquiry me p c o)
untold me p c None = (tt, tt)
untold me p c (Some o) = tt

inquired : (me p : ProcessId) (c : Case) (v : ManagerView) (st : Standing)
    → AllGoToOwners (inquires_by me p c v st)
inquired me p c v Prepared = (tt, tt)
inquired me p c v Heuristic = untold me p c v.told
inquired me p c v Unknown = tt
inquired me p c v Active = tt
inquired me p c v Collecting = tt
inquired me p c v Committing = tt
inquired me p c v Aborting = tt

flat_goes : (f : Case → List Envelope) → ((c : Case) → AllGoToOwners (f c)) → (cs : List Case)
    → AllGoToOwners (flat_map f cs)
flat_goes f g [] = tt
flat_goes f g (c ∷ cs) = goes_both (f c) (flat_map f cs) (g c) (flat_goes f g cs)

coordinator_goes : (me : ProcessId) (parent : Option ProcessId) (rs : List Record) (c : Case)
    → AllGoToOwners (coordinator_resumes me parent rs c)
coordinator_goes me parent rs c =
    let v = recorded_view rs c in
    let s : Seat = record { me = me; parent = parent; own = c } in
    all_go s (resumes_by s v v.standing) (resumed s v v.standing)

pub resumes_goes : (role : Role) (me : ProcessId) (rs : List Record) → AllGoToOwners (resumes role me rs)
resumes_goes AtRoot me rs = flat_goes (coordinator_resumes me None rs) (coordinator_goes me None rs)
    (cases_in rs)
resumes_goes (Below p) me rs = flat_goes (coordinator_resumes me (Some p) rs)
    (coordinator_goes me (Some p) rs) (cases_in rs)
resumes_goes (AtLeaf p) me rs =
    flat_goes (manager_resumes me p rs) (λ c. let v = recorded_branch rs c in inquired me p c v v.standing)
    (cases_in rs)

-- YES.

yes_is : (c : Case) (m : Message) (d : Case) → IsFromCase d m → is_yes_message c m ≡ true → d ≡ c
yes_is c (Yes a) d f e = sym f ∙ is_same a c e
  where
    is_same : (a b : Case) → same_case a b ≡ true → a ≡ b
    is_same a b f = elim (same_case_tells a b) [ inl t ↦ t.1 | inr g ↦ absurd (let k = g.0 in cc) ]
yes_is c (No a) d f e = absurd (cc)
yes_is c (Read a) d f e = absurd (cc)
yes_is c (Ack a o fs) d f e = absurd (cc)
yes_is c (Inquire a) d f e = absurd (cc)
yes_is c (Join a) d f e = absurd (cc)
yes_is c (Joined a t) d f e = absurd (cc)
yes_is c (Work a k op) d f e = absurd (cc)
yes_is c (Prepare a k) d f e = absurd (cc)
yes_is c (Commit a) d f e = absurd (cc)
yes_is c (Abort a) d f e = absurd (cc)

down_is_no_yes : (c d : Case) (m : Message) → IsForCase d m → is_yes_message c m ≡ false
down_is_no_yes c d (Yes a) f = absurd f
down_is_no_yes c d (No a) f = refl
down_is_no_yes c d (Read a) f = refl
down_is_no_yes c d (Ack a o fs) f = refl
down_is_no_yes c d (Inquire a) f = refl
down_is_no_yes c d (Join a) f = refl
down_is_no_yes c d (Joined a t) f = refl
down_is_no_yes c d (Work a k op) f = refl
down_is_no_yes c d (Prepare a k) f = refl
down_is_no_yes c d (Commit a) f = refl
down_is_no_yes c d (Abort a) f = refl

-- a YES of a coordinator is of the case that sends it, which has a parent
pub record SaysYes (s : Seat) (c : Case) : Type 0 where
  pub parent : ProcessId
  pub has_parent : s.parent ≡ Some parent
  pub same : s.own ≡ c

pub not_so : {A : Type 0} (b : Bool) → b ≡ false → b ≡ true → A
not_so b e f = absurd (cc)

said_yes : (s : Seat) (c : Case) (l : Envelope) → Sends s l → is_yes_message c l.message ≡ true
    → SaysYes s c
said_yes s c _ (down t m f) e = not_so (is_yes_message c m) (down_is_no_yes c (child_case s.own.txn t) m f)
    e
said_yes s c _ (upward p m g f) e = record { parent = p; has_parent = g; same = yes_is c m s.own f e }
said_yes s c _ (invites q) e = absurd (cc)

pub any_yes : (s : Seat) (c : Case) (ls : List Envelope) → AllSent s ls
    → sent (is_yes_message c) ls ≡ true → SaysYes s c
unfolding sent
any_yes s c [] a e = absurd (cc)
any_yes s c (l ∷ ls) a e = elim (either (is_yes_message c l.message) (sent (is_yes_message c) ls) e) [
  | inl now ↦ said_yes s c l a.0 now
  | inr rest ↦ any_yes s c ls a.1 rest
]
