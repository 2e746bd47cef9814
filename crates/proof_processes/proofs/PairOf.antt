-- A case that was given has a pair, whose ticket is free, and the pair has the invariant.
use Rattle.std.proofs.Common.{◌≡◌, ◌⊎◌, inl, inr, Bool, true, false, not, ◌||◌, ◌&&◌, Option, Some, None, List, [], ◌∷◌, refl, ap, sym, subst, arith}
use Rattle.protocol.specs.declared.names.Case.{Case}
use Rattle.protocol.specs.declared.names.ProcessId.{ProcessId}
use Rattle.protocol.specs.declared.names.Ticket.{Ticket}
use Rattle.protocol.specs.declared.names.Txn.{Txn}
use Rattle.protocol.specs.declared.names.Presumption.{Presumption}
use Rattle.protocol.specs.declared.names.Presumption.TheVariants.{PresumeAbort, PresumeCommit}
use Rattle.protocol_words.specs.Variants.{CommittedOutcome}
use Rattle.protocol.specs.declared.messages.Message.{Message}
use Rattle.protocol.specs.declared.messages.Message.TheVariants.{Join, Joined, Work, Prepare, Yes, No, Read, Commit, Abort, Ack, Inquire}
use Rattle.protocol.specs.declared.messages.Envelope.{Envelope}
use Rattle.protocol.specs.declared.records.Record.{Record}
use Rattle.protocol.specs.declared.trees.TreeProcess.{TreeProcess}
use Rattle.protocol.specs.Names.{same_case, same_ticket, child_case}
use Rattle.protocol.specs.NameLaws.{names, same_case-refl}
use Rattle.protocol.specs.Records.{has, is_commit, is_prepare}
use Rattle.protocol.specs.Nodes.{Role, AtRoot, Below, AtLeaf, Place, place_of, role_of, is_listed, Node}
use Rattle.protocol.specs.Outcomes.{sent, is_joined_message, is_commit_outcome, cascaded_ends, follows}
use Rattle.protocol.specs.World.{World}
use Rattle.proof_pairs.specs.Reading.{Reading}
use Rattle.proof_pairs.specs.Invariant.{Common}
use Rattle.proof_pairs.specs.readings.ReadingOf.{gives_case}
use Rattle.protocol.specs.Audits.{is_committing}
use Rattle.proof_processes.specs.WorldHolds.{IsPair, gives_other, InvariantOf, pair_reading, AllGo, GoesBy, JoinedOnce, WorldHolds, RoleHolds, is_record_of}

either : (a b : Bool) → (a || b) ≡ true → (a ≡ true) ⊎ (b ≡ true)
either a b e = grind arith

left : (a b : Bool) → a ≡ true → (a || b) ≡ true
left a b e = grind arith

right : (a b : Bool) → b ≡ true → (a || b) ≡ true
right a b e = grind arith

case_is : (c d : Case) → same_case c d ≡ true → c ≡ d
case_is c d e = grind (arith, names)

-- JOINED gave the case from this one of its parent
pub record Given (net : List Envelope) (x : Txn) (t : Ticket) : Type 0 where
  pub of : Case
  pub same : of.txn ≡ x
  pub joined : sent (is_joined_message of t) net ≡ true

joined_itself : (d : Case) (u : Ticket) → is_joined_message d u (Joined d u) ≡ true
joined_itself d u = grind (arith, names)

given_txn : (d : Case) (u : Ticket) (x : Txn) (t : Ticket)
    → same_case (child_case d.txn u) (child_case x t) ≡ true
    → (d.txn ≡ x) × (u ≡ t)
given_txn d u x t e =
    let f = case_is (child_case d.txn u) (child_case x t) e in
    (ap (λ (c : Case). c.txn) f, ticket_of (Some u) (Some t) u (ap (λ (c : Case). c.ticket) f) refl)
  where
    or_else : Option Ticket → Ticket → Ticket
    or_else None v = v
    or_else (Some v) w = v

    ticket_of : (a b : Option Ticket) (v : Ticket) → a ≡ b → or_else a v ≡ or_else a v
        → or_else a v ≡ or_else b v
    ticket_of a b v e f = ap (λ (o : Option Ticket). or_else o v) e

given_now : (m : Message) (x : Txn) (t : Ticket) (ls : List Envelope) (l : Envelope) → l.message ≡ m
    → gives_case (child_case x t) m ≡ true → Given (l ∷ ls) x t
unfolding sent
given_now (Joined d u) x t ls l same e =
    let f = given_txn d u x t e in
    record {
      of = d;
      same = f.0;
      joined = left (is_joined_message d t l.message) _
          (subst (λ (z : Message). is_joined_message d t z ≡ true) (sym same)
          (subst (λ (z : Ticket). is_joined_message d z (Joined d u) ≡ true) f.1 (joined_itself d u)));
    }
given_now (Join d) x t ls l same e = absurd (cc)
given_now (Work d i op) x t ls l same e = absurd (cc)
given_now (Prepare d k) x t ls l same e = absurd (cc)
given_now (Yes d) x t ls l same e = absurd (cc)
given_now (No d) x t ls l same e = absurd (cc)
given_now (Read d) x t ls l same e = absurd (cc)
given_now (Commit d) x t ls l same e = absurd (cc)
given_now (Abort d) x t ls l same e = absurd (cc)
given_now (Ack d o fs) x t ls l same e = absurd (cc)
given_now (Inquire d) x t ls l same e = absurd (cc)

pub given : (net : List Envelope) (x : Txn) (t : Ticket) → sent (gives_case (child_case x t)) net ≡ true
    → Given net x t
unfolding sent
given [] x t e = absurd (cc)
given (l ∷ ls) x t e = elim
    (either (gives_case (child_case x t) l.message) (sent (gives_case (child_case x t)) ls) e) [
      | inl now ↦ given_now l.message x t ls l refl now
      | inr old ↦ let g = given ls x t old in record
          { of = g.of; same = g.same; joined = right (is_joined_message g.of t l.message) _ g.joined }
    ]

-- The pair is one of the tree.

pair_now : (tree : List TreeProcess) (l : Envelope) (m : Message) (c : Case) (t : Ticket) → GoesBy tree l m
    → is_joined_message c t m ≡ true → IsPair tree c t
pair_now tree l (Joined d u) c t g e =
    let f : d ≡ c = case_is d c (and_first (same_case d c) (same_ticket u t) e) in
    let h : u ≡ t = ticket_is u t (and_second (same_case d c) (same_ticket u t) e) in
    subst (λ (z : Case). IsPair tree z t) f (subst (λ (z : Ticket). IsPair tree d z) h g.1.1)
  where
    and_first : (a b : Bool) → (a && b) ≡ true → a ≡ true
    and_first a b e = grind arith

    and_second : (a b : Bool) → (a && b) ≡ true → b ≡ true
    and_second a b e = grind arith

    ticket_is : (u t : Ticket) → same_ticket u t ≡ true → u ≡ t
    ticket_is u t e = grind (arith, names)
pair_now tree l (Join d) c t g e = absurd (cc)
pair_now tree l (Work d i op) c t g e = absurd (cc)
pair_now tree l (Prepare d k) c t g e = absurd (cc)
pair_now tree l (Yes d) c t g e = absurd (cc)
pair_now tree l (No d) c t g e = absurd (cc)
pair_now tree l (Read d) c t g e = absurd (cc)
pair_now tree l (Commit d) c t g e = absurd (cc)
pair_now tree l (Abort d) c t g e = absurd (cc)
pair_now tree l (Ack d o fs) c t g e = absurd (cc)
pair_now tree l (Inquire d) c t g e = absurd (cc)

pub is_pair : (tree : List TreeProcess) (net : List Envelope) (c : Case) (t : Ticket) → AllGo tree net
    → sent (is_joined_message c t) net ≡ true → IsPair tree c t
unfolding sent
is_pair tree [] c t g e = absurd (cc)
is_pair tree (l ∷ ls) c t g e = elim
    (either (is_joined_message c t l.message) (sent (is_joined_message c t) ls) e) [
      | inl now ↦ pair_now tree l l.message c t g.0 now
      | inr old ↦ is_pair tree ls c t g.1 old
    ]

-- Its ticket is free.

none_other : (d c : Case) (u t : Ticket)
    → (same_case d c && same_ticket u t) ≡ (same_ticket u t && same_case d c)
none_other d c u t = grind arith

pub is_free : (net ls : List Envelope) (c : Case) (t : Ticket)
    → ((d : Case) → sent (is_joined_message d t) ls ≡ true → sent (is_joined_message d t) net ≡ true)
    → JoinedOnce net → sent (is_joined_message c t) net ≡ true → sent (gives_other c t) ls ≡ false
unfolding sent
is_free net [] c t sub once e = refl
is_free net (l ∷ ls) c t sub once e =
    free_step (gives_other c t l.message) (sent (gives_other c t) ls) (free_now l.message refl)
    (is_free net ls c t (λ d f. sub d (right (is_joined_message d t l.message) _ f)) once e)
  where
    free_step : (a b : Bool) → a ≡ false → b ≡ false → (a || b) ≡ false
    free_step a b f g = grind arith

    not_given : (d : Case) (u : Ticket) → sent (is_joined_message d t) net ≡ true
        → (same_ticket u t && not (same_case d c)) ≡ false
    not_given d u f =
        let g = once c d t e f in
        let h : c ≡ d = case_is c d g in
        subst (λ (z : Case). (same_ticket u t && not (same_case z c)) ≡ false) h
        (let r = same_case-refl c in grind (arith, r))

    by_ticket : (d : Case) (u : Ticket) (b : Bool) → same_ticket u t ≡ b → l.message ≡ Joined d u
        → (same_ticket u t && not (same_case d c)) ≡ false
    by_ticket d u false f m = rw f refl
    by_ticket d u true f m = not_given d u
        (sub d (left (is_joined_message d t l.message) _
        (subst (λ (z : Message). is_joined_message d t z ≡ true) (sym m)
        (let r = same_case-refl d in grind (arith, r, f)))))

    free_now : (m : Message) → l.message ≡ m → gives_other c t m ≡ false
    free_now (Joined d u) m = by_ticket d u (same_ticket u t) refl m
    free_now (Join d) m = refl
    free_now (Work d i op) m = refl
    free_now (Prepare d k) m = refl
    free_now (Yes d) m = refl
    free_now (No d) m = refl
    free_now (Read d) m = refl
    free_now (Commit d) m = refl
    free_now (Abort d) m = refl
    free_now (Ack d o fs) m = refl
    free_now (Inquire d) m = refl

-- So the pair has the invariant.

pub common_of : (p : Presumption) (r : Reading) → InvariantOf p r → Common r
common_of PresumeAbort r h = h.common
common_of PresumeCommit r h = h.common

pub pair_of : (tree : List TreeProcess) (w : World) → WorldHolds tree w
    → (x : Txn) (t : Ticket) (g : Given w.net x t)
    → IsPair tree g.of t × Common (pair_reading tree w g.of t)
pair_of tree w h x t g =
    let pair = is_pair tree w.net g.of t h.net g.joined in (
      pair,
      common_of g.of.txn.presumption _
          (h.pairs g.of t pair (is_free w.net w.net g.of t (λ d e. e) h.joined_once g.joined)),
    )

-- A cascaded coordinator that committed after its promise: the outcome is commit.

follows_has : (q r : Record → Bool) (xs : List Record) → follows q r xs ≡ true → has q xs ≡ true
unfolding has
follows_has q r [] e = absurd (cc)
follows_has q r (x ∷ xs) e = grind (arith, follows_has q r xs)

has_other : (q r : Record → Bool) (xs : List Record) → ((x : Record) → q x ≡ true → r x ≡ true)
    → has q xs ≡ true → has r xs ≡ true
unfolding has
has_other q r [] f e = absurd (cc)
has_other q r (x ∷ xs) f e = elim (either (q x) (has q xs) e) [
  | inl now ↦ left (r x) (has r xs) (f x now)
  | inr old ↦ right (r x) (has r xs) (has_other q r xs f old)
]

commit_of : (d : Case) (x : Record) → is_commit d x ≡ true → is_record_of d x ≡ true
commit_of d x e = grind arith

commit_ends : (d : Case) (x : Record) → is_commit d x ≡ true → is_committing d x ≡ true
commit_ends d x e = grind arith

given_at : (role : Role) (place : Place) (net : List Envelope) (n : Node) (p : ProcessId) (d : Case)
    → role ≡ Below p
    → RoleHolds role place net n → has (is_record_of d) n.life ≡ true → sent (gives_case d) net ≡ true
given_at (Below q) place net n p d e h f = (h.1.1.recorded_is_given d f).1
given_at AtRoot place net n p d e h f = absurd (cc)
given_at (AtLeaf q) place net n p d e h f = absurd (cc)

pub cascaded_commits : (tree : List TreeProcess) (w : World) → WorldHolds tree w
    → (x : Txn) (t : Ticket) (p : ProcessId)
    → role_of tree t.child ≡ Below p → is_listed tree t.child ≡ true
    → cascaded_ends (w.at t.child) (child_case x t) CommittedOutcome ≡ true → is_commit_outcome w x ≡ true
cascaded_commits tree w h x t p role listed e =
    let d = child_case x t in
    let n = w.at t.child in
    let wrote = follows_has (is_commit d) (is_prepare d) n.life e in
    let g = given w.net x t
    (given_at (role_of tree t.child) (place_of tree t.child) w.net n p d role
    (h.nodes t.child listed).role
    (has_other (is_commit d) (is_record_of d) n.life (commit_of d) wrote)) in
    let both = pair_of tree w h x t g in
    let committed : has (is_committing (child_case g.of.txn t)) n.life ≡ true =
    subst (λ (z : Txn). has (is_committing (child_case z t)) n.life ≡ true) (sym g.same)
    (has_other (is_commit d) (is_committing d) n.life (commit_ends d) wrote) in
    subst (λ (z : Txn). is_commit_outcome w z ≡ true) g.same (both.1.child_commit_is_the_outcome committed)
