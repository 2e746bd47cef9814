-- A cascaded coordinator's records are of its own cases, and a parent's messages go to their cases' owners.
use Rattle.std.proofs.Common.{◌≡◌, ◌∙◌, ◌-◌, ℕ, zero, suc, true, false, Some, List, [], ◌∷◌, ◌++◌, refl, ap, subst}
use Rattle.std.specs.Prelude.{slice_get, not}
use Rattle.std.specs.List.{flat_map}
use Rattle.protocol.specs.declared.names.Case.{Case}
use Rattle.protocol.specs.declared.names.ProcessId.{ProcessId}
use Rattle.protocol.specs.declared.messages.Message.{Message}
use Rattle.protocol.specs.declared.messages.Message.TheVariants.{Join, Joined, Work, Prepare, Yes, No, Read, Commit, Abort, Ack, Inquire}
use Rattle.protocol.specs.declared.messages.Envelope.{Envelope}
use Rattle.protocol.specs.declared.records.Record.{Record}
use Rattle.protocol.specs.declared.standings.Standing.{Standing}
use Rattle.protocol.specs.declared.standings.Standing.TheVariants.{Unknown, Active, Collecting, Prepared, Committing, Aborting, Heuristic}
use Rattle.protocol.specs.declared.events.Input.{Input}
use Rattle.protocol_words.specs.Variants.{MessageInput}
use Rattle.protocol.specs.Records.{has, cases_in}
use Rattle.protocol.specs.Nodes.{Below, Place, Node, kept, Written, entries_written}
use Rattle.protocol.specs.Standings.{CoordinatorView}
use Rattle.protocol.specs.Restarts.{reopens, aborts_collecting, restart_abort, recorded_view}
use Rattle.protocol.specs.World.{IsSent, InputStands}
use Rattle.proof_pairs.specs.turns.Written.{AtMostOne, wrote_none, wrote_one, IsForCase, MayWrite, writes_nothing, for_act, for_report, for_child, for_parent, presumes, gives}
use Rattle.proof_processes.specs.Owns.{is_own_case, is_foreign, is_foreign_case, AllOwn, GoesToOwner, AllGoToOwners}
use Rattle.proof_processes.proofs.Tests.{neither, has-cons, has-nil, in_none}
use Rattle.proof_processes.proofs.Cases.{own_cases_in, child_of_own, known_is_own}

-- The net.

pub goes_at : (ls : List Envelope) (k : ℕ) (l : Envelope) → AllGoToOwners ls → slice_get ls k ≡ Some l
    → GoesToOwner l.to l.message
goes_at [] k l a e = absurd (cc)
goes_at (m ∷ ls) zero l a e = let f : m ≡ l = cc in subst (λ (z : Envelope). GoesToOwner z.to z.message) f
    a.0
goes_at (m ∷ ls) (suc k) l a e = goes_at ls k l a.1 e

pub goes_both : (xs ys : List Envelope) → AllGoToOwners xs → AllGoToOwners ys → AllGoToOwners (xs ++ ys)
goes_both [] ys a b = b
goes_both (x ∷ xs) ys a b = (a.0, goes_both xs ys a.1 b)

pub of_parent : (q : ProcessId) (c : Case) (m : Message) → IsForCase c m → GoesToOwner q m
    → is_own_case q c ≡ true
of_parent q c (Work d k op) e f = subst (λ (x : Case). is_own_case q x ≡ true) e f
of_parent q c (Prepare d k) e f = subst (λ (x : Case). is_own_case q x ≡ true) e f
of_parent q c (Commit d) e f = subst (λ (x : Case). is_own_case q x ≡ true) e f
of_parent q c (Abort d) e f = subst (λ (x : Case). is_own_case q x ≡ true) e f
of_parent q c (Join d) e f = absurd e
of_parent q c (Joined d t) e f = absurd e
of_parent q c (Yes d) e f = absurd e
of_parent q c (No d) e f = absurd e
of_parent q c (Read d) e f = absurd e
of_parent q c (Ack d o fs) e f = absurd e
of_parent q c (Inquire d) e f = absurd e

-- a message that was delivered goes to its case's owner
pub delivered : (net : List Envelope) (q : ProcessId) (i : Input) (k : ℕ) (m : Message)
    → AllGoToOwners net → InputStands net q i
    → i ≡ MessageInput k m → GoesToOwner q m
delivered net q i k m a s e =
    let t : IsSent net q k m = subst (λ (x : Input). InputStands net q x) e s in
    goes_at net t.place _ a t.stands

-- Records of own cases.

own_one : (me : ProcessId) (c : Case) (ws : List Written) → is_own_case me c ≡ true → AtMostOne c ws
    → has (is_foreign me) (entries_written ws) ≡ false
unfolding has
own_one me c _ own wrote_none = refl
own_one me c _ own (wrote_one r b of kind) = neither _ _ (ap (is_foreign_case me) of ∙ ap not own) refl

-- the case of an input at a cascaded coordinator is its own
module _ (place : Place) (p : ProcessId) (role : place.role ≡ Below p) (n : Node)
    (none : has (is_foreign place.me) (kept n) ≡ false) (net : List Envelope) (goes : AllGoToOwners net)
  where
    pub own_written : (i : Input) (ws : List Written) (ls : List Envelope) → InputStands net place.me i
        → MayWrite place (Some p) n i ws ls → has (is_foreign place.me) (entries_written ws) ≡ false
    own_written i ws ls s (writes_nothing e f) = ap (λ x. has (is_foreign place.me) (entries_written x)) e ∙
        has-nil (is_foreign place.me)
    own_written i ws ls s (for_act a c e known one sent) = own_one place.me c ws
        (known_is_own place p role n none c known) one
    own_written i ws ls s (for_report c e f g one h) = absurd (cc)
    own_written i ws ls s (for_child c x t e one sent) = own_one place.me c ws
        (child_of_own place p role n none x t c e) one
    own_written i ws ls s (for_parent c k m e f one sent) =
        own_one place.me c ws (of_parent place.me c m f (delivered net place.me i k m goes s e)) one
    own_written i ws ls s (presumes x t o e f) = ap (λ y. has (is_foreign place.me) (entries_written y)) e ∙
        has-nil (is_foreign place.me)
    own_written i ws ls s (gives q d t e f k j a) =
        ap (λ x. has (is_foreign place.me) (entries_written x)) e ∙
        has-nil (is_foreign place.me)

-- What a restart appends.

module _ (me : ProcessId) (rs : List Record) where
  own_abort : (c : Case) (v : CoordinatorView) (st : Standing) → is_own_case me c ≡ true
      → has (is_foreign me) (restart_abort c v st) ≡ false
  unfolding has
  own_abort c v Collecting own = neither _ _ (ap not own) refl
  own_abort c v Unknown own = refl
  own_abort c v Active own = refl
  own_abort c v Prepared own = refl
  own_abort c v Committing own = refl
  own_abort c v Aborting own = refl
  own_abort c v Heuristic own = refl

  own_aborts : (cs : List Case) → AllOwn me cs
      → has (is_foreign me) (flat_map (aborts_collecting rs) cs) ≡ false
  own_aborts [] a = has-nil (is_foreign me)
  own_aborts (c ∷ cs) a =
      in_none (is_foreign me) (aborts_collecting rs c) (flat_map (aborts_collecting rs) cs)
      (let v = recorded_view rs c in own_abort c v v.standing a.0) (own_aborts cs a.1)

  pub own_reopens : (p : ProcessId) → has (is_foreign me) rs ≡ false
      → has (is_foreign me) (reopens (Below p) rs) ≡ false
  own_reopens p none = has-cons (is_foreign me) _ _ ∙ neither _ _ refl
      (own_aborts (cases_in rs) (own_cases_in me rs none))
