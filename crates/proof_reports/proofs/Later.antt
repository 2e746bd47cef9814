-- Findings that are true stay so, as what was ever forced only grows.
use Rattle.std.proofs.Common.{◌≡◌, ℕ, zero, suc, Bool, true, Some, List, [], ◌∷◌, ◌++◌, subst}
use Rattle.std.specs.List.{flat_map}
use Rattle.std.specs.Prelude.{slice_get, map}
use Rattle.protocol.specs.declared.names.Case.{Case}
use Rattle.protocol.specs.declared.names.ProcessId.{ProcessId}
use Rattle.protocol.specs.declared.names.Ticket.{Ticket}
use Rattle.protocol.specs.declared.names.Txn.{Txn}
use Rattle.protocol.specs.declared.names.Outcome.{Outcome}
use Rattle.protocol.specs.declared.messages.Finding.{Finding}
use Rattle.protocol.specs.declared.messages.Finding.TheVariants.{Mixed, Unreported}
use Rattle.protocol.specs.declared.messages.Message.{Message}
use Rattle.protocol.specs.declared.messages.Message.TheVariants.{Join, Joined, Work, Prepare, Yes, No, Read, Commit, Abort, Ack, Inquire}
use Rattle.protocol.specs.declared.messages.Envelope.{Envelope}
use Rattle.protocol.specs.declared.records.Record.{Record}
use Rattle.protocol.specs.declared.events.Input.{Input}
use Rattle.protocol_words.specs.Variants.{ActInput, MessageInput}
use Rattle.protocol.specs.Names.{child_case}
use Rattle.protocol.specs.Records.{has, in_order, is_decided, mixed_of, unreported_of}
use Rattle.protocol.specs.Nodes.{Heard, Node}
use Rattle.protocol.specs.Standings.{other_outcome}
use Rattle.proof_reports.specs.Findings.{AllSayTrue, AreTrue, IsTrue, SaysTrue}

-- Lists.

module _ (at : ProcessId → Node) where
  pub are_both : (x : Txn) (o : Outcome) (fs gs : List Finding) → AreTrue at x o fs → AreTrue at x o gs
      → AreTrue at x o (fs ++ gs)
  are_both x o [] gs f g = g
  are_both x o (a ∷ fs) gs f g = (f.0, are_both x o fs gs f.1 g)

  mixed_so : (x : Txn) (o : Outcome) (fs : List Finding) → AreTrue at x o fs
      → AreTrue at x o (map (λ t. Mixed t) (mixed_of fs))
  unfolding mixed_of
  mixed_so x o [] f = tt
  mixed_so x o (Mixed t ∷ fs) f = (f.0, mixed_so x o fs f.1)
  mixed_so x o (Unreported t ∷ fs) f = mixed_so x o fs f.1

  unreported_so : (x : Txn) (o : Outcome) (ts : List Ticket) → AreTrue at x o (map (λ t. Unreported t) ts)
  unreported_so x o [] = tt
  unreported_so x o (t ∷ ts) = (tt, unreported_so x o ts)

  pub in_order_so : (x : Txn) (o : Outcome) (fs : List Finding) → AreTrue at x o fs
      → AreTrue at x o (in_order fs)
  in_order_so x o fs f =
      are_both x o (map (λ t. Mixed t) (mixed_of fs)) (map (λ t. Unreported t) (unreported_of fs))
      (mixed_so x o fs f) (unreported_so x o (unreported_of fs))

  pub say_both : (xs ys : List Envelope) → AllSayTrue at xs → AllSayTrue at ys → AllSayTrue at (xs ++ ys)
  say_both [] ys f g = g
  say_both (l ∷ xs) ys f g = (f.0, say_both xs ys f.1 g)

  pub flat_says : (f : Case → List Envelope) → ((c : Case) → AllSayTrue at (f c)) → (cs : List Case)
      → AllSayTrue at (flat_map f cs)
  flat_says f g [] = tt
  flat_says f g (c ∷ cs) = say_both (f c) (flat_map f cs) (g c) (flat_says f g cs)

  pub map_says : (f : Ticket → Envelope) → ((t : Ticket) → SaysTrue at (f t).message) → (ts : List Ticket)
      → AllSayTrue at (map f ts)
  map_says f g [] = tt
  map_says f g (t ∷ ts) = (g t, map_says f g ts)

  pub says_at : (net : List Envelope) (k : ℕ) (l : Envelope) → AllSayTrue at net → slice_get net k ≡ Some l
      → SaysTrue at l.message
  says_at [] k l g e = absurd (cc)
  says_at (m ∷ ls) zero l g e =
      let f : m ≡ l = cc in subst (λ (x : Envelope). SaysTrue at x.message) f g.0
  says_at (m ∷ ls) (suc k) l g e = says_at ls k l g.1 e

-- What was heard.

-- what an input says is true
abbrev pub InputTrue : (ProcessId → Node) → Input → Type 0
InputTrue at (MessageInput k m) = SaysTrue at m
InputTrue at (ActInput a) = Unit {0}

-- what was heard is true
abbrev pub AllHeardTrue : (ProcessId → Node) → List Heard → Type 0
AllHeardTrue at [] = Unit {0}
AllHeardTrue at (h ∷ hs) = InputTrue at h.input × AllHeardTrue at hs

pub heard_one : (at : ProcessId → Node) (hs : List Heard) (h : Heard) → AllHeardTrue at hs
    → InputTrue at h.input
    → AllHeardTrue at (hs ++ h ∷ [])
heard_one at [] h f g = (g, tt)
heard_one at (a ∷ hs) h f g = (f.0, heard_one at hs h f.1 g)

-- Later.

module _ (at later : ProcessId → Node)
    (grows : (q : ProcessId) (r : Record → Bool) → has r (at q).durable ≡ true
    → has r (later q).durable ≡ true)
  where
    pub is_still : (x : Txn) (o : Outcome) (f : Finding) → IsTrue at x o f → IsTrue later x o f
    is_still x o (Mixed t) e = grows t.child (is_decided (child_case x t) (other_outcome o)) e
    is_still x o (Unreported t) e = tt

    pub are_still : (x : Txn) (o : Outcome) (fs : List Finding) → AreTrue at x o fs → AreTrue later x o fs
    are_still x o [] e = tt
    are_still x o (f ∷ fs) e = (is_still x o f e.0, are_still x o fs e.1)

    pub says_still : (m : Message) → SaysTrue at m → SaysTrue later m
    says_still (Ack d o fs) e = are_still d.txn o fs e
    says_still (Join d) e = tt
    says_still (Joined d t) e = tt
    says_still (Work d k op) e = tt
    says_still (Prepare d k) e = tt
    says_still (Yes d) e = tt
    says_still (No d) e = tt
    says_still (Read d) e = tt
    says_still (Commit d) e = tt
    says_still (Abort d) e = tt
    says_still (Inquire d) e = tt

    pub all_say_still : (ls : List Envelope) → AllSayTrue at ls → AllSayTrue later ls
    all_say_still [] e = tt
    all_say_still (l ∷ ls) e = (says_still l.message e.0, all_say_still ls e.1)

    input_still : (i : Input) → InputTrue at i → InputTrue later i
    input_still (MessageInput k m) e = says_still m e
    input_still (ActInput a) e = tt

    pub heard_still : (hs : List Heard) → AllHeardTrue at hs → AllHeardTrue later hs
    heard_still [] e = tt
    heard_still (h ∷ hs) e = (input_still h.input e.0, heard_still hs e.1)
