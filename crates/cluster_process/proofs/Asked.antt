-- What is asked of a process may be wanted.
use Rattle.std.proofs.Common.{◌≡◌, ◌∙◌, ◌+◌, ◌-◌, ap, sym, subst, refl, ℕ, zero, suc, Some, List, slice_get, arith}
use Rattle.protocol.specs.declared.names.ProcessId.{ProcessId}
use Rattle.protocol.specs.declared.messages.Envelope.{Envelope}
use Rattle.protocol.specs.declared.events.Event.{Event}
use Rattle.protocol.specs.declared.events.Event.TheVariants.{Deliver, Settle, Restart, Trim}
use Rattle.protocol_words.specs.Variants.{ActOf, Handles, MessageInput}
use Rattle.protocol.specs.declared.events.Happening.{Happening}
use Rattle.protocol.specs.Plays.{sent_as}
use Rattle.process_state.specs.States.{CoreState}
use Rattle.proof_cuts.specs.Alone.{IsMine}
use Rattle.tree_state.specs.Cuts.{FindsMessage}
use Rattle.cluster_process.specs.Makes.{FitsNode}
use Rattle.cluster_process.specs.Marks.{ActsHere, Happens, IsNotFor}
use Rattle.cluster_process.specs.Posts.{AsksAt}

sent_finds : (net : List Envelope) (me : ProcessId) (k : ℕ) (l : Envelope) → sent_as net k ≡ Some l
    → l.to ≡ me
    → FindsMessage net me (Handles (MessageInput k l.message))
sent_finds net me zero l sent to = absurd (cc)
sent_finds net me (suc k) l sent to = record {
  sender = l.from;
  counted = omega arith;
  stands = ap (slice_get net) (same k) ∙ sent
      ∙ (λ i. Some (record { from = l.from; to = to i; message = l.message }));
}
  where
    same : (k : ℕ) → 0 + (suc k - 1) ≡ k
    same k = omega arith

pub finds_it : (net : List Envelope) (me : ProcessId) (s : CoreState) (event : Event)
    (h : Happening) (keep : ℕ)
    → Happens net me s event h keep → FindsMessage net me h
finds_it net me s (ActOf a) h keep is = subst (λ x. FindsMessage net me x) (sym is) tt
finds_it net me s (Deliver k) h keep is =
    subst (λ x. FindsMessage net me x) (sym is.happens) (sent_finds net me k is.envelope is.sent is.receiver)
finds_it net me s Settle h keep is = absurd is
finds_it net me s (Restart p bytes) h keep is = subst (λ x. FindsMessage net me x) (sym is.2) tt
finds_it net me s (Trim p) h keep is = subst (λ x. FindsMessage net me x) (sym is.1) tt

pub fits_it : (net : List Envelope) (me : ProcessId) (s : CoreState) (event : Event)
    (h : Happening) (keep : ℕ)
    → Happens net me s event h keep → FitsNode s keep h
fits_it net me s (ActOf a) h keep is = subst (λ x. FitsNode s keep x) (sym is) tt
fits_it net me s (Deliver k) h keep is = subst (λ x. FitsNode s keep x) (sym is.happens) tt
fits_it net me s Settle h keep is = absurd is
fits_it net me s (Restart p bytes) h keep is = subst (λ x. FitsNode s keep x) (sym is.2) refl
fits_it net me s (Trim p) h keep is = subst (λ x. FitsNode s keep x) (sym is.1) tt

-- what happens by an event is what it asks of the process
pub asks_it : (net : List Envelope) (me : ProcessId) (s : CoreState) (event : Event)
    (h : Happening) (keep : ℕ)
    → Happens net me s event h keep → AsksAt s event h
asks_it net me s (ActOf a) h keep is = is
asks_it net me s (Deliver k) h keep is = (is.envelope.message, is.happens)
asks_it net me s Settle h keep is = absurd is
asks_it net me s (Restart p bytes) h keep is = (keep, is.1, is.2)
asks_it net me s (Trim p) h keep is = is.1

-- an act of this process
pub mine_it : (root me : ProcessId) (net : List Envelope) (s : CoreState) (event : Event)
    (h : Happening) (keep : ℕ)
    → ActsHere root me event → Happens net me s event h keep → IsMine root me h
mine_it root me net s (ActOf a) h keep acts is = subst (λ x. IsMine root me x) (sym is) (sym acts)
mine_it root me net s (Deliver k) h keep acts is = subst (λ x. IsMine root me x) (sym is.happens) tt
mine_it root me net s Settle h keep acts is = absurd is
mine_it root me net s (Restart p bytes) h keep acts is = subst (λ x. IsMine root me x) (sym is.2) tt
mine_it root me net s (Trim p) h keep acts is = subst (λ x. IsMine root me x) (sym is.1) tt

pub not_strange : (net : List Envelope) (me : ProcessId) (k : ℕ) (l : Envelope) → sent_as net k ≡ Some l
    → l.to ≡ me → IsNotFor me (sent_as net k) → ⊥
not_strange net me k l sent to strange = subst (λ o. IsNotFor me o) sent strange to
