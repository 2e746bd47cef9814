-- A message that was delivered was sent.
use Rattle.std.proofs.Common.{◌≡◌, ◌∙◌, ◌-◌, ℕ, zero, suc, Bool, true, Some, List, [], ◌∷◌, ap, subst}
use Rattle.std.specs.Prelude.{slice_get}
use Rattle.protocol.specs.declared.names.ProcessId.{ProcessId}
use Rattle.protocol.specs.declared.messages.Message.{Message}
use Rattle.protocol.specs.declared.messages.Envelope.{Envelope}
use Rattle.protocol.specs.declared.events.Input.{Input}
use Rattle.protocol_words.specs.Variants.{MessageInput}
use Rattle.protocol.specs.Outcomes.{sent}
use Rattle.protocol.specs.World.{IsSent, InputStands}
use Rattle.proof_processes.proofs.Tests.{left, right}

pub sent_at : (q : Message → Bool) (ls : List Envelope) (k : ℕ) (l : Envelope) → slice_get ls k ≡ Some l
    → q l.message ≡ true
    → sent q ls ≡ true
unfolding sent
sent_at q [] k l e f = absurd (cc)
sent_at q (m ∷ ls) zero l e f = let g : m ≡ l = cc in left _ _ (ap (λ (z : Envelope). q z.message) g ∙ f)
sent_at q (m ∷ ls) (suc k) l e f = right _ _ (sent_at q ls k l e f)

pub was_sent : (q : Message → Bool) (net : List Envelope) (me : ProcessId) (i : Input) (k : ℕ) (m : Message)
    → InputStands net me i → i ≡ MessageInput k m → q m ≡ true → sent q net ≡ true
was_sent q net me i k m s e f =
    let t : IsSent net me k m = subst (λ (x : Input). InputStands net me x) e s in sent_at q net t.place _
    t.stands f
