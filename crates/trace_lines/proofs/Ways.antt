-- What is before a message's word.
use Rattle.std.proofs.Common.{◌≡◌, ℕ, ◌++◌, append_assoc}
use Rattle.protocol.specs.declared.messages.Envelope.{Envelope}
use Rattle.protocol.specs.Texts.{envelope_text, message_text}
use Rattle.trace_lines.specs.Trace.{way_text}

-- a message with what is before it is its text
pub envelope_way : (n : ℕ) (e : Envelope) → way_text n e ++ message_text e.message ≡ envelope_text n e
unfolding way_text
envelope_way n e = simp append_assoc
