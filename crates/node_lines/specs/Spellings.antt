-- Which messages have a text that is read back, and a line.
use Rattle.std.specs.Prelude.{◌≡◌, ◌<◌, ◌^◌, ℕ, List, [], ◌∷◌}
use Rattle.protocol.specs.declared.names.Case.{Case}
use Rattle.protocol.specs.declared.names.ProcessId.{ProcessId}
use Rattle.protocol.specs.declared.names.Ticket.{Ticket}
use Rattle.protocol.specs.declared.messages.Envelope.{Envelope}
use Rattle.protocol.specs.declared.messages.Finding.{Finding}
use Rattle.protocol.specs.declared.messages.Finding.TheVariants.{Mixed, Unreported}
use Rattle.protocol.specs.declared.messages.Message.{Message}
use Rattle.protocol.specs.declared.messages.Message.TheVariants.{Join, Joined, Work, Prepare, Yes, No, Read, Commit, Abort, Ack, Inquire}
use Rattle.protocol.specs.declared.messages.Op.{Op}
use Rattle.protocol.specs.Records.{in_order}
use Rattle.protocol.specs.Texts.{envelope_text}
use Rattle.tree_script.specs.Spellings.{FitsCase, FitsOp, FitsProcess, FitsTicket}

-- what a `JOINED` names has a spelling
pub record FitsJoined (root : ProcessId) (c : Case) (t : Ticket) : Type 0 where
  pub case_fits : FitsCase root c
  pub ticket_fits : FitsTicket t

-- what a `WORK` names has a spelling
pub record FitsWork (root : ProcessId) (c : Case) (number : ℕ) (op : Op) : Type 0 where
  pub case_fits : FitsCase root c
  pub number_fits : number < 2 ^ 64
  pub op_fits : FitsOp op

-- what a `PREPARE` names has a spelling
pub record FitsPrepare (root : ProcessId) (c : Case) (count : ℕ) : Type 0 where
  pub case_fits : FitsCase root c
  pub count_fits : count < 2 ^ 64

-- what was found has a spelling
abbrev pub FitsFindings : List Finding → Type 0
FitsFindings [] = Unit {0}
FitsFindings (Mixed t ∷ fs) = FitsTicket t × FitsFindings fs
FitsFindings (Unreported t ∷ fs) = FitsTicket t × FitsFindings fs

-- what an `ACK` names has a spelling, and what it found is in the order of its text
pub record FitsAck (root : ProcessId) (c : Case) (fs : List Finding) : Type 0 where
  pub case_fits : FitsCase root c
  pub findings_fit : FitsFindings fs
  pub findings_ordered : in_order fs ≡ fs

-- what a message names has a spelling, and it is of a transaction of this root
abbrev pub FitsMessage : ProcessId → Message → Type 0
FitsMessage root (Join c) = FitsCase root c
FitsMessage root (Joined c t) = FitsJoined root c t
FitsMessage root (Work c i op) = FitsWork root c i op
FitsMessage root (Prepare c n) = FitsPrepare root c n
FitsMessage root (Yes c) = FitsCase root c
FitsMessage root (No c) = FitsCase root c
FitsMessage root (Read c) = FitsCase root c
FitsMessage root (Commit c) = FitsCase root c
FitsMessage root (Abort c) = FitsCase root c
FitsMessage root (Ack c o fs) = FitsAck root c fs
FitsMessage root (Inquire c) = FitsCase root c

-- a message has a line: its number, its sender and its receiver have a spelling, and so has what it names
pub record FitsLine (root : ProcessId) (line : ℕ × Envelope) : Type 0 where
  pub number_fits : line.0 < 2 ^ 64
  pub sender_fits : FitsProcess line.1.from
  pub receiver_fits : FitsProcess line.1.to
  pub message_fits : FitsMessage root line.1.message

-- the line of a message with its number, as a trace has it
abbrev pub spelled_line : ℕ × Envelope → List ℕ
spelled_line (number, e) = envelope_text number e
