-- The active tickets of a coordinator below the root: one at most for each case of the parent.
use Rattle.std.proofs.Common.{◌≡◌, ℕ, true, Option, Some, None, List, [], ◌∷◌, refl, sym, subst}
use Rattle.std.specs.Prelude.{fold}
use Rattle.protocol.specs.declared.names.Case.{Case}
use Rattle.protocol.specs.declared.names.ProcessId.{ProcessId}
use Rattle.protocol.specs.declared.names.Ticket.{Ticket}
use Rattle.protocol.specs.declared.messages.Message.{Message}
use Rattle.protocol.specs.declared.messages.Message.TheVariants.{Join, Joined, Work, Prepare, Yes, No, Read, Commit, Abort, Ack, Inquire}
use Rattle.protocol.specs.declared.events.Input.{Input}
use Rattle.protocol_words.specs.Variants.{ActInput, MessageInput}
use Rattle.protocol.specs.declared.trees.TreeProcess.{TreeProcess}
use Rattle.protocol.specs.Records.{boot_of}
use Rattle.protocol.specs.Nodes.{Below, Heard, Node, kept}
use Rattle.protocol.specs.Memory.{active_ticket, fresh_memory, memory_of}
use Rattle.proof_processes.proofs.Selves.{Self, hears_self, issuer_self, joins_self, self_after, self_is, self_of}
use Rattle.proof_runs.proofs.CascadeQuiet.{cascaded_place}
use Rattle.proof_runs.proofs.Tickets.{IsOnce, once_more, once_without}

module _ (me : ProcessId) (boot : ℕ) where
  once_joins : (s : Self) (d : Case) (o : Option Ticket) → active_ticket s.active d ≡ o → IsOnce s.active
      → IsOnce (joins_self me boot s d o).active
  once_joins s d (Some t) is once = once
  once_joins s d None is once = once_more d _ s.active is once

  once_hears : (s : Self) (m : Message) → IsOnce s.active → IsOnce (hears_self me boot true s m).active
  once_hears s (Join d) once = once_joins s d (active_ticket s.active d) refl once
  once_hears s (Prepare d k) once = once_without d s.active once
  once_hears s (Abort d) once = once_without d s.active once
  once_hears s (Joined d t) once = once
  once_hears s (Work d i op) once = once
  once_hears s (Yes d) once = once
  once_hears s (No d) once = once
  once_hears s (Read d) once = once
  once_hears s (Commit d) once = once
  once_hears s (Ack d o fs) once = once
  once_hears s (Inquire d) once = once

  once_heard : (s : Self) (i : Input) → IsOnce s.active → IsOnce (issuer_self me boot true s i).active
  once_heard s (ActInput x) once = once
  once_heard s (MessageInput k m) once = once_hears s m once

  once_all : (p : ProcessId) (s : Self) (hs : List Heard) → IsOnce s.active
      → IsOnce (fold (self_after me (Below p) boot) s hs).active
  once_all p s [] once = once
  once_all p s (h ∷ hs) once = once_all p (issuer_self me boot true s h.input) hs (once_heard s h.input once)

pub cascaded_once : (me p : ProcessId) (tree : List TreeProcess) (n : Node) (c : Case)
    → IsOnce (memory_of (cascaded_place me p tree) n c).active
cascaded_once me p tree n c =
    subst (λ (s : Self). IsOnce s.active) (sym (self_is (cascaded_place me p tree) n c))
    (once_all me (boot_of (kept n)) p (self_of fresh_memory) n.heard tt)
