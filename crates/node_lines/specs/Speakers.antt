-- Who may send a message: a message about a case travels between that case's process and its parent.
use Rattle.std.specs.Prelude.{Bool, false, ◌&&◌, Option, Some, None, List}
use Rattle.protocol.specs.declared.messages.Envelope.{Envelope}
use Rattle.protocol.specs.declared.messages.Message.{Message}
use Rattle.protocol.specs.declared.messages.Message.TheVariants.{Join, Joined, Work, Prepare, Yes, No, Read, Commit, Abort, Ack, Inquire}
use Rattle.protocol.specs.declared.names.Case.{Case}
use Rattle.protocol.specs.declared.names.ProcessId.{ProcessId}
use Rattle.protocol.specs.declared.trees.TreeProcess.{TreeProcess}
use Rattle.protocol.specs.Names.{process_of, same_process}
use Rattle.protocol.specs.Nodes.{is_parent}
use Rattle.protocol.specs.Trees.{parent_of}

-- the case is of the sender, which tells its parent of it
abbrev pub goes_up : List TreeProcess → Envelope → Case → Bool
goes_up tree e c = same_process (process_of c) e.from && is_parent e.to (parent_of tree e.from)

-- the case is of the receiver, which is told by its parent
abbrev pub goes_down : List TreeProcess → Envelope → Case → Bool
goes_down tree e c = same_process (process_of c) e.to && is_parent e.from (parent_of tree e.to)

-- a parent invites a child into a case of its own, and the child that gave the ticket answers; works, PREPARE
-- and an outcome come from the parent, and votes, acknowledgements and questions from the child, whose ticket
-- the case names
abbrev pub speaks_so : List TreeProcess → Envelope → Message → Bool
speaks_so tree e (Join c) = same_process (process_of c) e.from && is_parent e.from (parent_of tree e.to)
speaks_so tree e (Joined c t) =
    same_process (process_of c) e.to && (same_process t.child e.from
    && is_parent e.to (parent_of tree e.from))
speaks_so tree e (Work c k op) = goes_down tree e c
speaks_so tree e (Prepare c k) = goes_down tree e c
speaks_so tree e (Commit c) = goes_down tree e c
speaks_so tree e (Abort c) = goes_down tree e c
speaks_so tree e (Yes c) = goes_up tree e c
speaks_so tree e (No c) = goes_up tree e c
speaks_so tree e (Read c) = goes_up tree e c
speaks_so tree e (Ack c o fs) = goes_up tree e c
speaks_so tree e (Inquire c) = goes_up tree e c

-- the sender of a message may send it to its receiver
unfoldable pub may_speak : List TreeProcess → Envelope → Bool
may_speak tree e = speaks_so tree e e.message
