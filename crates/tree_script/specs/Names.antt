-- Reading a name from left to right.
use Rattle.std.specs.Prelude.{ℕ, ◌^◌, List, [], ◌∷◌, Option, Some, None, nat_lt, ◌==◌, if◌then◌else◌, option_map}
use Rattle.spellings.specs.Numerals.{number_at}
use Rattle.spellings.specs.Words.{cut_at}
use Rattle.script_words.specs.Steps.{◌>>=◌}
use Rattle.protocol.specs.declared.names.ProcessId.{ProcessId}
use Rattle.protocol.specs.declared.names.Presumption.{Presumption}
use Rattle.protocol.specs.declared.names.Presumption.TheVariants.{PresumeAbort, PresumeCommit}
use Rattle.protocol.specs.declared.names.Txn.{Txn}
use Rattle.protocol.specs.declared.names.Ticket.{Ticket}
use Rattle.protocol.specs.declared.names.Case.{Case}

-- a process: a number below 2^32
unfoldable pub process_at : List ℕ → Option ProcessId
process_at w = do
  n ← number_at w
  if nat_lt n (2 ^ 32) then Some (record { 0 = n }) else None

-- what follows a byte, where the text begins with it
abbrev pub after_at : ℕ → List ℕ → Option (List ℕ)
after_at c [] = None
after_at c (b ∷ bs) = if b == c then Some bs else None

-- the presumption of a name: Presumed Abort where it begins with the one letter, Presumed Commit with the
-- other
abbrev pub or_commit : Option (List ℕ) → Option (List ℕ) → Option (Presumption × List ℕ)
or_commit (Some rest) other = Some (PresumeAbort, rest)
or_commit None other = option_map (λ rest. (PresumeCommit, rest)) other

-- the presumption of the first letter, and what follows it
abbrev pub letter_at : List ℕ → Option (Presumption × List ℕ)
letter_at bs = or_commit (after_at 97 bs) (after_at 99 bs)

-- a transaction of this root: its presumption's letter, its boot, a full stop and its number
unfoldable pub txn_at : ProcessId → List ℕ → Option Txn
txn_at root w = do
  p ← cut_at 46 w
  l ← letter_at p.0
  boot ← number_at l.1
  sequence ← number_at p.1
  Some (record { root = root; boot = boot; sequence = sequence; presumption = l.0 })

-- a ticket: its child, the child's boot and its number, with full stops between them
unfoldable pub ticket_at : List ℕ → Option Ticket
ticket_at w = do
  p ← cut_at 46 w
  child ← process_at p.0
  q ← cut_at 46 p.1
  boot ← number_at q.0
  number ← number_at q.1
  Some (record { child = child; boot = boot; number = number })

-- a case, by its transaction, and by its ticket if there is one
abbrev pub case_parts : ProcessId → List ℕ → Option (List ℕ × List ℕ) → Option Case
case_parts root w None = txn_at root w >>= λ t. Some (record { txn = t; ticket = None })
case_parts root w (Some p) =
    txn_at root p.0 >>= λ t. ticket_at p.1 >>= λ k. Some (record { txn = t; ticket = Some k })

-- a case: at the root its transaction, elsewhere with `@` and the ticket
unfoldable pub case_at : ProcessId → List ℕ → Option Case
case_at root w = case_parts root w (cut_at 64 w)
