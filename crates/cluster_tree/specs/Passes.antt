-- What callers' passes show.
use Rattle.std.specs.Prelude.{◌≡◌, ℕ, zero, suc, All, List, [], ◌∷◌, ◌++◌}
use Rattle.protocol.specs.declared.events.JournalEntry.{JournalEntry}
use Rattle.protocol_words.specs.Variants.{Handles, MessageInput}
use Rattle.protocol.specs.declared.messages.Message.{Message}
use Rattle.cluster_process.specs.Passes.{PassState}

-- a message is delivered in the entry of this pair
abbrev pub IsDelivery : ℕ × JournalEntry → Type 0
IsDelivery p = (k : ℕ) × (m : Message) × (p.1.step.happening ≡ Handles (MessageInput k m))

-- The pass has more pairs, or as many: those of messages that were delivered.
pub record IsLonger (old new : PassState) : Type 0 where
  pub caller : new.caller ≡ old.caller
  pub more : List (ℕ × JournalEntry)
  pub pairs : new.pairs ≡ old.pairs ++ more
  pub deliver : All IsDelivery more

-- the pass of this caller, of which nothing is noted
abbrev pub new_pass : ℕ → PassState
new_pass caller = record { caller = caller; pairs = [] }

-- N of them; their callers' numbers begin at 0
abbrev pub new_passes : ℕ → List PassState
new_passes zero = []
new_passes (suc n) = new_passes n ++ new_pass n ∷ []
