-- What an entry shows: its cost, and what made its process move.
use Rattle.std.proofs.Common.{◌≡◌, ◌∙◌, ◌+◌, ◌||◌, ℕ, Bool, false, List, [], ◌∷◌, refl, ap, arith, length, fold, if◌then◌else◌}
use Rattle.std.specs.Prelude.{count_by, map}
use Rattle.std.specs.List.{list_any}
use Rattle.protocol.specs.declared.names.Case.{Case}
use Rattle.std.proofs.lemmas.List.{length-map}
use Rattle.protocol.specs.declared.messages.Message.{Message}
use Rattle.protocol.specs.declared.events.Act.{Act}
use Rattle.protocol.specs.declared.events.JournalEntry.{JournalEntry}
use Rattle.protocol_words.specs.Variants.{ActInput, Handles, MessageInput}
use Rattle.protocol.specs.declared.events.Input.{Input}
use Rattle.protocol.specs.declared.events.Reaction.{Reaction}
use Rattle.protocol.specs.Counts.{Cost, cost_of, together}
use Rattle.protocol.specs.Nodes.{Effect, Written, logged_of, reaction_of}
use Rattle.proof_costs.specs.Journals.{Acts, Brings, begun_is_of, cause_of, entry_cost, happening_is_of, is_of, message_is_of, no_cost, record_is_of}

-- Costs.

pub cost_is : (c d : Cost) → c.records ≡ d.records → c.forced ≡ d.forced → c.messages ≡ d.messages → c ≡ d
cost_is c d e f g = rw (e, f, g) refl

none_before : (n : ℕ) → 0 + n ≡ n
none_before n = omega arith

pub after_nothing : (c : Cost) → together no_cost c ≡ c
after_nothing c = cost_is (together no_cost c) c (none_before c.records) (none_before c.forced)
    (none_before c.messages)

forced_from : (n : ℕ) (ws : List Written)
    → fold (λ k l. k + (if l.forced then 1 else 0)) n (map logged_of ws)
    ≡ fold (λ k w. k + (if w.is_forced then 1 else 0)) n ws
forced_from n [] = refl
forced_from n (w ∷ ws) = forced_from (n + (if w.is_forced then 1 else 0)) ws

-- an entry shows the cost of its effect
pub entry_pays : (entry : JournalEntry) (e : Effect) → entry.reaction ≡ reaction_of e
    → entry_cost entry ≡ cost_of e.written e.messages
entry_pays entry e same =
    ap (λ (r : Reaction). record {
      records = length r.written;
      forced = count_by (λ l. l.forced) r.written;
      messages = length r.messages;
    }) same
    ∙ cost_is _ (cost_of e.written e.messages) (length-map e.written logged_of) (forced_from 0 e.written) refl

-- Causes.

-- a message made it move
pub brought : (i : Input) (m : Message) → cause_of (Handles i) ≡ Brings m → (k : ℕ) × (i ≡ MessageInput k m)
brought (MessageInput k l) m e = (k, let f : l ≡ m = cc in ap (λ (x : Message). MessageInput k x) f)
brought (ActInput a) m e = absurd (cc)

-- an act made it move
pub acted : (i : Input) (a : Act) → cause_of (Handles i) ≡ Acts a → i ≡ ActInput a
acted (ActInput b) a e = let f : b ≡ a = cc in ap (λ (x : Act). ActInput x) f
acted (MessageInput k l) a e = absurd (cc)

-- What is of no such case.

pub either_none : (a b : Bool) → (a || b) ≡ false → (a ≡ false) × (b ≡ false)
either_none a b e = grind arith

-- the entry names no such case, and shows none
pub record IsOther (q : Case → Bool) (e : JournalEntry) : Type 0 where
  pub unnamed : happening_is_of q e.step.happening ≡ false
  pub unbegun : begun_is_of q e.reaction.begun ≡ false
  pub unwritten : list_any (λ l. record_is_of q l.subject) e.reaction.written ≡ false
  pub unsent : list_any (λ l. message_is_of q l.message) e.reaction.messages ≡ false

pub is_other : (q : Case → Bool) (e : JournalEntry) → is_of q e ≡ false → IsOther q e
unfolding is_of
is_other q e f =
    let parts = either_none (happening_is_of q e.step.happening || begun_is_of q e.reaction.begun)
    (list_any (λ l. record_is_of q l.subject) e.reaction.written
    || list_any (λ l. message_is_of q l.message) e.reaction.messages) f in
    let first = either_none (happening_is_of q e.step.happening) (begun_is_of q e.reaction.begun) parts.0 in
    let second = either_none (list_any (λ l. record_is_of q l.subject) e.reaction.written)
    (list_any (λ l. message_is_of q l.message) e.reaction.messages) parts.1 in
    record { unnamed = first.0; unbegun = first.1; unwritten = second.0; unsent = second.1 }
