-- What was made of a state is made of it with any trace, which what was entered lengthens.
use Rattle.std.proofs.Common.{◌≡◌, ◌∙◌, ap, sym, subst, refl, ℕ, zero, suc, Bool, Option, Some, None, List, [], ◌∷◌, ◌++◌, append-nil, append_assoc}
use Rattle.protocol.specs.declared.names.ProcessId.{ProcessId}
use Rattle.protocol.specs.declared.events.JournalEntry.{JournalEntry}
use Rattle.protocol.specs.declared.events.Event.{Event}
use Rattle.protocol.specs.declared.events.Event.TheVariants.{Deliver, Settle, Restart, Trim}
use Rattle.protocol_words.specs.Variants.{ActInput, ActOf, Handles, MessageInput, Trimming}
use Rattle.protocol.specs.declared.events.Happening.{Happening}
use Rattle.protocol.specs.declared.events.Input.{Input}
use Rattle.protocol.specs.declared.events.Reaction.{Reaction}
use Rattle.protocol.specs.Plays.{process_of_act}
use Rattle.protocol.specs.Trees.{root_of}
use Rattle.tree_state.specs.Steps.{restart_of, trim_reaction}
use Rattle.tree_state.specs.Worlds.{Applies, Delivers, Enters, RestartsAt, Settles, TreeSteps, TrimsAt, WorldState, least_open, marks, settles_by, step_entry}
use Rattle.proof_failures.specs.Traces.{with_trace}
use Rattle.proof_failures.proofs.Entered.{moves_with}

-- these entries were entered, and with them the trace is that of what was so made
pub record Again (made : WorldState → WorldState → Type 0) (s t : WorldState)
    (trace : List JournalEntry) : Type 0 where
  pub entered : List JournalEntry
  pub grown : t.entries ≡ s.entries ++ entered
  pub again : made (with_trace s trace) (with_trace t (trace ++ entered))

enters_with : (s t : WorldState) (trace : List JournalEntry) (q : ProcessId) (h : Happening) (r : Reaction)
    (marked : List Bool) → Enters s t q h r marked
    → Enters (with_trace s trace) (with_trace t (trace ++ step_entry q h r ∷ [])) q h r marked
enters_with s t trace q h r marked e = record { net = e.net; delivered = e.delivered; entries = refl }

steps_again : (s t : WorldState) (trace : List JournalEntry) (q : ProcessId) (i : Input) (marked : List Bool)
    → TreeSteps s t q i marked → Again (λ a b. TreeSteps a b q i marked) s t trace
steps_again s t trace q i marked h =
    let x = step_entry q (Handles i) h.reaction in
    record {
      entered = x ∷ [];
      grown = h.enters.entries;
      again = record {
        before = h.before;
        behind = h.behind;
        reaction = h.reaction;
        moves = moves_with s t trace (trace ++ x ∷ []) q h.before h.behind h.moves;
        handles = h.handles;
        enters = enters_with s t trace q (Handles i) h.reaction marked h.enters;
      };
    }

delivers_again : (s t : WorldState) (trace : List JournalEntry) (k : ℕ) → Delivers s t k
    → Again (λ a b. Delivers a b k) s t trace
delivers_again s t trace k h =
    let one = steps_again s t trace h.envelope.to (MessageInput k h.envelope.message)
    (marks s.delivered k) h.steps in
    record {
      entered = one.entered;
      grown = one.grown;
      again = record { envelope = h.envelope; sent = h.sent; steps = one.again };
    }

restarts_again : (s t : WorldState) (trace : List JournalEntry) (q : ProcessId) (bytes : Option ℕ)
    → RestartsAt s t q bytes → Again (λ a b. RestartsAt a b q bytes) s t trace
restarts_again s t trace q bytes h =
    let x = step_entry q (restart_of h.before h.keep) h.reaction in
    record {
      entered = x ∷ [];
      grown = h.enters.entries;
      again = record {
        before = h.before;
        behind = h.behind;
        keep = h.keep;
        reaction = h.reaction;
        moves = moves_with s t trace (trace ++ x ∷ []) q h.before h.behind h.moves;
        keeps = h.keeps;
        restarts = h.restarts;
        holdings = h.holdings;
        enters = enters_with s t trace q (restart_of h.before h.keep) h.reaction s.delivered h.enters;
      };
    }

trims_again : (s t : WorldState) (trace : List JournalEntry) (q : ProcessId) → TrimsAt s t q
    → Again (λ a b. TrimsAt a b q) s t trace
trims_again s t trace q h =
    let x = step_entry q Trimming (trim_reaction h.remain) in
    record {
      entered = x ∷ [];
      grown = h.enters.entries;
      again = record {
        before = h.before;
        behind = h.behind;
        remain = h.remain;
        moves = moves_with s t trace (trace ++ x ∷ []) q h.before h.behind h.moves;
        works = h.works;
        sound = h.sound;
        trims = h.trims;
        holdings = h.holdings;
        enters = enters_with s t trace q Trimming (trim_reaction h.remain) s.delivered h.enters;
      };
    }

nothing_again : (s t : WorldState) (trace : List JournalEntry) → t ≡ s → Again (λ a b. b ≡ a) s t trace
nothing_again s t trace same = record {
  entered = [];
  grown = ap (λ (x : WorldState). x.entries) same ∙ sym (append-nil s.entries);
  again = λ j. with_trace (same j) (append-nil trace j);
}

settle_again : (n : ℕ) (s t : WorldState) (trace : List JournalEntry) (o : Option ℕ)
    → ((mid : WorldState) (xs : List JournalEntry) → Settles n mid t → Again (Settles n) mid t xs)
    → settles_by s t (λ mid. Settles n mid t) o
    → Again (λ a b. settles_by a b (λ mid. Settles n mid b) o) s t trace
settle_again n s t trace None next same = nothing_again s t trace same
settle_again n s t trace (Some k) next made =
    let mid = made.0 in
    let one = delivers_again s mid trace k made.1 in
    let two = next mid (trace ++ one.entered) made.2 in
    record {
      entered = one.entered ++ two.entered;
      grown = two.grown ∙ ap (λ xs. xs ++ two.entered) one.grown
          ∙ append_assoc s.entries one.entered two.entered;
      again = (
        with_trace mid (trace ++ one.entered),
        one.again,
        subst (λ xs. Settles n (with_trace mid (trace ++ one.entered)) (with_trace t xs))
            (append_assoc trace one.entered two.entered) two.again,
      );
    }

pub settles_again : (n : ℕ) (s t : WorldState) (trace : List JournalEntry) → Settles n s t
    → Again (Settles n) s t trace
settles_again zero s t trace same = nothing_again s t trace same
settles_again (suc n) s t trace made =
    let a = settle_again n s t trace (least_open 1 s.delivered) (λ mid xs m. settles_again n mid t xs m) made
    in
    record { entered = a.entered; grown = a.grown; again = a.again }

pub applies_again : (s t : WorldState) (trace : List JournalEntry) (event : Event) → Applies s event t
    → Again (λ a b. Applies a event b) s t trace
applies_again s t trace (ActOf x) made =
    let a = steps_again s t trace (process_of_act (root_of s.tree) x) (ActInput x) s.delivered made in
    record { entered = a.entered; grown = a.grown; again = a.again }
applies_again s t trace (Deliver k) made = delivers_again s t trace k made
applies_again s t trace Settle made = settles_again 10000 s t trace made
applies_again s t trace (Restart q bytes) made = restarts_again s t trace q bytes made
applies_again s t trace (Trim q) made = trims_again s t trace q made
