-- The name of a transaction that was begun.
use Rattle.std.proofs.Common.{◌≡◌, ◌∙◌, Bool, true, false, if◌then◌else◌, Option, Some, None, ap}
use Rattle.protocol.specs.declared.names.Presumption.{Presumption}
use Rattle.protocol.specs.declared.names.ProcessId.{ProcessId}
use Rattle.protocol.specs.declared.names.Txn.{Txn}
use Rattle.protocol.specs.declared.events.Act.TheVariants.{Begin}
use Rattle.protocol_words.specs.Variants.{ActInput}
use Rattle.protocol.specs.declared.events.Reaction.{Reaction}
use Rattle.protocol.specs.declared.events.StepError.TheVariants.{Failed, NoSuch}
use Rattle.protocol.specs.Nodes.{Role, AtRoot, Below, AtLeaf, Effect, reaction_of}
use Rattle.protocol.specs.Reactions.{Does, act_is_listed}
use Rattle.protocol.specs.Views.{begin_effect}
use Rattle.process_state.specs.States.{CoreState, parent}
use Rattle.process_state.specs.Turns.{Refuses, act_turn, begin_turn, next_begun, no_answer, reacted, turn_of}
use Rattle.process_state.specs.Makes.{ProcessMakes}

module _ (s : CoreState) (p : Presumption) (e : Effect) where
  -- the effect of a begin names a transaction
  abbrev Begins : Type 0
  Begins = (x : Txn) × (e ≡ begin_effect x)

  by_parent : (q : Option ProcessId) → reacted (begin_turn s p q) ≡ Does e → Begins
  by_parent None h = (next_begun s p, cc)
  by_parent (Some q) h = absurd (cc)

  by_role : (role : Role) → reacted (act_turn role s (Begin p)) ≡ Does e → Begins
  by_role AtRoot h = by_parent (parent s) h
  by_role (Below q) h = by_parent (parent s) h
  by_role (AtLeaf q) h = absurd (cc)

  by_failure : (b : Bool) → reacted (if b then Refuses Failed else act_turn s.place.role s (Begin p)) ≡ Does e
      → Begins
  by_failure true h = absurd (cc)
  by_failure false h = by_role s.place.role h

  by_list : (b : Bool) → reacted (if b
      then (if s.log.failed then Refuses Failed else act_turn s.place.role s (Begin p))
      else Refuses NoSuch) ≡ Does e → Begins
  by_list true h = by_failure s.log.failed h
  by_list false h = absurd (cc)

-- a reaction to a begin names the transaction, and shows nothing else
pub begin_names : (s new : CoreState) (p : Presumption) (r : Reaction)
    → ProcessMakes s new no_answer (ActInput (Begin p)) r → (x : Txn) × (r ≡ reaction_of (begin_effect x))
unfolding turn_of
begin_names s new p r makes =
    let named = by_list s p makes.effect (act_is_listed s.place.tree (ActInput (Begin p))) makes.does in
    (named.0, makes.shown ∙ ap reaction_of named.1)
