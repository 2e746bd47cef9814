-- A step of one process: what it was, and what it left.
use Rattle.std.specs.Prelude.{◌≡◌, ℕ, true, false, None, Some}
use Rattle.protocol.specs.declared.events.Fault.{Fault}
use Rattle.protocol.specs.declared.events.Input.{Input}
use Rattle.protocol.specs.declared.events.Happening.TheVariants.{Restart, Trim}
use Rattle.protocol_words.specs.Variants.{Handles}
use Rattle.protocol.specs.Nodes.{Role, AtLeaf, Place, Node, Heard, Effect, no_effect, after, fails_in, AtRoot, Below}
use Rattle.protocol.specs.Reactions.{reacts, Does, is_passed_over}
use Rattle.protocol.specs.Restarts.{restart_effect, restarted, restart_fails, trim_effect, trims, trim_fails}
use Rattle.protocol.specs.World.{Move, fault_effect}
use Rattle.proof_pairs.specs.turns.LeafTurns.{LeafTurn}
use Rattle.proof_pairs.specs.turns.Written.{MayWrite}

-- an input with what a manager's data answer in the move
abbrev pub heard_in : Move → Input → Heard
heard_in m i = record { input = i; data_answer = m.data_answer; version = m.version }

-- What a move at a process was, with its effect and what it left of the process.
pub data StepOf (place : Place) (n : Node) (m : Move) : Effect → Node → Type 0 where
  handled : (i : Input) (g : Effect) → m.step.happening ≡ Handles i → is_passed_over place n i ≡ false
      → reacts place n (heard_in m i) ≡ Does g
      → StepOf place n m g (after n (heard_in m i) g)
  failed_in : (i : Input) (f : Fault) (g : Effect) → m.step.fault ≡ Some f → m.step.happening ≡ Handles i
      → is_passed_over place n i ≡ false
      → reacts place n (heard_in m i) ≡ Does g
      → StepOf place n m (fault_effect g f.appended) (fails_in n (heard_in m i) g f.appended f.forced)
  passed : (i : Input) → m.step.happening ≡ Handles i → is_passed_over place n i ≡ true
      → StepOf place n m no_effect n
  failed_passing : (i : Input) (f : Fault) → m.step.fault ≡ Some f → m.step.happening ≡ Handles i
      → is_passed_over place n i ≡ true
      → StepOf place n m no_effect (record n { failed = true })
  reopened : (k : ℕ) → m.step.happening ≡ Restart k
      → StepOf place n m (restart_effect place n k) (restarted place n k)
  failed_reopening : (k : ℕ) (f : Fault) → m.step.fault ≡ Some f → m.step.happening ≡ Restart k
      → StepOf place n m (fault_effect (restart_effect place n k) f.appended)
      (restart_fails place n k f.appended f.forced)
  trims_log : m.step.happening ≡ Trim → n.failed ≡ false
      → StepOf place n m (trim_effect place n) (trims place n)
  failed_trimming : (f : Fault) → m.step.fault ≡ Some f → m.step.happening ≡ Trim → n.failed ≡ false
      → StepOf place n m (fault_effect (trim_effect place n) 0) (trim_fails place n f.appended)

-- what an input leads to, by the role of the process
abbrev pub TurnAt : Role → Place → Node → Heard → Effect → Type 0
TurnAt (AtLeaf p) place n h e = LeafTurn place p n h e
TurnAt AtRoot place n h e = MayWrite place None n h.input e.written e.messages
TurnAt (Below p) place n h e = MayWrite place (Some p) n h.input e.written e.messages

-- A process that is up handles an input.
pub record TurnOf (place : Place) (n : Node) (h : Heard) (e : Effect) : Type 0 where
  pub up : n.failed ≡ false
  pub turn : TurnAt place.role place n h e
