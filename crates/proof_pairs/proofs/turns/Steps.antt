-- Each move of a process is one of its steps, and an input that it handles is one of its turns.
use Rattle.std.proofs.Common.{◌≡◌, ℕ, Bool, true, false, Option, Some, None, refl, sym, subst, if◌then◌else◌}
use Rattle.protocol.specs.declared.names.ProcessId.{ProcessId}
use Rattle.protocol.specs.declared.messages.Message.{Message}
use Rattle.protocol.specs.declared.events.Act.{Act}
use Rattle.protocol.specs.declared.events.Fault.{Fault}
use Rattle.protocol.specs.declared.events.Happening.{Happening}
use Rattle.protocol.specs.declared.events.Happening.TheVariants.{Restart, Trim}
use Rattle.protocol_words.specs.Variants.{ActInput, Handles, MessageInput}
use Rattle.protocol.specs.declared.events.Input.{Input}
use Rattle.protocol.specs.declared.events.StepError.TheVariants.{Failed, NoSuch}
use Rattle.protocol.specs.Nodes.{Role, AtRoot, Below, AtLeaf, Place, Node, Heard, Effect}
use Rattle.protocol.specs.Reactions.{Reacts, Refused, Does, reacts, handles, acts, hears, is_passed_over, act_is_listed}
use Rattle.protocol.specs.World.{Move, Stepped, Refuses, Makes, input_makes, passes_over, restart_makes, trim_makes, happening_makes, node_makes}
use Rattle.proof_pairs.specs.turns.Steps.{StepOf, heard_in, handled, failed_in, passed, failed_passing, reopened, failed_reopening, trims_log, failed_trimming, TurnAt, TurnOf}
use Rattle.proof_pairs.specs.turns.Written.{MayWrite}
use Rattle.proof_pairs.proofs.turns.LeafInputs.{TurnsBy, act_turn, message_turn}
use Rattle.proof_pairs.proofs.turns.CoordinatorInputs.{WritesBy, act_writes, child_writes, cascaded_writes}

module _ (place : Place) (n : Node) (m : Move) where
  abbrev S : Stepped → Type 0
  S (Refuses x) = Unit {0}
  S (Makes e k) = StepOf place n m e k

  by_reaction : (i : Input) → m.step.happening ≡ Handles i → is_passed_over place n i ≡ false
      → (f : Option Fault)
      → m.step.fault ≡ f → (r : Reacts) → reacts place n (heard_in m i) ≡ r
      → S (input_makes n (heard_in m i) f r)
  by_reaction i hp np None ft (Refused x) e = tt
  by_reaction i hp np (Some f) ft (Refused x) e = tt
  by_reaction i hp np None ft (Does g) e = handled i g hp np e
  by_reaction i hp np (Some f) ft (Does g) e = failed_in i f g ft hp np e

  by_passing : (i : Input) → m.step.happening ≡ Handles i → is_passed_over place n i ≡ true
      → (f : Option Fault)
      → m.step.fault ≡ f → S (passes_over n f)
  by_passing i hp e None ft = passed i hp e
  by_passing i hp e (Some f) ft = failed_passing i f ft hp e

  if_passed : (i : Input) → m.step.happening ≡ Handles i → (b : Bool) → is_passed_over place n i ≡ b
      → S (if b then passes_over n m.step.fault else input_makes n (heard_in m i) m.step.fault
      (reacts place n (heard_in m i)))
  if_passed i hp true e = by_passing i hp e m.step.fault refl
  if_passed i hp false e = by_reaction i hp e m.step.fault refl (reacts place n (heard_in m i)) refl

  by_restart : (k : ℕ) → m.step.happening ≡ Restart k → (f : Option Fault) → m.step.fault ≡ f
      → S (restart_makes place n k f)
  by_restart k hp None ft = reopened k hp
  by_restart k hp (Some f) ft = failed_reopening k f ft hp

  by_trim : m.step.happening ≡ Trim → n.failed ≡ false → (f : Option Fault) → m.step.fault ≡ f
      → S (trim_makes place n f)
  by_trim hp up None ft = trims_log hp up
  by_trim hp up (Some f) ft = failed_trimming f ft hp up

  if_up : m.step.happening ≡ Trim → (b : Bool) → n.failed ≡ b
      → S (if b then Refuses Failed else trim_makes place n m.step.fault)
  if_up hp true e = tt
  if_up hp false e = by_trim hp e m.step.fault refl

  by_happening : (hp : Happening) → m.step.happening ≡ hp → S (happening_makes place n m hp)
  by_happening (Handles i) e = if_passed i e (is_passed_over place n i) refl
  by_happening (Restart k) e = by_restart k e m.step.fault refl
  by_happening Trim e = if_up e n.failed refl

  made : S (node_makes place n m)
  unfolding node_makes
  made = by_happening m.step.happening refl

pub step_of : (place : Place) (n : Node) (m : Move) (e : Effect) (k : Node)
    → node_makes place n m ≡ Makes e k → StepOf place n m e k
step_of place n m e k made_so = subst (λ (x : Stepped). S place n m x) made_so (made place n m)

-- Turns.

abbrev AllTurn : Place → Node → Heard → Reacts → Type 0
AllTurn place n h (Refused x) = Unit {0}
AllTurn place n h (Does e) = TurnOf place n h e

module _ (place : Place) (n : Node) (h : Heard) where
  abbrev A : Reacts → Type 0
  A r = AllTurn place n h r

  leaf_turns : n.failed ≡ false → (r : Reacts)
      → ((e : Effect) → r ≡ Does e → TurnAt place.role place n h e) → A r
  leaf_turns up (Refused x) f = tt
  leaf_turns up (Does e) f = record { up = up; turn = f e refl }

  does_leaf : (p : ProcessId) (r : Reacts) → TurnsBy place p n h r → (e : Effect) → r ≡ Does e
      → TurnAt (AtLeaf p) place n h e
  does_leaf p r t e same = subst (λ (x : Reacts). TurnsBy place p n h x) same t

  does_writes : (parent : Option ProcessId) (r : Reacts) → WritesBy place parent n h.input r
      → (e : Effect) → r ≡ Does e
      → MayWrite place parent n h.input e.written e.messages
  does_writes parent r t e same = subst (λ (x : Reacts). WritesBy place parent n h.input x) same t

  act_at : (a : Act) → h.input ≡ ActInput a → (role : Role) (e : Effect) → acts role place n a ≡ Does e
      → TurnAt role place n h e
  act_at a i AtRoot e same = does_writes None _
      (subst (λ (x : Input). WritesBy place None n x (acts AtRoot place n a)) (sym i)
      (act_writes place None n a)) e same
  act_at a i (Below p) e same = does_writes (Some p) _
      (subst (λ (x : Input). WritesBy place (Some p) n x (acts (Below p) place n a)) (sym i)
      (act_writes place (Some p) n a)) e same
  act_at a i (AtLeaf p) e same = does_leaf p _ (act_turn place p n h a i) e same

  message_at : (j : ℕ) (m : Message) → h.input ≡ MessageInput j m → (role : Role) (e : Effect)
      → Does (hears role h.version place n h.data_answer m) ≡ Does e → TurnAt role place n h e
  message_at j m i AtRoot e same = does_writes None _
      (subst (λ (x : Input). WritesBy place None n x (Does (hears AtRoot h.version place n h.data_answer m)))
      (sym i)
      (child_writes place None n h.version j m)) e same
  message_at j m i (Below p) e same = does_writes (Some p) _
      (subst (λ (x : Input). WritesBy place (Some p) n x
      (Does (hears (Below p) h.version place n h.data_answer m)))
      (sym i) (cascaded_writes place p n h.version j m)) e same
  message_at j m i (AtLeaf p) e same = does_leaf p _ (message_turn place p n h j m i) e same

  act_up : (a : Act) → h.input ≡ ActInput a → (b : Bool) → n.failed ≡ b
      → A (if b then Refused Failed else acts place.role place n a)
  act_up a i true up = tt
  act_up a i false up = leaf_turns up (acts place.role place n a) (act_at a i place.role)

  message_up : (j : ℕ) (m : Message) → h.input ≡ MessageInput j m → (b : Bool) → n.failed ≡ b
      → A (if b then Refused Failed else Does (hears place.role h.version place n h.data_answer m))
  message_up j m i true up = tt
  message_up j m i false up = leaf_turns up (Does (hears place.role h.version place n h.data_answer m))
      (message_at j m i place.role)

  by_input : (i : Input) → h.input ≡ i → A (handles place n h i)
  by_input (ActInput a) e = act_up a e n.failed refl
  by_input (MessageInput j m) e = message_up j m e n.failed refl

  if_listed : (b : Bool) → A (if b then handles place n h h.input else Refused NoSuch)
  if_listed true = by_input h.input refl
  if_listed false = tt

  turns : A (reacts place n h)
  unfolding reacts
  turns = if_listed (act_is_listed place.tree h.input)

pub turn_of : (place : Place) (n : Node) (h : Heard) (e : Effect) → reacts place n h ≡ Does e
    → TurnOf place n h e
turn_of place n h e same = subst (λ (x : Reacts). AllTurn place n h x) same (turns place n h)
