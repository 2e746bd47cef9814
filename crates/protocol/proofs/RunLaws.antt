-- A run, told process by process.
use Rattle.std.proofs.Common.{◌+◌, ◌-◌, ℕ, if◌then◌else◌, ◌≡◌, ◌∙◌, ap, sym, inl, inr, Bool, true, false, List, ◌∷◌, ◌++◌, Some, None, refl, subst}
use Rattle.protocol.specs.declared.names.ProcessId.{ProcessId}
use Rattle.protocol.specs.declared.messages.Envelope.{Envelope}
use Rattle.protocol.specs.declared.events.Input.{Input}
use Rattle.protocol.specs.declared.events.Input.TheVariants.{Act as ActInput, Message as MessageInput}
use Rattle.protocol.specs.declared.events.Happening.{Happening}
use Rattle.protocol.specs.declared.events.Happening.TheVariants.{Input as Handles, Restart, Trim}
use Rattle.protocol.specs.declared.trees.TreeProcess.{TreeProcess}
use Rattle.protocol.specs.NameLaws.{same_process_tells}
use Rattle.protocol.specs.Nodes.{place_of, is_listed, Node, Effect, Version}
use Rattle.protocol.specs.World.{World, Move, Stepped, Refuses, Makes, node_makes, world_makes, world_stepped, put_at, Made, IsRun, opens, makes, made_by, node_by, net_by, MayHappen, InputStands, InputIsNew, IsNewInNet, IsRunBy, first_opens, next, reopens}

-- what a move makes of the world is what it makes of its process
pub record MakesAt (tree : List TreeProcess) (w : World) (m : Move) (e : Effect) (w' : World) : Type 0 where
  pub node : Node
  pub made : node_makes (place_of tree m.step.process) (w.at m.step.process) m ≡ Makes e node
  pub world : w' ≡ record { at = put_at m.step.process node w.at; net = w.net ++ e.messages }

pair_same : {A B : Type 0} (d : A × B) (p q : A × B) → Some p ≡ Some q → p ≡ q
pair_same d p q h = cc

stepped_at : (w : World) (q : ProcessId) (s : Stepped) (e : Effect) (w' : World)
    → world_stepped w q s ≡ Some (e, w')
    → (n : Node) × (s ≡ Makes e n) × (w' ≡ record { at = put_at q n w.at; net = w.net ++ e.messages })
stepped_at w q (Refuses r) e w' h = absurd (cc)
stepped_at w q (Makes f n) e w' h =
    let same : (f, record { at = put_at q n w.at; net = w.net ++ f.messages })
    ≡ (e, w') = pair_same (f, w) _ _ h in
    let fe : f ≡ e = ap (λ (p : Effect × World). p.0) same in
    let we : record { at = put_at q n w.at; net = w.net ++ f.messages }
    ≡ w' = ap (λ (p : Effect × World). p.1) same in (
      n,
      ap (λ x. Makes x n) fe,
      sym we ∙ ap (λ
          (x : Effect). record { at = put_at q n w.at; net = w.net ++ x.messages }) fe,
    )

listed_makes : (tree : List TreeProcess) (w : World) (m : Move) (e : Effect) (w' : World) (b : Bool)
    → (if b then world_stepped w m.step.process
    (node_makes (place_of tree m.step.process) (w.at m.step.process) m) else None) ≡ Some (e, w')
    → MakesAt tree w m e w'
listed_makes tree w m e w' true h =
    let at = stepped_at w m.step.process (node_makes (place_of tree m.step.process) (w.at m.step.process) m) e
    w' h in
    record { node = at.0; made = at.1; world = at.2 }
listed_makes tree w m e w' false h = absurd (cc)

pub makes_at : (tree : List TreeProcess) (w : World) (m : Move) (e : Effect) (w' : World)
    → world_makes tree w m ≡ Some (e, w') → MakesAt tree w m e w'
unfolding world_makes
makes_at tree w m e w' h = listed_makes tree w m e w' (is_listed tree m.step.process) h

-- a process is what its own moves make of it, and the net is the messages of the moves
node_step : (tree : List TreeProcess) (es : List Made) (w : World) (m : Move) (e : Effect) (w' : World)
    (p : ProcessId)
    → (w.at p ≡ node_by (place_of tree p) (made_by p es)) → MakesAt tree w m e w'
    → w'.at p ≡ node_by (place_of tree p) (made_by p (record { move = m; effect = e } ∷ es))
unfolding made_by node_by
node_step tree es w m e w' p before h =
    rw h.world (elim (same_process_tells m.step.process p) [
      | inl t ↦
          let P : ProcessId → Type 0 = λ q. node_makes (place_of tree q) (w.at q) m ≡ Makes e h.node in
          let made : node_makes (place_of tree p) (w.at p) m ≡ Makes e h.node = subst P t.1 h.made in
          let again : node_makes (place_of tree p) (node_by (place_of tree p) (made_by p es)) m
          ≡ Makes e h.node = rw before at made in
          rw (t.0, again) refl
      | inr f ↦ rw f.0 before
    ])

pub node_by_run : (tree : List TreeProcess) (es : List Made) (w : World) → IsRun tree es w → (p : ProcessId)
    → w.at p ≡ node_by (place_of tree p) (made_by p es)
unfolding made_by node_by
node_by_run tree _ _ opens p = refl
node_by_run tree _ _ (makes es w m e w' run stands step) p =
    node_step tree es w m e w' p (node_by_run tree es w run p) (makes_at tree w m e w' step)

pub net_by_run : (tree : List TreeProcess) (es : List Made) (w : World) → IsRun tree es w → w.net ≡ net_by es
unfolding net_by
net_by_run tree _ _ opens = refl
net_by_run tree _ _ (makes es w m e w' run stands step) =
    ap (λ (x : World). x.net) (makes_at tree w m e w' step).world
    ∙ ap (λ l. l ++ e.messages) (net_by_run tree es w run)

-- A run that is opened again is a run.

input_stands : (net : List Envelope) (before : ℕ) (q : ProcessId) (i : Input) → InputIsNew net before q i
    → InputStands net q i
input_stands net before q (ActInput a) n = tt
input_stands net before q (MessageInput k m) n =
    record { sender = n.sender; place = before + (k - 1); stands = n.stands }

stands_new : (net : List Envelope) (before : ℕ) (q : ProcessId) (h : Happening) → IsNewInNet net before q h
    → MayHappen net q h
stands_new net before q (Handles i) n = input_stands net before q i n
stands_new net before q (Restart k) n = tt
stands_new net before q Trim n = tt

pub runs_by_are_runs : (tree : List TreeProcess) (v : Version) (before : ℕ) (es : List Made) (w : World)
    → IsRunBy tree v before es w → IsRun tree es w
runs_by_are_runs tree _ _ _ _ (first_opens v) = opens
runs_by_are_runs tree _ _ _ _ (next v before es w m e w' run by new step) =
    makes es w m e w' (runs_by_are_runs tree v before es w run)
    (stands_new w.net before m.step.process m.step.happening new) step
runs_by_are_runs tree _ _ _ _ (reopens v before es w run down) = runs_by_are_runs tree v before es w run
