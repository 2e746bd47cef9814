-- What a cascaded coordinator keeps by itself, over every run.
use Rattle.std.proofs.Common.{◌≡◌, List, [], ◌++◌, refl, sym, subst}
use Rattle.protocol.specs.declared.names.ProcessId.{ProcessId}
use Rattle.protocol.specs.declared.messages.Envelope.{Envelope}
use Rattle.protocol.specs.declared.trees.TreeProcess.{TreeProcess}
use Rattle.protocol.specs.Records.{has}
use Rattle.protocol.specs.Memory.{memory_of}
use Rattle.protocol.specs.Outcomes.{sent}
use Rattle.protocol.specs.Nodes.{Place, Role, Below, place_of, role_of, Node, opened_node}
use Rattle.protocol.specs.World.{World, Made, IsRun, opens, makes}
use Rattle.protocol.proofs.RunLaws.{makes_at}
use Rattle.proof_pairs.specs.turns.Steps.{StepOf}
use Rattle.proof_pairs.proofs.turns.Steps.{step_of}
use Rattle.proof_processes.specs.Numbers.{IsIssuer}
use Rattle.proof_processes.specs.WorldHolds.{Cascades, Issues}
use Rattle.proof_processes.proofs.CascadedGives.{still_gives}
use Rattle.proof_processes.proofs.Giving.{Gives, gives_elsewhere}
use Rattle.proof_processes.proofs.CascadedMemories.{awake_is_issued, idle_accepts_none}
use Rattle.proof_processes.proofs.ManagersHold.{put_or_other, numbers_are_given_once}
use Rattle.proof_processes.proofs.Worlds.{all_last}

-- a cascaded coordinator's place
abbrev pub below : ProcessId → ProcessId → List TreeProcess → Place
below me p tree = record { me = me; role = Below p; tree = tree }

abbrev GivesBy : List TreeProcess → List Envelope → ProcessId → Node → Type 0
GivesBy tree net q k = (p : ProcessId) → role_of tree q ≡ Below p → Gives (below q p tree) net k

opened_gives : (place : Place) → Gives place [] opened_node
unfolding has sent memory_of
opened_gives place = record {
  recorded_is_given = λ d e. absurd (cc);
  remembered_is_given = λ up d f. absurd (f refl);
  accepted_is_given = λ d t e. absurd (cc);
  asked_was_prepared = λ up d e. absurd (cc);
  collected_was_prepared = λ d e. absurd (cc);
  promised_was_asked = λ d e. absurd (cc);
}

pub all_give : (tree : List TreeProcess) (es : List Made) (w : World) → IsRun tree es w → (q : ProcessId)
    → GivesBy tree w.net q (w.at q)
all_give tree _ _ opens q = λ p e. opened_gives (below q p tree)
all_give tree _ _ (makes es w m e w' run stands step) q =
    let at = makes_at tree w m e w' step in
    let x = m.step.process in
    let s = step_of (place_of tree x) (w.at x) m e at.node at.made in
    subst (λ (y : World). GivesBy tree y.net q (y.at q)) (sym at.world)
    (put_or_other (GivesBy tree w.net) (GivesBy tree (w.net ++ e.messages)) x q at.node w.at
    (λ p role. still_gives x p tree w.net (w.at x) (all_last tree es w run x).nested
    (all_give tree es w run x p role) m stands e at.node
    (subst (λ (r : Role). StepOf (record { me = x; role = r; tree = tree }) (w.at x) m e at.node) role s))
    (λ other old p role. gives_elsewhere (below q p tree) w.net e.messages (w.at q) (old p role))
    (all_give tree es w run q))

-- What is stated of it.

module _ (tree : List TreeProcess) (es : List Made) (w : World) (run : IsRun tree es w) (q p : ProcessId)
    (e : role_of tree q ≡ Below p) where
  abbrev at : Role → Place
  at r = record { me = q; role = r; tree = tree }

  -- it gave the cases that it records and remembers
  pub cascade_issues : Issues (place_of tree q) w.net (w.at q)
  cascade_issues =
      let g = all_give tree es w run q p e in
      let numbers = numbers_are_given_once tree es w run q (subst IsIssuer (sym e) tt) in
      record {
        given_once = numbers.given_once;
        given_before = numbers.given_before;
        recorded_is_given = g.recorded_is_given;
        remembered_is_given = (subst (λ (r : Role). Gives (at r) w.net (w.at q))
            (sym e) g).remembered_is_given;
        active_was_joined = numbers.active_was_joined;
        promised_was_asked = g.promised_was_asked;
      }

  -- and those that it accepts into; and it collects votes where it was asked
  pub cascade_holds : Cascades (place_of tree q) w.net (w.at q)
  cascade_holds =
      let g = subst (λ (r : Role). Gives (at r) w.net (w.at q)) (sym e) (all_give tree es w run q p e) in
      record {
        accepted_is_given = λ c t f. (g.accepted_is_given c t f).1;
        issued = awake_is_issued (place_of tree q) p e (w.at q);
        idle_accepts_none = idle_accepts_none (place_of tree q) p e (w.at q);
        asked_was_prepared = g.asked_was_prepared;
      }
