-- In every run of a tree each message goes where it belongs, and each that is about a case is of a case that
-- was given.
use Rattle.std.proofs.Common.{◌≡◌, true, Option, Some, None, List, [], ◌∷◌, ◌++◌, refl, sym, ap, subst}
use Rattle.protocol.specs.declared.names.Case.{Case}
use Rattle.protocol.specs.declared.names.ProcessId.{ProcessId}
use Rattle.protocol.specs.declared.messages.Envelope.{Envelope}
use Rattle.protocol.specs.declared.trees.TreeProcess.{TreeProcess}
use Rattle.protocol.specs.Nodes.{AtLeaf, AtRoot, Below, Effect, Place, Role, place_of, role_of}
use Rattle.protocol.specs.Outcomes.{sent}
use Rattle.protocol.specs.World.{IsRun, Made, Move, MayHappen, World, makes, opens, world_makes}
use Rattle.protocol.proofs.RunLaws.{makes_at}
use Rattle.proof_pairs.specs.readings.ReadingOf.{gives_case}
use Rattle.proof_pairs.specs.turns.Steps.{StepOf}
use Rattle.proof_pairs.proofs.turns.Steps.{step_of}
use Rattle.proof_processes.specs.WorldHolds.{AboutGiven, AllGo, NodeHolds, RoleHolds, is_about}
use Rattle.proof_processes.proofs.RootsHold.{nodes_hold}
use Rattle.proof_processes.proofs.Remembering.{role_below}
use Rattle.proof_processes.proofs.Unlisted.{makes_listed}
use Rattle.proof_headline.proofs.ManagerMessages
use Rattle.proof_headline.proofs.runs.CoordinatorMessages.{all_given, all_go}
use Rattle.proof_headline.proofs.runs.MessagesHold.{step_sends}

-- what holds of the net
pub record NetHolds (tree : List TreeProcess) (net : List Envelope) : Type 0 where
  pub go : AllGo tree net
  pub about_given : AboutGiven net

-- messages that go where they belong, after others that do
go_both : (tree : List TreeProcess) (xs ys : List Envelope) → AllGo tree xs → AllGo tree ys
    → AllGo tree (xs ++ ys)
go_both tree [] ys f g = g
go_both tree (x ∷ xs) ys f g = (f.0, go_both tree xs ys f.1 g)

module _ (tree : List TreeProcess) (es : List Made) (w : World) (run : IsRun tree es w)
    (h : NetHolds tree w.net)
    (m : Move) (e : Effect) (w' : World) (stands : MayHappen w.net m.step.process m.step.happening)
    (made : world_makes tree w m ≡ Some (e, w'))
  where
    abbrev q : ProcessId
    q = m.step.process

    abbrev at : Role → Place
    at r = record { me = q; role = r; tree = tree }

    node : NodeHolds (place_of tree q) w.net (w.at q)
    node = nodes_hold tree es w run q

    here : (r : Role) → role_of tree q ≡ r → StepOf (at r) (w.at q) m e (makes_at tree w m e w' made).node
    here r f =
        subst (λ x. StepOf (at x) (w.at q) m e (makes_at tree w m e w' made).node) f
        (step_of (place_of tree q) (w.at q) m e (makes_at tree w m e w' made).node
        (makes_at tree w m e w' made).made)

    by_coordinator : (parent : Option ProcessId) → role_of tree q ≡ role_below parent
        → AllGo tree e.messages × AboutGiven (w.net ++ e.messages)
    by_coordinator parent f =
        let well = step_sends q parent tree (w.at q) w.net f (makes_listed tree w m e w' made) h.go
        h.about_given
        node.lasts.nested (subst (λ r. RoleHolds r (at r) w.net (w.at q)) f node.role) m stands e
        (makes_at tree w m e w' made).node (here (role_below parent) f) in
        (all_go tree q w.net e.messages well, all_given tree q w.net e.messages well h.about_given)

    by_role : (r : Role) → role_of tree q ≡ r → AllGo tree e.messages × AboutGiven (w.net ++ e.messages)
    by_role AtRoot f = by_coordinator None f
    by_role (Below p) f = by_coordinator (Some p) f
    by_role (AtLeaf p) f =
        let listed = makes_listed tree w m e w' made in
        let fits = ManagerMessages.messages_fit tree q p f listed w.net h.go h.about_given (w.at q)
        node.lasts.nested
        (subst (λ r. RoleHolds r (at r) w.net (w.at q)) f node.role).1 m stands e
        (makes_at tree w m e w' made).node
        (here (AtLeaf p) f) in (
          ManagerMessages.all_go tree q p f listed w.net e.messages fits,
          ManagerMessages.about_given tree q p f listed w.net e.messages fits h.about_given,
        )

    net_keeps : NetHolds tree (w.net ++ e.messages)
    net_keeps =
        let s = by_role (role_of tree q) refl in
        record { go = go_both tree w.net e.messages h.go s.0; about_given = s.1 }

nothing_sent : (d : Case) → sent (is_about d) [] ≡ true → sent (gives_case d) [] ≡ true
unfolding sent
nothing_sent d e = absurd (cc)

pub nets_hold : (tree : List TreeProcess) (es : List Made) (w : World) → IsRun tree es w → NetHolds tree w.net
nets_hold tree _ _ opens = record { go = tt; about_given = nothing_sent }
nets_hold tree _ _ (makes es w m e w' run stands made) =
    subst (λ ls. NetHolds tree ls) (sym (ap (λ (x : World). x.net) (makes_at tree w m e w' made).world))
    (net_keeps tree es w run (nets_hold tree es w run) m e w' stands made)
