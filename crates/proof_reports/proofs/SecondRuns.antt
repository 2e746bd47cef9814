-- Each End of a run that the second version makes alone reports truly.
use Rattle.std.proofs.Common.{◌≡◌, ◌++◌, List, [], ◌∷◌, sym, ap, subst}
use Rattle.protocol.specs.declared.names.ProcessId.{ProcessId}
use Rattle.protocol.specs.declared.messages.Envelope.{Envelope}
use Rattle.protocol.specs.declared.events.Happening.{Happening}
use Rattle.protocol_words.specs.Variants.{ActInput, Handles, MessageInput}
use Rattle.protocol.specs.declared.events.Input.{Input}
use Rattle.protocol.specs.declared.trees.TreeProcess.{TreeProcess}
use Rattle.protocol.specs.Nodes.{Second}
use Rattle.protocol.specs.Trees.{IsTree}
use Rattle.protocol.specs.World.{InputStands, IsRun, Made, MayHappen, World, makes, opens}
use Rattle.protocol.proofs.RunLaws.{makes_at}
use Rattle.protocol.specs.World.{AllBy}
use Rattle.proof_reports.specs.SecondRuns.{EndsReported}
use Rattle.proof_reports.specs.SinceOpened.{InputAmong, SinceOpened}
use Rattle.proof_reports.proofs.Found.{among_at}
use Rattle.proof_reports.proofs.Reporting.{end_reports_truly}
use Rattle.proof_reports.proofs.SinceOpened.{since_step}
use Rattle.proof_reports.proofs.SinceRuns.{opened_since}

-- a message that is delivered is one of those that were ever sent
input_among : (net : List Envelope) (q : ProcessId) (i : Input) → InputStands net q i → InputAmong net i
input_among net q (ActInput a) s = tt
input_among net q (MessageInput k m) s = among_at net s.place _ s.stands

arrives_among : (net : List Envelope) (q : ProcessId) (h : Happening) → MayHappen net q h → (i : Input)
    → h ≡ Handles i
    → InputAmong net i
arrives_among net q h s i hp = input_among net q i (subst (λ (x : Happening). MayHappen net q x) hp s)

module _ (tree : List TreeProcess) (is_tree : IsTree tree) where
  since_second : (es : List Made) (w : World) → IsRun tree es w → AllBy Second es → SinceOpened tree w.net w
  since_second _ _ opens by = opened_since tree is_tree
  since_second _ _ (makes es w m e w' run stands made) by =
      subst (λ (zs : List Envelope). SinceOpened tree zs w')
      (sym (ap (λ (y : World). y.net) (makes_at tree w m e w' made).world))
      (since_step tree is_tree es w run w.net (λ x i. i) (since_second es w run by.1) m e w' by.0
      (arrives_among w.net m.step.process m.step.happening stands) stands made)

  pub second_runs_report : (es : List Made) (w : World) (run : IsRun tree es w) → AllBy Second es
      → EndsReported tree es w run
  second_runs_report _ _ opens by = tt
  second_runs_report _ _ (makes es w m e w' run stands made) by = (
    λ j c r top there. end_reports_truly tree is_tree es w run w.net (λ x i. i)
        (since_second es w run by.1) m e w'
        by.0 (arrives_among w.net m.step.process m.step.happening stands) stands made top c r j there,
    second_runs_report es w run by.1,
  )
