-- Each End of the root since a tree was opened over the logs of an earlier run reports truly.
use Rattle.std.proofs.Common.{◌≡◌, Bool, true, false, List, [], ◌++◌, refl, sym, subst}
use Rattle.protocol.specs.declared.names.ProcessId.{ProcessId}
use Rattle.protocol.specs.declared.messages.Envelope.{Envelope}
use Rattle.protocol.specs.declared.messages.Message.{Message}
use Rattle.protocol.specs.declared.events.Happening.{Happening}
use Rattle.protocol_words.specs.Variants.{ActInput, Handles, MessageInput}
use Rattle.protocol.specs.declared.events.Input.{Input}
use Rattle.protocol.specs.declared.trees.TreeProcess.{TreeProcess}
use Rattle.protocol.specs.Nodes.{Node, is_listed}
use Rattle.protocol.specs.Trees.{IsTree}
use Rattle.protocol.specs.World.{InputStands, Made, MayHappen, World}
use Rattle.proof_headline.proofs.runs.Headline.{the_world_holds}
use Rattle.proof_headline.proofs.runs.Headline
use Rattle.proof_reports.specs.SinceOpened.{AllHeardAmong, InputAmong, IsAmong, SinceOpened}
use Rattle.proof_reports.proofs.Found.{among_at, among_second}
use Rattle.proof_reports.proofs.Naming.{never}
use Rattle.proof_reports.proofs.Reporting.{end_reports_truly}
use Rattle.proof_reports.proofs.SinceOpened.{since_step}
use Rattle.proof_reopened.specs.Earlier.{Earlier, IsEarlier, IsSince, SinceReported, opens_over, then_makes}
use Rattle.proof_reopened.specs.Laws.{BothPartsKeep}
use Rattle.proof_reopened.proofs.Moves.{run_of}
use Rattle.proof_reopened.proofs.Whole.{happens_in, net_since, whole_run}

-- what is delivered is one of the messages that were sent since
input_among : (sent : List Envelope) (q : ProcessId) (i : Input) → InputStands sent q i → InputAmong sent i
input_among sent q (ActInput a) s = tt
input_among sent q (MessageInput k m) s = among_at sent s.place _ s.stands

arrives_among : (sent : List Envelope) (q : ProcessId) (h : Happening) → MayHappen sent q h → (i : Input)
    → h ≡ Handles i
    → InputAmong sent i
arrives_among sent q h s i hp = input_among sent q i (subst (λ (x : Happening). MayHappen sent q x) hp s)

module _ (tree : List TreeProcess) (is_tree : IsTree tree) (o : Earlier) (past : IsEarlier tree o) where
  -- a process that is up where every listed one is down has heard nothing
  down_heard : (q : ProcessId) → (o.world.at q).failed ≡ false → AllHeardAmong [] (o.world.at q).heard
  down_heard q up = by_listed (is_listed tree q) refl
    where
      by_listed : (b : Bool) → is_listed tree q ≡ b → AllHeardAmong [] (o.world.at q).heard
      by_listed true f = absurd (never _ (past.down q f) up)
      by_listed false f = subst (λ (n : Node). AllHeardAmong [] n.heard)
          (sym ((the_world_holds tree is_tree o.moves o.world past.is_run).unlisted q f)) tt

  among_net : (es : List Made) (sent : List Envelope) (w : World) → IsSince tree o es sent w → (x : Message)
      → IsAmong x sent → IsAmong x w.net
  among_net es sent w since x i =
      subst (λ zs. IsAmong x zs) (sym (net_since tree o es sent w since)) (among_second x o.world.net sent i)

  since_holds : (es : List Made) (sent : List Envelope) (w : World) → IsSince tree o es sent w
      → SinceOpened tree sent w
  since_holds _ _ _ opens_over = record {
    heard = down_heard;
    managers = λ x t p leaf o fs i clean. absurd i;
    coordinators = λ x t p role o fs i clear. absurd i;
  }
  since_holds _ _ _ (then_makes es sent w m e w' since by stands made) =
      since_step tree is_tree (es ++ o.moves) w (whole_run tree o past.is_run es sent w since) sent
      (among_net es sent w since) (since_holds es sent w since) m e w' by
      (arrives_among sent m.step.process m.step.happening stands)
      (happens_in tree o es sent w since m.step.process m.step.happening stands) made

  pub since_reported : (es : List Made) (sent : List Envelope) (w : World) (since : IsSince tree o es sent w)
      → SinceReported tree o es sent w since
  since_reported _ _ _ opens_over = tt
  since_reported _ _ _ (then_makes es sent w m e w' since by stands made) = (
    λ j c r top there. end_reports_truly tree is_tree (es ++ o.moves) w
        (whole_run tree o past.is_run es sent w since)
        sent (among_net es sent w since) (since_holds es sent w since) m e w' by
        (arrives_among sent m.step.process m.step.happening stands)
        (happens_in tree o es sent w since m.step.process m.step.happening stands) made top c r j there,
    since_reported es sent w since,
  )

pub both_parts : BothPartsKeep
both_parts o s es w is_tree f = record {
  is_run = run_of o es w s f;
  headline = Headline.headline s.tree is_tree (es ++ o.moves) w (run_of o es w s f);
  mismatches_are_reported = since_reported s.tree is_tree o f.earlier es s.net w f.since;
}
