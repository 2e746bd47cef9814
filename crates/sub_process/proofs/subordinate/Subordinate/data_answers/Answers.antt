use Rattle.std.proofs.Common.{subst}
use Rattle.protocol.specs.declared.events.Input.{Input}
use Rattle.resource_manager.specs.Sights.{manager_data}
use Rattle.resource_manager.specs.Turns.{AnswersInput, case_xid}
use Rattle.sub_process.specs.Steps.{data_answer, state}
use Rattle.sub_process.specs.Subordinates.{SubState, seen}
use Rattle.sub_process.proofs.Answering.{answers_input}
use Rattle.sub_process.proofs.subordinate.Subordinate.data_answers.Goals as goal

pub returns : goal.returns
returns g c =
    let s : SubState = record {
      me = c.self.inside.me;
      parent = c.self.inside.parent;
      tree = c.self.inside.tree;
      given = c.self.inside.given;
      table = c.self.inside.branches;
      manager = g.M.ResourceManager.sight c.self.inside.manager;
    } in
    subst (λ v. (i : Input) → AnswersInput (state g.M.ResourceManager.sight v)
    (manager_data (g.M.ResourceManager.sight v.manager)) (case_xid v.parent) i
    (data_answer (seen g.M.ResourceManager.sight v) i)) c.self.view_is
    (answers_input s c.self.invariant.idle c.branches_are_listed_once.ensures)
