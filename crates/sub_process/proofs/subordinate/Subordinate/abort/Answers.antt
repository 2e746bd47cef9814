use Rattle.std.proofs.Common.{◌≡◌, [], sym, subst}
use Rattle.protocol.specs.declared.names.Outcome.TheVariants.{Aborted}
use Rattle.protocol.specs.declared.messages.Message.TheVariants.{Abort}
use Rattle.protocol.specs.Standings.{unknown_findings}
use Rattle.process_state.specs.Turns.{this_version}
use Rattle.sub_work.specs.Replies.{shown}
use Rattle.sub_process.specs.Subordinates.{Hears, SubState, acknowledged, seen}
use Rattle.sub_process.proofs.Staying.{heard, abort_unknown}
use Rattle.sub_process.proofs.subordinate.Subordinate.abort.Goals as goal

pub returns-in_default-clause-ok : goal.returns-in_default-clause-ok
returns-in_default-clause-ok g c =
    let s : SubState = record {
      me = c.self.inside.me;
      parent = c.self.inside.parent;
      tree = c.self.inside.tree;
      given = c.self.inside.given;
      table = c.self.inside.branches;
      manager = g.M.ResourceManager.sight c.self.inside.manager;
    } in
    let said : c.in_ok-unreported.field-0 ≡ shown []
    (acknowledged s.me s.parent c.args.case Aborted (unknown_findings this_version c.args.case)) =
    subst (λ v. c.in_ok-unreported.field-0 ≡ shown []
    (acknowledged v.me v.parent c.args.case Aborted (unknown_findings this_version c.args.case)))
    (sym c.self.view_is) c.in_ok-unreported.ensures in
    subst (λ v. Hears (seen g.M.ResourceManager.sight v) (seen g.M.ResourceManager.sight v)
    (Abort c.args.case) c.in_ok-unreported.field-0) c.self.view_is
    (subst (λ r. Hears s s (Abort c.args.case) r) (sym said)
    (heard s c.args.case (Abort c.args.case) _
    (abort_unknown s c.args.case c.in_default.ensures.kept c.in_default.ensures.finds)))
