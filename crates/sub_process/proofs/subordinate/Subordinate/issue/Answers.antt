use Rattle.std.proofs.Common.{◌≡◌, ◌∙◌, ◌∷◌, [], sym, ap, subst, IfOk}
use Rattle.protocol.specs.declared.names.Ticket.{Ticket}
use Rattle.protocol.specs.declared.events.Reaction.{Reaction}
use Rattle.protocol.specs.declared.messages.Message.TheVariants.{Join, Joined}
use Rattle.protocol.specs.CoordinatorRows.{post}
use Rattle.process_state.specs.Turns.{next_ticket}
use Rattle.sub_process.specs.Subordinates.{Hears, Joins, SubState, core_of, seen}
use Rattle.sub_work.specs.Replies.{shown}
use Rattle.sub_process.proofs.Joins.{issued, refused}
use Rattle.sub_process.proofs.subordinate.Subordinate.issue.Goals as goal
use Rattle.sub_process.proofs.subordinate.Subordinate.issue.Goals.{then-branch, else-branch}

pub returns-clause-ok : goal.returns-clause-ok
returns-clause-ok g c =
    let old : SubState = seen g.M.ResourceManager.sight c.args.self.now in
    let new : SubState = seen g.M.ResourceManager.sight c.start.new.self in
    let said : c.in_ok-joined.joined ≡ shown []
    (post old.me old.parent (Joined c.args.case (next_ticket (core_of old))) ∷ []) =
    c.in_ok-joined.ensures
    ∙ ap (λ (t : Ticket). shown [] (post c.self.inside.me c.self.inside.parent (Joined c.args.case t) ∷ []))
    c.next_ticket-ticket.ensures
    ∙ ap (λ v. shown [] (post v.me v.parent (Joined c.args.case (next_ticket (core_of old))) ∷ []))
    c.self.view_is in
    elim c.if-branch.branch [
      | then-branch w ↦
          subst (λ r. IfOk r (Hears old new (Join c.args.case))) (sym w.result-is)
          (subst (λ (r : Reaction). Hears old new (Join c.args.case) r) (sym said)
          (issued old new c.args.case c.requires.ungiven
          (subst (λ b. Joins old new c.args.case b) w.if-branch.true c.in_ok-start.ensures.ok)))
      | else-branch w ↦
          subst (λ r. IfOk r (Hears old new (Join c.args.case))) (sym w.result-is)
          (subst (λ (r : Reaction). Hears old new (Join c.args.case) r) (sym w.silence.ensures)
          (refused old new c.args.case c.requires.ungiven
          (subst (λ b. Joins old new c.args.case b) w.if-branch.false c.in_ok-start.ensures.ok)))
    ]
