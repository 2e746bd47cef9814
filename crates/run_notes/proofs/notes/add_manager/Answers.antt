use Rattle.run_notes.proofs.Knowing.{manager_added}
use Rattle.run_notes.proofs.notes.add_manager.Goals as goal

pub returns-in_ok-insert-in-Manager : goal.returns-in_ok-insert-in-Manager
returns-in_ok-insert-in-Manager c =
    manager_added c.args.entry.now c.args.managers.now.entries c.insert.new.self.entries
    c.in_ok-manager-in-Manager.manager c.in-Manager.is c.in_ok-insert-in-Manager.ensures.entries
