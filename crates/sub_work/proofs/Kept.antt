-- What a manager keeps of its branches where nothing came of a piece of work.
use Rattle.resource_manager.specs.Sights.{ManagerSight, SameManager}
use Rattle.sub_work.specs.Deeds.{KeepsManager}

-- nothing changed but room
pub same_kept : (old new : ManagerSight) → SameManager old new → KeepsManager old new
same_kept old new stays = record {
  branches = stays.tables.branches.branches;
  spent = stays.spent;
  rest = stays.rest;
}
