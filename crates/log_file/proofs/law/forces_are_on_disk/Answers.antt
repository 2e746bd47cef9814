use Rattle.log_file.proofs.Disks.{forces_on_disk, puts_on_disk, stand_after}
use Rattle.log_file.proofs.law.forces_are_on_disk.Goals as goal

pub returns-clause-puts : goal.returns-clause-puts
returns-clause-puts g c = puts_on_disk g.F.LogFile.replaces c.args.store.now

pub returns-clause-forces : goal.returns-clause-forces
returns-clause-forces g c = forces_on_disk g.F.LogFile.writes g.F.LogFile.syncs c.args.store.now

pub returns-clause-blocks : goal.returns-clause-blocks
returns-clause-blocks g c = stand_after c.args.store.now
