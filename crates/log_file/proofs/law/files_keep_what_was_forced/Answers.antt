use Rattle.log_file.proofs.Disks.{files_keep}
use Rattle.log_file.proofs.law.files_keep_what_was_forced.Goals as goal

pub returns : goal.returns
returns g c = files_keep c.args.store.now
