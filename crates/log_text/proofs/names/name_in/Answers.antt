use Rattle.std.proofs.Common.{sym}
use Rattle.log_text.proofs.NameReading.{foreign_of}
use Rattle.log_text.proofs.names.name_in.Goals as goal

pub returns-in-Err : goal.returns-in-Err
returns-in-Err c = sym (foreign_of c.args.xid.now c.requires.fits c.in-Err.ensures.foreign)
