use Rattle.std.proofs.Common.{None, sym, arith}
use Rattle.log_text.proofs.NameReading.{case_of}
use Rattle.log_text.proofs.names.root_name.Goals as goal

pub returns : goal.returns
returns c = sym (case_of c.args.txn None c.args.xid.now
    (record { root = omega arith; boot = omega arith; sequence = omega arith }) tt c.requires)
