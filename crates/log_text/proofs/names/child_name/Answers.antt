use Rattle.std.proofs.Common.{Some, sym, arith}
use Rattle.log_text.proofs.NameReading.{case_of}
use Rattle.log_text.proofs.names.child_name.Goals as goal

pub returns : goal.returns
returns c =
    sym (case_of c.args.txn (Some (c.args.parent, c.args.ticket)) c.args.xid.now
    (record { root = omega arith; boot = omega arith; sequence = omega arith })
    (record { parent = omega arith; child = omega arith; boot = omega arith; number = omega arith })
    c.requires)
