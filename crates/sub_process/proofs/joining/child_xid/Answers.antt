use Rattle.std.proofs.Common.{Some, sym, arith, ◌∙◌}
use Rattle.log_text.proofs.NameReading.{case_of}
use Rattle.sub_process.proofs.Joins.{is_real}
use Rattle.sub_process.proofs.joining.child_xid.Goals as goal

pub returns : goal.returns
returns c =
    record {
      is = c.name_xid.ensures;
      reads = case_of c.args.txn (Some (c.args.parent, c.args.ticket)) c.name_xid.result
          (record { root = omega arith; boot = omega arith; sequence = omega arith })
          (record { parent = omega arith; child = omega arith; boot = omega arith; number = omega arith })
          (sym c.name_xid.ensures);
      real = λ e. is_real c.args.txn (Some (c.args.parent, c.args.ticket)) (sym c.name_xid.ensures ∙ e);
    }
