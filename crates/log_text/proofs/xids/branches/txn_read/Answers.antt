use Rattle.std.proofs.Common.{◌∙◌, ap, Some, length, arith, refl}
use Rattle.std.specs.Int.{w8}
use Rattle.std.proofs.Math.Facts.{Fits-lt-pow}
use Rattle.log_text.proofs.xids.BranchLaws.{txn_again, number_first, number_behind, txn_is, txn_spells, length-txn_bytes}
use Rattle.log_text.proofs.xids.branches.txn_read.Goals as goal

pub returns-clause-all : goal.returns-clause-all
returns-clause-all c = λ x fits same e.
    let read = txn_again x fits in
    ap Some (txn_is _ _ _ _ x
    (c.read_u32.ensures ∙ number_first 4 _ _ _ e read.root)
    (c.read_u64.ensures ∙ number_behind 8 4 _ _ _ e read.boot)
    (c.read_u64-2.ensures ∙ number_behind 8 12 _ _ _ e read.sequence)
    same)

pub returns-then-name-ne20-clause-all : goal.returns-then-name-ne20-clause-all
returns-then-name-ne20-clause-all c = λ x fits same e. absurd (omega (arith, length-txn_bytes x, ap length e))

pub returns-clause-spelled : goal.returns-clause-spelled
returns-clause-spelled c = (
  txn_spells c.args.name.now _ _ _ c.args.presumption
      (λ k. Fits-lt-pow {w = w8} (c.type_inv.name k)) (omega arith)
      c.read_u32.ensures c.read_u64.ensures c.read_u64-2.ensures,
  refl,
)
