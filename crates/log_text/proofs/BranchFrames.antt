-- The payload of a branch's record is the bytes of its XID and what is after them.
use Rattle.std.proofs.Common.{◌≡◌, ◌++◌, ap, sym, ◌∙◌, append-nil}
use Rattle.xa_xid.specs.Bytes.{xid_bytes}
use Rattle.protocol.specs.declared.records.BranchName.{BranchName}
use Rattle.xa_xid.specs.Xids.{XidParts}
use Rattle.log_text.specs.declared.branch.BranchEntry.{BranchEntry}
use Rattle.log_text.specs.declared.branch.BranchEntry.TheVariants.{Prepared, Committed, RolledBack, Direct, HeurCommit, HeurRollback, Told, Forgot}
use Rattle.log_text.specs.Branches.{IsSizedRest, entry_under, rest_text}
use Rattle.log_text.specs.Forms.{unowned}
use Rattle.log_text.specs.Parts.{name_in}
use Rattle.log_text.specs.Payloads.{IsSized, payload_text}
use Rattle.log_text.proofs.NameReading.{name_again}

pub payload_is : (e : BranchEntry) (x : XidParts)
    → payload_text unowned (name_in x).0 (entry_under e (name_in x).1) ≡ xid_bytes x ++ rest_text e
payload_is (Prepared ws) x = ap (λ y. xid_bytes y ++ rest_text (Prepared ws)) (name_again x)
payload_is (Direct ws) x = ap (λ y. xid_bytes y ++ rest_text (Direct ws)) (name_again x)
payload_is (Told o) x = ap (λ y. xid_bytes y ++ rest_text (Told o)) (name_again x)
payload_is Committed x = ap xid_bytes (name_again x) ∙ sym (append-nil (xid_bytes x))
payload_is RolledBack x = ap xid_bytes (name_again x) ∙ sym (append-nil (xid_bytes x))
payload_is HeurCommit x = ap xid_bytes (name_again x) ∙ sym (append-nil (xid_bytes x))
payload_is HeurRollback x = ap xid_bytes (name_again x) ∙ sym (append-nil (xid_bytes x))
payload_is Forgot x = ap xid_bytes (name_again x) ∙ sym (append-nil (xid_bytes x))

pub sized_rest : (e : BranchEntry) (b : BranchName) → IsSized (entry_under e b) → IsSizedRest e
sized_rest (Prepared ws) b h = h
sized_rest (Direct ws) b h = h
sized_rest (Told o) b h = tt
sized_rest Committed b h = tt
sized_rest RolledBack b h = tt
sized_rest HeurCommit b h = tt
sized_rest HeurRollback b h = tt
sized_rest Forgot b h = tt
