-- The name that an XID is read as is whole.
use Rattle.std.proofs.Common.{◌≡◌, Bool, true, false, cond, Option, Some, None, refl, sym, ap, ◌∙◌}
use Rattle.xa_xid.specs.Xids.{XidParts}
use Rattle.protocol.specs.declared.names.ProcessId.{ProcessId}
use Rattle.protocol.specs.declared.names.Ticket.{Ticket}
use Rattle.protocol.specs.declared.names.Txn.{Txn}
use Rattle.protocol.specs.declared.records.BranchName.TheVariants.{Foreign}
use Rattle.protocol_words.specs.Variants.{CaseBranch}
use Rattle.protocol.specs.Branches.{FitsBelow, FitsTxn, branch_parts}
use Rattle.protocol.specs.Records.{same_xid}
use Rattle.log_text.specs.Parts.{Name, below_in, case_name, name_in, presumption_in, txn_in}
use Rattle.log_text.proofs.NameReading.{case_of, fits_below_in, fits_txn_in}
use Rattle.log_rules.specs.sound.Sound.{IsSoundName, NamesAreSound}

case_is_sound : (x : Txn) (b : Option (ProcessId × Ticket)) → FitsTxn x → FitsBelow b
    → IsSoundName (case_name x b).0 (case_name x b).1
case_is_sound x None hx hb = record { whole = refl; fits = (hx, tt) }
case_is_sound x (Some b) hx hb = record { whole = refl; fits = (hx, hb) }

no_case_is_foreign : (x : Txn) (b : Option (ProcessId × Ticket)) (xid : XidParts)
    → ◌≡◌ {A = Name} (None, Foreign xid) (case_name x b) → ⊥
no_case_is_foreign x None xid e =
    let other : Foreign xid ≡ CaseBranch (record { txn = x; ticket = None }) = ap (λ (n : Name). n.1) e in
    absurd (cc)
no_case_is_foreign x (Some b) xid e =
    let other : Foreign xid ≡ CaseBranch (record { txn = x; ticket = Some b.1 }) = ap (λ (n : Name). n.1) e in
    absurd (cc)

pub names_are_sound : NamesAreSound
unfolding name_in
names_are_sound xid is = by_test (same_xid (branch_parts x b) xid) refl
  where
    x : Txn
    x = txn_in (presumption_in xid.format) xid.gtrid

    b : Option (ProcessId × Ticket)
    b = below_in xid.bqual

    by_test : (s : Bool) → same_xid (branch_parts x b) xid ≡ s
        → IsSoundName (cond s (case_name x b) (None, Foreign xid)).0
        (cond s (case_name x b) (None, Foreign xid)).1
    by_test true e = case_is_sound x b (fits_txn_in (presumption_in xid.format) xid.gtrid is.fits.gtrid)
        (fits_below_in xid.bqual is.fits.bqual)
    by_test false e = record {
      whole = (
        refl,
        λ y d hy hd same. no_case_is_foreign y d xid
            (sym (ap (λ s. cond s (case_name x b) (None, Foreign xid)) e) ∙ case_of y d xid hy hd same),
      );
      fits = is;
    }
