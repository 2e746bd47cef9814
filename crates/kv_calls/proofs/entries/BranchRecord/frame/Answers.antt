use Rattle.std.proofs.Common.{◌≡◌, ◌∙◌, ap, subst, sym}
use Rattle.std.proofs.lemmas.Result.{IfOk-weaker}
use Rattle.protocol.specs.declared.names.Kind.TheVariants.{Manager}
use Rattle.xa_xid.specs.Xids.{XidParts}
use Rattle.protocol.specs.declared.records.LogRecord.{LogRecord}
use Rattle.protocol.specs.declared.records.Record.{Record}
use Rattle.log_text.specs.Branches.{branch_record}
use Rattle.log_text.specs.Payloads.{FitsFrame}
use Rattle.log_text.specs.Parts.{name_in}
use Rattle.log_rules.proofs.sound.Sizes.{sound_fits}
use Rattle.kv_calls.specs.Turns.{entry_record}
use Rattle.kv_calls.proofs.Sound.{sound_entry}
use Rattle.kv_calls.proofs.entries.BranchRecord.frame.Goals as goal

abbrev named : Record → XidParts → LogRecord
named r x = record { entry = r; parent = (name_in x).0 }

pub of_branch-requires : goal.of_branch-requires
of_branch-requires c =
    let is : branch_record c.with_writes-entry.result c.args.xid.now
    ≡ entry_record c.args.self c.args.xid.now c.args.writes.now =
    ap (λ (r : Record). named r c.args.xid.now) (c.with_writes-entry.ensures (name_in c.args.xid.now).1) in
    subst FitsFrame (sym is) (sound_fits Manager (entry_record c.args.self c.args.xid.now c.args.writes.now)
    (sound_entry c.args.self c.args.xid.now c.args.writes.now c.is_whole_name.ensures c.requires))

pub returns-clause-frame : goal.returns-clause-frame
returns-clause-frame c =
    let is : branch_record c.with_writes-entry.result c.args.xid.now
    ≡ entry_record c.args.self c.args.xid.now c.args.writes.now =
    ap (λ (r : Record). named r c.args.xid.now) (c.with_writes-entry.ensures (name_in c.args.xid.now).1) in
    IfOk-weaker c.of_branch.result _ _ (λ frame e. e ∙ is) c.of_branch.ensures

pub returns-clause-sound : goal.returns-clause-sound
returns-clause-sound c = sound_entry c.args.self c.args.xid.now c.args.writes.now
    c.is_whole_name.ensures c.requires
