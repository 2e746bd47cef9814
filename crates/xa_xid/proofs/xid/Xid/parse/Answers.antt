use Rattle.std.proofs.Common.{sym, ◌∙◌}
use Rattle.xa_xid.proofs.Spelling.{text_fault, refused, fault_is, piece_sizes, parts_are, sound_parts}
use Rattle.xa_xid.proofs.xid.Xid.parse.Goals as goal

pub returns-in-Some-fault_of_xid-clause-err : goal.returns-in-Some-fault_of_xid-clause-err
returns-in-Some-fault_of_xid-clause-err c =
    let h = c.in-Some.ensures.found in
    text_fault c.args.text.now h.0 c.in-Some-fault_of_xid.error h.1.fits h.1.spelled
    (sym (c.in-Some-fault_of_xid.ensures ∙ fault_is _ _ _ _ h.0 h.1))

pub returns-in-Some-fault_of_xid-clause-none : goal.returns-in-Some-fault_of_xid-clause-none
returns-in-Some-fault_of_xid-clause-none c =
    let h = c.in-Some.ensures.found in
    refused c.args.text.now h.0 c.in-Some-fault_of_xid.error h.1.fits h.1.spelled
    (sym (c.in-Some-fault_of_xid.ensures ∙ fault_is _ _ _ _ h.0 h.1))

pub part_of-gtrid-requires-clause-size : goal.part_of-gtrid-requires-clause-size
part_of-gtrid-requires-clause-size c =
    let h = c.in-Some.ensures.found in
    (piece_sizes _ _ _ _ h.0 h.1 (sym c.in_default-fault_of_xid.ensures)).0

pub part_of-bqual-requires-clause-size : goal.part_of-bqual-requires-clause-size
part_of-bqual-requires-clause-size c =
    let h = c.in-Some.ensures.found in
    (piece_sizes _ _ _ _ h.0 h.1 (sym c.in_default-fault_of_xid.ensures)).1

pub of_parts-requires : goal.of_parts-requires
of_parts-requires c =
    let h = c.in-Some.ensures.found in
    let same = parts_are _ _ _ _ h.0 h.1 c.as_slice.result.now c.as_slice-2.result.now
    (rw c.as_slice.ensures.value c.part_of-gtrid.ensures)
    (rw c.as_slice-2.ensures.value c.part_of-bqual.ensures) in
    sound_parts _ h.0 same (sym (fault_is _ _ _ _ h.0 h.1) ∙ sym c.in_default-fault_of_xid.ensures)
