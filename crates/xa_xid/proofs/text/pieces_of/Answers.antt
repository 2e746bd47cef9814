use Rattle.std.proofs.Common.{rules, refl, FitsSigned, w32}
use Rattle.std.proofs.lemmas.Int.{to_z-of_z}
use Rattle.xa_xid.proofs.Spelling.{no_colon, one_colon, pieces, whole}
use Rattle.xa_xid.proofs.text.pieces_of.Goals as goal
use Rattle.xa_xid.proofs.text.pieces_of.Goals.{else-is_hexadecimal-via-then-is_hexadecimal+else-is_hexadecimal-2, else-is_hexadecimal-via-else-is_hexadecimal}

pub returns-in_err-format-clause-none : goal.returns-in_err-format-clause-none
returns-in_err-format-clause-none c = rw c.from_residual.ensures
    (no_colon c.args.text.now c.in_err-format.ensures)

pub returns-in_err-gtrid-clause-none : goal.returns-in_err-gtrid-clause-none
returns-in_err-gtrid-clause-none c = rw c.from_residual-in_err-gtrid.ensures
    (one_colon c.args.text.now c.in_ok-format.format.now c.in_ok-format.rest.now c.in_ok-format.ensures
    c.in_err-gtrid.ensures)

pub returns-in_err-format-2-clause-none : goal.returns-in_err-format-2-clause-none
returns-in_err-format-2-clause-none c = rw c.from_residual-in_err-format-2.ensures (λ x fits e.
    let p = pieces c.args.text.now c.in_ok-format.format.now c.in_ok-format.rest.now
    c.in_ok-gtrid.gtrid.now c.in_ok-gtrid.bqual.now c.in_ok-format.ensures c.in_ok-gtrid.ensures x fits
    e in
    c.in_err-format-2.ensures.none x.format fits.format p.0)

pub returns-else-is_hexadecimal-clause-none : goal.returns-else-is_hexadecimal-clause-none
returns-else-is_hexadecimal-clause-none c = λ x fits e.
    let p = pieces c.args.text.now c.in_ok-format.format.now c.in_ok-format.rest.now
    c.in_ok-gtrid.gtrid.now c.in_ok-gtrid.bqual.now c.in_ok-format.ensures c.in_ok-gtrid.ensures x fits
    e in
    elim c.else-is_hexadecimal.branch [
      | else-is_hexadecimal-via-then-is_hexadecimal+else-is_hexadecimal-2 w ↦
          (let yes = w.is_hexadecimal-then-is_hexadecimal.ensures.1 (x.bqual, p.2) in let not =
          w.if-is_hexadecimal-2.false in cc)
      | else-is_hexadecimal-via-else-is_hexadecimal w ↦
          (let yes = c.is_hexadecimal.ensures.1 (x.gtrid, p.1) in let not = w.if-is_hexadecimal.false in cc)
    ]

pub returns-then-is_hexadecimal-2-clause-found : goal.returns-then-is_hexadecimal-2-clause-found
returns-then-is_hexadecimal-2-clause-found c =
    let fits : FitsSigned w32 c.in_ok-format-2.format = search rules in
    whole c.args.text.now c.in_ok-format.format.now c.in_ok-format.rest.now c.in_ok-gtrid.gtrid.now
    c.in_ok-gtrid.bqual.now c.in_ok-format-2.format _ c.in_ok-format.ensures c.in_ok-gtrid.ensures
    fits (to_z-of_z w32 c.in_ok-format-2.format fits) c.in_ok-format-2.ensures.found
    (c.if-is_hexadecimal.ensures.0 refl) (c.if-is_hexadecimal-2.ensures.0 refl)
