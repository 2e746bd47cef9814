use Rattle.std.proofs.Common.{◌≡◌, ◌++◌, IfOk, List, subst, sym, true}
use Rattle.protocol.specs.declared.records.Record.{Record}
use Rattle.coord_records.specs.Remembered.{RemembersCases}
use Rattle.coord_records.proofs.Remembering.{left_out}
use Rattle.coord_records.proofs.remembered.RememberedCases.take.Goals as goal

pub returns-then-is_foreign : goal.returns-then-is_foreign
returns-then-is_foreign c = λ yes rs k. left_out rs _ c.args.self.now
    (c.is_foreign.ensures.yes c.if-is_foreign.true) k

pub returns : goal.returns
returns c = subst (λ (more : List Record). IfOk c.note.result (λ noted. noted ≡ true → (rs : List Record)
    → RemembersCases rs c.args.self.now → RemembersCases (rs ++ more) c.note.new.self))
    (sym (c.is_foreign.ensures.no c.if-is_foreign.false)) c.note.ensures
