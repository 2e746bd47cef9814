-- The numbers of a manager's refusals.
use Rattle.std.specs.Prelude.{ℕ}
use Rattle.xa_assoc.specs.declared.errors.WorkError.{WorkError}
use Rattle.xa_assoc.specs.declared.errors.WorkError.TheVariants.{Memory, NotAssociated, Locked, TooLong, TooManyWrites, RmFail, RollbackOnly}

-- the number by which a script's output names a refusal of work
abbrev pub number_of : WorkError → ℕ
number_of Memory = 0
number_of NotAssociated = 1
number_of (Locked x) = 2
number_of TooLong = 3
number_of TooManyWrites = 4
number_of RmFail = 5
number_of RollbackOnly = 6
