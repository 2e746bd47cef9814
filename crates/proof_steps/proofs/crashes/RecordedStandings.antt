-- What the records of a case say where it stands by them alone.
use Rattle.std.proofs.Common.{◌≡◌, ◌&&◌, Bool, true, false, refl, arith}
use Rattle.std.specs.Prelude.{not}
use Rattle.protocol.specs.declared.names.Presumption.{Presumption}
use Rattle.protocol.specs.declared.names.Presumption.TheVariants.{PresumeAbort, PresumeCommit}
use Rattle.protocol.specs.declared.standings.Standing.TheVariants.{Prepared, Committing, Aborting}
use Rattle.protocol.specs.Memory.{Idle}
use Rattle.protocol.specs.Standings.{phase_standing, standing_by}

pub record Decides (e m : Bool) : Type 0 where
  pub not_ended : e ≡ false
  pub decided : m ≡ true

pub committing_by : (p : Presumption) (e m a r k n : Bool)
    → standing_by e m a r k n (phase_standing p Idle) ≡ Committing → Decides e m
committing_by p false true a r k n f = record { not_ended = refl; decided = refl }
committing_by p true m a r k n f = absurd (cc)
committing_by p false false true r k true f = absurd (cc)
committing_by p false false true r k false f = absurd (cc)
committing_by p false false false true k n f = absurd (cc)
committing_by p false false false false true n f = absurd (cc)
committing_by PresumeAbort false false false false false n f = absurd (cc)
committing_by PresumeCommit false false false false false n f = absurd (cc)

pub record Aborts (e m a : Bool) : Type 0 where
  pub not_ended : e ≡ false
  pub not_committed : m ≡ false
  pub decided : a ≡ true

pub aborting_by : (p : Presumption) (e m a r k n : Bool)
    → standing_by e m a r k n (phase_standing p Idle) ≡ Aborting → Aborts e m a
aborting_by p false false true r k n f = record { not_ended = refl; not_committed = refl; decided = refl }
aborting_by p true m a r k n f = absurd (cc)
aborting_by p false true a r k true f = absurd (cc)
aborting_by p false true a r k false f = absurd (cc)
aborting_by p false false false true k n f = absurd (cc)
aborting_by p false false false false true n f = absurd (cc)
aborting_by PresumeAbort false false false false false n f = absurd (cc)
aborting_by PresumeCommit false false false false false n f = absurd (cc)

pub prepared_by : (p : Presumption) (e m a r k n : Bool)
    → standing_by e m a r k n (phase_standing p Idle) ≡ Prepared → r ≡ true
prepared_by p e m a true k n f = refl
prepared_by p true m a false k n f = absurd (cc)
prepared_by p false true a false k true f = absurd (cc)
prepared_by p false true a false k false f = absurd (cc)
prepared_by p false false true false k true f = absurd (cc)
prepared_by p false false true false k false f = absurd (cc)
prepared_by p false false false false true n f = absurd (cc)
prepared_by PresumeAbort false false false false false n f = absurd (cc)
prepared_by PresumeCommit false false false false false n f = absurd (cc)

pub three : (a b c : Bool) → a ≡ true → b ≡ true → c ≡ true → (a && (b && c)) ≡ true
three a b c e f g = grind arith

pub record Three (a b c : Bool) : Type 0 where
  pub first : a ≡ true
  pub second : b ≡ true
  pub third : c ≡ true

pub split_three : (a b c : Bool) → (a && (b && c)) ≡ true → Three a b c
split_three a b c e = grind arith

pub is_not : (a : Bool) → a ≡ false → not a ≡ true
is_not a e = grind arith

pub was_not : (a : Bool) → not a ≡ true → a ≡ false
was_not a e = grind arith

pub both_hold : (a b : Bool) → a ≡ true → b ≡ true → (a && b) ≡ true
both_hold a b e f = grind arith

pub first_holds : (a b : Bool) → (a && b) ≡ true → a ≡ true
first_holds a b e = grind arith

pub second_holds : (a b : Bool) → (a && b) ≡ true → b ≡ true
second_holds a b e = grind arith

-- What is sent case by case.
