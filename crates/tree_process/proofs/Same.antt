-- What is not otherwise.
use Rattle.std.proofs.Common.{refl}
use Rattle.process_state.specs.States.{CoreState, SameCore}
use Rattle.process_state.proofs.Alike.{same_view}
use Rattle.resource_manager.specs.Data.{ManagerData, DataRests}

-- a process is the same as it is
pub same_core : (s : CoreState) → SameCore s s
same_core s =
    record {
      log = refl;
      rest = record {
        place = refl;
        boot = refl;
        begun = refl;
        given = refl;
        tickets = λ d. refl;
        views = λ c.
            same_view (s.view_of c);
        branches = λ c. refl;
        decided = λ c. refl;
        spent = refl;
      };
    }

-- data that have not changed
pub rests : (d : ManagerData) → DataRests d d
rests d = record { keeps = record { writes = λ y. refl; holders = λ k. refl }; known = λ y. refl }
