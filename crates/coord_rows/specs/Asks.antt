-- What an input asks of a case of a coordinator, and the row of the reaction table that it meets.
use Rattle.std.specs.Prelude.{◌≡◌, ⊤, Bool, true, false, ◌++◌}
use Rattle.protocol.specs.Records.{in_list}
use Rattle.protocol.specs.Standings.{CoordinatorView}
use Rattle.protocol.specs.CoordinatorRows.{Row, Seat, ByAct, active_abort, active_commit, active_join, active_work, collecting_abort, on_abort, on_ack, on_commit, on_inquiry, on_joined, on_prepare, on_vote, prepared_ask}
use Rattle.protocol.specs.declared.events.StepError.{StepError}
use Rattle.protocol.specs.declared.events.StepError.TheVariants.{Exhausted, Memory}
use Rattle.protocol.specs.declared.names.Kind.TheVariants.{Coordinator}
use Rattle.process_state.specs.Bounds.{FitsBounds}
use Rattle.process_state.specs.Turns.{this_version}
use Rattle.coord_effects.specs.declared.seat.OwnCase.{OwnCase}
use Rattle.coord_rows.specs.declared.asked.CaseInput.{CaseInput}
use Rattle.coord_rows.specs.declared.asked.CaseInput.TheVariants.{Join, Work, Commit, AbortActive, AbortCollecting, Ask, Joined, Vote, Ack, Inquire, Prepare, Commits, Aborts}

-- the row that is met by what is asked of a case
abbrev pub asked_row : Seat → CaseInput → CoordinatorView → Row
asked_row s (Join q) v = active_join s q v
asked_row s (Work t op) v = active_work s t op.now v
asked_row s Commit v = active_commit s v
asked_row s AbortActive v = active_abort s v
asked_row s AbortCollecting v = collecting_abort s ByAct v
asked_row s Ask v = prepared_ask s v
asked_row s (Joined t) v = on_joined t v v.standing
asked_row s (Vote t w) v = on_vote s t w v v.standing
asked_row s (Ack t o fs) v = on_ack this_version s t o (v.found ++ fs.now) v v.standing
asked_row s (Inquire t) v = on_inquiry s t v v.standing
asked_row s Prepare v = on_prepare s v v.standing
asked_row s Commits v = on_commit this_version s v v.standing
asked_row s Aborts v = on_abort this_version s v v.standing

-- PREPARE and ABORT end the time of the case's ticket
abbrev pub is_retiring : CaseInput → Bool
is_retiring Prepare = true
is_retiring Aborts = true
is_retiring _ = false

-- the application's commit and abort, which are asked of a case of the root, without a ticket
abbrev pub is_of_root : CaseInput → Bool
is_of_root Commit = true
is_of_root AbortActive = true
is_of_root AbortCollecting = true
is_of_root _ = false

-- work is asked of a ticket that the case has accepted
abbrev pub Accepts : CaseInput → CoordinatorView → Type 0
Accepts (Work t op) v = in_list v.accepted t ≡ true
Accepts _ v = ⊤

-- what may be asked of a case that is not live: JOINED, and the messages of the parent
abbrev pub is_for_any : CaseInput → Bool
is_for_any (Joined t) = true
is_for_any Prepare = true
is_for_any Commits = true
is_for_any Aborts = true
is_for_any _ = false

-- why the row is not taken: memory was refused, or what it does is beyond the bounds of numbers
abbrev pub RowNotTaken : OwnCase → Row → StepError → Type 0
RowNotTaken s row Memory = ⊤
RowNotTaken s row Exhausted = FitsBounds Coordinator s.parent row.written row.messages → ⊥
RowNotTaken s row e = ⊥
