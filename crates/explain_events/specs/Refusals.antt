-- Which refusal of an event a sentence tells.
use Rattle.protocol.specs.declared.events.StepError.{StepError}
use Rattle.protocol_words.specs.step_error
use Rattle.explain_events.specs.declared.event.EventFault.{EventFault}
use Rattle.explain_events.specs.declared.event.EventFault.TheVariants.{NoProcess, NoMessage, NeverBegun, OtherPresumption, Ended, Forgotten, NoTicket, OtherTicket, ForgottenBefore, CaseEnded, CaseForgotten, ManagerInvites, NoChild, WorkForCoordinator, NotJoined, AskedBefore, Voted, RootDecides, DecideAtCoordinator, DecidedBefore, NotPromised, InDoubtNoMore, NotDecided, NotEnded, NothingReported, Other}

-- why an event was refused, by what is told of it
abbrev pub refusal_of : EventFault → StepError
refusal_of (NoProcess _) = step_error.NoSuch
refusal_of (NoMessage _ _) = step_error.NoSuch
refusal_of (NeverBegun _) = step_error.UnknownTxn
refusal_of (OtherPresumption _ _ _) = step_error.UnknownTxn
refusal_of (Ended _ _ _) = step_error.UnknownTxn
refusal_of (Forgotten _ _) = step_error.UnknownTxn
refusal_of (NoTicket _ _) = step_error.UnknownTxn
refusal_of (OtherTicket _ _) = step_error.UnknownTxn
refusal_of (ForgottenBefore _ _) = step_error.UnknownTxn
refusal_of (CaseEnded _ _) = step_error.UnknownTxn
refusal_of (CaseForgotten _ _) = step_error.UnknownTxn
refusal_of (ManagerInvites _) = step_error.NotAChild
refusal_of (NoChild _ _) = step_error.NotAChild
refusal_of (WorkForCoordinator _) = step_error.NotAChild
refusal_of (NotJoined _ _) = step_error.NotAChild
refusal_of (AskedBefore _ _ _) = step_error.Closed
refusal_of (Voted _ _) = step_error.Closed
refusal_of (RootDecides _) = step_error.NotInDoubt
refusal_of (DecideAtCoordinator _) = step_error.NotInDoubt
refusal_of (DecidedBefore _ _) = step_error.NotInDoubt
refusal_of (NotPromised _) = step_error.NotInDoubt
refusal_of (InDoubtNoMore _ _) = step_error.NotInDoubt
refusal_of (NotDecided _) = step_error.NothingToForget
refusal_of (NotEnded _) = step_error.NothingToForget
refusal_of (NothingReported _) = step_error.UnknownTxn
refusal_of (Other cause) = cause
