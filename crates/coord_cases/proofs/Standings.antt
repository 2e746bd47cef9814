-- A case whose ticket stays active takes children and work after the row, too.
use Rattle.std.proofs.Common.{◌≡◌, Bool, true, false, List, ◌++◌, refl, subst, sym, if◌then◌else◌}
use Rattle.protocol.specs.declared.messages.Finding.{Finding}
use Rattle.protocol.specs.declared.names.Outcome.{Outcome}
use Rattle.protocol.specs.declared.names.Outcome.TheVariants.{Committed, Aborted}
use Rattle.protocol.specs.declared.standings.Standing.TheVariants.{Active}
use Rattle.protocol.specs.declared.names.Ticket.{Ticket}
use Rattle.protocol.specs.Memory.{has_child}
use Rattle.protocol.specs.Standings.{CoordinatorView}
use Rattle.protocol.specs.CoordinatorRows.{Row, Seat, active_joined, on_ack, on_joined, quiet}
use Rattle.process_state.specs.Turns.{this_version}
use Rattle.coord_rows.specs.declared.asked.CaseInput.{CaseInput}
use Rattle.coord_rows.specs.declared.asked.CaseInput.TheVariants.{Join, Work, Commit, AbortActive, AbortCollecting, Ask, Joined, Vote, Ack, Inquire, Prepare, Commits, Aborts}
use Rattle.coord_rows.specs.Asks.{asked_row, is_of_root, is_retiring}

-- of two rows the one that a test picks leaves the standing that both leave
either : (b : Bool) (r q : Row) → r.view.standing ≡ Active → q.view.standing ≡ Active
    → (if b then r else q).view.standing ≡ Active
either true r q this that = this
either false r q this that = that

acked : (s : Seat) (t : Ticket) (o : Outcome) (fs : List Finding) (v : CoordinatorView) → v.standing ≡ Active
    → (on_ack this_version s t o fs v Active).view.standing ≡ Active
acked s t Committed fs v active = active
acked s t Aborted fs v active = active

joined : (t : Ticket) (v : CoordinatorView) → v.standing ≡ Active → (active_joined t v).view.standing ≡ Active
joined t v active = either (has_child v.accepted t.child) (quiet v) _ active active

pub stays_active : (s : Seat) (asked : CaseInput) (v : CoordinatorView) → v.standing ≡ Active
    → is_retiring asked ≡ false → is_of_root asked ≡ false
    → (asked_row s asked v).view.standing ≡ Active
stays_active s (Join q) v active not_retiring below =
    either (has_child v.accepted q) (quiet v) _ active active
stays_active s (Work t op) v active not_retiring below = active
stays_active s Ask v active not_retiring below = active
stays_active s (Joined t) v active not_retiring below =
    subst (λ at. (on_joined t v at).view.standing ≡ Active) (sym active) (joined t v active)
stays_active s (Vote t w) v active not_retiring below = rw active refl
stays_active s (Ack t o fs) v active not_retiring below =
    subst (λ at. (on_ack this_version s t o (v.found ++ fs.now) v at).view.standing ≡ Active) (sym active)
    (acked s t o (v.found ++ fs.now) v active)
stays_active s (Inquire t) v active not_retiring below = rw active refl
stays_active s Commits v active not_retiring below = rw active refl
stays_active s Commit v active not_retiring below = absurd (cc)
stays_active s AbortActive v active not_retiring below = absurd (cc)
stays_active s AbortCollecting v active not_retiring below = absurd (cc)
stays_active s Prepare v active not_retiring below = absurd (cc)
stays_active s Aborts v active not_retiring below = absurd (cc)
