use Rattle.std.proofs.Common.{◌≡◌, ◌∙◌, ◌-◌, ◌++◌, None, Some, append-nil, ap, sym}
use Rattle.std.specs.Prelude.{slice_get}
use Rattle.protocol.specs.Plays.{sent_as}
use Rattle.tree_state.specs.Cuts.{net_of}
use Rattle.cluster_turns.specs.Turns.{all_of}
use Rattle.cluster_journal.specs.Journals.{entries_of}
use Rattle.cluster_journal.specs.Spots.{message_in}
use Rattle.cluster_journal.proofs.Finding.{all_found, empty, found, message_by, positive}
use Rattle.cluster_journal.proofs.journal.ClusterJournal.message.Goals as goal

pub returns-in-None : goal.returns-in-None
returns-in-None c =
    let j = c.self.inside in
    let placed = j.placed.items in
    let some = positive c.args.number c.if-number-eq0.false in
    let at : slice_get j.spots.items (c.args.number - 1) ≡ None =
    ap (λ l. slice_get l (c.args.number - 1)) (sym c.deref.ensures.value) ∙ sym c.in-None.ensures in
    let none = empty j.late (ap (λ s. s.late) c.self.view_is ∙ c.requires) in
    let spots = all_found placed j.late j.found j.spots.items c.self.invariant.0 none in
    let all = sym (append-nil (all_of placed)) ∙ ap (λ l. all_of placed ++ all_of l) (sym none)
    ∙ ap (λ s. s.entries) c.self.view_is in
    sym (found placed c.args.number some
    ∙ ap (λ l. message_by placed (slice_get l (c.args.number - 1))) (sym spots)
    ∙ ap (λ o. message_by placed o) at)
    ∙ ap (λ l. sent_as (net_of (entries_of l)) c.args.number) all

pub returns-in-Some : goal.returns-in-Some
returns-in-Some c =
    let j = c.self.inside in
    let placed = j.placed.items in
    let spot = c.in-Some.spot in
    let some = positive c.args.number c.if-number-eq0.false in
    let at : slice_get j.spots.items (c.args.number - 1) ≡ Some spot =
    ap (λ l. slice_get l (c.args.number - 1)) (sym c.deref.ensures.value) ∙ sym c.in-Some.ensures in
    let none = empty j.late (ap (λ s. s.late) c.self.view_is ∙ c.requires) in
    let spots = all_found placed j.late j.found j.spots.items c.self.invariant.0 none in
    let all = sym (append-nil (all_of placed)) ∙ ap (λ l. all_of placed ++ all_of l) (sym none)
    ∙ ap (λ s. s.entries) c.self.view_is in
    c.message_at.ensures ∙ ap (λ l. message_in l spot) c.deref-in-Some.ensures.value
    ∙ sym (found placed c.args.number some
    ∙ ap (λ l. message_by placed (slice_get l (c.args.number - 1))) (sym spots)
    ∙ ap (λ o. message_by placed o) at)
    ∙ ap (λ l. sent_as (net_of (entries_of l)) c.args.number) all
