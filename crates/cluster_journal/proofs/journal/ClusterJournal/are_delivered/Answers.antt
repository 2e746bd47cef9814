use Rattle.std.proofs.Common.{◌≡◌, ◌∙◌, ◌++◌, [], append-nil, ap, length, subst, sym}
use Rattle.tree_state.specs.Cuts.{net_of}
use Rattle.cluster_turns.specs.Turns.{all_of}
use Rattle.cluster_journal.specs.Journals.{AllDelivered, entries_of}
use Rattle.cluster_journal.proofs.Delivering.{all_in}
use Rattle.cluster_journal.proofs.Finding.{all_found, empty, spots_sent}
use Rattle.cluster_journal.proofs.journal.ClusterJournal.are_delivered.Goals as goal

pub returns : goal.returns
returns c is =
    let j = c.self.inside in
    let placed = j.placed.items in
    let none : j.late ≡ [] = empty j.late (ap (λ s. s.late) c.self.view_is ∙ c.requires) in
    let all : all_of placed ++ all_of j.late ≡ all_of placed =
    ap (λ l. all_of placed ++ all_of l) none ∙ append-nil (all_of placed) in
    let spots = all_found placed j.late j.found j.spots.items c.self.invariant.0 none in
    let long : length j.marks ≡ length (net_of (entries_of (all_of placed ++ all_of j.late))) =
    c.self.invariant.1 ∙ ap length spots ∙ spots_sent 0 placed
    ∙ ap (λ l. length (net_of (entries_of l))) (sym all) in
    subst AllDelivered (ap (λ s. s.entries) c.self.view_is)
    (all_in j.marks (all_of placed ++ all_of j.late) (c.are_delivered.ensures is) long c.self.invariant.2)
