use Rattle.std.proofs.Common.{◌≡◌, ◌∙◌, ◌++◌, ap, append_assoc, arith, length, length-append, subst, sym}
use Rattle.cluster_turns.specs.Turns.{all_of}
use Rattle.cluster_turns.proofs.Gathered.{linked_all}
use Rattle.cluster_journal.specs.Journals.{AreDelivered, marked_by_all}
use Rattle.cluster_journal.specs.Spots.{AreFound}
use Rattle.cluster_journal.proofs.Delivering.{as_many_all, entered_all}
use Rattle.cluster_journal.proofs.Finding.{still_found}
use Rattle.cluster_journal.proofs.journal.ClusterJournal.enter.Goals as goal

pub invariant_of-self : goal.invariant_of-self
invariant_of-self g c =
    let j = c.self.inside in
    let placed = j.placed.items in
    let xs = all_of placed ++ all_of j.late in
    let made = c.args.made in
    let same : c.entries-entries.result.now ≡ made = c.entries-entries.ensures in
    let marks = c.note.ensures ∙ ap (λ l. marked_by_all l j.marks) same in
    let links = c.link.ensures in
    let entries : xs ++ made ≡ all_of placed ++ all_of c.link.new.turns =
    append_assoc (all_of placed) (all_of j.late) made
    ∙ ap (λ l. all_of placed ++ l) (sym (linked_all j.late c.link.new.turns made links)) in
    let long = sym (ap length entries) ∙ length-append xs made in
    let count = c.counted-self-inside.ensures in
    let more = ap length same in
    let before = c.self.invariant.3 in (
      subst (λ l. AreFound placed l j.found j.spots.items) (sym links.new_are)
          (still_found placed j.late links.turn j.found j.spots.items c.self.invariant.0),
      ap length marks ∙ as_many_all made j.marks ∙ c.self.invariant.1,
      subst (λ l. AreDelivered c.note.new.marks l) entries
          (subst (λ ms. AreDelivered ms (xs ++ made)) (sym marks)
          (entered_all j.marks xs made c.self.invariant.2)),
      omega (arith, long, count, more, before),
    )

pub returns-clause-entries : goal.returns-clause-entries
returns-clause-entries g c =
    let j = c.self.inside in
    let placed = j.placed.items in
    let made = c.args.made in
    ap (λ l. all_of placed ++ l) (linked_all j.late c.link.new.turns made c.link.ensures)
    ∙ sym (append_assoc (all_of placed) (all_of j.late) made)
    ∙ ap (λ l. l ++ made) (ap (λ s. s.entries) c.self.view_is)
