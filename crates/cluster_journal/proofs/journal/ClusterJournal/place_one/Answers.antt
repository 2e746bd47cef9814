use Rattle.std.proofs.Common.{◌≡◌, ◌∙◌, ◌++◌, ◌∷◌, [], ap, drop, length, rules, subst, sym}
use Rattle.cluster_turns.specs.Turns.{all_of}
use Rattle.cluster_journal.specs.Journals.{AreDelivered}
use Rattle.cluster_journal.specs.Spots.{AreFound, spots_in}
use Rattle.cluster_journal.proofs.Finding.{all_moved, next_turn, same_first}
use Rattle.cluster_journal.proofs.journal.ClusterJournal.place_one.Goals as goal

pub invariant_of-self-in-Some-pop_front : goal.invariant_of-self-in-Some-pop_front
invariant_of-self-in-Some-pop_front c =
    let j = c.self.inside in
    let placed = j.placed.items in
    let e = c.in-Some-pop_front.turn in
    let rest = c.pop_front.new.self in
    let found = c.find_rest.new.found in
    let spots = c.find_rest.new.spots.items in
    let xs = c.deref.result.now in
    let late_is : j.late ≡ e ∷ rest = c.in-Some-pop_front.ensures.items in
    let first : c.in-Some.entries.now ≡ e =
    same_first j.late rest c.in-Some.entries.now e late_is c.in-Some.ensures.lookup in
    let same : xs ≡ e.items = c.deref.ensures.value ∙ ap (λ v. v.items) first in
    let place : c.len-place.result ≡ length placed = search rules in
    let all = subst (λ n. spots ++ spots_in n found (drop found xs)
    ≡ j.spots.items ++ spots_in n j.found (drop j.found xs)) place c.find_rest.ensures.all in
    let pushed : c.push_reserved.new.self.items ≡ placed ++ e ∷ [] =
    c.push_reserved.ensures.items ∙ ap (λ l. l ++ e ∷ []) c.reserve.ensures.items in
    let entries : all_of c.push_reserved.new.self.items ++ all_of rest ≡ all_of placed ++ all_of j.late =
    ap (λ l. all_of l ++ all_of rest) pushed ∙ all_moved placed rest e
    ∙ ap (λ l. all_of placed ++ all_of l) (sym late_is) in (
      subst (λ l. AreFound l rest 0 spots) (sym pushed)
          (next_turn placed j.late rest e xs j.found found j.spots.items spots late_is same c.self.invariant.0
          c.in_ok-find_rest.ensures.ok all),
      c.find_rest.ensures.long,
      subst (λ l. AreDelivered c.find_rest.new.marks l) (sym entries)
          (c.find_rest.ensures.delivered (all_of placed ++ all_of j.late) c.self.invariant.2),
      c.self.invariant.3 ∙ ap length (sym entries),
    )
