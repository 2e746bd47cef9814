use Rattle.std.proofs.Common.{◌≡◌, ◌∙◌, ◌++◌, ap, arith, drop, get_or, length, length-append, map, refl, rules, subst, sym}
use Rattle.std.proofs.lemmas.List.{length-map}
use Rattle.cluster_journal.specs.Journals.{AreDelivered}
use Rattle.cluster_journal.specs.Marks.{sent_to}
use Rattle.cluster_journal.specs.Spots.{spots_at, spots_in}
use Rattle.cluster_journal.proofs.Delivering.{sent_so}
use Rattle.cluster_journal.proofs.Finding.{found_more, length_spots}
use Rattle.cluster_journal.proofs.spots.find_rest.Goals as goal

pub loop-entry-preserved : goal.loop-entry-preserved
loop-entry-preserved c =
    let inv = c.loop-entry.invariant in
    let xs = c.args.entries.now in
    let t = c.args.turn in
    let i = c.loop-entry.entry in
    let d = c.index-entries-entry.result in
    let sent = c.as_slice.result.now in
    let old = c.loop-entry.spots.items in
    let ms = c.loop-entry.marks in
    let ok = c.in_ok-find_one.ensures.ok in
    let lt = c.loop-entry-test.true in
    let count : length sent ≡ length (get_or xs i d).1.reaction.messages = search rules in
    let marks = ap length ok.1 ∙ length-append ms (map sent_to sent) in
    let news = length-map sent sent_to in
    let spots = ap length ok.0 ∙ length-append old (spots_at t i (length sent)) in
    let those = length_spots t i (length sent) in
    let same = inv.long in
    record {
      at = refl;
      within = omega (arith, lt);
      all = found_more t old c.find_one.new.spots.items _ xs i (length sent) d lt count ok.0
          (subst (λ n. old ++ spots_in t n (drop n xs)
          ≡ c.args.spots.now.items ++ spots_in t c.args.found.now (drop c.args.found.now xs)) inv.at inv.all);
      long = omega (arith, marks, news, spots, those, same);
      delivered = λ ys h. subst (λ l. AreDelivered l ys) (sym ok.1) (sent_so ms sent ys (inv.delivered ys h));
    }
