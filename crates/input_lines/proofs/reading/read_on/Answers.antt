use Rattle.std.proofs.Common.{◌≢◌, [], ◌++◌, take, sym, ap, subst, ◌∙◌, append-nil, take_all, zero-le}
use Rattle.std.proofs.lemmas.List.Elements.{All-nil}
use Rattle.std.specs.Io.BufRead.{DropsConsumable, FillKeeps}
use Rattle.std.specs.Io.KnownBytes.{Consumes}
use Rattle.std.proofs.KnownBytes.{Consumes-nil, Consumes-kept}
use Rattle.std.proofs.BufReadLemmas.{Consumes_shown}
use Rattle.input_lines.proofs.Parts.{parts_of}
use Rattle.input_lines.proofs.reading.read_on.Goals as goal

pub returns-then-eq : goal.returns-then-eq
returns-then-eq g c = record {
  part = [];
  no_feed = All-nil (λ x. x ≢ 10);
  took = Consumes-kept _ _ _ [] (Consumes-nil _) c.fill_buf.follows.holds-at-none.0;
  keeps = sym (ap (λ l. c.args.kept.now.items ++ l) (take_all c.args.room [] zero-le)
      ∙ append-nil c.args.kept.now.items);
  end = λ e. absurd (cc);
}

pub returns : goal.returns
returns g c =
    let shown = c.in-Ok.available.now in
    let before = c.before_feed-before.result in
    let reach = c.reach_of-reach.result.0 in
    let taken = c.reach_of-reach.result.1 in
    let rested = c.fill_buf.follows.lender-at-none in
    let filled = subst (FillKeeps _ (g.R.Read.remaining rested) (g.R.BufRead.consumable_len rested))
    c.in-Ok.is c.fill_buf.follows.holds-at-none in
    let drops : DropsConsumable (g.R.Read.remaining rested) (g.R.Read.remaining c.consume.new.self)
    (g.R.BufRead.consumable_len rested) taken = c.consume.ensures.bytes in
    let moved = Consumes_shown _ _ _ _ shown taken c.reach_of-reach.ensures.within c.in-Ok.ensures.front
    c.in-Ok.ensures.end filled.0 filled.1 drops in
    record {
      part = take before shown;
      no_feed = c.before_feed-before.ensures.before;
      took = subst (Consumes _ _) (ap (λ n. take n shown) c.reach_of-reach.ensures.taken
          ∙ parts_of shown before reach c.reach_of-reach.ensures.feed c.before_feed-before.ensures.feed)
          moved.0;
      keeps = c.in_ok-extend_from_slice.ensures.items ∙ ap (λ l. c.args.kept.now.items ++ l)
          c.front_of.ensures;
      end = λ e. moved.1 (c.reach_of-reach.ensures.end e);
    }
