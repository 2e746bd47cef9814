use Rattle.std.proofs.Common.{◌≡◌, ◌<◌, ◌∙◌, Some, ap, arith, length, position, subst, sym, true}
use Rattle.std.specs.Prelude.{slice_get}
use Rattle.std.proofs.lemmas.Option.{slice_get-get_or}
use Rattle.protocol.specs.contracts.names.ProcessIdPartialEq.TheImpl as processes
use Rattle.cluster_journal.specs.Marks.{IsTold, NoneOpen, is_to}
use Rattle.cluster_journal.proofs.Counts.{is_itself, one_process}
use Rattle.cluster_journal.proofs.Names.{named_found}
use Rattle.cluster_journal.proofs.marks.Deliveries.start_of.Goals as goal

pub returns-then-index-to : goal.returns-then-index-to
returns-then-index-to c =
    let ms = c.self.inside.marks.items in
    let to = c.args.to in
    let n = c.args.number in
    let p = c.in-Some.place in
    let m = c.index.result.now in
    let found = c.in-Some.ensures.found in
    let less = c.if-number-len.false in
    let len = c.len.ensures ∙ c.self.inside.marks.ok.0 in
    let lt : p < length ms = omega (arith, found.1, less, len) in
    subst (λ l. (n < length l) × (is_to to (slice_get l p) ≡ true) × NoneOpen to l n p) c.self.view_is (
      omega (arith, less, len),
      ap (is_to to) (slice_get-get_or ms p _ lt ∙ ap Some (sym c.index.ensures))
          ∙ is_itself to m.to (one_process to m.to (sym c.if-index-to.true)),
      λ k low high. absurd (omega (arith, low, high, found.1)),
    )

pub returns : goal.returns
returns c =
    let ms = c.self.inside.marks.items in
    let rs = c.self.inside.queues.receivers.items in
    let to = c.args.to in
    let n = c.args.number in
    let r = c.index-2.result.now in
    let p = c.in_ok-place.place in
    let less = c.if-number-len.false in
    let len = c.len.ensures ∙ c.self.inside.marks.ok.0 in
    let at = subst (λ l. position (processes.ghosts.eq to) l ≡ Some p) c.self.invariant.1
    (sym c.in_ok-place.ensures.index) in
    let there = named_found rs p to at in
    let mine = ap (λ x. x.process) c.index-2.ensures ∙ there.1 _ in
    let told = subst (IsTold ms) (sym c.index-2.ensures) (c.self.invariant.0.told p _ there.0) in
    subst (λ l. (n < length l) × (is_to to (slice_get l r.first) ≡ true) × NoneOpen to l n r.first)
    c.self.view_is (
      omega (arith, less, len),
      subst (λ q. is_to q (slice_get ms r.first) ≡ true) mine told.begins,
      λ k low high. subst (λ q. NoneOpen q ms 0 r.first) mine told.none k (omega arith) high,
    )
