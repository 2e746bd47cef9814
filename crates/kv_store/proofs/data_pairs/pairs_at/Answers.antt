use Rattle.std.proofs.Common.{◌∙◌, true, false, sym, ap}
use Rattle.std.proofs.lemmas.List.{append-nil}
use Rattle.kv_store.proofs.Sorted.{pairs_all, pairs_walk}
use Rattle.kv_store.proofs.data_pairs.pairs_at.Goals as goal
use Rattle.kv_store.proofs.data_pairs.pairs_at.Goals.{then-not-is_next+in_ok-add_pair, else-not-is_next}

pub loop-i-preserved : goal.loop-i-preserved
loop-i-preserved c =
    elim c.if-not-is_next.branch [
      | then-not-is_next+in_ok-add_pair w ↦
          pairs_walk c.args.versions.now c.args.keys.now c.loop-i.i false c.loop-i.pairs.items
          c.if-not-is_next.pairs.items c.loop-i-test.true
          (sym w.if-not-is_next.true ∙ c.is_next.ensures)
          (ap (λ v. v.items) w.pairs-is ∙ w.in_ok-add_pair.ensures) c.loop-i.invariant
      | else-not-is_next w ↦
          pairs_walk c.args.versions.now c.args.keys.now c.loop-i.i true c.loop-i.pairs.items
          c.if-not-is_next.pairs.items c.loop-i-test.true
          (sym w.if-not-is_next.false ∙ c.is_next.ensures)
          (ap (λ v. v.items) w.pairs-is ∙ sym (append-nil c.loop-i.pairs.items)) c.loop-i.invariant
    ]

pub returns : goal.returns
returns c = pairs_all c.args.versions.now c.args.keys.now c.loop-i.i c.loop-i.pairs.items
    c.loop-i-test.false c.loop-i.invariant
