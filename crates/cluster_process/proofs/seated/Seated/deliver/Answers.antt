use Rattle.std.proofs.Common.{ℕ, All, List, ◌∙◌, ◌++◌, ap, rules, subst, sym}
use Rattle.protocol.specs.declared.events.JournalEntry.{JournalEntry}
use Rattle.protocol.specs.declared.events.Event.TheVariants.{Deliver}
use Rattle.cluster_journal.specs.Journals.{ClusterState}
use Rattle.proof_cuts.specs.Alone.{RunsAlone, stays_alone}
use Rattle.tree_state.specs.Cuts.{FindsMessage, net_of}
use Rattle.proof_cuts.specs.Owns.{CutHolds, OwnRun}
use Rattle.proof_cuts.proofs.Owns.{same_stays}
use Rattle.tree_process.specs.Nodes.{core_of, data_of}
use Rattle.cluster_ties.specs.declared.views.ProcessView.{ProcessView}
use Rattle.cluster_ties.specs.Views.{entries_in, pairs_by}
use Rattle.cluster_process.specs.Locked.{SeatedState}
use Rattle.cluster_process.specs.Passes.{PassState}
use Rattle.cluster_process.specs.Posts.{DeliversTurn, NotPosted}
use Rattle.cluster_process.specs.Marks.{Delivers}
use Rattle.cluster_process.specs.Turns.{IsDeliveryAt, MadeTurn}
use Rattle.cluster_process.proofs.Asked.{finds_it}
use Rattle.cluster_process.proofs.Refused.{answered_so, not_made, not_marked}
use Rattle.cluster_process.proofs.Staying.{marked_still, mine_still}
use Rattle.cluster_process.proofs.Turning.{deliveries_of, of_worker, turn_delivers, turn_made, turn_runs}
use Rattle.cluster_process.proofs.seated.Seated.deliver.Goals as goal

pub enter-place-requires-clause-seat : goal.enter-place-requires-clause-seat
enter-place-requires-clause-seat g c =
    let seat = c.in_ok-marked.ensures.seat in
    (of_worker _ _ seat c.self.invariant.2.0.1, ap (λ m. m.0.process.name) seat ∙ c.self.invariant.2.1)

pub invariant_of-self-in-Err-1 : goal.invariant_of-self-in-Err-1
invariant_of-self-in-Err-1 g c =
    let tree = g.N.Seats.tree in
    let me = c.self.inside.me in
    let old = c.self.inside.node in
    let new = c.make_step.new.node in
    let seat = c.in_ok-marked.ensures.seat in
    let own = ap (λ m. m.0.process.own) seat in
    let why = c.in-Err.ensures.err in (
      search rules,
      search rules,
      (of_worker _ _ seat c.self.invariant.2.0.1, ap (λ m. m.0.process.name) seat ∙ c.self.invariant.2.1),
      search rules,
      search rules,
      subst (λ l. OwnRun tree me l (core_of new)) (sym own)
          (same_stays tree me c.self.inside.seat.me.0.process.own (core_of old) (core_of new)
          c.self.invariant.5 why.same),
      subst (λ l. RunsAlone tree me l (core_of new) (data_of new)) (sym own)
          (stays_alone c.self.inside.seat.me.0.process.own (core_of old) (core_of new)
          (data_of old) (data_of new)
          c.self.invariant.6 why.same why.rests),
    )

pub returns-in_err-marked-clause-refused : goal.returns-in_err-marked-clause-refused
returns-in_err-marked-clause-refused g c =
    let tree = g.N.Seats.tree in
    let pass = c.args.pass.now in
    let event = Deliver c.args.number in
    let e = c.in_err-marked.field-0.0 in
    let now = c.deref_mut-2.result.now in
    let same = c.deref_mut-2.ensures.value ∙ c.meets.ensures.same.0 in
    let first = c.deref.ensures ∙ sym c.deref_mut.ensures.value ∙ sym same in
    let not = not_marked tree c.self.inside.me event pass e now.entries
    (subst (λ (j : ClusterState). CutHolds tree (entries_in j.entries)) first c.is_a_run.ensures)
    (c.meets.ensures.met ∙ ap (λ (j : ClusterState). pairs_by pass.caller 0 j.entries) (sym same))
    c.in_err-marked.ensures.refused in
    answered_so (NotPosted tree c.args.self.now.me event pass) e c.from_residual.result
    c.from_residual.ensures.1
    (subst (λ (s : SeatedState). NotPosted tree s.me event pass e) c.self.view_is not)

pub returns-in-Err-clause-refused : goal.returns-in-Err-clause-refused
returns-in-Err-clause-refused g c =
    let tree = g.N.Seats.tree in
    let pass = c.args.pass.now in
    let event = Deliver c.args.number in
    let e = c.from.result in
    let now = c.deref_mut-2.result.now in
    let same = c.deref_mut-2.ensures.value ∙ c.meets.ensures.same.0 in
    let first = c.deref.ensures ∙ sym c.deref_mut.ensures.value ∙ sym same in
    let old = c.self.inside.node in
    let new = c.make_step.new.node in
    let m = c.room_for_more-most.new.marked in
    let as_was = c.room_for_more-most.ensures.same in
    let marked = marked_still _ _ _ _ c.in_ok-marked.marked m as_was.0 as_was.1 c.in_ok-marked.ensures.ok in
    let not = not_made tree c.self.inside.me event pass e now.entries
    c.self.inside.seat.me.0.process.own (core_of old)
    (core_of new) (data_of old) (data_of new) m c.in-Err.error
    (subst (λ (j : ClusterState). CutHolds tree (entries_in j.entries)) first c.is_a_run.ensures)
    (c.meets.ensures.met ∙ ap (λ (j : ClusterState). pairs_by pass.caller 0 j.entries) (sym same))
    c.in_ok-marked.ensures.tied c.self.invariant.6 marked c.in-Err.ensures.err
    c.from.ensures in
    subst (λ (s : SeatedState). NotPosted tree s.me event pass e) c.self.view_is not

pub make_more-requires-clause-deliveries : goal.make_more-requires-clause-deliveries
make_more-requires-clause-deliveries g c =
    let me = c.self.inside.me in
    let xs = c.mark_more-more.result in
    let process = ap (λ w. w.0.process) c.in_ok-marked.ensures.seat in
    let now = ap (λ (j : ClusterState). j.entries) c.deref-3.ensures ∙ c.in_ok-marked.ensures.ledger.0 in
    let next = c.mark_more-more.ensures.next in
    subst (λ (p : ProcessView). All (IsDeliveryAt p.net me) xs) (sym process)
    (subst (λ (es : List (ℕ × JournalEntry)). All (IsDeliveryAt (net_of (entries_in es)) me) xs) now
    (deliveries_of (net_of (entries_in c.deref-3.result.now.entries)) me next.numbers xs next.deliver))

pub enter-place-requires-clause-made : goal.enter-place-requires-clause-made
enter-place-requires-clause-made g c =
    let tree = g.N.Seats.tree in
    let me = c.self.inside.me in
    let m = c.room_for_more-most.new.marked in
    let as_was = c.room_for_more-most.ensures.same in
    let marked = marked_still _ _ _ _ c.in_ok-marked.marked m as_was.0 as_was.1 c.in_ok-marked.ensures.ok in
    let mine = mine_still tree me c.in_ok-marked.marked m as_was.0 c.in_ok-marked.ensures.mine in
    let own = c.self.inside.seat.me.0.process.own in
    let old = c.self.inside.node in
    let mid = c.make_step.new.node in
    let new = c.make_more.new.node in
    let seat = c.in_ok-marked.ensures.seat in
    let net = c.mark.new.seat.me.0.process.net in
    let zs = c.make_more.new.made.turn.entries in
    let h = m.wanted.step.happening in
    let finds = subst (λ l. FindsMessage l me h) (sym (ap (λ w. w.0.process.net) seat))
    (finds_it _ me (core_of old) (Deliver c.args.number) h m.keep marked.happens) in
    let made = turn_made tree net me c.caller-caller.result own m.wanted m.keep (core_of old)
    (core_of mid) (core_of new)
    (data_of old) (data_of mid) (data_of new) c.in-Ok.first zs c.self.invariant.4 c.self.invariant.5 marked.at
    mine finds c.in-Ok.ensures.ok c.make_more.ensures in
    subst (λ l. MadeTurn tree net me c.meets.new.pass.caller l zs (core_of new))
    (sym (ap (λ w. w.0.process.own) seat))
    (subst (λ n. MadeTurn tree net me n own zs (core_of new)) c.caller-caller.ensures made)

pub invariant_of-self-in-Ok : goal.invariant_of-self-in-Ok
invariant_of-self-in-Ok g c =
    let tree = g.N.Seats.tree in
    let me = c.self.inside.me in
    let old = c.self.inside.node in
    let mid = c.make_step.new.node in
    let new = c.make_more.new.node in
    let m = c.room_for_more-most.new.marked in
    let as_was = c.room_for_more-most.ensures.same in
    let marked = marked_still _ _ _ _ c.in_ok-marked.marked m as_was.0 as_was.1 c.in_ok-marked.ensures.ok in
    let mine = mine_still tree me c.in_ok-marked.marked m as_was.0 c.in_ok-marked.ensures.mine in
    let zs = c.make_more.new.made.turn.entries in
    let seat = c.in_ok-marked.ensures.seat in
    let entered = c.enter-place.ensures.seat.1 in
    let works = ap (λ w. w.0.process.works) seat ∙ c.self.invariant.2.0.1 in
    let name = ap (λ w. w.0.process.name) seat ∙ c.self.invariant.2.1 in
    let after = ap (λ w. w.0.process.own) entered in
    let own = after ∙ ap (λ w. w.0.process.own ++ entries_in zs) seat in (
      search rules,
      search rules,
      (of_worker _ _ entered works, ap (λ w. w.0.process.name) entered ∙ name),
      search rules,
      search rules,
      subst (λ l. OwnRun tree me l (core_of new)) (sym after) c.enter-place.ensures.own,
      subst (λ l. RunsAlone tree me l (core_of new) (data_of new)) (sym own)
          (turn_runs tree c.mark.new.seat.me.0.process.net me c.caller-caller.result
          c.self.inside.seat.me.0.process.own m.wanted m.keep (core_of old) (core_of mid)
          (core_of new) (data_of old)
          (data_of mid) (data_of new) c.in-Ok.first zs marked.at mine
          c.in-Ok.ensures.ok c.make_more.ensures c.self.invariant.6),
    )

pub returns-in-Ok-clause-ok : goal.returns-in-Ok-clause-ok
returns-in-Ok-clause-ok g c =
    let tree = g.N.Seats.tree in
    let me = c.self.inside.me in
    let old = c.self.inside.node in
    let mid = c.make_step.new.node in
    let new = c.make_more.new.node in
    let m = c.room_for_more-most.new.marked in
    let as_was = c.room_for_more-most.ensures.same in
    let marked = marked_still _ _ _ _ c.in_ok-marked.marked m as_was.0 as_was.1 c.in_ok-marked.ensures.ok in
    let mine = mine_still tree me c.in_ok-marked.marked m as_was.0 c.in_ok-marked.ensures.mine in
    let place = c.enter-place.result in
    let left = c.enter-place.new.pass in
    let h = m.wanted.step.happening in
    let delivers = subst (λ l. Delivers l me c.args.number h)
    (sym (ap (λ w. w.0.process.net) c.in_ok-marked.ensures.seat)) marked.happens in
    let turn = turn_delivers tree c.mark.new.seat.me.0.process.net me c.caller-caller.result
    c.self.inside.seat.me.0.process.own c.args.number m.wanted m.keep (core_of old)
    (core_of mid) (core_of new)
    (data_of old) (data_of mid) (data_of new) c.in-Ok.first c.make_more.new.made.turn.entries
    c.meets.new.pass left place
    marked.at mine delivers c.in-Ok.ensures.ok c.make_more.ensures c.self.invariant.6
    c.enter-place.ensures.pass in
    subst (λ (s : SeatedState). DeliversTurn tree s.me c.args.number c.args.pass.now left place)
    c.self.view_is
    (subst (λ (p : PassState). DeliversTurn tree me c.args.number p left place) c.meets.ensures.same.1 turn)
