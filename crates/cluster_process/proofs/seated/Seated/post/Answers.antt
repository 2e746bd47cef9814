use Rattle.std.proofs.Common.{◌∙◌, ◌++◌, ap, rules, subst, sym}
use Rattle.protocol.specs.declared.events.Step.{Step}
use Rattle.protocol.specs.Trees.{root_of}
use Rattle.cluster_journal.specs.Journals.{ClusterState}
use Rattle.proof_cuts.specs.Alone.{RunsAlone, stays_alone, steps_alone}
use Rattle.tree_state.specs.Cuts.{net_of}
use Rattle.proof_cuts.specs.Owns.{CutHolds, OwnRun}
use Rattle.proof_cuts.proofs.Owns.{same_stays}
use Rattle.tree_process.specs.Nodes.{core_of, data_of}
use Rattle.cluster_ties.specs.declared.views.ProcessView.{ProcessView}
use Rattle.cluster_ties.specs.Views.{entries_in, pairs_by}
use Rattle.cluster_process.specs.Locked.{SeatedState}
use Rattle.cluster_process.specs.Marks.{ActsHere}
use Rattle.cluster_process.specs.Passes.{NotesOne, PassState}
use Rattle.cluster_process.specs.Posts.{AsksAt, NotPosted, PostsOne}
use Rattle.cluster_process.specs.Turns.{MadeTurn}
use Rattle.cluster_process.proofs.Asked.{asks_it, finds_it}
use Rattle.cluster_process.proofs.OwnSteps.{step_alone}
use Rattle.cluster_process.proofs.Refused.{answered_so, not_made, not_marked}
use Rattle.cluster_process.proofs.Turning.{further_none, notes_one, of_worker, turn_made}
use Rattle.cluster_process.proofs.seated.Seated.post.Goals as goal

pub mark-requires-clause-acts : goal.mark-requires-clause-acts
mark-requires-clause-acts g c =
    subst (λ (s : SeatedState). ActsHere (root_of g.N.Seats.tree) s.me c.args.event) (sym c.self.view_is)
    c.requires.acts

pub enter-place-requires-clause-seat : goal.enter-place-requires-clause-seat
enter-place-requires-clause-seat g c =
    let seat = c.in_ok-marked.ensures.seat in
    (of_worker _ _ seat c.self.invariant.2.0.1, ap (λ m. m.0.process.name) seat ∙ c.self.invariant.2.1)

pub enter-place-requires-clause-made : goal.enter-place-requires-clause-made
enter-place-requires-clause-made g c =
    let tree = g.N.Seats.tree in
    let me = c.self.inside.me in
    let m = c.in_ok-marked.marked in
    let marked = c.in_ok-marked.ensures.ok in
    let step = c.in-Ok.ensures.ok in
    let own = c.self.inside.seat.me.0.process.own in
    let old = c.self.inside.node in
    let new = c.make_step.new.node in
    let net = net_of (entries_in c.deref_mut-2.result.now.entries) in
    let zs = c.in-Ok.made.turn.entries in
    let made = turn_made tree net me c.caller.result own m.wanted m.keep (core_of old)
    (core_of new) (core_of new)
    (data_of old) (data_of new) (data_of new) c.in-Ok.made zs c.self.invariant.4 c.self.invariant.5 marked.at
    c.in_ok-marked.ensures.mine
    (finds_it net me (core_of old) c.args.event m.wanted.step.happening m.keep marked.happens) step
    (further_none tree net me c.caller.result zs (core_of new) (data_of new)) in
    let process = ap (λ w. w.0.process) c.in_ok-marked.ensures.seat in
    subst (λ (p : ProcessView). MadeTurn tree p.net me c.meets.new.pass.caller p.own zs (core_of new))
    (sym process)
    (subst (λ n. MadeTurn tree net me n own zs (core_of new)) c.caller.ensures made)

pub returns-in-Ok-clause-ok : goal.returns-in-Ok-clause-ok
returns-in-Ok-clause-ok g c =
    let marked = c.in_ok-marked.ensures.ok in
    let m = c.in_ok-marked.marked in
    let made = c.in-Ok.ensures.ok in
    let me = c.self.inside.me in
    let tree = g.N.Seats.tree in
    let old = c.self.inside.node in
    let place = c.enter-place.result in
    let notes = notes_one _ _ _ _ made.entry _ c.enter-place.ensures.pass made.entries_are in
    subst (λ (s : SeatedState). PostsOne tree s.me c.args.event c.args.pass.now c.enter-place.new.pass place
    c.begun-begun.result) c.self.view_is (record {
      entry = made.entry;
      notes = subst (λ (p : PassState). NotesOne p c.enter-place.new.pass place made.entry)
          c.meets.ensures.same.1 notes;
      own = c.self.inside.seat.me.0.process.own;
      before = core_of old;
      behind = core_of c.make_step.new.node;
      held = data_of old;
      kept = data_of c.make_step.new.node;
      ran = c.self.invariant.6;
      step = step_alone tree me _ _ _ _ m.keep m.wanted made.entry marked.at
          c.in_ok-marked.ensures.mine made.step
          made.makes;
      is_for = subst (λ (s : Step). AsksAt (core_of old) c.args.event s.happening) (sym made.step)
          (asks_it _ me (core_of old) c.args.event m.wanted.step.happening m.keep marked.happens);
      begun_is = c.begun-begun.ensures ∙ made.begun_is;
    })

pub invariant_of-self-in-Err : goal.invariant_of-self-in-Err
invariant_of-self-in-Err g c =
    let tree = g.N.Seats.tree in
    let me = c.self.inside.me in
    let old = c.self.inside.node in
    let new = c.make_step.new.node in
    let seat = c.in_ok-marked.ensures.seat in
    let own = ap (λ m. m.0.process.own) seat in
    let why = c.in-Err.ensures.err in (
      search rules,
      search rules,
      (of_worker _ _ seat c.self.invariant.2.0.1, ap (λ m. m.0.process.name) seat ∙ c.self.invariant.2.1),
      search rules,
      search rules,
      subst (λ l. OwnRun tree me l (core_of new)) (sym own)
          (same_stays tree me c.self.inside.seat.me.0.process.own (core_of old) (core_of new)
          c.self.invariant.5 why.same),
      subst (λ l. RunsAlone tree me l (core_of new) (data_of new)) (sym own)
          (stays_alone c.self.inside.seat.me.0.process.own (core_of old) (core_of new)
          (data_of old) (data_of new)
          c.self.invariant.6 why.same why.rests),
    )

pub invariant_of-self-in-Ok : goal.invariant_of-self-in-Ok
invariant_of-self-in-Ok g c =
    let tree = g.N.Seats.tree in
    let me = c.self.inside.me in
    let old = c.self.inside.node in
    let new = c.make_step.new.node in
    let m = c.in_ok-marked.marked in
    let made = c.in-Ok.ensures.ok in
    let seat = c.in_ok-marked.ensures.seat in
    let entered = c.enter-place.ensures.seat.1 in
    let works = ap (λ w. w.0.process.works) seat ∙ c.self.invariant.2.0.1 in
    let name = ap (λ w. w.0.process.name) seat ∙ c.self.invariant.2.1 in
    let after = ap (λ w. w.0.process.own) entered in
    let own = after ∙ ap (λ w. w.0.process.own ++ entries_in c.in-Ok.made.turn.entries) seat
    ∙ ap (λ l. c.self.inside.seat.me.0.process.own ++ entries_in l) made.entries_are in (
      search rules,
      search rules,
      (of_worker _ _ entered works, ap (λ w. w.0.process.name) entered ∙ name),
      search rules,
      search rules,
      subst (λ l. OwnRun tree me l (core_of new)) (sym after) c.enter-place.ensures.own,
      subst (λ l. RunsAlone tree me l (core_of new) (data_of new)) (sym own)
          (steps_alone c.self.inside.seat.me.0.process.own made.entry (core_of old)
          (core_of new) (data_of old)
          (data_of new) c.self.invariant.6
          (step_alone tree me (core_of old) (core_of new) (data_of old) (data_of new) m.keep
          m.wanted made.entry
          c.in_ok-marked.ensures.ok.at c.in_ok-marked.ensures.mine made.step made.makes)),
    )

pub returns-in_err-marked-clause-refused : goal.returns-in_err-marked-clause-refused
returns-in_err-marked-clause-refused g c =
    let tree = g.N.Seats.tree in
    let pass = c.args.pass.now in
    let event = c.args.event in
    let e = c.in_err-marked.field-0.0 in
    let now = c.deref_mut-2.result.now in
    let same = c.deref_mut-2.ensures.value ∙ c.meets.ensures.same.0 in
    let first = c.deref.ensures ∙ sym c.deref_mut.ensures.value ∙ sym same in
    let not = not_marked tree c.self.inside.me event pass e now.entries
    (subst (λ (j : ClusterState). CutHolds tree (entries_in j.entries)) first c.is_a_run.ensures)
    (c.meets.ensures.met ∙ ap (λ (j : ClusterState). pairs_by pass.caller 0 j.entries) (sym same))
    c.in_err-marked.ensures.refused in
    answered_so (NotPosted tree c.args.self.now.me event pass) e c.from_residual.result
    c.from_residual.ensures.1
    (subst (λ (s : SeatedState). NotPosted tree s.me event pass e) c.self.view_is not)

pub returns-in-Err-clause-refused : goal.returns-in-Err-clause-refused
returns-in-Err-clause-refused g c =
    let tree = g.N.Seats.tree in
    let pass = c.args.pass.now in
    let event = c.args.event in
    let e = c.from.result in
    let now = c.deref_mut-2.result.now in
    let same = c.deref_mut-2.ensures.value ∙ c.meets.ensures.same.0 in
    let first = c.deref.ensures ∙ sym c.deref_mut.ensures.value ∙ sym same in
    let old = c.self.inside.node in
    let new = c.make_step.new.node in
    let not = not_made tree c.self.inside.me event pass e now.entries
    c.self.inside.seat.me.0.process.own (core_of old)
    (core_of new) (data_of old) (data_of new) c.in_ok-marked.marked c.in-Err.error
    (subst (λ (j : ClusterState). CutHolds tree (entries_in j.entries)) first c.is_a_run.ensures)
    (c.meets.ensures.met ∙ ap (λ (j : ClusterState). pairs_by pass.caller 0 j.entries) (sym same))
    c.in_ok-marked.ensures.tied c.self.invariant.6 c.in_ok-marked.ensures.ok c.in-Err.ensures.err
    c.from.ensures in
    subst (λ (s : SeatedState). NotPosted tree s.me event pass e) c.self.view_is not
