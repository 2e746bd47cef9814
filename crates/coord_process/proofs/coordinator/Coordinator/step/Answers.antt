use Rattle.std.proofs.Common.{rules, []}
use Rattle.process_state.specs.Inputs.{input_of}
use Rattle.coord_process.specs.declared.turn.Met.TheVariants.{Refuses, Begins, Issues, Takes, Clears, Answers, Repeats, Presumes, Nothing}
use Rattle.coord_process.specs.States.{state}
use Rattle.coord_process.specs.Meets.{Meets, RetiresAs, RetiresNone, meant}
use Rattle.coord_process.specs.Turned.{Turned}
use Rattle.coord_process.proofs.Made.{for_any, for_input, makes_of, refuses_under, said_turn, step_err, step_ok, step_under}
use Rattle.coord_process.proofs.coordinator.Coordinator.step.Goals as goal

pub returns-in-Begins-clause-ok : goal.returns-in-Begins-clause-ok
returns-in-Begins-clause-ok g c =
    let meets : Meets c.args.self.now (input_of c.args.input) (Begins c.in-Begins.presumption) = search rules
    in
    step_ok c.args.self.now (state c.begins.new.self) (input_of c.args.input)
    (Begins c.in-Begins.presumption) c.begins.result meets
    (for_input RetiresNone (λ i reaction. Turned (state c.args.self.now) (state c.begins.new.self)
    i (meant c.args.self.now (Begins c.in-Begins.presumption)) reaction) c.begins.result
    c.begins.ensures.ok (input_of c.args.input) meets.may)

pub returns-in-Issues-clause-ok : goal.returns-in-Issues-clause-ok
returns-in-Issues-clause-ok g c =
    let meets : Meets c.args.self.now (input_of c.args.input)
    (Issues c.in-Issues.parent c.in-Issues.case) = search rules in
    step_ok c.args.self.now (state c.issues.new.self) (input_of c.args.input)
    (Issues c.in-Issues.parent c.in-Issues.case) c.issues.result meets
    (for_any (λ i reaction. Turned (state c.args.self.now) (state c.issues.new.self)
    i (meant c.args.self.now (Issues c.in-Issues.parent c.in-Issues.case)) reaction) c.issues.result
    c.issues.ensures.ok (input_of c.args.input))

pub returns-in-Takes-clause-ok : goal.returns-in-Takes-clause-ok
returns-in-Takes-clause-ok g c =
    let meets : Meets c.args.self.now (input_of c.args.input)
    (Takes c.in-Takes.key c.in-Takes.case c.in-Takes.asked) = search rules in
    step_ok c.args.self.now (state c.takes.new.self) (input_of c.args.input)
    (Takes c.in-Takes.key c.in-Takes.case c.in-Takes.asked) c.takes.result meets
    (for_input (λ i. RetiresAs i c.in-Takes.asked c.in-Takes.case)
    (λ i reaction. Turned (state c.args.self.now) (state c.takes.new.self)
    i (meant c.args.self.now (Takes c.in-Takes.key c.in-Takes.case c.in-Takes.asked)) reaction)
    c.takes.result c.takes.ensures.ok (input_of c.args.input) meets.may.retiring)

pub returns-in-Takes-clause-err : goal.returns-in-Takes-clause-err
returns-in-Takes-clause-err g c =
    let meets : Meets c.args.self.now (input_of c.args.input)
    (Takes c.in-Takes.key c.in-Takes.case c.in-Takes.asked) = search rules in
    step_err c.args.self.now (state c.takes.new.self) (input_of c.args.input)
    (Takes c.in-Takes.key c.in-Takes.case c.in-Takes.asked) c.takes.result meets c.takes.ensures.err

pub returns-in-Clears-clause-ok : goal.returns-in-Clears-clause-ok
returns-in-Clears-clause-ok g c =
    let meets : Meets c.args.self.now (input_of c.args.input) (Clears c.in-Clears.case) = search rules in
    step_ok c.args.self.now (state c.clears.new.self) (input_of c.args.input) (Clears c.in-Clears.case)
    c.clears.result meets (for_input RetiresNone (λ i reaction. Turned (state c.args.self.now)
    (state c.clears.new.self) i (meant c.args.self.now (Clears c.in-Clears.case)) reaction) c.clears.result
    c.clears.ensures.ok (input_of c.args.input) meets.may.retiring)

pub returns-in-Clears-clause-err : goal.returns-in-Clears-clause-err
returns-in-Clears-clause-err g c =
    let meets : Meets c.args.self.now (input_of c.args.input) (Clears c.in-Clears.case) = search rules in
    step_err c.args.self.now (state c.clears.new.self) (input_of c.args.input) (Clears c.in-Clears.case)
    c.clears.result meets c.clears.ensures.err

pub returns-in-Answers-clause-ok : goal.returns-in-Answers-clause-ok
returns-in-Answers-clause-ok g c =
    let meets : Meets c.args.self.now (input_of c.args.input)
    (Answers c.in-Answers.case c.in-Answers.asked) = search rules in
    step_ok c.args.self.now (state c.args.self.now) (input_of c.args.input)
    (Answers c.in-Answers.case c.in-Answers.asked) c.answers.result meets
    (for_input (λ i. RetiresAs i c.in-Answers.asked c.in-Answers.case)
    (λ i reaction. Turned (state c.args.self.now) (state c.args.self.now) i
    (meant c.args.self.now (Answers c.in-Answers.case c.in-Answers.asked)) reaction) c.answers.result
    c.answers.ensures.ok (input_of c.args.input) meets.may.retiring)

pub returns-in-Repeats-clause-ok : goal.returns-in-Repeats-clause-ok
returns-in-Repeats-clause-ok g c =
    let meets : Meets c.args.self.now (input_of c.args.input)
    (Repeats c.in-Repeats.parent c.in-Repeats.case c.in-Repeats.ticket) = search rules in
    step_ok c.args.self.now (state c.args.self.now) (input_of c.args.input)
    (Repeats c.in-Repeats.parent c.in-Repeats.case c.in-Repeats.ticket) c.repeats.result meets
    (for_any (λ i reaction. Turned (state c.args.self.now) (state c.args.self.now) i
    (meant c.args.self.now (Repeats c.in-Repeats.parent c.in-Repeats.case c.in-Repeats.ticket)) reaction)
    c.repeats.result c.repeats.ensures.ok (input_of c.args.input))

pub returns-in-Presumes-clause-ok : goal.returns-in-Presumes-clause-ok
returns-in-Presumes-clause-ok g c =
    let meets : Meets c.args.self.now (input_of c.args.input)
    (Presumes c.in-Presumes.txn c.in-Presumes.ticket) = search rules in
    step_ok c.args.self.now (state c.args.self.now) (input_of c.args.input)
    (Presumes c.in-Presumes.txn c.in-Presumes.ticket) c.presumes.result meets
    (for_any (λ i reaction. Turned (state c.args.self.now) (state c.args.self.now) i
    (meant c.args.self.now (Presumes c.in-Presumes.txn c.in-Presumes.ticket)) reaction) c.presumes.result
    c.presumes.ensures.ok (input_of c.args.input))

pub returns-in-Nothing-clause-ok : goal.returns-in-Nothing-clause-ok
returns-in-Nothing-clause-ok g c =
    let meets : Meets c.args.self.now (input_of c.args.input) Nothing = search rules in
    makes_of c.args.self.now (state c.args.self.now) (input_of c.args.input) Nothing c.nothing.result meets
    (said_turn c.args.self.now [] c.nothing.result c.nothing.ensures (input_of c.args.input))

pub returns-in-Begins-clause-under : goal.returns-in-Begins-clause-under
returns-in-Begins-clause-under g c =
    let meets : Meets c.args.self.now (input_of c.args.input)
    (Begins c.in-Begins.presumption) = search rules in
    step_under c.args.self.now (state c.begins.new.self) (input_of c.args.input)
    (Begins c.in-Begins.presumption)
    c.begins.result meets c.begins.ensures.err

pub returns-in-Issues-clause-under : goal.returns-in-Issues-clause-under
returns-in-Issues-clause-under g c =
    let meets : Meets c.args.self.now (input_of c.args.input)
    (Issues c.in-Issues.parent c.in-Issues.case) = search rules in
    step_under c.args.self.now (state c.issues.new.self) (input_of c.args.input)
    (Issues c.in-Issues.parent c.in-Issues.case)
    c.issues.result meets c.issues.ensures.err

pub returns-in-Takes-clause-under : goal.returns-in-Takes-clause-under
returns-in-Takes-clause-under g c =
    let meets : Meets c.args.self.now (input_of c.args.input)
    (Takes c.in-Takes.key c.in-Takes.case c.in-Takes.asked) = search rules in
    step_under c.args.self.now (state c.takes.new.self) (input_of c.args.input)
    (Takes c.in-Takes.key c.in-Takes.case c.in-Takes.asked)
    c.takes.result meets c.takes.ensures.err

pub returns-in-Clears-clause-under : goal.returns-in-Clears-clause-under
returns-in-Clears-clause-under g c =
    let meets : Meets c.args.self.now (input_of c.args.input)
    (Clears c.in-Clears.case) = search rules in
    step_under c.args.self.now (state c.clears.new.self) (input_of c.args.input)
    (Clears c.in-Clears.case)
    c.clears.result meets c.clears.ensures.err

pub returns-in-Answers-clause-under : goal.returns-in-Answers-clause-under
returns-in-Answers-clause-under g c =
    let meets : Meets c.args.self.now (input_of c.args.input)
    (Answers c.in-Answers.case c.in-Answers.asked) = search rules in
    step_under c.args.self.now (state c.args.self.now) (input_of c.args.input)
    (Answers c.in-Answers.case c.in-Answers.asked)
    c.answers.result meets c.answers.ensures.err

pub returns-in-Repeats-clause-under : goal.returns-in-Repeats-clause-under
returns-in-Repeats-clause-under g c =
    let meets : Meets c.args.self.now (input_of c.args.input)
    (Repeats c.in-Repeats.parent c.in-Repeats.case c.in-Repeats.ticket) = search rules in
    step_under c.args.self.now (state c.args.self.now) (input_of c.args.input)
    (Repeats c.in-Repeats.parent c.in-Repeats.case c.in-Repeats.ticket)
    c.repeats.result meets c.repeats.ensures.err

pub returns-in-Presumes-clause-under : goal.returns-in-Presumes-clause-under
returns-in-Presumes-clause-under g c =
    let meets : Meets c.args.self.now (input_of c.args.input)
    (Presumes c.in-Presumes.txn c.in-Presumes.ticket) = search rules in
    step_under c.args.self.now (state c.args.self.now) (input_of c.args.input)
    (Presumes c.in-Presumes.txn c.in-Presumes.ticket)
    c.presumes.result meets c.presumes.ensures.err

pub returns-in-Refuses-clause-under : goal.returns-in-Refuses-clause-under
returns-in-Refuses-clause-under g c =
    let meets : Meets c.args.self.now (input_of c.args.input) (Refuses c.in-Refuses.error) = search rules in
    λ is. refuses_under c.args.self.now (input_of c.args.input) c.in-Refuses.error meets is
