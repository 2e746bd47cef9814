use Rattle.std.proofs.Common.{◌≡◌, ◌∙◌, ap, sym, true, ◌++◌, ◌∷◌, [], Some, rules}
use Rattle.protocol_words.specs.Variants.{Handles, MessageInput}
use Rattle.protocol.specs.Plays.{sent_as}
use Rattle.tree_state.specs.Worlds.{step_entry}
use Rattle.tree_journal.specs.Kept.{StepsState, is_placed, parts_of}
use Rattle.tree_journal.specs.declared.short_step.LastStep.{LastStep}
use Rattle.tree_journal.specs.Steps.{Parts, ends_of, entries_of, parts_begun, placed_steps}
use Rattle.tree_journal.proofs.Steps.{begun_behind, message_sent}
use Rattle.tree_journal.proofs.short_steps.ShortSteps.enter_message.Goals as goal

pub invariant_of-self : goal.invariant_of-self
invariant_of-self c =
    let placed : is_placed c.self.inside.last ≡ true =
    ap (λ (j : StepsState). j.room.is_placed) c.self.view_is ∙ c.requires.room.placed in
    let found = message_sent c.self.inside.parts.sent.items c.args.number (search rules) in
    record {
      whole = rw (c.begin_message.ensures.parts found.0.message, c.begin_message.ensures.last found.0.message)
          (begun_behind (parts_of c.self.inside.parts) (placed_steps c.self.inside.steps.items)
          c.self.inside.last c.args.process
          (Handles (MessageInput c.args.number found.0.message)) c.args.reaction placed
          c.self.invariant.whole found.2).1;
      ends = c.self.invariant.ends ∙ sym (ap ends_of (c.begin_message.ensures.parts found.0.message));
    }

pub returns-clause-entries : goal.returns-clause-entries
returns-clause-entries c =
    let placed : is_placed c.self.inside.last ≡ true =
    ap (λ (j : StepsState). j.room.is_placed) c.self.view_is ∙ c.requires.room.placed in
    let found = message_sent c.self.inside.parts.sent.items c.args.number (search rules) in
    let h = Handles (MessageInput c.args.number found.0.message) in
    let entries : entries_of (parts_of c.begin_message.new.self) (placed_steps c.self.inside.steps.items)
    (Some c.begin_message.result)
    ≡ entries_of (parts_of c.self.inside.parts) (placed_steps c.self.inside.steps.items) c.self.inside.last
    ++ step_entry c.args.process h c.args.reaction ∷ [] =
    ap (λ ps. entries_of ps (placed_steps c.self.inside.steps.items) (Some c.begin_message.result))
    (c.begin_message.ensures.parts found.0.message)
    ∙ ap (λ l. entries_of (parts_begun (parts_of c.self.inside.parts) h c.args.reaction)
    (placed_steps c.self.inside.steps.items) (Some l)) (c.begin_message.ensures.last found.0.message)
    ∙ (begun_behind (parts_of c.self.inside.parts) (placed_steps c.self.inside.steps.items)
    c.self.inside.last c.args.process h c.args.reaction placed c.self.invariant.whole found.2).0 in
    let is = ap (λ (j : StepsState). sent_as j.sent c.args.number) (sym c.self.view_is) ∙ found.1 in
    rw is (entries
    ∙ ap (λ (j : StepsState). j.entries ++ step_entry c.args.process h c.args.reaction ∷ [])
    c.self.view_is)

pub returns-clause-sent : goal.returns-clause-sent
returns-clause-sent c =
    let found = message_sent c.self.inside.parts.sent.items c.args.number (search rules) in
    ap (λ (ps : Parts). ps.sent) (c.begin_message.ensures.parts found.0.message)
    ∙ ap (λ (j : StepsState). j.sent) c.self.view_is

pub returns-clause-waiting : goal.returns-clause-waiting
returns-clause-waiting c =
    let found = message_sent c.self.inside.parts.sent.items c.args.number (search rules) in
    ap (λ (l : LastStep). l.messages) (c.begin_message.ensures.last found.0.message)
