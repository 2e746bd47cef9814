use Rattle.std.proofs.Common.{◌≡◌, ◌∙◌, ℕ, List, Option, ap, refl, subst, sym}
use Rattle.std.specs.Prelude.{IfSome}
use Rattle.script_words.proofs.Texts.{texts}
use Rattle.judge_rules.specs.declared.calls.HistoryEvent.{HistoryEvent}
use Rattle.judge_script.specs.Headers.{ruled}
use Rattle.judge_script.specs.Numbers.{IsLineEvent, SpellsNoEvent, table_of}
use Rattle.judge_script.specs.Words.{words_in}
use Rattle.judge_script.proofs.Growing.{event_added, rules_more}
use Rattle.judge_script.proofs.Nothing.{of_none}
use Rattle.judge_script.proofs.reading.Transcript.add.Goals as goal

pub returns-in-Some-clause-added : goal.returns-in-Some-clause-added
returns-in-Some-clause-added c t ls kept is h =
    let words : texts c.deref.result.now ≡ words_in c.args.line.now =
    ap texts c.deref.ensures.value ∙ c.in_ok-words.ensures in
    rules_more ls c.args.line.now c.args.self.now c.in-Some.rules c.args.number kept is
    c.in-Some.ensures.found.0
    (ap (ruled c.args.self.now.rules) (sym words) ∙ c.in-Some.ensures.found.1) h

pub returns-clause-added : goal.returns-clause-added
returns-clause-added c t ls kept is h =
    let words : texts c.deref-2.result.now ≡ words_in c.args.line.now =
    ap texts c.deref-2.ensures.value ∙ c.in_ok-words.ensures in
    let names = c.event_of.new.names in
    let e = c.in-Some-2.event in
    let read : IsLineEvent (table_of names) (texts c.deref-2.result.now) e =
    subst (λ (o : Option HistoryEvent). IfSome o
    (λ ev. IsLineEvent (table_of names) (texts c.deref-2.result.now) ev))
    c.in-Some-2.is c.in_ok-event_of.ensures.event in
    event_added ls c.args.line.now c.args.self.now
    (record {
      rules = c.args.self.now.rules;
      events = c.push-in-Some-2.new.self;
      lines = c.push.new.self;
      names = names;
    }) e c.args.number kept is refl c.in_ok-push-in-Some-2-2.ensures.items
    c.in_ok-push-in-Some-2.ensures.items
    c.in_ok-event_of.ensures.grows
    (subst (λ (ws : List (List ℕ)). IsLineEvent (table_of names) ws e) words read) h

pub returns-in-None-clause-bad : goal.returns-in-None-clause-bad
returns-in-None-clause-bad c f =
    let first : texts c.deref.result.now ≡ words_in c.args.line.now =
    ap texts c.deref.ensures.value ∙ c.in_ok-words.ensures in
    let words : texts c.deref-2.result.now ≡ words_in c.args.line.now =
    ap texts c.deref-2.ensures.value ∙ c.in_ok-words.ensures in
    record {
      header = λ none. ap (ruled c.args.self.now.rules) (sym first) ∙ c.in_default.ensures.none none;
      event = subst SpellsNoEvent words
          (of_none c.in_ok-event_of.field-0 _ c.in-None.is c.in_ok-event_of.ensures.none);
    }
