use Rattle.std.proofs.Common.{◌∙◌, ap}
use Rattle.std.proofs.lemmas.Option.{slice_get_past}
use Rattle.picture_run.specs.Lines.{refused_in}
use Rattle.picture_run.specs.Pictures.{titles_of}
use Rattle.picture_run.proofs.Adding.{event_at, none_refused, refused_more}
use Rattle.picture_run.proofs.endings.draw_refusal.Goals as goal

pub returns-in_default-get : goal.returns-in_default-get
returns-in_default-get c =
    none_refused (titles_of c.args.lines.now.items)
    (refused_in c.args.scene.now.events.now c.args.scene.now.refusal)
    (ap (λ r. refused_in c.args.scene.now.events.now r) c.in-Some.is
    ∙ slice_get_past c.args.scene.now.events.now c.in-Some.refused c.in_default-get.ensures.lookup.3)

pub returns : goal.returns
returns c =
    refused_more c.args.lines.now.items c.push.new.self.items c.in_ok-draw_refused.field-0
    c.in-Some-get.event.now
    (refused_in c.args.scene.now.events.now c.args.scene.now.refusal) c.in_ok-push.ensures.items
    c.in_ok-draw_refused.ensures
    (ap (λ r. refused_in c.args.scene.now.events.now r) c.in-Some.is
    ∙ event_at c.args.scene.now.events.now c.in-Some.refused c.in-Some-get.event.now
    c.in-Some-get.ensures.lookup.3.0
    (c.in-Some-get.ensures.lookup.3.1 c.in-Some-get.event.now))
