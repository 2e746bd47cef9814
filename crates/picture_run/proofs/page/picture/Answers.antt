use Rattle.std.proofs.Common.{◌∙◌, ap, map}
use Rattle.std.specs.Global.{Vec}
use Rattle.picture_shapes.specs.declared.shapes.Shape.{Shape}
use Rattle.picture_run.specs.Captions.{caption_of, said_of}
use Rattle.picture_run.proofs.Ringing.{ringed}
use Rattle.picture_run.proofs.Wholes.{draws_of, pictured}
use Rattle.picture_run.proofs.page.picture.Goals as goal

pub returns-clause-text : goal.returns-clause-text
returns-clause-text c =
    let arrowed = c.take_words-opening_words.ensures.frame ∙ c.draw_openings.ensures.frame in
    let marked = c.take_words-arrow_words.ensures.frame ∙ c.draw_arrows.ensures.frame ∙ arrowed in
    let stubbed = c.take_words-record_words.ensures.frame ∙ c.draw_rulers.ensures ∙ c.draw_marks.ensures.frame
    ∙ marked in
    let said = ap (λ (v : Vec Shape). map caption_of v.items) c.take_words-arrow_words.ensures.words
    ∙ c.in_ok-arrows.ensures.words in
    let named = ap (λ (v : Vec Shape). map said_of v.items) c.take_words-stub_words.ensures.words
    ∙ c.in_ok-stubs.ensures.words in
    pictured _ _ _ _ _ _ c.signs_of-signs.result c.keys_of.result _ _ _ _ _ _ _ _ _ _ _ _ _ _ _
    c.in_ok-plan.ensures.arrows c.in_ok-plan.ensures.places
    c.in_ok-plan.ensures.all c.in_ok-plan.ensures.messages c.in_ok-drawing.ensures.apart
    c.in_ok-drawing.ensures.wide c.in_ok-drawing.ensures.keys c.keys_of.ensures c.in_ok-head.ensures
    (draws_of _ _ _ _ _ _ _ _ _ _ _ _ _ _ _ _ _ _ _ arrowed marked stubbed c.deref.ensures.value
    c.deref-2.ensures.value
    c.deref-3.ensures.value c.deref-4.ensures.value c.deref-6.ensures.value c.deref-7.ensures.value
    c.take_words-opening_words.ensures.none c.take_words-record_words.ensures.none
    c.in_ok-openings.ensures.keys
    c.in_ok-arrows.ensures.titles c.in_ok-arrows.ensures.along said c.in_ok-records.ensures.keys
    c.in_ok-stubs.ensures.titles
    c.in_ok-stubs.ensures.depart named)
    c.in_ok-lines.ensures c.in_ok-text.ensures

pub returns-clause-rings : goal.returns-clause-rings
returns-clause-rings c =
    ringed c.args.scene.now.notes.now _ _ _ _ _ _ _ _ _ _ _ _ _ _ c.in_ok-rings.ensures c.in_ok-text.ensures
