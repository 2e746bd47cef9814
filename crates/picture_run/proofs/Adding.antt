-- Lines of steps, one after another.
use Rattle.std.proofs.Common.{◌≡◌, ◌∙◌, ap, sym, ℕ, ◌+◌, ◌<◌, Option, Some, None, List, [], ◌∷◌, ◌++◌, get_or, length, slice_get, take}
use Rattle.std.proofs.lemmas.Grind.{flat_map-append}
use Rattle.std.proofs.lemmas.List.{append-nil, append_assoc, map-append, take_more}
use Rattle.std.proofs.lemmas.Option.{slice_get-get_or}
use Rattle.protocol.specs.declared.events.JournalEntry.{JournalEntry}
use Rattle.protocol.specs.declared.events.Event.{Event}
use Rattle.picture_shapes.specs.declared.shapes.Stroke.{Stroke}
use Rattle.tree_script.specs.Spellings.{event_text}
use Rattle.picture_run.specs.Pictures.{titles_of}
use Rattle.picture_run.specs.Lines.{refused_lines, step_lines, steps_lines}

-- before the first step there are no lines
pub no_steps : (begin : List (List ℕ)) → begin ≡ begin ++ steps_lines []
unfolding steps_lines
no_steps begin = sym (append-nil begin)

-- those of the first steps and of one more
pub steps_more : (es : List JournalEntry) (k : ℕ) (e : JournalEntry) (begin old new : List (List ℕ))
    → k < length es
    → e ≡ get_or es k e → old ≡ begin ++ steps_lines (take k es) → new ≡ old ++ step_lines e
    → new ≡ begin ++ steps_lines (take (k + 1) es)
unfolding steps_lines
steps_more es k e begin old new there at were is =
    let first : take (k + 1) es ≡ take k es ++ e ∷ [] = take_more es k e there
    ∙ ap (λ x. take k es ++ x ∷ []) (sym at) in
    let more : steps_lines (take (k + 1) es) ≡ steps_lines (take k es) ++ step_lines e =
    ap (λ xs. steps_lines xs) first ∙ flat_map-append step_lines (take k es) (e ∷ [])
    ∙ ap (λ xs. steps_lines (take k es) ++ xs) (append-nil (step_lines e)) in
    is ∙ ap (λ xs. xs ++ step_lines e) were ∙ append_assoc begin (steps_lines (take k es)) (step_lines e)
    ∙ ap (λ xs. begin ++ xs) (sym more)

-- no event was refused
pub none_refused : (lines : List (List ℕ)) (refused : Option Event) → refused ≡ None
    → lines ≡ lines ++ refused_lines refused
none_refused lines refused none = sym (append-nil lines) ∙ ap (λ r. lines ++ refused_lines r) (sym none)

-- an event of these
pub event_at : (events : List Event) (n : ℕ) (event : Event) → n < length events
    → event ≡ get_or events n event
    → slice_get events n ≡ Some event
event_at events n event there at = slice_get-get_or events n event there ∙ ap Some (sym at)

-- the line of the event that was refused
pub refused_more : (old new : List Stroke) (s : Stroke) (event : Event) (refused : Option Event)
    → new ≡ old ++ s ∷ []
    → s.title.items ≡ event_text event → refused ≡ Some event
    → titles_of new ≡ titles_of old ++ refused_lines refused
refused_more old new s event refused is title some =
    ap titles_of is ∙ map-append (λ (t : Stroke). t.title.items) old (s ∷ [])
    ∙ ap (λ words. titles_of old ++ words ∷ []) title
    ∙ ap (λ r. titles_of old ++ refused_lines r) (sym some)
