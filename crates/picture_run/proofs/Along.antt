-- One arrow more.
use Rattle.std.proofs.Common.{◌≡◌, ◌∙◌, ap, sym, subst, ℕ, ◌+◌, ◌<◌, List, [], ◌∷◌, ◌++◌, get_or, length, map, take}
use Rattle.std.proofs.lemmas.List.{append_assoc, map-append, take_more}
use Rattle.protocol.specs.declared.messages.Envelope.{Envelope}
use Rattle.picture_layout.specs.declared.drawn.Arrow.{Arrow}
use Rattle.picture_layout.specs.declared.drawn.Stub.{Stub}
use Rattle.picture_layout.specs.declared.drawn.Way.{Way}
use Rattle.picture_layout.specs.Fates.{Leaving, leaving_in}
use Rattle.picture_shapes.specs.declared.frame.Grid.{Grid}
use Rattle.picture_shapes.specs.declared.shapes.Stroke.{Stroke}
use Rattle.picture_words.specs.Labels.{title_in}
use Rattle.picture_run.specs.Along.{DepartAll, Departs, RunAlong, RunsAlong}
use Rattle.picture_run.specs.Pictures.{titles_of}

-- what a function says of the first elements and one more
first_more : {A B : Type 0} (f : A → B) (xs : List A) (k : ℕ) (x : A) → k < length xs → x ≡ get_or xs k x
    → map f (take (k + 1) xs) ≡ map f (take k xs) ++ f x ∷ []
first_more f xs k x there at =
    ap (λ ys. map f ys) (take_more xs k x there ∙ ap (λ y. take k xs ++ y ∷ []) (sym at))
    ∙ map-append f (take k xs) (x ∷ [])

one_more : (g : Grid) (ws : List Way) (w : Way) (ss : List Stroke) (s : Stroke) → RunAlong g ws ss
    → RunsAlong g w s
    → RunAlong g (ws ++ w ∷ []) (ss ++ s ∷ [])
one_more g [] w [] s all one = (one, tt)
one_more g [] w (t ∷ ss) s all one = absurd all
one_more g (x ∷ ws) w [] s all one = absurd all
one_more g (x ∷ ws) w (t ∷ ss) s all one = (all.0, one_more g ws w ss s all.1 one)

-- the strokes of the first arrows and one more
pub along_more : (g : Grid) (drawn : List Arrow) (k : ℕ) (a : Arrow) (old new : List Stroke) (s : Stroke)
    → k < length drawn
    → a ≡ get_or drawn k a → new ≡ old ++ s ∷ [] → RunsAlong g a.way s
    → RunAlong g (map (λ (b : Arrow). b.way) (take k drawn)) old
    → RunAlong g (map (λ (b : Arrow). b.way) (take (k + 1) drawn)) new
along_more g drawn k a old new s there at is one all =
    subst (λ ws. RunAlong g ws new) (sym (first_more (λ (b : Arrow). b.way) drawn k a there at))
    (subst (λ ss. RunAlong g (map (λ (b : Arrow). b.way) (take k drawn) ++ a.way ∷ []) ss) (sym is)
    (one_more g (map (λ (b : Arrow). b.way) (take k drawn)) a.way old s all one))

-- and their titles
pub titles_more : (ms : List Envelope) (drawn : List Arrow) (k : ℕ) (a : Arrow)
    (old new : List Stroke) (s : Stroke)
    → k < length drawn → a ≡ get_or drawn k a → new ≡ old ++ s ∷ [] → s.title.items ≡ title_in ms a.number
    → map (λ (t : Stroke). t.title.items) old ≡ map (λ (b : Arrow). title_in ms b.number) (take k drawn)
    → map (λ (t : Stroke). t.title.items) new ≡ map (λ (b : Arrow). title_in ms b.number) (take (k + 1) drawn)
titles_more ms drawn k a old new s there at is one all =
    ap (λ ss. map (λ (t : Stroke). t.title.items) ss) is
    ∙ map-append (λ (t : Stroke). t.title.items) old (s ∷ [])
    ∙ ap (λ xs. xs ++ s.title.items ∷ []) all
    ∙ ap (λ x. map (λ (b : Arrow). title_in ms b.number) (take k drawn) ++ x ∷ []) one
    ∙ sym (first_more (λ (b : Arrow). title_in ms b.number) drawn k a there at)

depart_one : (g : Grid) (ls : List Leaving) (l : Leaving) (ss : List Stroke) (s : Stroke) → DepartAll g ls ss
    → Departs g l s
    → DepartAll g (ls ++ l ∷ []) (ss ++ s ∷ [])
depart_one g [] l [] s all one = (one, tt)
depart_one g [] l (t ∷ ss) s all one = absurd all
depart_one g (x ∷ ls) l [] s all one = absurd all
depart_one g (x ∷ ls) l (t ∷ ss) s all one = (all.0, depart_one g ls l ss s all.1 one)

-- the strokes of the first messages that are drawn apart and one more
pub depart_more : (g : Grid) (stubs : List Stub) (k : ℕ) (t : Stub) (old new : List Stroke) (s : Stroke)
    → k < length stubs
    → t ≡ get_or stubs k t → new ≡ old ++ s ∷ [] → Departs g (leaving_in t) s
    → DepartAll g (map leaving_in (take k stubs)) old → DepartAll g (map leaving_in (take (k + 1) stubs)) new
depart_more g stubs k t old new s there at is one all =
    subst (λ ls. DepartAll g ls new) (sym (first_more leaving_in stubs k t there at))
    (subst (λ ss. DepartAll g (map leaving_in (take k stubs) ++ leaving_in t ∷ []) ss) (sym is)
    (depart_one g (map leaving_in (take k stubs)) (leaving_in t) old s all one))

-- and their titles
pub stubs_more : (ms : List Envelope) (stubs : List Stub) (k : ℕ) (t : Stub)
    (old new : List Stroke) (s : Stroke)
    → k < length stubs → t ≡ get_or stubs k t → new ≡ old ++ s ∷ [] → s.title.items ≡ title_in ms t.number
    → titles_of old ≡ map (λ (u : Stub). title_in ms u.number) (take k stubs)
    → titles_of new ≡ map (λ (u : Stub). title_in ms u.number) (take (k + 1) stubs)
stubs_more ms stubs k t old new s there at is one all =
    ap titles_of is ∙ map-append (λ (u : Stroke). u.title.items) old (s ∷ [])
    ∙ ap (λ xs. xs ++ s.title.items ∷ []) all
    ∙ ap (λ x. map (λ (u : Stub). title_in ms u.number) (take k stubs) ++ x ∷ []) one
    ∙ sym (first_more (λ (u : Stub). title_in ms u.number) stubs k t there at)

-- what one more of these adds to the words that were there
pub words_more : {A B : Type 0} (f : A → B) (xs : List A) (k : ℕ) (x : A) (first old new : List B)
    → k < length xs
    → x ≡ get_or xs k x → old ≡ first ++ map f (take k xs) → new ≡ old ++ f x ∷ []
    → new ≡ first ++ map f (take (k + 1) xs)
words_more f xs k x first old new there at was is =
    is ∙ ap (λ ys. ys ++ f x ∷ []) was ∙ append_assoc first (map f (take k xs)) (f x ∷ [])
    ∙ ap (λ ys. first ++ ys) (sym (first_more f xs k x there at))
