-- An input is one script, or has one fault.
use Rattle.std.proofs.Common.{◌≡◌, ◌∙◌, ℕ, Bool, true, false, List, [], ◌∷◌, ◌++◌, Option, Some, None, Result, Ok, Err, refl, sym, ap, subst, arith, if◌then◌else◌}
use Rattle.std.specs.Str.Lines.{lines_of_parts}
use Rattle.protocol.specs.declared.events.Event.{Event}
use Rattle.protocol.specs.declared.trees.TreeProcess.{TreeProcess}
use Rattle.protocol.specs.declared.trees.TreeError.{TreeError}
use Rattle.protocol.specs.declared.trees.TreeError.TheVariants.{Empty, TooMany, TooDeep, TwoParents, Cycle, ManagerWithChildren, Unknown, Roots}
use Rattle.protocol.specs.Trees.{HasNone, IsFirstFault, IsTree, faults_before, has_fault}
use Rattle.script_words.specs.Lines.{asked_in}
use Rattle.tree_script.specs.declared.script.ScriptFault.{ScriptFault}
use Rattle.tree_script.specs.declared.script.ScriptFault.TheVariants.{Utf8, TreeText, Tree, TooLong, Line}
use Rattle.tree_script.specs.Inputs.{HasTreeText, IsScript, IsScriptFault, script_events}
use Rattle.log_script.proofs.spelling.OneWay.{no_tree_fault, text_is_one}

-- The first fault of a tree is one.

-- the first of these faults that is there
abbrev first_in : List TreeProcess → List TreeError → Option TreeError
first_in es [] = None
first_in es (f ∷ fs) = if has_fault es f then Some f else first_in es fs

first_is : (es : List TreeProcess) (before behind : List TreeError) (c : TreeError) → HasNone es before
    → has_fault es c ≡ true → first_in es (before ++ c ∷ behind) ≡ Some c
first_is es [] behind c none is = ap (λ (b : Bool). if b then Some c else first_in es behind) is
first_is es (f ∷ fs) behind c none is =
    ap (λ (b : Bool). if b then Some f else first_in es (fs ++ c ∷ behind)) none.0
    ∙ first_is es fs behind c none.1 is

-- the faults in the order in which they are looked for
abbrev in_order : List TreeError
in_order = Empty ∷ TooMany ∷ TwoParents ∷ Unknown ∷ Cycle ∷ Roots ∷ ManagerWithChildren ∷ TooDeep ∷ []

first_fault : (es : List TreeProcess) (c : TreeError) → IsFirstFault es c → first_in es in_order ≡ Some c
first_fault es Empty h = first_is es (faults_before Empty)
    (TooMany ∷ TwoParents ∷ Unknown ∷ Cycle ∷ Roots ∷ ManagerWithChildren ∷ TooDeep ∷ []) Empty h.none_before
    h.is_there
first_fault es TooMany h = first_is es (faults_before TooMany)
    (TwoParents ∷ Unknown ∷ Cycle ∷ Roots ∷ ManagerWithChildren ∷ TooDeep ∷ []) TooMany
    h.none_before h.is_there
first_fault es TwoParents h = first_is es (faults_before TwoParents)
    (Unknown ∷ Cycle ∷ Roots ∷ ManagerWithChildren ∷ TooDeep ∷ []) TwoParents h.none_before h.is_there
first_fault es Unknown h = first_is es (faults_before Unknown)
    (Cycle ∷ Roots ∷ ManagerWithChildren ∷ TooDeep ∷ []) Unknown h.none_before h.is_there
first_fault es Cycle h = first_is es (faults_before Cycle) (Roots ∷ ManagerWithChildren ∷ TooDeep ∷ []) Cycle
    h.none_before h.is_there
first_fault es Roots h = first_is es (faults_before Roots) (ManagerWithChildren ∷ TooDeep ∷ []) Roots
    h.none_before h.is_there
first_fault es ManagerWithChildren h = first_is es (faults_before ManagerWithChildren) (TooDeep ∷ [])
    ManagerWithChildren h.none_before h.is_there
first_fault es TooDeep h = first_is es (faults_before TooDeep) [] TooDeep h.none_before h.is_there

one_cause : (es : List TreeProcess) (c d : TreeError) → IsFirstFault es c → IsFirstFault es d → d ≡ c
one_cause es c d h k =
    let same : Some d ≡ Some c = sym (first_fault es d k) ∙ first_fault es c h in cc

-- What an input is.

-- the parts of an input that has a tree text
record Parts (input : List ℕ) : Type 0 where
  fronts : List (List ℕ)
  behind : List (List ℕ)
  tree : List TreeProcess
  text : HasTreeText input fronts behind tree

-- those of a tree that passed its check
record Checked (input : List ℕ) : Type 0 where
  parts : Parts input
  is_tree : IsTree parts.tree

abbrev asked : {input : List ℕ} → Parts input → ℕ
asked p = asked_in (lines_of_parts p.behind)

abbrev events_in : {input : List ℕ} → Parts input → Result (List Event) ℕ
events_in p = script_events p.fronts p.behind p.tree

one_tree : (input : List ℕ) (p q : Parts input) → q.tree ≡ p.tree
one_tree input p q =
    let (fronts, behind, tree) = text_is_one input q.fronts q.behind p.fronts p.behind q.tree
    p.tree q.text p.text
    in tree

one_asked : (input : List ℕ) (p q : Parts input) → asked q ≡ asked p
one_asked input p q =
    let (fronts, behind, tree) = text_is_one input q.fronts q.behind p.fronts p.behind q.tree
    p.tree q.text p.text
    in ap (λ (ls : List (List ℕ)). asked_in (lines_of_parts ls)) behind

one_events : (input : List ℕ) (p q : Parts input) → events_in q ≡ events_in p
one_events input p q =
    let (fronts, behind, tree) = text_is_one input q.fronts q.behind p.fronts p.behind q.tree
    p.tree q.text p.text
    in ap (λ (ls : List (List ℕ)). script_events ls q.behind q.tree) fronts
    ∙ ap (λ (ls : List (List ℕ)). script_events p.fronts ls q.tree) behind
    ∙ ap (λ (es : List TreeProcess). script_events p.fronts p.behind es) tree

unchecked : (input : List ℕ) (p q : Parts input) (c : TreeError) → IsFirstFault p.tree c → IsTree q.tree → ⊥
unchecked input p q c fault is =
    let no : has_fault q.tree c ≡ false = no_tree_fault q.tree c is in
    let yes : has_fault q.tree c ≡ true = subst (λ (es : List TreeProcess). has_fault es c ≡ true)
    (sym (one_tree input p q)) fault.is_there in
    let both : false ≡ true = sym no ∙ yes in cc

abbrev parts : {input : List ℕ} → (fronts behind : List (List ℕ)) (tree : List TreeProcess)
    → HasTreeText input fronts behind tree → Parts input
parts fronts behind tree text = record { fronts = fronts; behind = behind; tree = tree; text = text }

pub one_script : (input : List ℕ) (es fs : List TreeProcess) (xs ys : List Event) → IsScript input es xs
    → IsScript input fs ys → (fs ≡ es) × (ys ≡ xs)
one_script input es fs xs ys (f, b, text, is, few, asks) (g, c, text', is', few', asks') =
    let p = parts f b es text in
    let q = parts g c fs text' in
    let same : Ok ys ≡ Ok xs = sym asks' ∙ one_events input p q ∙ asks in
    (one_tree input p q, let events : ys ≡ xs = cc in events)

-- a script has no fault
pub no_fault : (input : List ℕ) (es : List TreeProcess) (xs : List Event) (fault : ScriptFault)
    → IsScript input es xs → IsScriptFault input fault → ⊥
no_fault input es xs Utf8 (f, b, text, is, few, asks) there = there text.text
no_fault input es xs TreeText (f, b, text, is, few, asks) (utf, none) = none f b es text
no_fault input es xs (Tree cause) (f, b, text, is, few, asks) (g, c, fs, text', first) =
    unchecked input (parts g c fs text') (parts f b es text) cause first is
no_fault input es xs TooLong (f, b, text, is, few, asks) (g, c, fs, text', is', many) =
    let same = one_asked input (parts f b es text) (parts g c fs text') in
    omega (arith, same, few, many)
no_fault input es xs (Line n) (f, b, text, is, few, asks) (g, c, fs, text', is', few', wrong) =
    let both : Ok xs ≡ Err n = sym asks ∙ sym (one_events input (parts f b es text) (parts g c fs text'))
    ∙ wrong
    in absurd cc

pub one_fault : (input : List ℕ) (a b : ScriptFault) → IsScriptFault input a → IsScriptFault input b → b ≡ a
one_fault input Utf8 Utf8 h k = refl
one_fault input Utf8 TreeText h k = absurd (h k.0)
one_fault input Utf8 (Tree d) h (g, c, fs, text, first) = absurd (h text.text)
one_fault input Utf8 TooLong h (g, c, fs, text, is, many) = absurd (h text.text)
one_fault input Utf8 (Line n) h (g, c, fs, text, is, few, wrong) = absurd (h text.text)
one_fault input TreeText Utf8 h k = absurd (k h.0)
one_fault input TreeText TreeText h k = refl
one_fault input TreeText (Tree d) h (g, c, fs, text, first) = absurd (h.1 g c fs text)
one_fault input TreeText TooLong h (g, c, fs, text, is, many) = absurd (h.1 g c fs text)
one_fault input TreeText (Line n) h (g, c, fs, text, is, few, wrong) = absurd (h.1 g c fs text)
one_fault input (Tree d) Utf8 (g, c, fs, text, first) k = absurd (k text.text)
one_fault input (Tree d) TreeText (g, c, fs, text, first) k = absurd (k.1 g c fs text)
one_fault input (Tree d) (Tree e) (g, c, fs, text, first) (g', c', fs', text', first') =
    ap Tree (one_cause fs d e first
    (subst (λ (es : List TreeProcess). IsFirstFault es e)
    (one_tree input (parts g c fs text) (parts g' c' fs' text'))
    first'))
one_fault input (Tree d) TooLong (g, c, fs, text, first) (g', c', fs', text', is, many) =
    absurd (unchecked input (parts g c fs text) (parts g' c' fs' text') d first is)
one_fault input (Tree d) (Line n) (g, c, fs, text, first) (g', c', fs', text', is, few, wrong) =
    absurd (unchecked input (parts g c fs text) (parts g' c' fs' text') d first is)
one_fault input TooLong Utf8 (g, c, fs, text, is, many) k = absurd (k text.text)
one_fault input TooLong TreeText (g, c, fs, text, is, many) k = absurd (k.1 g c fs text)
one_fault input TooLong (Tree d) (g', c', fs', text', is, many) (g, c, fs, text, first) =
    absurd (unchecked input (parts g c fs text) (parts g' c' fs' text') d first is)
one_fault input TooLong TooLong h k = refl
one_fault input TooLong (Line n) (g, c, fs, text, is, many) (g', c', fs', text', is', few, wrong) =
    let same = one_asked input (parts g c fs text) (parts g' c' fs' text') in
    absurd (omega (arith, same, few, many))
one_fault input (Line n) Utf8 (g, c, fs, text, is, few, wrong) k = absurd (k text.text)
one_fault input (Line n) TreeText (g, c, fs, text, is, few, wrong) k = absurd (k.1 g c fs text)
one_fault input (Line n) (Tree d) (g', c', fs', text', is, few, wrong) (g, c, fs, text, first) =
    absurd (unchecked input (parts g c fs text) (parts g' c' fs' text') d first is)
one_fault input (Line n) TooLong (g', c', fs', text', is', few, wrong) (g, c, fs, text, is, many) =
    let same = one_asked input (parts g c fs text) (parts g' c' fs' text') in
    absurd (omega (arith, same, few, many))
one_fault input (Line n) (Line m) (g, c, fs, text, is, few, wrong) (g', c', fs', text', is', few', wrong') =
    let same : Err m ≡ Err n =
    sym wrong' ∙ one_events input (parts g c fs text) (parts g' c' fs' text') ∙ wrong in
    let number : m ≡ n = cc in ap Line number
