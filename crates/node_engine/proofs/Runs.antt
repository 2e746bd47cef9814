-- What a node has answered, line by line.
use Rattle.std.proofs.Common.{◌≡◌, ◌∙◌, inr, length, ℕ, Bool, true, false, Option, Some, None, List, [], ◌∷◌, ◌++◌, Result, Ok, Err, refl, sym, ap, subst, append_assoc}
use Rattle.std.specs.Prelude.{⊤, IfErr, IfOk, OnOk}
use Rattle.std.specs.Result.{IsErrAnd}
use Rattle.std.specs.List.{AllByRecursion, flat_map}
use Rattle.std.specs.Io.KnownBytes.{Appends, Consumes, IsAtEnd}
use Rattle.std.proofs.lemmas.List.{append-nil}
use Rattle.std.proofs.lemmas.Grind.{flat_map-append}
use Rattle.protocol.specs.declared.messages.Envelope.{Envelope}
use Rattle.protocol_words.specs.Types.{AnyInput}
use Rattle.protocol_words.specs.Variants.{ActInput, MessageInput}
use Rattle.protocol.specs.declared.events.Reaction.{Reaction}
use Rattle.protocol.specs.declared.events.StepError.{StepError}
use Rattle.protocol.specs.Names.{same_process}
use Rattle.protocol.specs.Plays.{process_of_act}
use Rattle.protocol.specs.Trees.{root_of}
use Rattle.node_lines.specs.declared.asked.NodeLine.{NodeLine}
use Rattle.node_lines.specs.declared.asked.NodeLine.TheVariants as asked
use Rattle.process_state.specs.States.{CoreState}
use Rattle.node_engine.specs.declared.run.Ended.{Ended}
use Rattle.node_engine.specs.declared.run.Ended.TheVariants.{Input, Asked as EndAsked}
use Rattle.node_lines.specs.Asked.{end_word}
use Rattle.script_words.specs.Steps.{same}
use Rattle.node_engine.specs.declared.failure.NodeFailure.{NodeFailure}
use Rattle.node_engine.specs.declared.failure.NodeFailure.TheVariants.{Read, Memory, Write, Device, Exhausted}
use Rattle.node_engine.specs.Answers.{AnswersLine, IsUnrefused, IsUnshown, NodeState, Shows, NodeTakes, TakesAgain, TakesIf, TakesLine, Untold, UntoldTrim, hears, leaves_it, owed_at, resends, takes_it}
use Rattle.node_engine.specs.Runs.{ClosesLog, EndedEarly, EndsBy, EndsInOrder, FailsToEnd, GoesOn, IsPiece, Known, ReadsAll, Served, Serves, Stand, Stops, Unanswered, end_text, line_of, stand}
use Rattle.node_engine.proofs.Answering.{passed_on}

consumes_on : (a b c : Known) (xs ys : List ℕ) → Consumes a b xs → Consumes b c ys → Consumes a c (xs ++ ys)
consumes_on None b c xs ys h k = tt
consumes_on (Some x) None c xs ys h k = absurd h
consumes_on (Some x) (Some y) None xs ys h k = absurd k
consumes_on (Some x) (Some y) (Some z) xs ys h k =
    h ∙ ap (λ (t : List ℕ). xs ++ t) k ∙ sym (append_assoc xs ys z)

appends_on : (a b c : Known) (xs ys : List ℕ) → Appends a b xs → Appends b c ys → Appends a c (xs ++ ys)
appends_on None b c xs ys h k = tt
appends_on (Some x) None c xs ys h k = absurd h
appends_on (Some x) (Some y) None xs ys h k = absurd k
appends_on (Some x) (Some y) (Some z) xs ys h k =
    k ∙ ap (λ (t : List ℕ). t ++ ys) h ∙ append_assoc x xs ys

-- one line more is answered
serves_on : (old mid new : NodeState) (pieces : List (List ℕ)) (text : List ℕ) (piece more : List ℕ)
    → Serves old pieces mid text → AnswersLine (line_of piece) mid new more
    → Serves old (pieces ++ piece ∷ []) new (text ++ more)
serves_on old mid new [] text piece more h k = (
  new,
  more,
  [],
  subst (λ (s : NodeState). AnswersLine (line_of piece) s new more) h.0 k,
  (refl, refl),
  ap (λ (t : List ℕ). t ++ more) h.1 ∙ sym (append-nil more),
)
serves_on old mid new (p ∷ pieces) text piece more (at, first, rest, answers, serves, is) k = (
  at,
  first,
  rest ++ more,
  answers,
  serves_on at mid new pieces rest piece more serves k,
  ap (λ (t : List ℕ). t ++ more) is ∙ append_assoc first rest more,
)

all_on : (P : List ℕ → Type 0) (pieces : List (List ℕ)) (piece : List ℕ) → AllByRecursion P pieces → P piece
    → AllByRecursion P (pieces ++ piece ∷ [])
all_on P [] piece h k = (k, tt)
all_on P (p ∷ pieces) piece h k = (h.0, all_on P pieces piece h.1 k)

joined : (pieces : List (List ℕ)) (piece : List ℕ)
    → flat_map (λ p. p) pieces ++ piece ≡ flat_map (λ p. p) (pieces ++ piece ∷ [])
joined pieces piece = sym (flat_map-append (λ (p : List ℕ). p) pieces (piece ∷ [])
    ∙ ap (λ (t : List ℕ). flat_map (λ p. p) pieces ++ t) (append-nil piece))

pub served_more : (start : Stand) (opening : Reaction) (before now : Stand) (piece text : List ℕ)
    → IsPiece piece → GoesOn piece → Consumes before.left now.left piece
    → AnswersLine (line_of piece) before.state now.state text → Appends before.held now.held text
    → Served start opening before → Served start opening now
served_more start opening before now piece text line on took answers written h = record {
  opened = h.opened;
  first = h.first;
  shows = h.shows;
  pieces = h.pieces ++ piece ∷ [];
  rest = h.rest ++ text;
  serves = serves_on h.opened before.state now.state h.pieces h.rest piece text h.serves answers;
  lines = all_on IsPiece h.pieces piece h.lines line;
  go_on = all_on GoesOn h.pieces piece h.go_on on;
  took = subst (λ (t : List ℕ). Consumes start.left now.left t) (joined h.pieces piece)
      (consumes_on start.left before.left now.left (flat_map (λ p. p) h.pieces) piece h.took took);
  written = subst (λ (t : List ℕ). Appends start.held now.held t) (append_assoc h.first h.rest text)
      (appends_on start.held before.held now.held (h.first ++ h.rest) text h.written written);
}

-- the reader has nothing left
pub served_still : (start : Stand) (opening : Reaction) (before now : Stand) → now.state ≡ before.state
    → now.held ≡ before.held → Consumes before.left now.left []
    → Served start opening before → Served start opening now
served_still start opening before now state held took h = record {
  opened = h.opened;
  first = h.first;
  shows = h.shows;
  pieces = h.pieces;
  rest = h.rest;
  serves = subst (λ (s : NodeState). Serves h.opened h.pieces s h.rest) (sym state) h.serves;
  lines = h.lines;
  go_on = h.go_on;
  took = subst (λ (t : List ℕ). Consumes start.left now.left t) (append-nil (flat_map (λ p. p) h.pieces))
      (consumes_on start.left before.left now.left (flat_map (λ p. p) h.pieces) [] h.took took);
  written = subst (λ (w : Known). Appends start.held w (h.first ++ h.rest)) (sym held) h.written;
}

all_read : (a b c : Known) (xs : List ℕ) → Consumes a b xs → IsAtEnd b → Consumes b c [] → ReadsAll a c
all_read None b c xs h end k = tt
all_read (Some x) None c xs h end k = absurd h
all_read (Some x) (Some y) None xs h end k = absurd k
all_read (Some x) (Some y) (Some z) xs h end k = ap (λ (t : List ℕ). Some t) (sym k ∙ end)

pub served_all : (start : Stand) (opening : Reaction) (before now : Stand) → IsAtEnd before.left
    → Consumes before.left now.left [] → Served start opening before → ReadsAll start.left now.left
served_all start opening before now end took h =
    all_read start.left before.left now.left (flat_map (λ p. p) h.pieces) h.took end took

-- a node whose input has no line any more
pub input_ended : (start : Stand) (opening : Reaction) (before now : Stand) → IsAtEnd before.left
    → now.state ≡ before.state → now.held ≡ before.held → Consumes before.left now.left []
    → Served start opening before → EndsBy Input start opening now
input_ended start opening before now end state held took h =
    (served_still start opening before now state held took h, served_all start opening before now end took h)

-- a node that a line asks to end
pub asked_to_end : (start : Stand) (opening : Reaction) (before now : Stand) (piece : List ℕ) → IsPiece piece
    → same (line_of piece) end_word ≡ true → Consumes before.left now.left piece → now.state ≡ before.state
    → now.held ≡ before.held → Served start opening before → EndsBy EndAsked start opening now
asked_to_end start opening before now piece line asks took state held h = record {
  before = before;
  served = h;
  piece = piece;
  line = line;
  asks = asks;
  took = took;
  state = state;
  held = held;
}

-- a process that has just told what it did
nothing_taken : (a : Known) → Consumes a a []
nothing_taken None = tt
nothing_taken (Some x) = refl

pub served_first : (start now : Stand) (opening : Reaction) (text : List ℕ)
    → Shows start.state now.state opening text → now.left ≡ start.left → Appends start.held now.held text
    → Served start opening now
served_first start now opening text shows left written = record {
  opened = now.state;
  first = text;
  shows = shows;
  pieces = [];
  rest = [];
  serves = (refl, refl);
  lines = tt;
  go_on = tt;
  took = subst (λ (l : Known). Consumes start.left l []) (sym left) (nothing_taken start.left);
  written = subst (λ (t : List ℕ). Appends start.held now.held t) (sym (append-nil text)) written;
}

-- what comes of an answer, if there is one
pub on_ok : {A E : Type 0} (P Q : Type 0) (r : Result A E) → (P → Q) → OnOk r P → OnOk r Q
on_ok P Q (Ok a) f h = f h
on_ok P Q (Err e) f h = tt

-- Lines that are not answered.

-- a failure of the process's own
abbrev IsOwn : NodeFailure → Type 0
IsOwn Memory = ⊤
IsOwn Device = ⊤
IsOwn Exhausted = ⊤
IsOwn _ = ⊥

unrefused_own : (e : StepError) (why : NodeFailure) → IsUnrefused e why → IsOwn why
unrefused_own e Memory h = tt
unrefused_own e Device h = tt
unrefused_own e Exhausted h = tt
unrefused_own e Read h = absurd h
unrefused_own e Write h = absurd h

unshown_own : (sent : ℕ) (reaction : Reaction) (why : NodeFailure) → IsUnshown sent reaction why → IsOwn why
unshown_own sent reaction Memory h = tt
unshown_own sent reaction Device h = tt
unshown_own sent reaction Exhausted h = tt
unshown_own sent reaction Read h = absurd h
unshown_own sent reaction Write h = absurd h

memory_own : (why : NodeFailure) → why ≡ Memory → IsOwn why
memory_own why is = subst IsOwn (sym is) tt

untold_own : (sent : ℕ) (end : Result Reaction StepError) (why : NodeFailure) → Untold sent end why
    → IsOwn why
untold_own sent (Ok reaction) why h = unshown_own sent reaction why h
untold_own sent (Err e) why h = unrefused_own e why h

trim_own : (end : Result ℕ StepError) (why : NodeFailure) → UntoldTrim end why → IsOwn why
trim_own (Ok remain) why h = memory_own why h
trim_own (Err e) why h = unrefused_own e why h

input_own : (mine : Bool) (old new : NodeState) (input : AnyInput) (why : NodeFailure)
    → TakesIf mine old new input why → IsOwn why
input_own true old new input why (takes_it h) = untold_own old.sent h.end why h.untold
input_own true old new input why (leaves_it h) = memory_own why h.1
input_own false old new input why h = memory_own why h.1

again_own : (o : Option (List Envelope)) (old new : NodeState) (why : NodeFailure) → TakesAgain o old new why
    → IsOwn why
again_own None old new why h = memory_own why h.1
again_own (Some es) old new why h = unshown_own old.sent (resends es) why h.1

taken_own : (a : NodeLine) (old new : NodeState) (why : NodeFailure) → NodeTakes a old new why → IsOwn why
taken_own asked.Nothing old new why h = memory_own why h.1
taken_own (asked.Act a) old new why h =
    input_own (same_process (process_of_act (root_of old.tree) a) old.me) old new (ActInput a) why h
taken_own (asked.Message n e) old new why h =
    input_own (hears old e) old new (MessageInput n e.message) why h
taken_own asked.Trim old new why h = trim_own h.end why h.untold
taken_own asked.Doubt old new why h = memory_own why h.1
taken_own (asked.Outcome x) old new why h = memory_own why h.1
taken_own (asked.Again c) old new why h = again_own (owed_at old c) old new why h
taken_own asked.Status old new why h = memory_own why h.1
taken_own asked.Log old new why h = memory_own why h.1
taken_own asked.Data old new why h = memory_own why h.1
taken_own asked.Help old new why h = memory_own why h.1
taken_own asked.End old new why h = memory_own why h.1
taken_own (asked.Resolve name) old new why h = memory_own why h.1
taken_own asked.Unknown old new why h = memory_own why h.1
taken_own asked.NoText old new why h = memory_own why h.1

stops_own : (start : Stand) (opening : Reaction) (now : Stand) (why : NodeFailure) → IsOwn why
    → Unanswered start opening now why → Stops start opening now why
stops_own start opening now Memory own h = h
stops_own start opening now Device own h = h
stops_own start opening now Exhausted own h = h
stops_own start opening now Read own h = absurd own
stops_own start opening now Write own h = absurd own

-- a node ends under a line that it took and did not answer
pub unanswered : {A : Type 0} (r : Result A NodeFailure) (why : NodeFailure) (before now : Stand)
    (piece : List ℕ) → IsErrAnd r (λ e. e ≡ why) → IsPiece piece → Consumes before.left now.left piece
    → TakesLine (line_of piece) before.state now.state why → now.held ≡ before.held
    → IfErr r (λ e. (start : Stand) (opening : Reaction) → Served start opening before
    → Stops start opening now e)
unanswered r why before now piece failed line took takes held =
    passed_on r why (λ e. (start : Stand) (opening : Reaction) → Served start opening before
    → Stops start opening now e) failed
    (λ start opening served.
    stops_own start opening now why (taken_own takes.asked before.state now.state why takes.takes) (record {
      before = before;
      served = served;
      piece = piece;
      line = line;
      took = took;
      takes = takes;
      held = held;
    }))

-- Ends.

pub appends_nothing : (a : Known) → Appends a a []
appends_nothing None = tt
appends_nothing (Some x) = sym (append-nil x)

module _ {L : Type 0} (bytes : L → List ℕ) (forced failures : L → ℕ) (start : Stand)
    (opening : Reaction) (by : Ended)
    (left held : Known) (s : NodeState) (ends : EndsBy by start opening (stand left held s))
    (r : Result L NodeFailure)
    (now : Known) where
  -- a node whose input ended, whose log is forced, and which wrote what is written then
  pub in_order : IfOk r (ClosesLog bytes forced failures s.core) → OnOk r (Appends held now (end_text by))
      → IfOk r (EndsInOrder bytes forced failures start opening left now)
  in_order closes writes = by_result r closes writes
    where
      by_result : (q : Result L NodeFailure) → IfOk q (ClosesLog bytes forced failures s.core)
          → OnOk q (Appends held now (end_text by))
          → IfOk q (EndsInOrder bytes forced failures start opening left now)
      by_result (Err e) c w = tt
      by_result (Ok store) c w =
          record { by = by; last = stand left held s; ends = ends; reads = refl; closes = c; writes = w }

  -- one that fails then
  fails : (e : NodeFailure) → FailsToEnd by held now e → EndedEarly start opening left now e
  fails Device h = (s, inr (by, subst (λ (k : Known). EndsBy by start opening (stand left k s)) (sym h) ends))
  fails Write h = (
    s,
    inr (record {
      before = stand left held s;
      asks = subst (λ (b : Ended). EndsBy b start opening (stand left held s)) h.0 ends;
      state = refl;
      left = refl;
      front = h.1;
    }),
  )
  fails Read h = absurd h
  fails Memory h = absurd h
  fails Exhausted h = absurd h

  pub not_in_order : IfErr r (FailsToEnd by held now) → IfErr r (EndedEarly start opening left now)
  not_in_order h = by_result r h
    where
      by_result : (q : Result L NodeFailure) → IfErr q (FailsToEnd by held now)
          → IfErr q (EndedEarly start opening left now)
      by_result (Ok store) g = tt
      by_result (Err e) g = fails e g

-- what is closed is forced
pub closes_all : {L : Type 0} (bytes : L → List ℕ) (forced failures : L → ℕ) (s : CoreState)
    (r : Result L NodeFailure)
    → IfOk r (ClosesLog bytes forced failures s) → IfOk r (λ store. forced store ≡ length (bytes store))
closes_all bytes forced failures s (Ok store) h = h.forces.all ∙ ap length (sym h.forces.text)
closes_all bytes forced failures s (Err e) h = tt
