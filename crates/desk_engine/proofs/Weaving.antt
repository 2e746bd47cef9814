-- What a desk has woven, turn by turn.
use Rattle.std.proofs.Common.{◌≡◌, ◌∙◌, ◌+◌, ◌≤◌, ◌<◌, inl, inr, length, take, zero, suc, ℕ, Bool, true, false, Option, Some, None, Result, Ok, Err, List, [], ◌∷◌, ◌++◌, refl, sym, ap, subst, append_assoc, true≢false, arith}
use Rattle.std.specs.Result.{IsErrAnd}
use Rattle.std.specs.Prelude.{◌⊎◌, IfErr, IfOk, ◌==◌, ◌&&◌, OnSome, if◌then◌else◌, nat_lt, not}
use Rattle.std.specs.List.{flat_map}
use Rattle.std.specs.Io.KnownBytes.{Appends, Consumes, IsAtEnd}
use Rattle.std.proofs.lemmas.List.{append-nil, length-take-le, nil_from_length, take_all}
use Rattle.std.proofs.lemmas.Bool.Decides.{nat_tests}
use Rattle.std.proofs.lemmas.Grind.{flat_map-append}
use Rattle.report_io.specs.Streams.{WritesFront}
use Rattle.protocol.specs.declared.names.Case.{Case}
use Rattle.protocol.specs.declared.events.Reaction.{Reaction}
use Rattle.script_words.specs.Steps.{same}
use Rattle.input_lines.specs.Lines.{Piece, ReadsLine, bytes_of, feed, is_none_left, longest}
use Rattle.node_lines.specs.Asked.{end_word}
use Rattle.node_desk.specs.declared.watch.Ways.{Ways}
use Rattle.node_desk.specs.Words.{ask_line, messages_in, trim_line}
use Rattle.node_engine.specs.declared.failure.NodeFailure.{NodeFailure}
use Rattle.node_engine.specs.declared.run.Ended.{Ended}
use Rattle.node_engine.specs.declared.run.Ended.TheVariants.{Input, Asked as EndAsked}
use Rattle.node_engine.specs.Answers.{AnswersLine, NodeState, Shows, TakesLine}
use Rattle.node_engine.specs.Runs.{Known, ReadsAll, Stand, stand}
use Rattle.desk_engine.specs.Turns.{AreFirst, AskedAbout, Asks, IsHeldBack, LeavesLine, LeavesOwn, Line, Makes, Round, RoundBreaks, TellsLine, Trims, Turn, cases_at, given, given_by, leaves_ask, leaves_line, leaves_nothing, leaves_trim, line_in, nothing_line, round_partly, round_untold}
use Rattle.desk_engine.specs.Weaves.{Breaks, LeadsTo, Weaves, Woven, bytes_taken, partly, untold}
use Rattle.desk_engine.specs.Groups.{GatherBreaks, Gathers, GathersTo}

-- a failure that is passed on
pub passed_on : {A E : Type 0} (r : Result A E) (e : E) (P : E → Type 0) → IsErrAnd r (λ x. x ≡ e) → P e
    → IfErr r P
passed_on (Ok a) e P is h = tt
passed_on (Err x) e P is h = subst P (sym is) h

-- Known bytes.

consumes_on : (a b c : Known) (xs ys : List ℕ) → Consumes a b xs → Consumes b c ys → Consumes a c (xs ++ ys)
consumes_on None b c xs ys h k = tt
consumes_on (Some x) None c xs ys h k = absurd h
consumes_on (Some x) (Some y) None xs ys h k = absurd k
consumes_on (Some x) (Some y) (Some z) xs ys h k =
    h ∙ ap (λ (t : List ℕ). xs ++ t) k ∙ sym (append_assoc xs ys z)

pub appends_on : (a b c : Known) (xs ys : List ℕ) → Appends a b xs → Appends b c ys → Appends a c (xs ++ ys)
appends_on None b c xs ys h k = tt
appends_on (Some x) None c xs ys h k = absurd h
appends_on (Some x) (Some y) None xs ys h k = absurd k
appends_on (Some x) (Some y) (Some z) xs ys h k =
    k ∙ ap (λ (t : List ℕ). t ++ ys) h ∙ append_assoc x xs ys

nothing_taken : (a : Known) → Consumes a a []
nothing_taken None = tt
nothing_taken (Some x) = refl

pub appends_nothing : (a : Known) → Appends a a []
appends_nothing None = tt
appends_nothing (Some x) = sym (append-nil x)

-- after all that is told a front of what comes then
take_on : (xs ys : List ℕ) (n : ℕ) → xs ++ take n ys ≡ take (length xs + n) (xs ++ ys)
take_on [] ys n = let none : n ≡ 0 + n = omega arith in ap (λ (k : ℕ). take k ys) none
take_on (x ∷ xs) ys n =
    let more : suc (length xs + n) ≡ length (x ∷ xs) + n = omega arith in
    ap (λ (t : List ℕ). x ∷ t) (take_on xs ys n) ∙ ap (λ (k : ℕ). take k (x ∷ xs ++ ys)) more

pub front_on : (a b c : Known) (xs ys : List ℕ) → Appends a b xs → WritesFront b c ys
    → WritesFront a c (xs ++ ys)
front_on a b c xs ys h (n, k) = (
  length xs + n,
  subst (λ (t : List ℕ). Appends a c t) (take_on xs ys n)
      (appends_on a b c xs (take n ys) h k),
)

-- One turn more.

weaves_on : (w : Ways) (old mid new : NodeState) (ts : List Turn) (text : List ℕ) (t : Turn) (more : List ℕ)
    → Weaves w old ts mid text → Makes w t mid new more → Weaves w old (ts ++ t ∷ []) new (text ++ more)
weaves_on w old mid new [] text t more h k = (
  new,
  more,
  [],
  subst (λ (s : NodeState). Makes w t s new more) h.0 k,
  (refl, refl),
  ap (λ (x : List ℕ). x ++ more) h.1 ∙ sym (append-nil more),
)
weaves_on w old mid new (u ∷ ts) text t more (at, first, rest, makes, weaves, is) k = (
  at,
  first,
  rest ++ more,
  makes,
  weaves_on w at mid new ts rest t more weaves k,
  ap (λ (x : List ℕ). x ++ more) is ∙ append_assoc first rest more,
)

taken_on : (ts : List Turn) (t : Turn)
    → flat_map bytes_taken ts ++ bytes_taken t ≡ flat_map bytes_taken (ts ++ t ∷ [])
taken_on ts t = sym (flat_map-append bytes_taken ts (t ∷ [])
    ∙ ap (λ (x : List ℕ). flat_map bytes_taken ts ++ x) (append-nil (bytes_taken t)))

-- one turn alone
one_weaves : (w : Ways) (old new : NodeState) (t : Turn) (text : List ℕ) → Makes w t old new text
    → Weaves w old (t ∷ []) new text
one_weaves w old new t text makes = (new, text, [], makes, (refl, refl), sym (append-nil text))

-- many turns more
weaves_append : (w : Ways) (old mid new : NodeState) (ts us : List Turn) (text more : List ℕ)
    → Weaves w old ts mid text
    → Weaves w mid us new more → Weaves w old (ts ++ us) new (text ++ more)
weaves_append w old mid new [] us text more h k =
    subst (λ (t : List ℕ). Weaves w old us new (t ++ more)) (sym h.1)
    (subst (λ (s : NodeState). Weaves w s us new more) h.0 k)
weaves_append w old mid new (u ∷ ts) us text more (at, first, rest, makes, weaves, is) k = (
  at,
  first,
  rest ++ more,
  makes,
  weaves_append w at mid new ts us rest more weaves k,
  ap (λ (x : List ℕ). x ++ more) is ∙ append_assoc first rest more,
)

module _ (w : Ways) (start : Stand) (opening : Reaction) (before now : Stand) where
  pub woven_more : (t : Turn) (text : List ℕ) → Consumes before.left now.left (bytes_taken t)
      → Makes w t before.state now.state text → Appends before.held now.held text
      → Woven w start opening before → Woven w start opening now
  woven_more t text took makes written h = record {
    opened = h.opened;
    first = h.first;
    shows = h.shows;
    turns = h.turns ++ t ∷ [];
    rest = h.rest ++ text;
    weaves = weaves_on w h.opened before.state now.state h.turns h.rest t text h.weaves makes;
    took = subst (λ (x : List ℕ). Consumes start.left now.left x) (taken_on h.turns t)
        (consumes_on start.left before.left now.left (flat_map bytes_taken h.turns)
        (bytes_taken t) h.took took);
    written = subst (λ (x : List ℕ). Appends start.held now.held x) (append_assoc h.first h.rest text)
        (appends_on start.held before.held now.held (h.first ++ h.rest) text h.written written);
  }

  -- lines were gathered, and what is to be told of them is written
  pub woven_gathered : (told : List ℕ) → Gathers w before.state now.state before.left now.left told
      → Appends before.held now.held told → Woven w start opening before → Woven w start opening now
  woven_gathered told g written h = record {
    opened = h.opened;
    first = h.first;
    shows = h.shows;
    turns = h.turns ++ g.turns;
    rest = h.rest ++ told;
    weaves = weaves_append w h.opened before.state now.state h.turns g.turns h.rest told h.weaves g.weaves;
    took = subst (λ (x : List ℕ). Consumes start.left now.left x)
        (sym (flat_map-append bytes_taken h.turns g.turns))
        (consumes_on start.left before.left now.left (flat_map bytes_taken h.turns)
        (flat_map bytes_taken g.turns) h.took
        g.took);
    written = subst (λ (x : List ℕ). Appends start.held now.held x) (append_assoc h.first h.rest told)
        (appends_on start.held before.held now.held (h.first ++ h.rest) told h.written written);
  }

-- a process that has just told what it did
pub woven_first : (w : Ways) (start now : Stand) (opening : Reaction) (text : List ℕ)
    → Shows start.state now.state opening text → now.left ≡ start.left → Appends start.held now.held text
    → Woven w start opening now
woven_first w start now opening text shows left written = record {
  opened = now.state;
  first = text;
  shows = shows;
  turns = [];
  rest = [];
  weaves = (refl, refl);
  took = subst (λ (l : Known). Consumes start.left l []) (sym left) (nothing_taken start.left);
  written = subst (λ (t : List ℕ). Appends start.held now.held t) (sym (append-nil text)) written;
}

-- Lines of the input.

long_of : (n : ℕ) (front : List ℕ) → nat_lt n (length front) ≡ true
    → nat_lt n (length (take (n + 1) front)) ≡ true
long_of n front h =
    let below : n < length front = grind (arith, nat_tests, h) in
    let all : length (take (n + 1) front) ≡ n + 1 = length-take-le (n + 1) front (omega (arith, below)) in
    let next : nat_lt n (n + 1) ≡ true = grind (arith, nat_tests) in
    ap (nat_lt n) all ∙ next

short_of : (n : ℕ) (front : List ℕ) → nat_lt n (length front) ≡ false → take (n + 1) front ≡ front
short_of n front h =
    let short : length front ≤ n + 1 = grind (arith, nat_tests, h) in take_all (n + 1) front short

-- as much is kept of a line as tells what a node is given of it
by_room : (front : List ℕ) (fed b : Bool) → nat_lt longest (length front) ≡ b
    → given_by (take (longest + 1) front) fed ≡ given_by front fed
by_room front fed true is =
    ap (λ (b : Bool). if b then nothing_line else line_in (take (longest + 1) front) fed)
    (long_of longest front is)
    ∙ sym (ap (λ (b : Bool). if b then nothing_line else line_in front fed) is)
by_room front fed false is = ap (λ (l : List ℕ). given_by l fed) (short_of longest front is)

given_kept : (p : Piece) (kept : List ℕ) (fed : Bool) → kept ≡ take (longest + 1) p.front → fed ≡ p.fed
    → given_by kept fed ≡ given p
given_kept p kept fed is fed_is =
    ap (λ (k : List ℕ). given_by k fed) is
    ∙ (by_room p.front fed (nat_lt longest (length p.front)) refl ∙ ap (given_by p.front) fed_is)

abbrev is_nil : List ℕ → Bool
is_nil [] = true
is_nil (x ∷ xs) = false

and_left : (a b : Bool) → a && b ≡ true → a ≡ true
and_left true b h = refl
and_left false b h = h

and_right : (a b : Bool) → a && b ≡ true → b ≡ true
and_right true b h = h
and_right false b h = absurd (true≢false (sym h))

is_false : (b : Bool) → not b ≡ true → b ≡ false
is_false true h = sym h
is_false false h = refl

none_kept : (kept : List ℕ) → (length kept == 0) ≡ true → kept ≡ []
none_kept kept h = let none : length kept ≡ 0 = grind (arith, nat_tests, h) in nil_from_length kept none

none_before : (front : List ℕ) → take (longest + 1) front ≡ [] → front ≡ []
none_before [] h = refl
none_before (x ∷ xs) h = absurd (true≢false (sym (ap is_nil h)))

all_read : (a b c : Known) (xs : List ℕ) → Consumes a b xs → OnSome b (IsAtEnd c) → Consumes b c []
    → ReadsAll a c
all_read None b c xs h end k = tt
all_read (Some x) None c xs h end k = absurd h
all_read (Some x) (Some y) None xs h end k = absurd k
all_read (Some x) (Some y) (Some z) xs h end k = ap (λ (t : List ℕ). Some t) end

-- Groups of lines.

-- none yet
pub gathers_none : (w : Ways) (s : NodeState) (left : Known) (told : List ℕ) → told ≡ []
    → Gathers w s s left left told
gathers_none w s left told is = record { turns = []; weaves = (refl, is); took = nothing_taken left }

-- one more
gathers_more : (w : Ways) (first old new : NodeState) (left at now : Known) (told more : List ℕ) (t : Turn)
    → Gathers w first old left at told → Makes w t old new more → Consumes at now (bytes_taken t)
    → Gathers w first new left now (told ++ more)
gathers_more w first old new left at now told more t g makes took = record {
  turns = g.turns ++ t ∷ [];
  weaves = weaves_on w first old new g.turns told t more g.weaves makes;
  took = subst (λ (x : List ℕ). Consumes left now x) (taken_on g.turns t)
      (consumes_on left at now (flat_map bytes_taken g.turns) (bytes_taken t) g.took took);
}

-- the reader has nothing left
gathers_still : (w : Ways) (first old : NodeState) (left at now : Known) (told : List ℕ)
    → Gathers w first old left at told
    → Consumes at now [] → Gathers w first old left now told
gathers_still w first old left at now told g took = record {
  turns = g.turns;
  weaves = g.weaves;
  took = subst (λ (x : List ℕ). Consumes left now x) (append-nil (flat_map bytes_taken g.turns))
      (consumes_on left at now (flat_map bytes_taken g.turns) [] g.took took);
}

module _ (w : Ways) (first old : NodeState) (left at now : Known) (told kept : List ℕ) (fed : Bool)
    (reads : ReadsLine at now kept fed) (g : Gathers w first old left at told) where
  given_is : given_by kept fed ≡ given reads.piece
  given_is = given_kept reads.piece kept fed reads.keeps.front reads.keeps.fed

  none_in : is_none_left kept fed ≡ true → bytes_of reads.piece ≡ []
  none_in none =
      let front = none_before reads.piece.front
      (sym reads.keeps.front ∙ none_kept kept (and_left (length kept == 0) (not fed) none)) in
      let unfed = sym reads.keeps.fed ∙ is_false fed (and_right (length kept == 0) (not fed) none) in
      ap (λ (f : List ℕ). f ++ feed reads.piece.fed) front ∙ ap feed unfed

  -- the input has no line any more
  pub none_left : is_none_left kept fed ≡ true → GathersTo (Some Input) w first old left now told
  none_left none =
      let took = subst (λ (x : List ℕ). Consumes at now x) (none_in none) reads.next.took in
      let unfed = sym reads.keeps.fed ∙ is_false fed (and_right (length kept == 0) (not fed) none) in (
        gathers_still w first old left at now told g took,
        all_read left at now (flat_map bytes_taken g.turns) g.took (reads.next.last unfed) took,
      )

  -- the line asks the node to end
  pub asks_end : same (given_by kept fed) end_word ≡ true
      → GathersTo (Some EndAsked) w first old left now told
  asks_end asks = record {
    at = at;
    gathers = g;
    piece = reads.piece;
    asks = subst (λ (l : List ℕ). same l end_word ≡ true) given_is asks;
    took = reads.next.took;
  }

  made : (new : NodeState) (more : List ℕ) → same (given_by kept fed) end_word ≡ false
      → TellsLine w (given_by kept fed) old new more → Makes w (Line reads.piece) old new more
  made new more on tells = record {
    no_feed = reads.next.no_feed;
    goes_on = subst (λ (l : List ℕ). same l end_word ≡ false) given_is on;
    tells = subst (λ (l : List ℕ). TellsLine w l old new more) given_is tells;
  }

  -- the line is made
  pub line_gathered : (new : NodeState) (more : List ℕ) → same (given_by kept fed) end_word ≡ false
      → TellsLine w (given_by kept fed) old new more → Gathers w first new left now (told ++ more)
  line_gathered new more on tells =
      gathers_more w first old new left at now told more (Line reads.piece) g
      (made new more on tells) reads.next.took

  -- it is left
  pub line_left : (new : NodeState) (why : NodeFailure) → LeavesLine w (given_by kept fed) old new why
      → GatherBreaks w first new left told why
  line_left new why leaves = record {
    mid = old;
    at = at;
    gathers = g;
    leaves = leaves_line reads.piece (subst (λ (l : List ℕ). LeavesLine w l old new why) given_is leaves);
  }

-- no line is read
pub line_unread : (w : Ways) (first old : NodeState) (left at : Known) (told : List ℕ) (why : NodeFailure)
    → Gathers w first old left at told → GatherBreaks w first old left told why
line_unread w first old left at told why g =
    record { mid = old; at = at; gathers = g; leaves = leaves_nothing refl }

-- What is told of a group.

reads_all_on : (a b c : Known) (xs : List ℕ) → Consumes a b xs → ReadsAll b c → ReadsAll a c
reads_all_on None b c xs h k = tt
reads_all_on (Some x) None c xs h k = absurd h
reads_all_on (Some x) (Some y) c xs h k = k

module _ (w : Ways) (before now : Stand) (told : List ℕ) where
  abbrev LeadsAfter : Option Ended → Type 0
  LeadsAfter ended = (start : Stand) → (opening : Reaction) → Woven w start opening before
      → LeadsTo ended w start opening now

  abbrev BreaksAfter : NodeFailure → Type 0
  BreaksAfter e = (start : Stand) → (opening : Reaction) → Woven w start opening before
      → Breaks w start opening now e

  abbrev HasGathered : Option Ended → Type 0
  HasGathered ended = GathersTo ended w before.state now.state before.left now.left told

  ended_leads : (o : Option Ended) → HasGathered o → Appends before.held now.held told → LeadsAfter o
  ended_leads None g written = λ start opening h. woven_gathered w start opening before now told g written h
  ended_leads (Some Input) g written = λ start opening h. (
    woven_gathered w start opening before now told g.0 written h,
    reads_all_on start.left before.left now.left (flat_map bytes_taken h.turns) h.took g.1,
  )
  ended_leads (Some EndAsked) g written = λ start opening h. record {
    before = stand g.at now.held now.state;
    woven = woven_gathered w start opening before (stand g.at now.held now.state) told g.gathers written h;
    piece = g.piece;
    asks = g.asks;
    took = g.took;
    state = refl;
    held = refl;
  }

  -- all is told
  pub group_leads : (r : Result (Option Ended) NodeFailure) → IfOk r HasGathered
      → Appends before.held now.held told
      → IfOk r LeadsAfter
  group_leads (Ok o) g written = ended_leads o g written
  group_leads (Err e) g written = tt

  -- all is told, and the next line was left
  pub group_breaks : (r : Result (Option Ended) NodeFailure)
      → IfErr r (GatherBreaks w before.state now.state before.left told) → Appends before.held now.held told
      → IfErr r BreaksAfter
  group_breaks (Ok o) g written = tt
  group_breaks (Err e) g written = λ start opening h.
      untold (stand g.at now.held g.mid)
      (woven_gathered w start opening before (stand g.at now.held g.mid) told g.gathers written h) g.leaves
      refl

  some_gathers : (o : Option Ended) → HasGathered o
      → (at : Known) × Gathers w before.state now.state before.left at told
  some_gathers None g = (now.left, g)
  some_gathers (Some Input) g = (now.left, g.0)
  some_gathers (Some EndAsked) g = (g.at, g.gathers)

  group_held : (r : Result (Option Ended) NodeFailure) (why : NodeFailure) → IfOk r HasGathered
      → IfErr r (GatherBreaks w before.state now.state before.left told)
      → WritesFront before.held now.held told
      → IsHeldBack why → BreaksAfter why
  group_held (Ok o) why g b front held = λ start opening h.
      let gathers = (some_gathers o g).1 in
      partly before h gathers.turns now.state told gathers.weaves (inl refl) front held
  group_held (Err e) why g b front held = λ start opening h.
      partly before h b.gathers.turns b.mid told b.gathers.weaves (inr (e, b.leaves)) front held

  -- not all is told
  pub if_group_held : {A : Type 0} (q : Result A NodeFailure) (r : Result (Option Ended) NodeFailure)
      (why : NodeFailure)
      → IsErrAnd q (λ e. e ≡ why) → IfOk r HasGathered
      → IfErr r (GatherBreaks w before.state now.state before.left told)
      → WritesFront before.held now.held told
      → IsHeldBack why → IfErr q BreaksAfter
  if_group_held q r why failed g b front held = passed_on q why BreaksAfter failed
      (group_held r why g b front held)

-- nothing more was read
pub turn_unread : (w : Ways) (start : Stand) (opening : Reaction) (before now : Stand) (why : NodeFailure)
    → now.state ≡ before.state → now.held ≡ before.held → Woven w start opening before
    → Breaks w start opening now why
turn_unread w start opening before now why state held h = untold before h (leaves_nothing state) held

-- Fronts.

-- a front of a front
front_of : (n k : ℕ) (xs : List ℕ) → (m : ℕ) × (take n (take k xs) ≡ take m xs)
front_of zero k xs = (0, refl)
front_of (suc n) zero xs = (0, refl)
front_of (suc n) (suc k) [] = (0, refl)
front_of (suc n) (suc k) (x ∷ xs) =
    let rest = front_of n k xs in (suc rest.0, ap (λ (t : List ℕ). x ∷ t) rest.1)

pub front_in : (a b : Known) (k : ℕ) (xs : List ℕ) → WritesFront a b (take k xs) → WritesFront a b xs
front_in a b k xs (n, h) =
    let front = front_of n k xs in (front.0, subst (λ (t : List ℕ). Appends a b t) front.1 h)

pub none_written : (a b : Known) (xs : List ℕ) → b ≡ a → WritesFront a b xs
none_written a b xs is = (0, subst (λ (k : Known). Appends a k []) (sym is) (appends_nothing a))

-- Rounds.

asks_on : (old mid new : NodeState) (cs : List Case) (told : List ℕ) (c : Case) (text : List ℕ)
    → Asks old cs mid told
    → AnswersLine (ask_line c) mid new text → Asks old (cs ++ c ∷ []) new (told ++ messages_in text)
asks_on old mid new [] told c text h k = (
  new,
  text,
  [],
  subst (λ (s : NodeState). AnswersLine (ask_line c) s new text) h.0 k,
  (refl, refl),
  ap (λ (t : List ℕ). t ++ messages_in text) h.1 ∙ sym (append-nil (messages_in text)),
)
asks_on old mid new (d ∷ cs) told c text (at, first, rest, answers, asks, is) k = (
  at,
  first,
  rest ++ messages_in text,
  answers,
  asks_on at mid new cs rest c text asks k,
  ap (λ (t : List ℕ). t ++ messages_in text) is ∙ append_assoc (messages_in first) rest (messages_in text),
)

pub asked_none : (s : NodeState) (held : Known) → AskedAbout s [] s held held
asked_none s held = ([], (refl, refl), appends_nothing held)

pub asked_more : (old mid new : NodeState) (held at now : Known) (cs : List Case) (c : Case) (text : List ℕ)
    → AskedAbout old cs mid held at → AnswersLine (ask_line c) mid new text
    → Appends at now (messages_in text)
    → AskedAbout old (cs ++ c ∷ []) new held now
asked_more old mid new held at now cs c text (told, asks, written) answers more = (
  told ++ messages_in text,
  asks_on old mid new cs told c text asks answers,
  appends_on held at now told (messages_in text) written more,
)

-- memory was refused before the next case was asked about, or the node took the question
pub round_left : (old mid new : NodeState) (held now : Known) (cs : List Case) (c : Case) (why : NodeFailure)
    → AreFirst (cases_at old) cs → AskedAbout old cs mid held now → LeavesOwn (ask_line c) mid new why
    → RoundBreaks old new held now why
round_left old mid new held now cs c why starts asked leaves =
    round_untold cs starts mid asked (inr (c, leaves))

-- a front of what is told of the next case was written
pub round_cut : (old mid new : NodeState) (held at now : Known) (cs : List Case) (c : Case) (text : List ℕ)
    (why : NodeFailure) → AreFirst (cases_at old) (cs ++ c ∷ []) → AskedAbout old cs mid held at
    → AnswersLine (ask_line c) mid new text → WritesFront at now (messages_in text) → IsHeldBack why
    → RoundBreaks old new held now why
round_cut old mid new held at now cs c text why starts (told, asks, written) answers front is =
    round_partly (cs ++ c ∷ []) starts (told ++ messages_in text)
    (asks_on old mid new cs told c text asks answers)
    (front_on held at now told (messages_in text) written front) is

-- no case was asked about
pub round_unbegun : (old new : NodeState) (held now : Known) (why : NodeFailure) → new ≡ old → now ≡ held
    → RoundBreaks old new held now why
round_unbegun old new held now why state same_held =
    round_untold [] refl old
    (subst (λ (k : Known). AskedAbout old [] old held k) (sym same_held) (asked_none old held)) (inl state)

first_of : (i : ℕ) (xs : List Case) → take (length (take i xs)) xs ≡ take i xs
first_of zero xs = refl
first_of (suc i) [] = refl
first_of (suc i) (x ∷ xs) =
    let more : length (x ∷ take i xs) ≡ suc (length (take i xs)) = omega arith in
    ap (λ (k : ℕ). take k (x ∷ xs)) more ∙ ap (λ (t : List Case). x ∷ t) (first_of i xs)

-- the first of the cases that are to be asked about
pub first_cases : (s : NodeState) (xs : List Case) (i : ℕ) → xs ≡ cases_at s
    → AreFirst (cases_at s) (take i xs)
first_cases s xs i is = subst (λ (all : List Case). take (length (take i xs)) all ≡ take i xs)
    is (first_of i xs)

module _ {A : Type 0} (r : Result A NodeFailure) (why : NodeFailure) (old mid new : NodeState)
    (held at now : Known)
    (xs : List Case) (i : ℕ) (c : Case) (failed : IsErrAnd r (λ e. e ≡ why)) (is : xs ≡ cases_at old)
    (asked : AskedAbout old (take i xs) mid held at) where
  pub if_round_left : now ≡ at → LeavesOwn (ask_line c) mid new why → IfErr r (RoundBreaks old new held now)
  if_round_left still leaves =
      passed_on r why (RoundBreaks old new held now) failed
      (round_left old mid new held now (take i xs) c why (first_cases old xs i is)
      (subst (λ (k : Known). AskedAbout old (take i xs) mid held k) (sym still) asked) leaves)

  pub if_round_cut : take (i + 1) xs ≡ take i xs ++ c ∷ [] → (text : List ℕ)
      → AnswersLine (ask_line c) mid new text
      → WritesFront at now (messages_in text) → IsHeldBack why → IfErr r (RoundBreaks old new held now)
  if_round_cut next text answers front write =
      passed_on r why (RoundBreaks old new held now) failed
      (round_cut old mid new held at now (take i xs) c text why
      (subst (AreFirst (cases_at old)) next (first_cases old xs (i + 1) is)) asked answers front write)

module _ (w : Ways) (start : Stand) (opening : Reaction) (left : Known) (old new : NodeState)
    (held now : Known)
    (may : w.asks ≡ true) (h : Woven w start opening (stand left held old)) where
  round_woven : (cs : List Case) (mid : NodeState) → AreFirst (cases_at old) cs
      → AskedAbout old cs mid held now
      → Woven w start opening (stand left now mid)
  round_woven cs mid starts (told, asks, written) =
      woven_more w start opening (stand left held old) (stand left now mid) (Round cs) told
      (nothing_taken left)
      (record { may = may; cases = starts; asks = asks }) written h

  -- each case was asked about
  pub round_made : AskedAbout old (cases_at old) new held now → Woven w start opening (stand left now new)
  round_made asked =
      round_woven (cases_at old) new (take_all (length (cases_at old)) (cases_at old) (omega arith)) asked

  round_stops : (mid : NodeState) (why : NodeFailure) → Woven w start opening (stand left now mid)
      → (new ≡ mid) ⊎ ((c : Case) × LeavesOwn (ask_line c) mid new why)
      → Breaks w start opening (stand left now new) why
  round_stops mid why woven (inl e) = untold (stand left now mid) woven (leaves_nothing e) refl
  round_stops mid why woven (inr (c, leaves)) = untold (stand left now mid) woven
      (leaves_ask c may leaves) refl

  -- the round broke off
  pub round_broken : (why : NodeFailure) → RoundBreaks old new held now why
      → Breaks w start opening (stand left now new) why
  round_broken why (round_untold cs starts mid asked leaves) =
      round_stops mid why (round_woven cs mid starts asked) leaves
  round_broken why (round_partly cs starts told asks front is) =
      partly (stand left held old) h (Round cs ∷ []) new told
      (one_weaves w old new (Round cs) told (record { may = may; cases = starts; asks = asks }))
      (inl refl) front is

-- Trims.

module _ (w : Ways) (start : Stand) (opening : Reaction) (left held : Known) (old new : NodeState)
    (may : w.trims ≡ true) (h : Woven w start opening (stand left held old)) where
  pub trim_made : (text : List ℕ) → AnswersLine trim_line old new text
      → Woven w start opening (stand left held new)
  trim_made text answers =
      woven_more w start opening (stand left held old) (stand left held new) Trims [] (nothing_taken left)
      (record { may = may; text = text; answers = answers; silent = refl }) (appends_nothing held) h

  pub trim_left : (why : NodeFailure) → TakesLine trim_line old new why
      → Breaks w start opening (stand left held new) why
  trim_left why takes = untold (stand left held old) h (leaves_trim may takes) refl

  -- it was made, and is not safe
  pub trim_held : (why : NodeFailure) (text : List ℕ) → AnswersLine trim_line old new text → IsHeldBack why
      → Breaks w start opening (stand left held new) why
  trim_held why text answers is =
      partly (stand left held old) h (Trims ∷ []) new []
      (one_weaves w old new Trims [] (record { may = may; text = text; answers = answers; silent = refl }))
      (inl refl)
      (none_written held held [] refl) is

pub if_trim_held : {A : Type 0} (r : Result A NodeFailure) (why : NodeFailure) (w : Ways)
    (old new : NodeState)
    → IsErrAnd r (λ e. e ≡ why) → w.trims ≡ true → (text : List ℕ) → AnswersLine trim_line old new text
    → IsHeldBack why
    → IfErr r (λ e. (left held : Known) (start : Stand) (opening : Reaction)
    → Woven w start opening (stand left held old) → Breaks w start opening (stand left held new) e)
if_trim_held r why w old new failed may text answers is =
    passed_on r why (λ e. (left held : Known) (start : Stand) (opening : Reaction)
    → Woven w start opening (stand left held old) → Breaks w start opening (stand left held new) e) failed
    (λ left held start opening h. trim_held w start opening left held old new may h why text answers is)

pub if_trim_left : {A : Type 0} (r : Result A NodeFailure) (why : NodeFailure) (w : Ways)
    (old new : NodeState)
    → IsErrAnd r (λ e. e ≡ why) → w.trims ≡ true → TakesLine trim_line old new why
    → IfErr r (λ e. (left held : Known) (start : Stand) (opening : Reaction)
    → Woven w start opening (stand left held old) → Breaks w start opening (stand left held new) e)
if_trim_left r why w old new failed may takes =
    passed_on r why (λ e. (left held : Known) (start : Stand) (opening : Reaction)
    → Woven w start opening (stand left held old) → Breaks w start opening (stand left held new) e) failed
    (λ left held start opening h. trim_left w start opening left held old new may h why takes)

-- Turns.

-- a round that was not begun
pub if_round_unbegun : {A : Type 0} (r : Result A NodeFailure) (s : NodeState) (held : Known)
    → IfErr r (RoundBreaks s s held held)
if_round_unbegun (Ok a) s held = tt
if_round_unbegun (Err e) s held = round_unbegun s s held held e refl refl

pub if_round_broken : {A : Type 0} (r : Result A NodeFailure) (why : NodeFailure) (w : Ways)
    (old new : NodeState)
    (held now : Known) → IsErrAnd r (λ e. e ≡ why) → w.asks ≡ true → RoundBreaks old new held now why
    → IfErr r (λ e. (left : Known) (start : Stand) (opening : Reaction)
    → Woven w start opening (stand left held old) → Breaks w start opening (stand left now new) e)
if_round_broken r why w old new held now failed may breaks =
    passed_on r why (λ e. (left : Known) (start : Stand) (opening : Reaction)
    → Woven w start opening (stand left held old) → Breaks w start opening (stand left now new) e) failed
    (λ left start opening h. round_broken w start opening left old new held now may h why breaks)

-- a round that broke off after waiting, which reads nothing
pub round_after : {A : Type 0} (r : Result A NodeFailure) (w : Ways) (old new : NodeState)
    (held now from left : Known)
    → left ≡ from → IfErr r (λ e. (left : Known) (start : Stand) (opening : Reaction)
    → Woven w start opening (stand left held old) → Breaks w start opening (stand left now new) e)
    → IfErr r (λ e. (start : Stand) (opening : Reaction) → Woven w start opening (stand from held old)
    → Breaks w start opening (stand left now new) e)
round_after (Ok a) w old new held now from left is h = tt
round_after (Err e) w old new held now from left is h = λ start opening k.
    h left start opening (subst (λ (l : Known). Woven w start opening (stand l held old)) (sym is) k)

-- a trim that broke off after that
pub trim_after : {A : Type 0} (r : Result A NodeFailure) (v w : Ways) (old new : NodeState)
    (held from left : Known)
    → v ≡ w → left ≡ from → IfErr r (λ e. (left held : Known) (start : Stand) (opening : Reaction)
    → Woven v start opening (stand left held old) → Breaks v start opening (stand left held new) e)
    → IfErr r (λ e. (start : Stand) (opening : Reaction) → Woven w start opening (stand from held old)
    → Breaks w start opening (stand left held new) e)
trim_after (Ok a) v w old new held from left ways is h = tt
trim_after (Err e) v w old new held from left ways is h = λ start opening k.
    subst (λ (u : Ways). Breaks u start opening (stand left held new) e) ways
    (h left held start opening
    (subst (λ (u : Ways). Woven u start opening (stand left held old)) (sym ways)
    (subst (λ (l : Known). Woven w start opening (stand l held old)) (sym is) k)))

-- a run that broke off after its opening
pub or_breaks : {A : Type 0} (r : Result A NodeFailure) (P : NodeFailure → Type 0) (w : Ways) (start : Stand)
    (opening : Reaction) (before now : Stand) → Woven w start opening before
    → IfErr r (λ e. (start : Stand) (opening : Reaction) → Woven w start opening before
    → Breaks w start opening now e)
    → IfErr r (λ e. P e ⊎ Breaks w start opening now e)
or_breaks (Ok a) P w start opening before now h k = tt
or_breaks (Err e) P w start opening before now h k = inr (k start opening h)
