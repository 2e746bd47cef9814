-- A journal that is cut by process is a run.
use Rattle.std.proofs.Common.{if◌then◌else◌, ◌≡◌, ◌∙◌, ◌+◌, ◌-◌, ap, sym, inl, inr, Bool, true, false, Option, List, [], ◌∷◌, ◌++◌, Some, refl, subst}
use Rattle.std.proofs.lemmas.List.{append-nil, append_assoc}
use Rattle.std.proofs.lemmas.List.Elements.{filter-append}
use Rattle.protocol.specs.declared.names.ProcessId.{ProcessId}
use Rattle.protocol.specs.declared.messages.Envelope.{Envelope}
use Rattle.protocol.specs.declared.events.JournalEntry.{JournalEntry}
use Rattle.protocol.specs.declared.events.Fault.{Fault}
use Rattle.protocol.specs.declared.events.Happening.{Happening}
use Rattle.protocol.specs.declared.events.Happening.TheVariants.{Restart, Trim}
use Rattle.protocol_words.specs.Variants.{ActInput, Handles, MessageInput}
use Rattle.protocol.specs.declared.trees.TreeProcess.{TreeProcess}
use Rattle.protocol.specs.Names.{same_process}
use Rattle.protocol.specs.NameLaws.{same_process_tells}
use Rattle.protocol.specs.Nodes.{Effect, Node, Place, is_listed, opened_node, place_of, Version}
use Rattle.protocol.specs.World.{IsRun, Made, Makes, Move, MayHappen, World, entries_of, entry_of, journal_of, made_by, makes, node_makes, opened_world, opens, process_of_entry, put_at, shown, world_makes, world_stepped}
use Rattle.protocol.proofs.RunLaws.{makes_at}
use Rattle.protocol.specs.World.{AllBy}
use Rattle.process_state.specs.Turns.{this_version}
use Rattle.tree_state.specs.Cuts.{AreGiven, CutsAreRuns, CutsGrow, FindsMessage, IsGivenEntry, IsNodeRun, IsOneRun, RunsAreCut, begins, net_of, none_given, one_more, steps}

-- Lists.

pub nil_snoc : {A : Type 0} (xs : List A) (x : A) → xs ++ x ∷ [] ≡ [] → ⊥
nil_snoc [] x h = absurd (cc)
nil_snoc (y ∷ ys) x h = absurd (cc)

pub record SameEnds {A : Type 0} (xs ys : List A) (x y : A) : Type 0 where
  pub fronts : xs ≡ ys
  pub ends : x ≡ y

heads : {A : Type 0} (x y : A) (xs ys : List A) → x ∷ xs ≡ y ∷ ys → (x ≡ y) × (xs ≡ ys)
heads x y xs ys h = (cc, cc)

pub snoc_same : {A : Type 0} (xs ys : List A) (x y : A) → xs ++ x ∷ [] ≡ ys ++ y ∷ [] → SameEnds xs ys x y
snoc_same [] [] x y h = record { fronts = refl; ends = (heads x y [] [] h).0 }
snoc_same [] (b ∷ ys) x y h = absurd (nil_snoc ys y (sym (heads x b [] (ys ++ y ∷ []) h).1))
snoc_same (a ∷ xs) [] x y h = absurd (nil_snoc xs x (heads a y (xs ++ x ∷ []) [] h).1)
snoc_same (a ∷ xs) (b ∷ ys) x y h =
    let t = heads a b (xs ++ x ∷ []) (ys ++ y ∷ []) h in
    let s = snoc_same xs ys x y t.1 in
    record { fronts = ap (λ l. a ∷ l) s.fronts ∙ ap (λ c. c ∷ ys) t.0; ends = s.ends }

-- The messages.

pub net_more : (xs : List JournalEntry) (x : JournalEntry)
    → net_of (xs ++ x ∷ []) ≡ net_of xs ++ x.reaction.messages
net_more [] x = append-nil x.reaction.messages
net_more (y ∷ ys) x =
    ap (λ l. y.reaction.messages ++ l) (net_more ys x)
    ∙ sym (append_assoc y.reaction.messages (net_of ys) x.reaction.messages)

-- a message that was found was sent
pub found_stands : (net : List Envelope) (q : ProcessId) (h : Happening) → FindsMessage net q h
    → MayHappen net q h
found_stands net q (Handles (ActInput a)) f = tt
found_stands net q (Handles (MessageInput k m)) f =
    record { sender = f.sender; place = 0 + (k - 1); stands = f.stands }
found_stands net q (Restart k) f = tt
found_stands net q Trim f = tt

-- Entries of a process.

pub self : (q : ProcessId) → same_process q q ≡ true
self q = elim (same_process_tells q q) [ inl t ↦ t.0 | inr z ↦ absurd (z.1 refl) ]

pub own_more : (q : ProcessId) (xs : List JournalEntry) (x : JournalEntry)
    → same_process x.step.process q ≡ true
    → entries_of q (xs ++ x ∷ []) ≡ entries_of q xs ++ x ∷ []
unfolding entries_of
own_more q xs x here =
    filter-append (λ e. same_process (process_of_entry e) q) xs (x ∷ [])
    ∙ ap (λ (b : Bool). entries_of q xs ++ (if b then x ∷ [] else [])) here

pub none_more : (q : ProcessId) (xs : List JournalEntry) (x : JournalEntry)
    → same_process x.step.process q ≡ false
    → entries_of q (xs ++ x ∷ []) ≡ entries_of q xs
unfolding entries_of
none_more q xs x away =
    filter-append (λ e. same_process (process_of_entry e) q) xs (x ∷ [])
    ∙ ap (λ (b : Bool). entries_of q xs ++ (if b then x ∷ [] else [])) away ∙ append-nil (entries_of q xs)

-- A value for one process.

abbrev pub at_one : {A : Type 0} → ProcessId → A → (ProcessId → A) → ProcessId → A
at_one q a f r = if same_process q r then a else f r

pub here_one : {A : Type 0} (q : ProcessId) (a : A) (f : ProcessId → A) → at_one q a f q ≡ a
here_one q a f = rw (self q) refl

pub there_one : {A : Type 0} (q r : ProcessId) (a : A) (f : ProcessId → A) → same_process q r ≡ false
    → at_one q a f r ≡ f r
there_one q r a f away = rw away refl

-- The run of one process.

pub journal_step : (m : Made) (ms : List Made) → journal_of (m ∷ ms) ≡ journal_of ms ++ entry_of m ∷ []
unfolding journal_of
journal_step m ms = refl

journal_none : journal_of [] ≡ []
unfolding journal_of
journal_none = refl

opened_alone : (place : Place) (ms : List Made) (n : Node) → IsNodeRun place ms n → journal_of ms ≡ []
    → n ≡ opened_node
opened_alone place _ _ begins h = refl
opened_alone place _ _ (steps ms n m e n' run mine does) h =
    absurd (nil_snoc (journal_of ms) (entry_of (record { move = m; effect = e }))
    (sym (journal_step (record { move = m; effect = e }) ms) ∙ h))

-- its last move
record LastMove (place : Place) (n' : Node) (ys : List JournalEntry) (x : JournalEntry) : Type 0 where
  pub before : List Made
  pub node : Node
  pub move : Move
  pub effect : Effect
  pub run : IsNodeRun place before node
  pub by_this : AllBy this_version (record { move = move; effect = effect } ∷ before)
  pub mine : move.step.process ≡ place.me
  pub does : node_makes place node move ≡ Makes effect n'
  pub fronts : journal_of before ≡ ys
  pub is : entry_of (record { move = move; effect = effect }) ≡ x

last_move : (place : Place) (ms : List Made) (n' : Node) (ys : List JournalEntry) (x : JournalEntry)
    → IsNodeRun place ms n'
    → AllBy this_version ms → journal_of ms ≡ ys ++ x ∷ [] → LastMove place n' ys x
last_move place _ _ ys x begins by h = absurd (nil_snoc ys x (sym h ∙ journal_none))
last_move place _ _ ys x (steps ms n m e n' run mine does) by h =
    let s = snoc_same (journal_of ms) ys (entry_of (record { move = m; effect = e })) x
    (sym (journal_step (record { move = m; effect = e }) ms) ∙ h) in
    record {
      before = ms;
      node = n;
      move = m;
      effect = e;
      run = run;
      by_this = by;
      mine = mine;
      does = does;
      fronts = s.fronts;
      is = s.ends;
    }

-- One step more of all.

world_more : (tree : List TreeProcess) (w : World) (m : Move) (e : Effect) (n : Node)
    → is_listed tree m.step.process ≡ true
    → node_makes (place_of tree m.step.process) (w.at m.step.process) m ≡ Makes e n
    → world_makes tree w m ≡ Some (e, record { at = put_at m.step.process n w.at; net = w.net ++ e.messages })
unfolding world_makes
world_more tree w m e n listed done = rw listed (ap (λ s. world_stepped w m.step.process s) done)

run_more : (tree : List TreeProcess) (xs : List JournalEntry) (before left : ProcessId → Node)
    (m : Move) (e : Effect)
    → IsOneRun tree xs before → m.version ≡ this_version
    → node_makes (place_of tree m.step.process) (before m.step.process) m ≡ Makes e (left m.step.process)
    → ((r : ProcessId) → same_process m.step.process r ≡ false → before r ≡ left r)
    → IsGivenEntry tree (net_of xs) (entry_of (record { move = m; effect = e }))
    → IsOneRun tree (xs ++ entry_of (record { move = m; effect = e }) ∷ []) left
run_more tree xs before left m e run by does others is =
    let q = m.step.process in
    let made : Made = record { move = m; effect = e } in
    let w = run.world in
    let w' : World = record { at = put_at q (left q) w.at; net = w.net ++ e.messages } in
    let done : node_makes (place_of tree q) (w.at q) m ≡ Makes e (left q) =
    ap (λ n. node_makes (place_of tree q) n m) (run.nodes q) ∙ does in
    let stands : MayHappen w.net q m.step.happening =
    subst (λ l. MayHappen l q m.step.happening) (sym run.net)
    (found_stands (net_of xs) q m.step.happening is.finds) in
    record {
      moves = made ∷ run.moves;
      world = w';
      is_run = makes run.moves w m e w' run.is_run stands (world_more tree w m e (left q) is.listed done);
      by_this = (by, run.by_this);
      are_entries = journal_step made run.moves ∙ ap (λ l. l ++ entry_of made ∷ []) run.are_entries;
      nodes = λ r. elim (same_process_tells q r) [
        | inl t ↦ rw t.0 (ap left t.1)
        | inr z ↦ rw z.0 (run.nodes r ∙ others r z.0)
      ];
      net = ap (λ l. l ++ e.messages) run.net
          ∙ (ap (λ (f : Option Fault). net_of xs ++ (shown f e).messages) (sym is.unfailed)
          ∙ sym (net_more xs (entry_of made)));
    }

joined : (tree : List TreeProcess) (xs : List JournalEntry) → AreGiven tree xs → (left : ProcessId → Node)
    (moves : ProcessId → List Made)
    → ((q : ProcessId) → IsNodeRun (place_of tree q) (moves q) (left q))
    → ((q : ProcessId) → AllBy this_version (moves q))
    → ((q : ProcessId) → journal_of (moves q) ≡ entries_of q xs) → IsOneRun tree xs left
unfolding entries_of
joined tree _ none_given left moves made by shows = record {
  moves = [];
  world = opened_world;
  is_run = opens;
  by_this = tt;
  are_entries = journal_none;
  nodes = λ q. sym (opened_alone (place_of tree q) (moves q) (left q) (made q) (shows q));
  net = refl;
}
joined tree _ (one_more xs x given is) left moves made by shows =
    let q = x.step.process in
    let last = last_move (place_of tree q) (moves q) (left q) (entries_of q xs) x (made q)
    (by q) (shows q ∙ own_more q xs x (self q)) in
    let before : ProcessId → Node = at_one q last.node left in
    let moves' : ProcessId → List Made = at_one q last.before moves in
    let made' : (r : ProcessId) → IsNodeRun (place_of tree r) (moves' r) (before r) =
    λ r. elim (same_process_tells q r) [
      | inl t ↦ rw t.0 (subst (λ s. IsNodeRun (place_of tree s) last.before last.node) t.1 last.run)
      | inr z ↦ rw z.0 (made r)
    ] in
    let by' : (r : ProcessId) → AllBy this_version (moves' r) =
    λ r. elim (same_process_tells q r) [ inl t ↦ rw t.0 last.by_this.1 | inr z ↦ rw z.0 (by r) ] in
    let shows' : (r : ProcessId) → journal_of (moves' r) ≡ entries_of r xs =
    λ r. elim (same_process_tells q r) [
      | inl t ↦ rw t.0 (last.fronts ∙ ap (λ s. entries_of s xs) t.1)
      | inr z ↦ rw z.0 (shows r ∙ none_more r xs x z.0)
    ] in
    let run = joined tree xs given before moves' made' by' shows' in
    let same : last.move.step.process ≡ q = last.mine in
    let does : node_makes (place_of tree last.move.step.process) (before last.move.step.process) last.move
    ≡ Makes last.effect (left last.move.step.process) =
    subst (λ s. node_makes (place_of tree s) (before s) last.move ≡ Makes last.effect (left s)) (sym same)
    (ap (λ n. node_makes (place_of tree q) n last.move) (here_one q last.node left) ∙ last.does) in
    let others : (r : ProcessId) → same_process last.move.step.process r ≡ false → before r ≡ left r =
    λ r away. there_one q r last.node left (ap (λ s. same_process s r) (sym same) ∙ away) in
    subst (λ y. IsOneRun tree (xs ++ y ∷ []) left) last.is
    (run_more tree xs before left last.move last.effect run last.by_this.0 does others
    (subst (λ y. IsGivenEntry tree (net_of xs) y) (sym last.is) is))

pub cuts_are_runs : CutsAreRuns
cuts_are_runs tree xs left cut = joined tree xs cut.given left cut.moves cut.made cut.by_this cut.shown

-- A cut grows.

pub cuts_grow : CutsGrow
cuts_grow tree xs old q x n' cut one is =
    let m : Made = record { move = one.move; effect = one.effect } in
    let at : x.step.process ≡ q = ap (λ (y : JournalEntry). y.step.process) (sym one.is) ∙ one.mine in
    let new : ProcessId → Node = at_one q n' old in
    let moves : ProcessId → List Made = at_one q (m ∷ one.moves) cut.moves in (
      new,
      record {
        moves = moves;
        made = λ r. elim (same_process_tells q r) [
          | inl t ↦ rw t.0 (subst (λ s. IsNodeRun (place_of tree s) (m ∷ one.moves) n') t.1
              (steps one.moves one.node one.move one.effect n' one.made one.mine one.makes))
          | inr z ↦ rw z.0 (cut.made r)
        ];
        by_this = λ r. elim (same_process_tells q r)
            [ inl t ↦ rw t.0 one.by_this | inr z ↦ rw z.0 (cut.by_this r) ];
        shown = λ r. elim (same_process_tells q r) [
          | inl t ↦ rw t.0 (journal_step m one.moves ∙ (ap (λ l. l ++ entry_of m ∷ []) one.shown
              ∙ (ap (λ y. entries_of q xs ++ y ∷ []) one.is
              ∙ (sym (own_more q xs x (ap (λ s. same_process s q) at ∙ self q))
              ∙ ap (λ s. entries_of s (xs ++ x ∷ [])) t.1))))
          | inr z ↦ rw z.0 (cut.shown r ∙ sym (none_more r xs x (ap (λ s. same_process s r) at ∙ z.0)))
        ];
        given = one_more xs x cut.given is;
      },
      record { own = here_one q n' old; others = λ r away. there_one q r n' old away },
    )

-- A run is cut.

pub made_own : (q : ProcessId) (m : Made) (ms : List Made) → same_process m.move.step.process q ≡ true
    → made_by q (m ∷ ms) ≡ m ∷ made_by q ms
unfolding made_by
made_own q m ms here = rw here refl

made_else : (q : ProcessId) (m : Made) (ms : List Made) → same_process m.move.step.process q ≡ false
    → made_by q (m ∷ ms) ≡ made_by q ms
unfolding made_by
made_else q m ms away = rw away refl

pub node_run : (tree : List TreeProcess) (es : List Made) (w : World) → IsRun tree es w → (q : ProcessId)
    → IsNodeRun (place_of tree q) (made_by q es) (w.at q)
unfolding made_by
node_run tree _ _ opens q = begins
node_run tree _ _ (makes es w m e w' run stands step) q =
    let at = makes_at tree w m e w' step in
    let made : Made = record { move = m; effect = e } in
    let before = node_run tree es w run in
    elim (same_process_tells m.step.process q) [
      | inl t ↦
          let p = m.step.process in
          let one : IsNodeRun (place_of tree p) (made ∷ made_by p es) at.node =
          steps (made_by p es) (w.at p) m e at.node (before p) refl at.made in
          let ms : made_by q (made ∷ es) ≡ made ∷ made_by q es = made_own q made es t.0 in
          let n : w'.at q ≡ at.node = ap (λ (v : World). v.at q) at.world ∙ (rw t.0 refl) in
          subst (λ l. IsNodeRun (place_of tree q) l (w'.at q)) (sym ms)
          (subst (λ k. IsNodeRun (place_of tree q) (made ∷ made_by q es) k) (sym n)
          (subst (λ s. IsNodeRun (place_of tree s) (made ∷ made_by s es) at.node) t.1 one))
      | inr z ↦
          let ms : made_by q (made ∷ es) ≡ made_by q es = made_else q made es z.0 in
          let n : w'.at q ≡ w.at q = ap (λ (v : World). v.at q) at.world ∙ (rw z.0 refl) in
          subst (λ l. IsNodeRun (place_of tree q) l (w'.at q)) (sym ms)
          (subst (λ k. IsNodeRun (place_of tree q) (made_by q es) k) (sym n) (before q))
    ]

-- of moves that a version made, those of a process it made too
pub made_by_all : (v : Version) (es : List Made) → AllBy v es → (q : ProcessId) → AllBy v (made_by q es)
unfolding made_by
made_by_all v [] by q = tt
made_by_all v (e ∷ es) by q = by_test (same_process e.move.step.process q) (made_by_all v es by.1 q)
  where
    by_test : (b : Bool) → AllBy v (made_by q es) → AllBy v (if b then e ∷ made_by q es else made_by q es)
    by_test true all = (by.0, all)
    by_test false all = all

pub own_entries : (es : List Made) (q : ProcessId) → journal_of (made_by q es) ≡ entries_of q (journal_of es)
unfolding made_by journal_of entries_of
own_entries [] q = refl
own_entries (e ∷ es) q = elim (same_process_tells e.move.step.process q) [
  | inl t ↦ ap journal_of (made_own q e es t.0) ∙ (ap (λ l. l ++ entry_of e ∷ []) (own_entries es q)
      ∙ sym (own_more q (journal_of es) (entry_of e) t.0))
  | inr z ↦ ap journal_of (made_else q e es z.0) ∙ (own_entries es q
      ∙ sym (none_more q (journal_of es) (entry_of e) z.0))
]

pub runs_are_cut : RunsAreCut
runs_are_cut tree es w run q = (node_run tree es w run q, own_entries es q)
