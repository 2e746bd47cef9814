-- A tree whose processes have restarted over logs that a run left goes on from that run.
use Rattle.std.proofs.Common.{◌≡◌, ◌∙◌, ◌||◌, ◌+◌, ap, sym, subst, refl, ℕ, Bool, true, false, cond, nat_lt, if◌then◌else◌, inl, inr, Option, Some, None, is_some, List, [], ◌∷◌, ◌++◌, append_assoc, map, arith}
use Rattle.std.specs.List.{count_by, flat_map, list_any}
use Rattle.std.proofs.lemmas.Bool.Decides.{nat_tests}
use Rattle.std.proofs.lemmas.List.{append-nil, map-append}
use Rattle.std.proofs.lemmas.List.Concat.{flat_map-append}
use Rattle.std.proofs.lemmas.List.Folds.{list_any-append}
use Rattle.std.proofs.lemmas.List.Sums.{sum_by-append}
use Rattle.protocol.specs.declared.names.ProcessId.{ProcessId}
use Rattle.protocol.specs.declared.messages.Envelope.{Envelope}
use Rattle.protocol.specs.declared.events.Happening.TheVariants.{Restart}
use Rattle.protocol.specs.declared.records.LogRecord.{LogRecord}
use Rattle.protocol.specs.declared.records.Record.{Record}
use Rattle.protocol.specs.declared.trees.TreeProcess.{TreeProcess}
use Rattle.protocol.specs.LogNames.{in_log, parent_of}
use Rattle.protocol.specs.Names.{same_process}
use Rattle.protocol.specs.NameLaws.{same_process_tells}
use Rattle.protocol.specs.Nodes.{Node, is_listed, place_of, role_of}
use Rattle.protocol.specs.Restarts.{left_of}
use Rattle.protocol.specs.Standings.{unknown_branch, unknown_view}
use Rattle.protocol.specs.Trees.{IsTree, lists_twice, times_listed}
use Rattle.protocol.specs.World.{Continues, Made, World, journal_of}
use Rattle.log_records.specs.Sights.{left_by, whole_within}
use Rattle.process_state.specs.States.{CoreState, forced_sight, form_of}
use Rattle.process_state.specs.Restarting.{ProcessRestarts}
use Rattle.process_state.specs.Turns.{no_answer}
use Rattle.tree_state.specs.StandsFor.{StandsFor}
use Rattle.tree_state.specs.Worlds.{Enters, WorldState, step_entry, undelivered}
use Rattle.proof_runs.specs.worlds.Follows.{StandsAt}
use Rattle.proof_runs.proofs.worlds.Kept.{keeps_own}
use Rattle.proof_runs.proofs.worlds.RunRestarts.{restarts_move}
use Rattle.proof_reopened.specs.Earlier.{Earlier, IsEarlier, IsSince, opens_over}
use Rattle.proof_reopened.specs.Since.{FollowsSince, GoesOnSince}
use Rattle.proof_reopened.specs.Reopened.{IsReopened}
use Rattle.proof_reopened.specs.Laws.{ReopenedTreesGoOn}
use Rattle.proof_reopened.proofs.Crashes.{IsDownWith, every_one_down}
use Rattle.proof_reopened.proofs.Moves.{MovesOne, entered_since, run_of}

-- Each process once.

none_counted : (p : TreeProcess → Bool) (es : List TreeProcess) → count_by p es ≡ 0 → list_any p es ≡ false
none_counted p [] z = refl
none_counted p (x ∷ es) z =
    by_test (p x) (sym (sum_by-append (λ y. cond (p y) 1 0) (x ∷ []) es) ∙ z) (none_counted p es)
  where
    by_test : (b : Bool) → (0 + cond b 1 0) + count_by p es ≡ 0
        → (count_by p es ≡ 0 → list_any p es ≡ false) → (b || list_any p es) ≡ false
    by_test true z rest = absurd (omega (arith, z))
    by_test false z rest = rest (omega (arith, z))

none_before : (before here behind all : ℕ) → nat_lt 1 all ≡ false → all ≡ before + here
    → here ≡ (0 + 1) + behind
    → before ≡ 0
none_before before here behind all once whole first = grind (arith, nat_tests)

few : (b : Bool) → (b ≡ true → true ≡ false) → b ≡ false
few true h = h refl
few false h = refl

itself : (q : ProcessId) → same_process q q ≡ true
itself q = elim (same_process_tells q q) [ inl t ↦ t.0 | inr z ↦ absurd (z.1 refl) ]

any_at : (p : TreeProcess → Bool) (done rest : List TreeProcess) (e : TreeProcess) → p e ≡ true
    → list_any p (done ++ e ∷ rest) ≡ true
any_at p done rest e h = list_any-append p done (e ∷ rest)
    ∙ second (list_any p done) (p e) (list_any p rest) h
  where
    second : (a b c : Bool) → b ≡ true → (a || (b || c)) ≡ true
    second true b c h = refl
    second false true c h = refl
    second false false c h = absurd (cc)

new_there : (tree done rest : List TreeProcess) (e : TreeProcess) → IsTree tree → tree ≡ done ++ e ∷ rest
    → is_listed done e.id ≡ false
unfolding is_listed lists_twice times_listed
new_there tree done rest e t is =
    let test = λ (y : TreeProcess). same_process y.id e.id in
    let once : nat_lt 1 (count_by test tree) ≡ false = few (nat_lt 1 (count_by test tree))
    (λ twice. sym (ap (list_any (λ x. nat_lt 1 (times_listed tree x.id))) is
    ∙ any_at (λ x. nat_lt 1 (times_listed tree x.id)) done rest e twice) ∙ t.listed_once) in
    none_counted test done
    (none_before (count_by test done) (count_by test (e ∷ rest)) (count_by test rest)
    (count_by test tree) once
    (ap (count_by test) is ∙ sum_by-append (λ y. cond (test y) 1 0) done (e ∷ rest))
    (sum_by-append (λ y. cond (test y) 1 0) (e ∷ []) rest
    ∙ ap (λ b. (0 + cond b 1 0) + count_by test rest) (itself e.id)))

listed_there : (tree done rest : List TreeProcess) (e : TreeProcess) → tree ≡ done ++ e ∷ rest
    → is_listed tree e.id ≡ true
unfolding is_listed
listed_there tree done rest e is =
    ap (list_any (λ y. same_process y.id e.id)) is ∙ any_at (λ y. same_process y.id e.id) done rest e
    (itself e.id)

listed_more : (done : List TreeProcess) (e : TreeProcess) (p : ProcessId)
    → is_listed (done ++ e ∷ []) p ≡ (is_listed done p || same_process e.id p)
unfolding is_listed
listed_more done e p = list_any-append (λ y. same_process y.id p) done (e ∷ [])
    ∙ last (list_any (λ y. same_process y.id p) done) (same_process e.id p)
  where
    last : (a b : Bool) → (a || (b || false)) ≡ (a || b)
    last true b = refl
    last false true = refl
    last false false = refl

listed_none : (q : ProcessId) → is_listed [] q ≡ false
unfolding is_listed
listed_none q = refl

-- A process that is down over these records.

abbrev down_core : List TreeProcess → ProcessId → List LogRecord → ℕ → CoreState
down_core tree q ls failures = record {
  place = place_of tree q;
  log = record (forced_sight (form_of (place_of tree q)) ls failures) { failed = true };
  boot = 0;
  begun = 0;
  given = 0;
  ticket_for = λ d. None;
  view_of = λ c. unknown_view;
  branch_of = λ c. unknown_branch;
  decided_of = λ c. None;
  spent = false;
}

down_stands : (tree : List TreeProcess) (q : ProcessId) (n : Node) (left : List Record)
    (ls : List LogRecord) (failures : ℕ)
    → IsDownWith n left → ls ≡ map (in_log (parent_of (role_of tree q))) left
    → StandsFor n (down_core tree q ls failures)
down_stands tree q n left ls failures d is = record {
  forced = is ∙ ap (map (in_log (parent_of (role_of tree q)))) (sym d.forced);
  unforced = sym (ap (map (in_log (parent_of (role_of tree q)))) d.unforced);
  failed = sym d.failed;
  up = λ runs. absurd (let clash : true ≡ false = sym d.failed ∙ runs in cc);
}

-- it restarts
down_left : (tree : List TreeProcess) (q : ProcessId) (ls : List LogRecord) (failures : ℕ)
    → left_by (down_core tree q ls failures).log 0 ≡ ls
unfolding whole_within
down_left tree q ls failures = append-nil ls

some_of : (o : Option CoreState) → is_some o ≡ true → (c : CoreState) × (o ≡ Some c)
some_of None h = absurd (cc)
some_of (Some c) h = (c, refl)

module _ (tree : List TreeProcess) (is_tree : IsTree tree) (logs : ProcessId → List LogRecord)
    (s : WorldState)
    (r : IsReopened tree logs s) (past : Earlier) (before : IsEarlier tree past)
    (stand : (q : ProcessId) → is_listed tree q ≡ true
    → StandsFor (past.world.at q) (down_core tree q (logs q) (r.failures q)))
  where
    down_at : Bool → ProcessId → Option CoreState
    down_at b q = if b then Some (down_core tree q (logs q) (r.failures q)) else None

    node_by : Bool → ProcessId → Option CoreState
    node_by b q = if b then s.node_at q else down_at (is_listed tree q) q

    -- N processes, the first ones, have restarted
    half : List TreeProcess → WorldState
    half done = record {
      tree = tree;
      node_at = λ q. node_by (is_listed done q) q;
      data_at = s.data_at;
      net = flat_map (λ e. (r.opening e.id).messages) done;
      delivered = undelivered (flat_map (λ e. (r.opening e.id).messages) done);
      entries = map (λ e. step_entry e.id (Restart 0) (r.opening e.id)) done;
    }

    none_yet : FollowsSince past [] past.world (half [])
    unfolding half node_by down_at journal_of
    none_yet = record {
      earlier = before;
      since = opens_over;
      shown = refl;
      nodes = λ q c there. down_is q c (is_listed tree q) refl
          (sym (ap (λ b. node_by b q) (listed_none q)) ∙ there);
      listed = λ q. ap (λ b. is_some (node_by b q)) (listed_none q) ∙ is_there (is_listed tree q) q;
    }
      where
        is_there : (b : Bool) (q : ProcessId) → is_some (down_at b q) ≡ b
        is_there true q = refl
        is_there false q = refl

        down_is : (q : ProcessId) (c : CoreState) (b : Bool) → is_listed tree q ≡ b → down_at b q ≡ Some c
            → StandsAt past.world (half []) q c
        down_is q c true listed there =
            subst (λ (d : CoreState). StandsAt past.world (half []) q d)
            (let is_it : down_core tree q (logs q) (r.failures q) ≡ c = cc in is_it)
            (record { place = refl; stands = stand q listed })
        down_is q c false listed there = absurd (cc)

    module _ (done rest : List TreeProcess) (e : TreeProcess) (is : tree ≡ done ++ e ∷ rest) where
      new : is_listed done e.id ≡ false
      new = new_there tree done rest e is_tree is

      listed : is_listed tree e.id ≡ true
      listed = listed_there tree done rest e is

      here : (c : CoreState) × (s.node_at e.id ≡ Some c)
      here = some_of (s.node_at e.id) (r.listed e.id ∙ listed)

      stood : (half done).node_at e.id ≡ Some (down_core tree e.id (logs e.id) (r.failures e.id))
      unfolding half node_by down_at
      stood = ap (λ b. node_by b e.id) new ∙ ap (λ b. down_at b e.id) listed

      left : (half (done ++ e ∷ [])).node_at e.id ≡ Some here.0
      unfolding half node_by
      left = ap (λ b. node_by b e.id) (listed_more done e e.id
          ∙ last (is_listed done e.id) (same_process e.id e.id) (itself e.id))
          ∙ here.1
        where
          last : (a b : Bool) → b ≡ true → (a || b) ≡ true
          last true b h = refl
          last false b h = h

      others : (p : ProcessId) → same_process e.id p ≡ false
          → (half (done ++ e ∷ [])).node_at p ≡ (half done).node_at p
      unfolding half
      others p away = ap (λ b. node_by b p) (listed_more done e p
          ∙ none (is_listed done p) (same_process e.id p) away)
        where
          none : (a b : Bool) → b ≡ false → (a || b) ≡ a
          none true b h = refl
          none false b h = h

      moves : MovesOne (half done) (half (done ++ e ∷ [])) e.id
          (down_core tree e.id (logs e.id) (r.failures e.id)) here.0
      unfolding half
      moves = record { tree = refl; stood = stood; stands = left; others = others }

      one_more : (xs : List Envelope) → xs ++ [] ≡ xs
      one_more xs = append-nil xs

      enters : Enters (half done) (half (done ++ e ∷ [])) e.id (Restart 0) (r.opening e.id)
          (half done).delivered
      unfolding half
      enters =
          let net : flat_map (λ (x : TreeProcess). (r.opening x.id).messages) (done ++ e ∷ [])
          ≡ flat_map (λ (x : TreeProcess). (r.opening x.id).messages) done ++ (r.opening e.id).messages =
          flat_map-append (λ (x : TreeProcess). (r.opening x.id).messages) done (e ∷ [])
          ∙ ap (λ xs. flat_map (λ (x : TreeProcess). (r.opening x.id).messages) done ++ xs)
          (append-nil (r.opening e.id).messages) in
          record {
            net = net;
            delivered = ap undelivered net
                ∙ map-append (λ l. false) (flat_map (λ (x : TreeProcess). (r.opening x.id).messages) done)
                (r.opening e.id).messages;
            entries = map-append (λ (x : TreeProcess). step_entry x.id (Restart 0) (r.opening x.id)) done
                (e ∷ []);
          }

      one_restarts : (es : List Made) (w : World) → FollowsSince past es w (half done)
          → GoesOnSince past es w (half (done ++ e ∷ []))
      unfolding whole_within half
      one_restarts es w f =
          let q = e.id in
          let ls = logs q in
          let old = down_core tree q ls (r.failures q) in
          let at = f.nodes q old stood in
          let over = r.nodes q here.0 here.1 in
          let made = restarts_move tree w q old here.0 refl at.stands listed
          (keeps_own tree (es ++ past.moves) w is_tree (run_of past es w (half done) f) q listed) 0
          (r.opening q)
          (over.restarts old (record { place_is = refl; failures_are = refl }) 0
          (down_left tree q ls (r.failures q))) in
          let restarts : ProcessRestarts old 0 here.0 (r.opening q) =
          over.restarts old (record { place_is = refl; failures_are = refl }) 0
          (down_left tree q ls (r.failures q)) in
          entered_since past es w (half done) (half (done ++ e ∷ [])) f q (Restart 0) no_answer
          old here.0 tt moves
          (r.opening q) (half done).delivered enters made.effect made.left made.makes made.shown
          restarts.place made.stands

    record Come (done : List TreeProcess) : Type 0 where
      moves : List Made
      world : World
      follows : FollowsSince past moves world (half done)

    rest_come : (rest done : List TreeProcess) → tree ≡ done ++ rest → Come done → Come (done ++ rest)
    rest_come [] done is f = subst Come (sym (append-nil done)) f
    rest_come (e ∷ rest) done is f =
        let g = one_restarts done rest e is f.moves f.world f.follows in
        subst Come (append_assoc done (e ∷ []) rest)
        (rest_come rest (done ++ e ∷ []) (is ∙ sym (append_assoc done (e ∷ []) rest))
        (record { moves = g.later ++ f.moves; world = g.world; follows = g.follows }))

    all_come : Come tree
    all_come = rest_come tree [] refl (record { moves = []; world = past.world; follows = none_yet })

    -- where all have, the tree stands as it is
    pub reached : (es : List Made) × (w : World) × FollowsSince past es w s
    unfolding half node_by down_at
    reached =
        let f = all_come.follows in (
          all_come.moves,
          all_come.world,
          record {
            earlier = subst (λ t. IsEarlier t past) (sym r.tree_is) before;
            since = same_run f;
            shown = f.shown ∙ sym r.entries;
            nodes = λ q c there. stands_here q c f (f.nodes q c (at_end q (is_listed tree q) refl ∙ there));
            listed = λ q. r.listed q ∙ ap (λ t. is_listed t q) (sym r.tree_is);
          },
        )
      where
        none_at : (q : ProcessId) → is_listed tree q ≡ false → s.node_at q ≡ None
        none_at q h = by_node (s.node_at q) (r.listed q ∙ h)
          where
            by_node : (o : Option CoreState) → is_some o ≡ false → o ≡ None
            by_node None k = refl
            by_node (Some c) k = absurd (cc)

        at_end : (q : ProcessId) (b : Bool) → is_listed tree q ≡ b → (half tree).node_at q ≡ s.node_at q
        at_end q true h = ap (λ b. node_by b q) h
        at_end q false h = ap (λ b. node_by b q) h ∙ (ap (λ b. down_at b q) h ∙ sym (none_at q h))

        stands_here : (q : ProcessId) (c : CoreState) → FollowsSince past all_come.moves all_come.world
            (half tree)
            → StandsAt all_come.world (half tree) q c → StandsAt all_come.world s q c
        stands_here q c f h = record {
          place = h.place ∙ ap (λ t. place_of t q) (sym r.tree_is);
          stands = h.stands;
        }

        same_run : FollowsSince past all_come.moves all_come.world (half tree)
            → IsSince s.tree past all_come.moves s.net all_come.world
        same_run f = subst (λ t. IsSince t past all_come.moves s.net all_come.world) (sym r.tree_is)
            (subst (λ (net : List Envelope). IsSince tree past all_come.moves net all_come.world)
            (sym r.net) f.since)

pub reopened_on : ReopenedTreesGoOn
reopened_on tree logs s es w is_tree r run left =
    let d = every_one_down tree es w run left.keep in
    let past : Earlier = record { moves = d.moves ++ es; world = d.world } in
    let before : IsEarlier tree past = record { is_run = d.is_run; down = λ q h. (d.down q h).failed } in
    let end = reached tree is_tree logs s r past before
    (λ q h. down_stands tree q (d.world.at q) (left_of (w.at q) (left.keep q)) (logs q)
    (r.failures q) (d.down q h)
    (left.left q h)) in
    record {
      crashes = d.moves;
      world = d.world;
      leads = subst (λ t. Continues t w d.moves d.world) (sym r.tree_is) d.leads;
      restarts = end.0;
      reached = end.1;
      follows = end.2;
    }
