-- What a process makes in a turn.
use Rattle.std.proofs.Common.{◌≡◌, ◌∙◌, ap, refl, sym, subst, ℕ, true, Some, All, Option, List, [], ◌∷◌, ◌++◌, append-nil, append_assoc, length, suc, ◌+◌, ◌≤◌, arith}
use Rattle.std.specs.Option.{option_to_list}
use Rattle.std.proofs.lemmas.List.Elements.{All-append, All-cons, All-head, All-nil, All-tail}
use Rattle.protocol.specs.declared.names.ProcessId.{ProcessId}
use Rattle.protocol.specs.declared.messages.Envelope.{Envelope}
use Rattle.protocol.specs.declared.events.JournalEntry.{JournalEntry}
use Rattle.protocol.specs.declared.events.Step.{Step}
use Rattle.protocol.specs.declared.events.Event.TheVariants.{Deliver}
use Rattle.protocol.specs.declared.trees.TreeProcess.{TreeProcess}
use Rattle.protocol.specs.Nodes.{is_listed}
use Rattle.protocol.specs.Trees.{root_of}
use Rattle.process_state.specs.States.{CoreState, SameCore}
use Rattle.resource_manager.specs.Data.{ManagerData, DataRests}
use Rattle.proof_cuts.specs.Alone.{IsMine, MakesAlone, RunsAlone}
use Rattle.tree_state.specs.Cuts.{FindsMessage, IsGivenEntry}
use Rattle.proof_cuts.specs.Owns.{OwnRun}
use Rattle.proof_cuts.specs.Turns.{AllGiven, GoesAlone, begins_alone, goes_alone, rests_alone}
use Rattle.proof_cuts.proofs.Turns.{runs_on}
use Rattle.cluster_journal.specs.declared.marks.MarkedMessage.{MarkedMessage}
use Rattle.cluster_journal.specs.Marks.{IsNextOpen}
use Rattle.cluster_ties.specs.declared.views.ProcessView.{ProcessView}
use Rattle.cluster_ties.specs.declared.views.View.{View}
use Rattle.cluster_ties.specs.Seats.{IsProcessSeat}
use Rattle.cluster_ties.specs.Views.{AreBy, AreOf, entries_in, places_from, worker}
use Rattle.cluster_ties.proofs.Lists.{in_more}
use Rattle.cluster_process.specs.declared.making.Made.{Made}
use Rattle.cluster_process.specs.Makes.{IsAt}
use Rattle.cluster_process.specs.Marks.{Delivers}
use Rattle.cluster_process.specs.Passes.{NotesAll, NotesOne, PassState}
use Rattle.cluster_process.specs.Posts.{DeliversTurn}
use Rattle.cluster_process.specs.Turns.{AreNext, AreNumbered, AreOpen, GoesFurther, IsDeliveryAt, IsNext, MadeTurn, MakesStep}
use Rattle.cluster_process.proofs.Asked.{finds_it, mine_it}
use Rattle.cluster_process.proofs.OwnSteps.{step_alone}

-- Seats.

pub of_worker : (me : View × List (ℕ × List (ℕ × JournalEntry))) (p : ProcessView) → me ≡ (worker p, [])
    → p.works ≡ true
    → IsProcessSeat me
of_worker me p is works =
    let same : me.0.process ≡ p = ap (λ m. m.0.process) is in
    (is ∙ ap (λ x. (worker x, [])) (sym same), ap (λ (x : ProcessView). x.works) same ∙ works)

-- Entries of a process.

pub are_of : (tree : List TreeProcess) (net : List Envelope) (q : ProcessId) (zs : List (ℕ × JournalEntry))
    → AllGiven tree net q (entries_in zs) → AreOf (Some q) zs
are_of tree net q [] all = tt
are_of tree net q (z ∷ zs) all = (ap Some (sym all.0), are_of tree net q zs all.2)

pub by_more : (c : ℕ) (xs ys : List (ℕ × JournalEntry)) → AreBy c xs → AreBy c ys → AreBy c (xs ++ ys)
by_more c [] ys a b = b
by_more c (x ∷ xs) ys a b = (a.0, by_more c xs ys a.1 b)

-- a delivery may come after the net
given_one : (tree : List TreeProcess) (net : List Envelope) (q : ProcessId) (x : JournalEntry)
    → is_listed tree q ≡ true
    → IsAt q x → FindsMessage net q x.step.happening → IsGivenEntry tree net x
given_one tree net q x listed is finds = record {
  listed = ap (λ p. is_listed tree p) is.process ∙ listed;
  finds = subst (λ p. FindsMessage net p x.step.happening) (sym is.process) finds;
  unfailed = is.unfailed;
}

pub all_given : (tree : List TreeProcess) (net : List Envelope) (q : ProcessId) (s : CoreState)
    (xs : List JournalEntry)
    → is_listed tree q ≡ true → All (IsDeliveryAt net q) xs → AllGiven tree net q xs
all_given tree net q s [] listed all = tt
all_given tree net q s (x ∷ xs) listed all =
    let one = All-head (IsDeliveryAt net q) x xs all in (
      one.is.at.process,
      given_one tree net q x listed one.is.at
          (finds_it net q s (Deliver one.number) x.step.happening 0 one.is.delivers),
      all_given tree net q s xs listed (All-tail (IsDeliveryAt net q) x xs all),
    )

-- One turn after another.

pub goes_still : (tree : List TreeProcess) (q : ProcessId) (s : CoreState) (d : ManagerData)
    (xs : List JournalEntry)
    (t : CoreState) (e : ManagerData) (ys : List JournalEntry) (u : CoreState) (f : ManagerData)
    → GoesAlone tree q s d xs t e
    → GoesAlone tree q t e ys u f → GoesAlone tree q s d (xs ++ ys) u f
goes_still tree q s d xs t e _ _ _ one begins_alone =
    subst (λ l. GoesAlone tree q s d l t e) (sym (append-nil xs)) one
goes_still tree q s d xs t e _ _ _ one (rests_alone ys u v f g two same rests) =
    rests_alone (xs ++ ys) u v f g (goes_still tree q s d xs t e ys u f one two) same rests
goes_still tree q s d xs t e _ _ _ one (goes_alone ys y u v f g two step) =
    subst (λ l. GoesAlone tree q s d l v g) (append_assoc xs ys (y ∷ []))
    (goes_alone (xs ++ ys) y u v f g (goes_still tree q s d xs t e ys u f one two) step)

module _ (tree : List TreeProcess) (net : List Envelope) (q : ProcessId) (caller : ℕ) where
  -- nothing more
  pub further_none : (zs : List (ℕ × JournalEntry)) (s : CoreState) (d : ManagerData)
      → GoesFurther tree net q caller zs zs s s d d
  further_none zs s d = record {
    more = [];
    new_are = sym (append-nil zs);
    goes = begins_alone;
    deliver = All-nil (IsDeliveryAt net q);
    by_caller = tt;
  }

  -- the next was refused
  pub further_rests : (zs : List (ℕ × JournalEntry)) (s t : CoreState) (d e : ManagerData) → SameCore s t
      → DataRests d e
      → GoesFurther tree net q caller zs zs s t d e
  further_rests zs s t d e same rests = record {
    more = [];
    new_are = sym (append-nil zs);
    goes = rests_alone [] s t d e begins_alone same rests;
    deliver = All-nil (IsDeliveryAt net q);
    by_caller = tt;
  }

  pub further_on : (xs ys zs : List (ℕ × JournalEntry)) (s t u : CoreState) (d e f : ManagerData)
      → GoesFurther tree net q caller xs ys s t d e → GoesFurther tree net q caller ys zs t u e f
      → GoesFurther tree net q caller xs zs s u d f
  further_on xs ys zs s t u d e f one two = record {
    more = one.more ++ two.more;
    new_are = two.new_are ∙ (ap (λ l. l ++ two.more) one.new_are ∙ append_assoc xs one.more two.more);
    goes = subst (λ l. GoesAlone tree q s d l u f) (sym (in_more one.more two.more))
        (goes_still tree q s d (entries_in one.more) t e (entries_in two.more) u f one.goes two.goes);
    deliver = subst (λ l. All (IsDeliveryAt net q) l) (sym (in_more one.more two.more))
        (All-append (IsDeliveryAt net q) (entries_in one.more) (entries_in two.more) one.deliver two.deliver);
    by_caller = by_more caller one.more two.more one.by_caller two.by_caller;
  }

  -- the entry is of the marked step
  at_step : (w x : JournalEntry) → IsAt q w → x.step ≡ w.step → IsAt q x
  at_step w x is same = record {
    process = ap (λ (y : Step). y.process) same ∙ is.process;
    unfailed = ap (λ (y : Step). y.fault) same ∙ is.unfailed;
  }

  delivery_step : (w x : JournalEntry) → IsDeliveryAt net q w → x.step ≡ w.step → IsDeliveryAt net q x
  delivery_step w x is same = record {
    number = is.number;
    is = record {
      at = at_step w x is.is.at same;
      delivers = subst (λ (y : Step). Delivers net q is.number y.happening) (sym same) is.is.delivers;
    };
  }

  -- an act of this process, which a message is not
  mine_delivery : (w : JournalEntry) (s : CoreState) → IsDeliveryAt net q w
      → IsMine (root_of tree) q w.step.happening
  mine_delivery w s is = mine_it (root_of tree) q net s (Deliver is.number) w.step.happening 0
      tt is.is.delivers

  -- one more
  pub further_one : (zs new : List (ℕ × JournalEntry)) (w x : JournalEntry) (s t : CoreState)
      (d e : ManagerData) (keep : ℕ)
      → new ≡ zs ++ (caller, x) ∷ [] → x.step ≡ w.step → IsDeliveryAt net q w
      → MakesAlone s t d e keep x.step.happening x.reaction → GoesFurther tree net q caller zs new s t d e
  further_one zs new w x s t d e keep are same is made = record {
    more = (caller, x) ∷ [];
    new_are = are;
    goes = goes_alone [] x s t d e begins_alone
        (step_alone tree q s t d e keep w x is.is.at (mine_delivery w s is) same made);
    deliver = All-cons (IsDeliveryAt net q) x [] (delivery_step w x is same) (All-nil (IsDeliveryAt net q));
    by_caller = (refl, tt);
  }

  -- The first step of a turn, and then the others.
  pub record WholeTurn (new : List (ℕ × JournalEntry)) (s u : CoreState) (d f : ManagerData) : Type 0 where
    pub entry : JournalEntry
    pub more : List (ℕ × JournalEntry)
    pub new_are : new ≡ (caller, entry) ∷ more
    pub goes : GoesAlone tree q s d (entries_in ((caller, entry) ∷ more)) u f
    pub deliver : All (IsDeliveryAt net q) (entries_in more)
    pub by_caller : AreBy caller ((caller, entry) ∷ more)

  pub whole : (w : JournalEntry) (keep : ℕ) (s t u : CoreState) (d e f : ManagerData) (m : Made)
      (new : List (ℕ × JournalEntry))
      → IsAt q w → IsMine (root_of tree) q w.step.happening → MakesStep caller w keep s t d e m
      → GoesFurther tree net q caller m.turn.entries new t u e f → WholeTurn new s u d f
  whole w keep s t u d e f m new is mine step further = record {
    entry = step.entry;
    more = further.more;
    new_are = further.new_are ∙ ap (λ l. l ++ further.more) step.entries_are;
    goes = goes_still tree q s d (step.entry ∷ []) t e (entries_in further.more) u f
        (goes_alone [] step.entry s t d e begins_alone
        (step_alone tree q s t d e keep w step.entry is mine step.step step.makes))
        further.goes;
    deliver = further.deliver;
    by_caller = (refl, further.by_caller);
  }

  -- what a process that stood so made of it may be entered
  made_of : (own : List JournalEntry) (w x : JournalEntry) (new : List (ℕ × JournalEntry)) (s u : CoreState)
      (d f : ManagerData)
      → is_listed tree q ≡ true → OwnRun tree q own s → IsAt q w → FindsMessage net q w.step.happening
      → (turn : WholeTurn new s u d f) → turn.entry ≡ x → x.step ≡ w.step
      → MadeTurn tree net q caller own new u
  made_of own w x new s u d f listed run is finds turn same step =
      let same_step : turn.entry.step ≡ w.step = ap (λ (y : JournalEntry). y.step) same ∙ step in
      let zs : List (ℕ × JournalEntry) = (caller, turn.entry) ∷ turn.more in
      subst (λ l. MadeTurn tree net q caller own l u) (sym turn.new_are) (record {
        stood = s;
        held = d;
        left = f;
        run = run;
        goes = turn.goes;
        given = (
          (at_step w turn.entry is same_step).process,
          given_one tree net q turn.entry listed (at_step w turn.entry is same_step)
              (subst (λ (y : Step). FindsMessage net q y.happening) (sym same_step) finds),
          all_given tree net q s (entries_in turn.more) listed turn.deliver,
        );
        by_caller = turn.by_caller;
      })

  pub turn_made : (own : List JournalEntry) (w : JournalEntry) (keep : ℕ) (s t u : CoreState)
      (d e f : ManagerData) (m : Made)
      (new : List (ℕ × JournalEntry)) → is_listed tree q ≡ true → OwnRun tree q own s → IsAt q w
      → IsMine (root_of tree) q w.step.happening → FindsMessage net q w.step.happening
      → MakesStep caller w keep s t d e m → GoesFurther tree net q caller m.turn.entries new t u e f
      → MadeTurn tree net q caller own new u
  unfolding whole
  turn_made own w keep s t u d e f m new listed run is mine finds step further =
      made_of own w step.entry new s u d f listed run is finds
      (whole w keep s t u d e f m new is mine step further) refl
      step.step

  -- and it made it by itself
  pub turn_runs : (own : List JournalEntry) (w : JournalEntry) (keep : ℕ) (s t u : CoreState)
      (d e f : ManagerData) (m : Made)
      (new : List (ℕ × JournalEntry)) → IsAt q w → IsMine (root_of tree) q w.step.happening
      → MakesStep caller w keep s t d e m → GoesFurther tree net q caller m.turn.entries new t u e f
      → RunsAlone tree q own s d → RunsAlone tree q (own ++ entries_in new) u f
  turn_runs own w keep s t u d e f m new is mine step further ran =
      let turn = whole w keep s t u d e f m new is mine step further in
      subst (λ l. RunsAlone tree q (own ++ entries_in l) u f) (sym turn.new_are)
      (runs_on tree q own s d (entries_in ((caller, turn.entry) ∷ turn.more)) u f ran turn.goes)

  -- a turn of deliveries
  pub turn_delivers : (own : List JournalEntry) (number : ℕ) (w : JournalEntry) (keep : ℕ) (s t u : CoreState)
      (d e f : ManagerData)
      (m : Made) (new : List (ℕ × JournalEntry)) (old_pass new_pass : PassState) (place : ℕ) → IsAt q w
      → IsMine (root_of tree) q w.step.happening → Delivers net q number w.step.happening
      → MakesStep caller w keep s t d e m → GoesFurther tree net q caller m.turn.entries new t u e f
      → RunsAlone tree q own s d → NotesAll old_pass new_pass place new
      → DeliversTurn tree q number old_pass new_pass place
  unfolding whole
  turn_delivers own number w keep s t u d e f m new old_pass new_pass place is mine delivers step
      further ran notes =
      let turn = whole w keep s t u d e f m new is mine step further in
      record {
        net = net;
        first = (caller, step.entry);
        more = further.more;
        notes = subst (λ l. NotesAll old_pass new_pass place l) turn.new_are notes;
        own = own;
        before = s;
        behind = u;
        held = d;
        kept = f;
        ran = ran;
        goes = turn.goes;
        delivers_it = (
          delivers.envelope.message,
          ap (λ (y : Step). y.happening) step.step ∙ delivers.happens,
        );
        deliver = further.deliver;
      }

-- The first of what is marked.

pub popped : (old new : List JournalEntry) (o : Option JournalEntry) (x : JournalEntry)
    → old ≡ option_to_list o ++ new → o ≡ Some x
    → old ≡ x ∷ new
popped old new o x is some = is ∙ ap (λ y. option_to_list y ++ new) some

pub first_of : (net : List Envelope) (q : ProcessId) (old new : List JournalEntry) (x : JournalEntry)
    → All (IsDeliveryAt net q) old → old ≡ x ∷ new → IsDeliveryAt net q x
first_of net q old new x all is =
    All-head (IsDeliveryAt net q) x new (subst (λ l. All (IsDeliveryAt net q) l) is all)

pub rest_of : (net : List Envelope) (q : ProcessId) (old new : List JournalEntry) (x : JournalEntry)
    → All (IsDeliveryAt net q) old → old ≡ x ∷ new → All (IsDeliveryAt net q) new
rest_of net q old new x all is =
    All-tail (IsDeliveryAt net q) x new (subst (λ l. All (IsDeliveryAt net q) l) is all)

-- one is less to be made than were, and there is room for one less
pub room_of : (old new : List JournalEntry) (x : JournalEntry) (was now : ℕ) → old ≡ x ∷ new
    → length old ≤ was → now + 1 ≡ was
    → length new ≤ now
room_of old new x was now is fits pushed =
    let long : length old ≡ length new + 1 = ap length is ∙ one (length new) in
    omega (arith, long, fits, pushed)
  where
    one : (n : ℕ) → suc n ≡ n + 1
    one n = omega arith

-- What a pass notes of one entry.
pub notes_one : (old new : PassState) (place c : ℕ) (x : JournalEntry) (zs : List (ℕ × JournalEntry))
    → NotesAll old new place zs
    → zs ≡ (c, x) ∷ [] → NotesOne old new place x
notes_one old new place c x zs notes are = record {
  caller = notes.caller;
  pairs = notes.pairs ∙ ap (λ l. old.pairs ++ places_from place l) are;
}

-- Deliveries in order of sending.

pub deliveries_of : (net : List Envelope) (q : ProcessId) (ns : List ℕ) (xs : List JournalEntry)
    → AreNumbered net q ns xs
    → All (IsDeliveryAt net q) xs
deliveries_of net q [] [] are = All-nil (IsDeliveryAt net q)
deliveries_of net q [] (x ∷ xs) are = absurd are
deliveries_of net q (n ∷ ns) [] are = absurd are
deliveries_of net q (n ∷ ns) (x ∷ xs) are =
    All-cons (IsDeliveryAt net q) x xs (record { number = n; is = are.0 }) (deliveries_of net q ns xs are.1)

-- the last of these numbers, or the one before them
abbrev pub last_of : ℕ → List ℕ → ℕ
last_of k [] = k
last_of k (n ∷ ns) = last_of n ns

-- those that are marked so far, of which this number is the last
pub record NextSoFar (net : List Envelope) (q : ProcessId) (marks : List MarkedMessage) (after : ℕ)
    (xs : List JournalEntry)
    (last : ℕ) : Type 0 where
  pub next : AreNext net q marks after xs
  pub last_is : last_of after next.numbers ≡ last

pub none_yet : (net : List Envelope) (q : ProcessId) (marks : List MarkedMessage) (after : ℕ)
    → NextSoFar net q marks after [] after
none_yet net q marks after = record {
  next = record { numbers = []; in_order = tt; deliver = tt };
  last_is = refl;
}

open_more : (q : ProcessId) (marks : List MarkedMessage) (k : ℕ) (ns : List ℕ) (n : ℕ) → AreOpen q marks k ns
    → IsNextOpen q (last_of k ns) n marks → AreOpen q marks k (ns ++ n ∷ [])
open_more q marks k [] n are is = (is, tt)
open_more q marks k (m ∷ ns) n are is = (are.0, open_more q marks m ns n are.1 is)

last_more : (k : ℕ) (ns : List ℕ) (n : ℕ) → last_of k (ns ++ n ∷ []) ≡ n
last_more k [] n = refl
last_more k (m ∷ ns) n = last_more m ns n

numbered_more : (net : List Envelope) (q : ProcessId) (ns : List ℕ) (xs : List JournalEntry) (n : ℕ)
    (x : JournalEntry)
    → AreNumbered net q ns xs → IsNext net q n x → AreNumbered net q (ns ++ n ∷ []) (xs ++ x ∷ [])
numbered_more net q [] [] n x are is = (is, tt)
numbered_more net q [] (y ∷ xs) n x are is = absurd are
numbered_more net q (m ∷ ns) [] n x are is = absurd are
numbered_more net q (m ∷ ns) (y ∷ xs) n x are is = (are.0, numbered_more net q ns xs n x are.1 is)

pub one_next : (net : List Envelope) (q : ProcessId) (marks : List MarkedMessage) (after last n : ℕ)
    (xs new : List JournalEntry)
    (x : JournalEntry) → NextSoFar net q marks after xs last → IsNextOpen q last n marks → IsNext net q n x
    → new ≡ xs ++ x ∷ [] → NextSoFar net q marks after new n
one_next net q marks after last n xs new x far is_next is are =
    let ns = far.next.numbers in
    subst (λ l. NextSoFar net q marks after l n) (sym are) (record {
      next = record {
        numbers = ns ++ n ∷ [];
        in_order = open_more q marks after ns n far.next.in_order
            (subst (λ k. IsNextOpen q k n marks) (sym far.last_is) is_next);
        deliver = numbered_more net q ns xs n x far.next.deliver is;
      };
      last_is = last_more after ns n;
    })
