-- What a run adds to its journal is, process by process, inputs that the process handles one after another,
-- if it neither restarts nor trims nor fails.
use Rattle.std.proofs.Common.{◌≡◌, ◌∙◌, inl, inr, Bool, true, false, Option, Some, None, List, [], ◌∷◌, ◌++◌, refl, sym, ap, subst, if◌then◌else◌}
use Rattle.std.specs.Prelude.{filter, is_none}
use Rattle.std.specs.List.{list_all}
use Rattle.std.proofs.lemmas.Bool.{and_parts}
use Rattle.std.proofs.lemmas.List.{append-nil}
use Rattle.std.proofs.lemmas.List.Elements.{filter-append}
use Rattle.protocol.specs.declared.names.ProcessId.{ProcessId}
use Rattle.protocol.specs.declared.events.JournalEntry.{JournalEntry}
use Rattle.protocol.specs.declared.events.Fault.{Fault}
use Rattle.protocol.specs.declared.events.Happening.{Happening}
use Rattle.protocol.specs.declared.events.Happening.TheVariants.{Restart, Trim}
use Rattle.protocol_words.specs.Variants.{Handles}
use Rattle.protocol.specs.declared.events.Input.{Input}
use Rattle.protocol.specs.declared.trees.TreeProcess.{TreeProcess}
use Rattle.protocol.specs.Names.{same_process}
use Rattle.protocol.specs.NameLaws.{same_process_tells}
use Rattle.protocol.specs.Nodes.{Effect, Heard, Node, Place, after, place_of, reaction_of}
use Rattle.protocol.specs.Reactions.{Does, is_passed_over, reacts}
use Rattle.protocol.specs.World.{Continues, IsRun, Made, Move, World, entries_of, entry_of, goes_on, journal_of, makes, put_at, shown, stays}
use Rattle.protocol.proofs.RunLaws.{makes_at}
use Rattle.proof_pairs.specs.turns.Steps.{StepOf, failed_in, failed_passing, failed_reopening, failed_trimming, handled, heard_in, passed, reopened, trims_log}
use Rattle.proof_pairs.proofs.turns.Steps.{step_of}
use Rattle.protocol.specs.declared.names.Case.{Case}
use Rattle.proof_costs.specs.Journals.{Cause, cause_of, causes, is_input, is_of, is_plain}

-- Moves of one process.

module _ (place : Place) (F : Node → Type 0) where
  -- moves of a process, the oldest first, lead from one node to another, and the fact holds before each
  pub data Chain : Node → List JournalEntry → Node → Type 0 where
    ends : (n : Node) → Chain n [] n
    goes : (n k n' : Node) (m : Move) (e : Effect) (es : List JournalEntry) → F n → StepOf place n m e k
        → Chain k es n'
        → Chain n (entry_of (record { move = m; effect = e }) ∷ es) n'

  -- one more
  chain_last : (n k k' : Node) (es : List JournalEntry) (m : Move) (e : Effect) → Chain n es k → F k
      → StepOf place k m e k'
      → Chain n (es ++ entry_of (record { move = m; effect = e }) ∷ []) k'
  chain_last _ _ k' _ m e (ends n) f s = goes n k' k' m e [] f s (ends k')
  chain_last _ _ k' _ m e (goes n k n' m2 e2 es g s2 c) f s =
      goes n k k' m2 e2 (es ++ entry_of (record { move = m; effect = e }) ∷ []) g s2
      (chain_last k n' k' es m e c f s)

  -- inputs that a process handles, the oldest first, lead from one node to another, and the fact holds before
  -- each
  pub data Plain : Node → List JournalEntry → Node → Type 0 where
    done : (n : Node) → Plain n [] n
    handles : (n n' : Node) (h : Heard) (e : Effect) (entry : JournalEntry) (es : List JournalEntry) → F n
        → entry.step.happening ≡ Handles h.input → entry.reaction ≡ reaction_of e → reacts place n h ≡ Does e
        → Plain (after n h e) es n' → Plain n (entry ∷ es) n'

  module _ (never_passes : (n : Node) (i : Input) → is_passed_over place n i ≡ false) where
    none_failed : (f : Option Fault) → is_none f ≡ true → f ≡ None
    none_failed None e = refl
    none_failed (Some f) e = absurd (cc)

    some_failed : {A : Type 0} (f : Fault) (o : Option Fault) → o ≡ Some f → is_none o ≡ true → A
    some_failed f o e g = absurd (let k = sym e ∙ none_failed o g in cc)

    no_input : {A : Type 0} (h : Happening) → h ≡ Trim → is_input h ≡ true → A
    no_input h e g = absurd (let k : is_input Trim ≡ true = ap is_input (sym e) ∙ g in cc)

    no_restart : {A : Type 0} (h : Happening) (k : _) → h ≡ Restart k → is_input h ≡ true → A
    no_restart h k e g = absurd (let l : is_input (Restart k) ≡ true = ap is_input (sym e) ∙ g in cc)

    passes_none : {A : Type 0} (n : Node) (i : Input) → is_passed_over place n i ≡ true → A
    passes_none n i e = absurd (let k = sym e ∙ never_passes n i in cc)

    plain_step : (n k n' : Node) (m : Move) (e : Effect) (es : List JournalEntry) → F n → StepOf place n m e k
        → is_input m.step.happening ≡ true → is_none m.step.fault ≡ true → Plain k es n'
        → Plain n (entry_of (record { move = m; effect = e }) ∷ es) n'
    plain_step n _ n' m _ es f (handled i g hp np r) a b c =
        handles n n' (heard_in m i) g (entry_of (record { move = m; effect = g })) es f hp
        (ap (λ (o : Option Fault). shown o g) (none_failed m.step.fault b)) r c
    plain_step n _ n' m _ es f (failed_in i x g fl hp np r) a b c = some_failed x m.step.fault fl b
    plain_step n _ n' m _ es f (passed i hp r) a b c = passes_none n i r
    plain_step n _ n' m _ es f (failed_passing i x fl hp r) a b c = passes_none n i r
    plain_step n _ n' m _ es f (reopened j hp) a b c = no_restart m.step.happening j hp a
    plain_step n _ n' m _ es f (failed_reopening j x fl hp) a b c = no_restart m.step.happening j hp a
    plain_step n _ n' m _ es f (trims_log hp up) a b c = no_input m.step.happening hp a
    plain_step n _ n' m _ es f (failed_trimming x fl hp up) a b c = no_input m.step.happening hp a

    -- undisturbed moves are inputs that it handles
    pub plain_of : (n : Node) (es : List JournalEntry) (n' : Node) → Chain n es n'
        → list_all is_plain es ≡ true
        → Plain n es n'
    plain_of _ _ _ (ends n) a = done n
    plain_of _ _ _ (goes n k n' m e es f s c) a =
        let now = and_parts (is_plain (entry_of (record { move = m; effect = e }))) (list_all is_plain es) a
        in
        let both = and_parts (is_input m.step.happening) (is_none m.step.fault) now.0 in
        plain_step n k n' m e es f s both.0 both.1 (plain_of k es n' c now.1)

-- Over a run.

module _ (tree : List TreeProcess) (p : ProcessId) (F : Node → Type 0)
    (holds : (es : List Made) (w : World) → IsRun tree es w → F (w.at p))
  where
    abbrev C : Node → List JournalEntry → Node → Type 0
    C n es k = Chain (place_of tree p) F n es k

    -- a run that goes on is a run
    record Onward (w : World) : Type 0 where
      moves : List Made
      run : IsRun tree moves w

    onward : (es : List Made) (w : World) → IsRun tree es w → (later : List Made) (w' : World)
        → Continues tree w later w' → Onward w'
    onward es w run _ _ stays = record { moves = es; run = run }
    onward es w run _ _ (goes_on fs v m e v' before stands made) =
        let o = onward es w run fs v before in
        record {
          moves = record { move = m; effect = e } ∷ o.moves;
          run = makes o.moves v m e v' o.run stands made;
        }

    entries_then : (fs : List Made) (e : Made)
        → entries_of p (journal_of (e ∷ fs))
        ≡ entries_of p (journal_of fs)
        ++ (if same_process e.move.step.process p then entry_of e ∷ [] else [])
    unfolding entries_of journal_of
    entries_then fs e = filter-append (λ x. same_process x.step.process p) (journal_of fs) (entry_of e ∷ [])

    -- the entries of a process are its moves
    pub chain_of : (es : List Made) (w : World) → IsRun tree es w → (later : List Made) (w' : World)
        → Continues tree w later w' → C (w.at p) (entries_of p (journal_of later)) (w'.at p)
    unfolding entries_of journal_of
    chain_of es w run _ _ stays = ends (w.at p)
    chain_of es w run _ _ (goes_on fs v m e v' before stands made) =
        let now = makes_at tree v m e v' made in
        let q = m.step.process in
        let f = holds (onward es w run fs v before).moves v (onward es w run fs v before).run in
        let old = chain_of es w run fs v before in
        let entry = entry_of (record { move = m; effect = e }) in
        let P : World → Type 0 = λ x. C (w.at p)
        (entries_of p (journal_of (record { move = m; effect = e } ∷ fs))) (x.at p) in
        let Q : List JournalEntry → Type 0 = λ l. C (w.at p) l (put_at q now.node v.at p) in
        subst P (sym now.world)
        (subst Q (sym (entries_then fs (record { move = m; effect = e })))
        (elim (same_process_tells q p) [
          | inl t ↦
              let R : ProcessId → Type 0 = λ x. StepOf (place_of tree x) (v.at x) m e now.node in
              rw t.0 (chain_last (place_of tree p) F (w.at p) (v.at p) now.node
              (entries_of p (journal_of fs)) m e old f
              (subst R t.1 (step_of (place_of tree q) (v.at q) m e now.node now.made)))
          | inr g ↦ rw g.0 (subst (λ l. C (w.at p) l (v.at p))
              (sym (append-nil (entries_of p (journal_of fs)))) old)
        ]))

-- Which of them are of a case.

module _ (place : Place) (F : Node → Type 0) (q : Case → Bool) {V : Type 0} (see : Node → V)
    (leaves : (n : Node) (h : Heard) (e : Effect) (entry : JournalEntry) → F n
    → entry.step.happening ≡ Handles h.input
    → entry.reaction ≡ reaction_of e → reacts place n h ≡ Does e → is_of q entry ≡ false
    → see (after n h e) ≡ see n)
  where
    abbrev P : Node → List JournalEntry → Node → Type 0
    P n es k = Plain place F n es k

    abbrev mine : List JournalEntry → List JournalEntry
    mine es = filter (is_of q) es

    -- the first of them that is of the case: what is seen of it stays up to there
    pub record Next (n : Node) (es : List JournalEntry) (n' : Node) (c : Cause)
        (cs : List Cause) : Type 0 where
      pub at : Node
      pub seen : see at ≡ see n
      pub fact : F at
      pub heard : Heard
      pub effect : Effect
      pub entry : JournalEntry
      pub rest : List JournalEntry
      pub handles_it : entry.step.happening ≡ Handles heard.input
      pub shows_it : entry.reaction ≡ reaction_of effect
      pub reacts_so : reacts place at heard ≡ Does effect
      pub goes_on_plain : Plain place F (after at heard effect) rest n'
      pub is_next : filter (is_of q) es ≡ entry ∷ filter (is_of q) rest
      pub by_cause : cause_of entry.step.happening ≡ c
      pub then_causes : causes (filter (is_of q) rest) ≡ cs

    first_cause : (a b : Cause) (as' bs : List Cause) → a ∷ as' ≡ b ∷ bs → a ≡ b
    first_cause a b as' bs e = cc

    rest_causes : (a b : Cause) (as' bs : List Cause) → a ∷ as' ≡ b ∷ bs → as' ≡ bs
    rest_causes a b as' bs e = cc

    pub next_of : (n : Node) (es : List JournalEntry) (n' : Node) → Plain place F n es n'
        → (c : Cause) (cs : List Cause)
        → causes (filter (is_of q) es) ≡ c ∷ cs → Next n es n' c cs
    next_of _ _ _ (done n) c cs e = absurd (cc)
    next_of _ _ _ (handles n n' h e entry es f hp sh r p) c cs same =
        by_test (is_of q entry) refl (λ k. next_of (after n h e) es n' p c cs k) same
      where
        by_test : (b : Bool) → is_of q entry ≡ b
            → (causes (filter (is_of q) es) ≡ c ∷ cs → Next (after n h e) es n' c cs)
            → causes (if b then entry ∷ filter (is_of q) es else filter (is_of q) es) ≡ c ∷ cs
            → Next n (entry ∷ es) n' c cs
        by_test true t later k = record {
          at = n;
          seen = refl;
          fact = f;
          heard = h;
          effect = e;
          entry = entry;
          rest = es;
          handles_it = hp;
          shows_it = sh;
          reacts_so = r;
          goes_on_plain = p;
          is_next = rw t refl;
          by_cause = first_cause _ c _ cs k;
          then_causes = rest_causes (cause_of entry.step.happening) c _ cs k;
        }
        by_test false t later k =
            let l = later k in
            record {
              at = l.at;
              seen = l.seen ∙ leaves n h e entry f hp sh r t;
              fact = l.fact;
              heard = l.heard;
              effect = l.effect;
              entry = l.entry;
              rest = l.rest;
              handles_it = l.handles_it;
              shows_it = l.shows_it;
              reacts_so = l.reacts_so;
              goes_on_plain = l.goes_on_plain;
              is_next = rw t l.is_next;
              by_cause = l.by_cause;
              then_causes = l.then_causes;
            }

    -- if none is of the case, what is seen of it stays
    pub none_next : (n : Node) (es : List JournalEntry) (n' : Node) → Plain place F n es n'
        → causes (filter (is_of q) es) ≡ [] → (filter (is_of q) es ≡ []) × (see n' ≡ see n)
    none_next _ _ _ (done n) e = (refl, refl)
    none_next _ _ _ (handles n n' h e entry es f hp sh r p) same =
        by_test (is_of q entry) refl (λ k. none_next (after n h e) es n' p k) same
      where
        by_test : (b : Bool) → is_of q entry ≡ b
            → (causes (filter (is_of q) es) ≡ [] → (filter (is_of q) es ≡ []) × (see n' ≡ see (after n h e)))
            → causes (if b then entry ∷ filter (is_of q) es else filter (is_of q) es) ≡ []
            → ((if b then entry ∷ filter (is_of q) es else filter (is_of q) es) ≡ []) × (see n' ≡ see n)
        by_test true t later k = absurd (cc)
        by_test false t later k = let l = later k in (l.0, l.1 ∙ leaves n h e entry f hp sh r t)
