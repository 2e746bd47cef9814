-- What the parents say, one after another.
use Rattle.std.proofs.Common.{◌≡◌, ◌∙◌, ◌-◌, ◌<◌, ◌+◌, ◌||◌, ◌&&◌, ℕ, zero, suc, Bool, true, false, if◌then◌else◌, is_none, is_some, not, Option, Some, None, List, [], ◌∷◌, ◌++◌, length, take, get_or, find, OnOk, Result, Ok, Err, refl, sym, ap, subst, arith}
use Rattle.std.proofs.lemmas.List.{take_more}
use Rattle.std.specs.List.{list_all, list_any}
use Rattle.std.specs.Map.{lookup}
use Rattle.indexmap.specs.IndexMap.{insert_entry}
use Rattle.protocol.specs.declared.names.ProcessId.{ProcessId}
use Rattle.protocol.specs.declared.trees.TreeProcess.{TreeProcess}
use Rattle.protocol.specs.Names.{same_process}
use Rattle.protocol.specs.Nodes.{AtRoot, is_listed}
use Rattle.protocol.specs.Records.{cases_in}
use Rattle.protocol.specs.Trees.{IsTree, entry_parent, has_unknown_parent, is_unlisted, level_within, levels_above, one_more, parent_of}
use Rattle.proof_processes.proofs.Levels.{climbs}
use Rattle.protocol.specs.Audits.{KeptLogs, is_case_at}
use Rattle.audit_cases.specs.Notes.{LogNotes, log_notes_of}
use Rattle.audit_cases.specs.Sayings.{AreSaid, Outcomes}
use Rattle.audit_tree.specs.Tables.{Adds, AllTrue, AreNotes, SaidFor, Says, SaysAbove, SaysTruly, StillSaid, TreeOutcomes, TreeTables, above_of, has_above, has_said, same_id}
use Rattle.audit_tree.proofs.Outcomes.{IsAbove, says_truly}
use Rattle.audit_tree.proofs.OwnCases.{EachCase, each_if}
use Rattle.audit_tree.proofs.Passes.{lookup_inserted, same_is, same_self}
use Rattle.audit_tree.proofs.TreePlaces.{IsFound, listed_entry, named_so, parent_listed, true_not_false}

some_one : {A : Type 0} (a b : A) → Some a ≡ Some b → a ≡ b
some_one a b e = cc

-- One more that said something.

module _ (said : TreeOutcomes) (q : ProcessId) (s : Outcomes) where
  insert_true : (tree : List TreeProcess) (logs : KeptLogs) → AllTrue tree logs said → SaysTruly tree logs q s
      → AllTrue tree logs (insert_entry same_id said q s)
  insert_true tree logs all one = λ p v is.
      by_name p v (same_id p q) refl (sym (lookup_inserted said q p s) ∙ is)
    where
      by_name : (p : ProcessId) (v : Outcomes) (b : Bool) → same_id p q ≡ b
          → (if b then Some s else lookup (same_id p) said) ≡ Some v → SaysTruly tree logs p v
      by_name p v true here h =
          subst (λ r. SaysTruly tree logs r v) (sym (same_is p q here))
          (subst (λ w. SaysTruly tree logs q w) (some_one s v h) one)
      by_name p v false apart h = all p v h

  insert_still : (old : TreeOutcomes) → StillSaid old said → StillSaid old (insert_entry same_id said q s)
  insert_still old still = λ p h. ap is_some (lookup_inserted said q p s) ∙ by_name p h (same_id p q)
    where
      by_name : (p : ProcessId) → has_said old p ≡ true → (b : Bool)
          → is_some (if b then Some s else lookup (same_id p) said) ≡ true
      by_name p h true = refl
      by_name p h false = still p h

  insert_said : has_said (insert_entry same_id said q s) q ≡ true
  insert_said =
      ap is_some (lookup_inserted said q q s)
      ∙ ap (λ b. is_some (if b then Some s else lookup (same_id q) said)) (same_self q)

-- what a parent said is true, if it said it
pub above_is : (tree : List TreeProcess) (logs : KeptLogs) (said : TreeOutcomes)
    (o : Option ProcessId) → AllTrue tree logs said
    → has_above said o ≡ true → IsAbove tree logs o (above_of said o)
unfolding IsAbove
above_is tree logs said None all has = refl
above_is tree logs said (Some p) all has = by_entry (lookup (same_id p) said) refl has
  where
    by_entry : (a : Option Outcomes) → lookup (same_id p) said ≡ a → is_some a ≡ true
        → (s : Outcomes) × (lookup (same_id p) said ≡ Some s) × SaysTruly tree logs p s
    by_entry None is h = absurd (cc)
    by_entry (Some s) is h = (s, is, all p s is)

pub parent_is : (tree : List TreeProcess) (q : ProcessId) (e : TreeProcess)
    → find (λ x. same_process x.id q) tree ≡ Some e
    → parent_of tree q ≡ e.parent
unfolding parent_of
parent_is tree q e found = ap entry_parent found

-- what a process says after its parent is true
says_here : (tree : List TreeProcess) → IsTree tree → (ts : TreeTables) (logs : KeptLogs)
    → AreNotes tree logs ts
    → (q : ProcessId) → is_listed tree q ≡ true → (o : Option ProcessId) → parent_of tree q ≡ o
    → (above : Option Outcomes) → IsAbove tree logs o above → (t : LogNotes) → lookup (same_id q) ts ≡ Some t
    → (s : Outcomes) → AreSaid above t.table s → SaysTruly tree logs q s
says_here tree is_tree ts logs notes q listed o up above said t own s are =
    let found = listed_entry tree q listed in
    let here : found.0.id ≡ q = named_so tree q found.0 found.1 in
    let at : IsFound tree found.0 = subst (λ p. find (λ x. same_process x.id p) tree
    ≡ Some found.0) (sym here) found.1 in
    let same_up : o ≡ found.0.parent = sym up ∙ parent_is tree q found.0 found.1 in
    let table : t ≡ log_notes_of (logs found.0.id) =
    some_one t (log_notes_of (logs q)) (sym own ∙ notes.tables q listed)
    ∙ ap (λ p. log_notes_of (logs p)) (sym here) in
    subst (λ p. SaysTruly tree logs p s) here
    (says_truly tree is_tree logs found.0 at above (subst (λ a. IsAbove tree logs a above) same_up said)
    (subst (λ p. EachCase (λ c. is_case_at tree p c ≡ true) (cases_in (logs p))) (sym here)
    (each_if (is_case_at tree q) (cases_in (logs q)) (notes.own q listed AtRoot)))
    s (subst (λ a. AreSaid above a.table s) table are))

-- A process.

pub says_already : (tree : List TreeProcess) (ts : TreeTables) (q : ProcessId) (steps : ℕ)
    (said : TreeOutcomes)
    → (is_none (level_within steps tree q) ≡ false → has_said said q ≡ true) → Says tree ts q steps said said
says_already tree ts q steps said has = record {
  still = λ p h. h;
  truly = λ logs notes listed level all. all;
  said = λ logs notes listed level. has level;
}

pub no_steps : (tree : List TreeProcess) (q : ProcessId) (steps : ℕ) (b : Bool) → steps ≡ 0
    → is_none (level_within steps tree q) ≡ false → b ≡ true
no_steps tree q steps b is level = absurd (true_not_false
    (ap (λ n. is_none (level_within n tree q)) (sym is) ∙ level))

module _ (tree : List TreeProcess) (t : IsTree tree) (ts : TreeTables) (q : ProcessId) (steps : ℕ)
    (old mid new : TreeOutcomes)
    (o : Option ProcessId) (up : parent_of tree q ≡ o) (still : StillSaid old mid)
    (truly : (logs : KeptLogs) → AreNotes tree logs ts → is_listed tree q ≡ true
    → is_none (level_within steps tree q) ≡ false → AllTrue tree logs old → AllTrue tree logs mid)
    (above : (logs : KeptLogs) → AreNotes tree logs ts → is_listed tree q ≡ true
    → is_none (level_within steps tree q) ≡ false → has_above mid o ≡ true) where
  adds_so : (a : Option LogNotes) → lookup (same_id q) ts ≡ a → Adds (above_of mid o) a q mid new
      → Says tree ts q steps old new
  adds_so None is adds = record {
    still = λ p h. ap (λ said. has_said said p) adds ∙ still p h;
    truly = λ logs notes listed level all. subst (AllTrue tree logs) (sym adds)
        (truly logs notes listed level all);
    said = λ logs notes listed level. absurd
        (nothing (log_notes_of (logs q)) (sym is ∙ notes.tables q listed));
  }
    where
      nothing : (a : LogNotes) → None ≡ Some a → ⊥
      nothing a h = absurd (cc)
  adds_so (Some own) is adds = record {
    still = λ p h. ap (λ said. has_said said p) adds.2 ∙ insert_still mid q adds.0 old still p h;
    truly = λ logs notes listed level all.
        let before = truly logs notes listed level all in
        subst (AllTrue tree logs) (sym adds.2)
        (insert_true mid q adds.0 tree logs before
        (says_here tree t ts logs notes q listed o up (above_of mid o)
        (above_is tree logs mid o before (above logs notes listed level)) own is adds.0 adds.1));
    said = λ logs notes listed level. ap (λ said. has_said said q) adds.2 ∙ insert_said mid q adds.0;
  }

pub says_top : (tree : List TreeProcess) → IsTree tree → (ts : TreeTables) (q : ProcessId) (steps : ℕ)
    (old new : TreeOutcomes) → parent_of tree q ≡ None
    → Adds (above_of old None) (lookup (same_id q) ts) q old new → Says tree ts q steps old new
says_top tree t ts q steps old new up adds =
    adds_so tree t ts q steps old old new None up (λ p h. h) (λ logs notes listed level all. all)
    (λ logs notes listed level. refl) (lookup (same_id q) ts) refl adds

up_level : (tree : List TreeProcess) (q p : ProcessId) (steps : ℕ) → parent_of tree q ≡ Some p
    → is_none (level_within steps tree q) ≡ false → is_none (level_within (steps - 1) tree p) ≡ false
up_level tree q p zero up level = absurd (true_not_false level)
up_level tree q p (suc k) up level =
    let less : suc k - 1 ≡ k = omega arith in
    ap (λ n. is_none (level_within n tree p)) less
    ∙ none_less (level_within k tree p)
    (sym (ap (λ a. is_none (levels_above (level_within k tree) a)) up) ∙ level)
  where
    none_less : (a : Option ℕ) → is_none (one_more a) ≡ false → is_none a ≡ false
    none_less None h = absurd (true_not_false h)
    none_less (Some n) h = refl

pub says_below : (tree : List TreeProcess) → IsTree tree → (ts : TreeTables) (q p : ProcessId) (steps : ℕ)
    (old mid new : TreeOutcomes) → parent_of tree q ≡ Some p → Says tree ts p (steps - 1) old mid
    → Adds (above_of mid (Some p)) (lookup (same_id q) ts) q mid new → Says tree ts q steps old new
says_below tree t ts q p steps old mid new up says adds =
    adds_so tree t ts q steps old mid new (Some p) up says.still
    (λ logs notes listed level all. says.truly logs notes (there listed)
    (up_level tree q p steps up level) all)
    (λ logs notes listed level. says.said logs notes (there listed) (up_level tree q p steps up level))
    (lookup (same_id q) ts) refl adds
  where
    there : is_listed tree q ≡ true → is_listed tree p ≡ true
    there listed =
        let found = listed_entry tree q listed in
        parent_listed tree t q p found.0 found.1 (sym (parent_is tree q found.0 found.1) ∙ up)

-- Parents.

pub above_top : (tree : List TreeProcess) (ts : TreeTables) (said : TreeOutcomes)
    → SaysAbove tree ts None said said
above_top tree ts said = record {
  still = λ p h. h;
  truly = λ logs notes listed all. all;
  said = λ logs notes listed. refl;
}

listed_not : (b : Bool) → not b ≡ false → b ≡ true
listed_not true h = refl
listed_not false h = absurd (true_not_false h)

pub above_one : (tree : List TreeProcess) → IsTree tree
    → (ts : TreeTables) (p : ProcessId) (old new : TreeOutcomes)
    → Says tree ts p (length tree) old new → SaysAbove tree ts (Some p) old new
above_one tree t ts p old new says = record {
  still = says.still;
  truly = λ logs notes listed all.
      let there = listed_not (is_listed tree p) listed in says.truly logs notes there
      (climbs tree t p there) all;
  said = λ logs notes listed.
      let there = listed_not (is_listed tree p) listed in says.said logs notes there (climbs tree t p there);
}

pub above_some : (tree : List TreeProcess) → IsTree tree
    → (ts : TreeTables) (o : Option ProcessId) (p : ProcessId) (n : ℕ)
    (old new : TreeOutcomes) → o ≡ Some p → n ≡ length tree → Says tree ts p n old new
    → SaysAbove tree ts o old new
above_some tree t ts o p n old new is size says =
    subst (λ a. SaysAbove tree ts a old new) (sym is)
    (above_one tree t ts p old new (subst (λ k. Says tree ts p k old new) size says))

pub none_said : (tree : List TreeProcess) (ts : TreeTables) (said : TreeOutcomes)
    → said ≡ [] → SaidFor tree ts [] said
none_said tree ts said is = record {
  truly = λ logs notes p s h. absurd (nothing p s (ap (lookup (same_id p)) (sym is) ∙ h));
  said = λ logs notes. refl;
}
  where
    nothing : (p : ProcessId) (s : Outcomes) → None ≡ Some s → ⊥
    nothing p s h = absurd (cc)

still_above : (old new : TreeOutcomes) → StillSaid old new → (o : Option ProcessId) → has_above old o ≡ true
    → has_above new o ≡ true
still_above old new still None h = refl
still_above old new still (Some p) h = still p h

said_all : (old new : TreeOutcomes) → StillSaid old new → (es : List TreeProcess) (e : TreeProcess)
    → list_all (λ x. has_above old x.parent) es ≡ true → has_above new e.parent ≡ true
    → list_all (λ x. has_above new x.parent) (es ++ e ∷ []) ≡ true
said_all old new still [] e h k = ap (λ b. b && true) k
said_all old new still (x ∷ es) e h k =
    by_test (has_above old x.parent) refl h (λ rest. said_all old new still es e rest k)
  where
    by_test : (b : Bool) → has_above old x.parent ≡ b
        → (b && list_all (λ y. has_above old y.parent) es) ≡ true
        → (list_all (λ y. has_above old y.parent) es ≡ true
        → list_all (λ y. has_above new y.parent) (es ++ e ∷ []) ≡ true)
        → (has_above new x.parent && list_all (λ y. has_above new y.parent) (es ++ e ∷ [])) ≡ true
    by_test true is rest later =
        ap (λ b. b && list_all (λ y. has_above new y.parent) (es ++ e ∷ []))
        (still_above old new still x.parent is)
        ∙ later rest
    by_test false is rest later = absurd (true_not_false (sym rest))

-- the parent of an entry is listed
none_unlisted : (f : TreeProcess → Bool) (es : List TreeProcess) (i : ℕ) (e : TreeProcess)
    → list_any f es ≡ false
    → i < length es → e ≡ get_or es i e → f e ≡ false
none_unlisted f [] i e none lt is = absurd (omega (arith, lt))
none_unlisted f (x ∷ es) zero e none lt is = ap f is ∙ first (f x) none
  where
    first : (b : Bool) → (b || list_any f es) ≡ false → b ≡ false
    first true h = h
    first false h = refl
none_unlisted f (x ∷ es) (suc i) e none lt is =
    none_unlisted f es i e (rest (f x) none) (omega (arith, lt)) is
  where
    rest : (b : Bool) → (b || list_any f es) ≡ false → list_any f es ≡ false
    rest true h = absurd (true_not_false h)
    rest false h = h

pub said_more : (tree : List TreeProcess) → IsTree tree
    → (ts : TreeTables) (es : List TreeProcess) (i : ℕ) (e : TreeProcess)
    (old new : TreeOutcomes) → es ≡ tree → i < length es → e ≡ get_or es i e
    → SaysAbove tree ts e.parent old new
    → SaidFor tree ts (take i es) old → SaidFor tree ts (take (i + 1) es) new
unfolding has_unknown_parent
said_more tree t ts es i e old new same lt is says before =
    let up = none_unlisted (λ x. is_unlisted tree x.parent) es i e
    (ap (list_any (λ x. is_unlisted tree x.parent)) same ∙ t.parents_listed) lt is in
    rw (take_more es i e lt, ← is) (record {
      truly = λ logs notes. says.truly logs notes up (before.truly logs notes);
      said = λ logs notes. said_all old new says.still (take i es) e
          (before.said logs notes) (says.said logs notes up);
    })

pub on_ok : {A E : Type 0} {P Q : Type 0} (r : Result A E) → (P → Q) → OnOk r P → OnOk r Q
on_ok (Ok a) f h = f h
on_ok (Err e) f h = h
