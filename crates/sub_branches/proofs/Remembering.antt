-- What is remembered of a subordinate's log, and read on from.
use Rattle.std.proofs.Common.{◌≡◌, ◌∙◌, ◌⊎◌, inl, inr, ◌≤◌, ◌<◌, ◌+◌, ◌^◌, ℕ, Bool, true, false, ◌||◌, if◌then◌else◌, Option, Some, None, List, [], ◌∷◌, ◌++◌, append_assoc, append-nil, drop, get_or, length, refl, sym, ap, subst, arith}
use Rattle.std.proofs.lemmas.List.{drop_more}
use Rattle.std.specs.List.{flat_map, list_any}
use Rattle.case_table.specs.Tables.{MovesValue, live_value}
use Rattle.case_table.proofs.Writes.{same_case-itself}
use Rattle.protocol.specs.declared.messages.Envelope.{Envelope}
use Rattle.protocol.specs.declared.names.Case.{Case}
use Rattle.protocol.specs.declared.names.Outcome.{Outcome}
use Rattle.protocol.specs.declared.names.ProcessId.{ProcessId}
use Rattle.protocol.specs.declared.records.LogRecord.{LogRecord}
use Rattle.protocol.specs.declared.trees.TreeProcess.{TreeProcess}
use Rattle.protocol.specs.LogNames.{own_records}
use Rattle.protocol.specs.Names.{same_case}
use Rattle.protocol.specs.Nodes.{Place}
use Rattle.protocol.specs.Records.{has_case, with_case}
use Rattle.protocol.specs.Standings.{Decided, Finished, Mark, Promised, ToldOf, Unmarked, mark_of}
use Rattle.protocol.specs.Views.{leaf_place}
use Rattle.protocol_words.specs.Variants.{CaseBranch}
use Rattle.protocol.proofs.NameTests.{case_tells}
use Rattle.resource_manager.specs.Restarting.{boot_record}
use Rattle.sub_branches.specs.declared.branch.LiveBranch.{LiveBranch}
use Rattle.sub_branches.specs.declared.branch.BranchStage.TheVariants.{Heuristic, Prepared}
use Rattle.sub_branches.specs.Tables.{AreLiveOf, BranchTable, HavePromised, Restores, branch_in, has_promised, ticket_in}
use Rattle.sub_branches.specs.declared.cases.ReplayedCases.{ReplayedCases}
use Rattle.sub_branches.specs.declared.names.Saying.{Saying}
use Rattle.sub_branches.specs.declared.names.Saying.TheVariants.{Nothing, Boot, Promises as PromisesOf, Ends as EndsOf, Decides, Coordinates}
use Rattle.sub_branches.specs.Rebuilt.{AddsCase, DecidesBy, EndsBy, RecordsLeave, PromisesBy, RebuildsBranches, ReadsRecord, TakesBy, asks, asks_by, branch_left, own_case, saying_of}
use Rattle.sub_branches.specs.Remembered.{RemembersBranches}
use Rattle.sub_branches.proofs.Rebuilding.{rebuilds, same_flat}
use Rattle.sub_branches.proofs.Steps.{nothing_left, taken}

-- Cases that are listed.

one_case : (c d : Case) → same_case c d ≡ true → c ≡ d
one_case c d is = (case_tells c d).0 is

true_not_false : {A : Type 0} → true ≡ false → A
true_not_false h = absurd (cc)

-- one of a front
listed_front : (cs ks : List Case) (d : Case) → has_case cs d ≡ true → has_case (cs ++ ks) d ≡ true
unfolding has_case
listed_front [] ks d is = true_not_false (sym is)
listed_front (c ∷ cs) ks d is = by_test (same_case c d) is (listed_front cs ks d)
  where
    by_test : (b : Bool) → (b || list_any (λ e. same_case e d) cs) ≡ true
        → (list_any (λ e. same_case e d) cs ≡ true → list_any (λ e. same_case e d) (cs ++ ks) ≡ true)
        → (b || list_any (λ e. same_case e d) (cs ++ ks)) ≡ true
    by_test true is rest = refl
    by_test false is rest = rest is

-- the last one
listed_last : (cs : List Case) (c : Case) → has_case (cs ++ c ∷ []) c ≡ true
unfolding has_case
listed_last [] c = ap (λ b. b || false) (same_case-itself c)
listed_last (d ∷ cs) c = by_test (same_case d c) (listed_last cs c)
  where
    by_test : (b : Bool) → list_any (λ e. same_case e c) (cs ++ c ∷ []) ≡ true
        → (b || list_any (λ e. same_case e c) (cs ++ c ∷ [])) ≡ true
    by_test true rest = refl
    by_test false rest = rest

-- one that was there before
still_listed : (cs : List Case) (c d : Case) → has_case cs d ≡ true
    → has_case (with_case cs (Some c)) d ≡ true
still_listed cs c d is = by_test (has_case cs c)
  where
    by_test : (b : Bool) → has_case (if b then cs else (cs ++ c ∷ [])) d ≡ true
    by_test true = is
    by_test false = listed_front cs (c ∷ []) d is

-- the one that came
own_listed : (cs : List Case) (c : Case) → has_case (with_case cs (Some c)) c ≡ true
own_listed cs c = by_test (has_case cs c) refl
  where
    by_test : (b : Bool) → has_case cs c ≡ b → has_case (if b then cs else (cs ++ c ∷ [])) c ≡ true
    by_test true is = is
    by_test false is = listed_last cs c

-- One record more.

-- there was a record of the case
adds_listed : (old mid : ReplayedCases) (c : Case) → AddsCase old mid c
    → AreLiveOf old.branches old.order.keys
    → (has_case mid.order.keys c ≡ true) × AreLiveOf mid.branches mid.order.keys
adds_listed old mid c adds listed = (
  ap (λ ks. has_case ks c) adds.1 ∙ own_listed old.order.keys c,
  λ d b live. ap (λ ks. has_case ks d) adds.1
      ∙ still_listed old.order.keys c d
      (listed d b (sym (ap (λ (s : ReplayedCases). branch_in s.branches d) adds.0) ∙ live)),
)

-- what is kept of a listed case changed
moves_listed : (mid new : ReplayedCases) (c : Case) (o : Option LiveBranch) → new.order ≡ mid.order
    → MovesValue mid.branches.branches new.branches.branches c o → has_case mid.order.keys c ≡ true
    → AreLiveOf mid.branches mid.order.keys → AreLiveOf new.branches new.order.keys
moves_listed mid new c o order moves own listed d b live =
    ap (λ os. has_case os.keys d) order ∙ by_test (same_case c d) refl
  where
    by_test : (t : Bool) → same_case c d ≡ t → has_case mid.order.keys d ≡ true
    by_test true is = subst (λ e. has_case mid.order.keys e ≡ true) (one_case c d is) own
    by_test false is = listed d b (sym (moves.others d is) ∙ live)

takes_by_listed : (place : Place) (p : ProcessId) (old new : ReplayedCases)
    (q : Option ProcessId) (s : Saying)
    → TakesBy place p old new q s → AreLiveOf old.branches old.order.keys
    → AreLiveOf new.branches new.order.keys
takes_by_listed place p old new q Nothing takes listed =
    subst (λ (s : ReplayedCases). AreLiveOf s.branches s.order.keys) (sym takes) listed
takes_by_listed place p old new q (Boot n) takes listed =
    subst (λ (s : ReplayedCases). AreLiveOf s.branches s.order.keys) (sym takes) listed
takes_by_listed place p old new q (PromisesOf b) takes listed = by_case (own_case place q b) takes.1
  where
    by_case : (o : Option Case) → PromisesBy old new p o → AreLiveOf new.branches new.order.keys
    by_case None same = subst (λ (s : ReplayedCases). AreLiveOf s.branches s.order.keys) (sym same) listed
    by_case (Some c) made =
        let added = adds_listed old made.0 c made.1 listed in
        moves_listed made.0 new c _ made.2.order made.2.branches added.0 added.1
takes_by_listed place p old new q (EndsOf b) takes listed = by_case (own_case place q b) takes.1
  where
    by_case : (o : Option Case) → EndsBy old new o → AreLiveOf new.branches new.order.keys
    by_case None same = subst (λ (s : ReplayedCases). AreLiveOf s.branches s.order.keys) (sym same) listed
    by_case (Some c) made =
        let added = adds_listed old made.0 c made.1 listed in
        moves_listed made.0 new c None made.2.order made.2.branches added.0 added.1
takes_by_listed place p old new q (Decides b told) takes listed = by_case (own_case place q b) takes.1
  where
    by_case : (o : Option Case) → DecidesBy old new told o → AreLiveOf new.branches new.order.keys
    by_case None same = subst (λ (s : ReplayedCases). AreLiveOf s.branches s.order.keys) (sym same) listed
    by_case (Some c) made =
        let added = adds_listed old made.0 c made.1 listed in
        moves_listed made.0 new c _ made.2.order made.2.branches added.0 added.1
takes_by_listed place p old new q Coordinates takes listed = absurd takes

pub takes_listed : (place : Place) (p : ProcessId) (old new : ReplayedCases) (l : LogRecord)
    → ReadsRecord place p old new l
    → AreLiveOf old.branches old.order.keys → AreLiveOf new.branches new.order.keys
takes_listed place p old new l takes listed =
    takes_by_listed place p old new l.parent (saying_of l.entry) takes listed

-- Reading on.

-- some records were read after others
pub record ReadsTo (place : Place) (p : ProcessId) (old : ReplayedCases) (done : List LogRecord)
    (now : ReplayedCases) : Type 0 where
  pub leaves : (ls : List LogRecord) → RecordsLeave place p ls old → RecordsLeave place p (ls ++ done) now
  pub listed : AreLiveOf old.branches old.order.keys → AreLiveOf now.branches now.order.keys

pub reading_begins : (place : Place) (p : ProcessId) (old : ReplayedCases) → ReadsTo place p old [] old
reading_begins place p old = record {
  leaves = λ ls left. subst (λ ks. RecordsLeave place p ks old) (sym (append-nil ls)) left;
  listed = λ listed. listed;
}

pub reading_goes_on : (me p : ProcessId) (tree : List TreeProcess) (old now new : ReplayedCases)
    (done all : List LogRecord)
    (l : LogRecord) → ReadsTo (leaf_place me p tree) p old done now
    → ReadsRecord (leaf_place me p tree) p now new l
    → done ++ l ∷ [] ≡ all → ReadsTo (leaf_place me p tree) p old all new
reading_goes_on me p tree old now new done all l reads takes more = record {
  leaves = λ ls left. subst (λ ks. RecordsLeave (leaf_place me p tree) p ks new)
      (append_assoc ls done (l ∷ []) ∙ ap (λ ks. ls ++ ks) more)
      (taken me p tree (ls ++ done) now (reads.leaves ls left) new l takes);
  listed = λ listed. takes_listed (leaf_place me p tree) p now new l takes (reads.listed listed);
}

-- Live branches are copied.

-- with what is kept of these cases still to be copied
pub record IsCopying (t : BranchTable) (rest : List Case) (copy : BranchTable) : Type 0 where
  pub each : (c : Case)
      → (branch_in copy c ≡ branch_in t c) ⊎ ((branch_in copy c ≡ None) × (has_case rest c ≡ true))
  pub tickets : copy.tickets ≡ []

pub copying_starts : (t copy : BranchTable) (cs : List Case) → AreLiveOf t cs → copy.branches ≡ []
    → copy.tickets ≡ []
    → IsCopying t cs copy
unfolding live_value
copying_starts t copy cs listed none tickets = record {
  each = λ c. by_kept c (branch_in t c) refl;
  tickets = tickets;
}
  where
    by_kept : (c : Case) (o : Option LiveBranch) → branch_in t c ≡ o
        → (branch_in copy c ≡ branch_in t c) ⊎ ((branch_in copy c ≡ None) × (has_case cs c ≡ true))
    by_kept c None is = inl (ap (λ bs. live_value bs c) none ∙ sym is)
    by_kept c (Some b) is = inr (ap (λ bs. live_value bs c) none, listed c b is)

module _ (t : BranchTable) (k : Case) (rest : List Case) (copy : BranchTable)
    (copying : IsCopying t (k ∷ rest) copy) where
  among_rest : (c : Case) → same_case k c ≡ false → has_case (k ∷ rest) c ≡ true → has_case rest c ≡ true
  unfolding has_case
  among_rest c apart listed = sym (ap (λ b. b || list_any (λ d. same_case d c) rest) apart) ∙ listed

  pub copying_goes_on : (new : BranchTable) (b : LiveBranch) → branch_in t k ≡ Some b → Restores copy new k b
      → IsCopying t rest new
  copying_goes_on new b found made = record {
    each = λ c. by_test c (same_case k c) refl;
    tickets = made.tickets ∙ copying.tickets;
  }
    where
      by_test : (c : Case) (e : Bool) → same_case k c ≡ e
          → (branch_in new c ≡ branch_in t c) ⊎ ((branch_in new c ≡ None) × (has_case rest c ≡ true))
      by_test c true is = inl (subst (λ d. branch_in new d ≡ branch_in t d) (one_case k c is)
          (made.branches.own ∙ sym found))
      by_test c false is = elim (copying.each c) [
        | inl one ↦ inl (made.branches.others c is ∙ one)
        | inr out ↦ inr (made.branches.others c is ∙ out.0, among_rest c is out.1)
      ]

  -- nothing is kept of the case, or it was copied already
  pub copying_passes : (branch_in copy k ≡ None → branch_in t k ≡ None) → IsCopying t rest copy
  copying_passes none = record {
    each = λ c. by_test c (same_case k c) refl (copying.each c);
    tickets = copying.tickets;
  }
    where
      by_test : (c : Case) (e : Bool) → same_case k c ≡ e
          → (branch_in copy c ≡ branch_in t c) ⊎ ((branch_in copy c ≡ None) × (has_case (k ∷ rest) c ≡ true))
          → (branch_in copy c ≡ branch_in t c) ⊎ ((branch_in copy c ≡ None) × (has_case rest c ≡ true))
      by_test c e is (inl one) = inl one
      by_test c true is (inr out) = inl (out.0
          ∙ sym (subst (λ d. branch_in copy d ≡ None → branch_in t d ≡ None)
          (one_case k c is) none out.0))
      by_test c false is (inr out) = inr (out.0, among_rest c is out.1)

-- the same of the case at a place of a list
pub copies_one : (t : BranchTable) (cs : List Case) (i : ℕ) (d : Case) (copy new : BranchTable)
    (b : LiveBranch)
    → i < length cs → IsCopying t (drop i cs) copy → branch_in t (get_or cs i d) ≡ Some b
    → Restores copy new (get_or cs i d) b → IsCopying t (drop (i + 1) cs) new
copies_one t cs i d copy new b within copying found made =
    copying_goes_on t (get_or cs i d) (drop (i + 1) cs) copy
    (subst (λ ks. IsCopying t ks copy) (drop_more cs i d within) copying) new b found made

pub passes_one : (t : BranchTable) (cs : List Case) (i : ℕ) (d : Case) (copy : BranchTable)
    → i < length cs → IsCopying t (drop i cs) copy
    → (branch_in copy (get_or cs i d) ≡ None → branch_in t (get_or cs i d) ≡ None)
    → IsCopying t (drop (i + 1) cs) copy
passes_one t cs i d copy within copying none =
    copying_passes t (get_or cs i d) (drop (i + 1) cs) copy
    (subst (λ ks. IsCopying t ks copy) (drop_more cs i d within) copying) none

pub copying_ends : (t copy : BranchTable) → IsCopying t [] copy → (c : Case)
    → branch_in copy c ≡ branch_in t c
unfolding has_case
copying_ends t copy copying c = elim (copying.each c) [
  | inl one ↦ one
  | inr out ↦ true_not_false (sym out.1)
]

-- What records leave.

left_promised : (p : ProcessId) (c : Case) (b : LiveBranch) (m : Mark) → branch_left p c m ≡ Some b
    → has_promised b.stage ≡ true
left_promised p c b Unmarked is = absurd (cc)
left_promised p c b Promised is = sym (ap promised_of is)
  where
    promised_of : Option LiveBranch → Bool
    promised_of None = true
    promised_of (Some d) = has_promised d.stage
left_promised p c b Decided is = sym (ap promised_of is)
  where
    promised_of : Option LiveBranch → Bool
    promised_of None = true
    promised_of (Some d) = has_promised d.stage
left_promised p c b (ToldOf o) is = sym (ap promised_of is)
  where
    promised_of : Option LiveBranch → Bool
    promised_of None = true
    promised_of (Some d) = has_promised d.stage
left_promised p c b Finished is = absurd (cc)

-- each live branch promised
pub have_promised : (place : Place) (p : ProcessId) (ls : List LogRecord) (s : ReplayedCases)
    → RecordsLeave place p ls s
    → HavePromised s.branches
have_promised place p ls s left c b live =
    left_promised p c b (mark_of (CaseBranch c) (own_records place ls)) (sym (left.branches c) ∙ live)

-- what they leave, with the live branches in another table
pub leaves_copied : (place : Place) (p : ProcessId) (ls : List LogRecord) (s : ReplayedCases)
    (t : BranchTable)
    → RecordsLeave place p ls s → ((c : Case) → branch_in t c ≡ branch_in s.branches c) → t.tickets ≡ []
    → RecordsLeave place p ls (record s { branches = t })
unfolding live_value
leaves_copied place p ls s t left alike tickets = record {
  reads = left.reads;
  boot = left.boot;
  order = left.order;
  tickets = λ d. ap (λ ts. live_value ts d) tickets;
  branches = λ c. alike c ∙ left.branches c;
  recalls = left.recalls;
  live = λ c b live. left.live c b (sym (alike c) ∙ live);
  reached = left.reached;
  newest = left.newest;
}

-- with the record of a boot after them
pub leaves_boot : (me p : ProcessId) (tree : List TreeProcess) (ls : List LogRecord)
    (s : ReplayedCases) (boot : ℕ)
    → RecordsLeave (leaf_place me p tree) p ls s
    → RecordsLeave (leaf_place me p tree) p (ls ++ boot_record boot ∷ []) (record s { boot = boot })
leaves_boot me p tree ls s boot left = taken me p tree ls s left (record s { boot = boot })
    (boot_record boot) refl

-- no record leaves nothing
pub remembers_nothing : (place : Place) (p : ProcessId) (s : ReplayedCases) → s.order.keys ≡ []
    → s.branches.tickets ≡ [] → s.branches.branches ≡ [] → s.boot ≡ 0 → s.newest ≡ 0
    → RemembersBranches place p [] (record { cases = s })
unfolding live_value
remembers_nothing place p s order tickets branches boot newest = record {
  leaves = nothing_left place p s order tickets branches boot newest;
  listed = λ c b live. absurd (let none = ap (λ bs. live_value bs c) branches in cc);
}

-- what was read and copied, rebuilt and remembered
module _ (me p : ProcessId) (tree : List TreeProcess) (ls : List LogRecord) (s : ReplayedCases)
    (left : RecordsLeave (leaf_place me p tree) p ls s) where
  pub rebuilt_copied : (t : BranchTable) (messages : List Envelope)
      → ((c : Case) → branch_in t c ≡ branch_in s.branches c) → t.tickets ≡ []
      → messages ≡ flat_map (asks me p s.branches) s.order.keys → s.newest ≤ s.boot → s.boot + 1 < 2 ^ 63
      → RebuildsBranches (leaf_place me p tree) p ls
      (record { branches = t; messages = messages; boot = s.boot })
  rebuilt_copied t messages alike tickets sent within room =
      rebuilds (leaf_place me p tree) p ls (record s { branches = t })
      (leaves_copied (leaf_place me p tree) p ls s t left alike tickets) messages
      (sent ∙ same_flat (asks me p s.branches) (asks me p t)
      (λ c. ap (asks_by me p c) (sym (alike c))) s.order.keys)
      within room

  pub remembered_boot : AreLiveOf s.branches s.order.keys → (boot : ℕ)
      → RemembersBranches (leaf_place me p tree) p (ls ++ boot_record boot ∷ [])
      (record { cases = record s { boot = boot } })
  remembered_boot listed boot = record { leaves = leaves_boot me p tree ls s boot left; listed = listed }
