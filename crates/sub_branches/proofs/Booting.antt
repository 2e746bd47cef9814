-- The record of a boot says nothing of any case.
use Rattle.std.proofs.Common.{◌≡◌, ◌∙◌, ℕ, List, [], ◌∷◌, ◌++◌, None, refl, ap}
use Rattle.std.proofs.lemmas.Grind.{fold-append}
use Rattle.std.specs.List.{flat_map}
use Rattle.protocol.specs.declared.names.Case.{Case}
use Rattle.protocol.specs.declared.names.ProcessId.{ProcessId}
use Rattle.protocol_words.specs.Variants.{CaseBranch}
use Rattle.protocol.specs.declared.records.LogRecord.{LogRecord}
use Rattle.protocol.specs.declared.records.Record.{Record}
use Rattle.protocol.specs.declared.records.Record.TheVariants.{Opened}
use Rattle.protocol.specs.declared.trees.TreeProcess.{TreeProcess}
use Rattle.protocol.specs.LogNames.{own_records}
use Rattle.protocol.specs.Memory.{fresh_memory}
use Rattle.protocol.specs.Nodes.{AtLeaf}
use Rattle.protocol.specs.Records.{boot_of, cases_in}
use Rattle.protocol.specs.Restarts.{inquires_by, manager_resumes, recorded_branch, resumes}
use Rattle.protocol.specs.Standings.{mark_of, marked_branch}
use Rattle.protocol.specs.Views.{leaf_place}
use Rattle.sub_branches.proofs.Reading.{own_append}
use Rattle.sub_branches.proofs.Rebuilding.{same_flat}

boot_mark : (rs : List Record) (n : ℕ) (c : Case)
    → mark_of (CaseBranch c) (rs ++ Opened n ∷ []) ≡ mark_of (CaseBranch c) rs
unfolding mark_of
boot_mark rs n c = fold-append _ _ rs (Opened n ∷ [])

pub boot_branch : (rs : List Record) (n : ℕ) (c : Case)
    → recorded_branch (rs ++ Opened n ∷ []) c ≡ recorded_branch rs c
unfolding recorded_branch
boot_branch rs n c = ap (marked_branch fresh_memory) (boot_mark rs n c)

pub boot_last : (rs : List Record) (n : ℕ) → boot_of (rs ++ Opened n ∷ []) ≡ n
unfolding boot_of
boot_last rs n = fold-append _ _ rs (Opened n ∷ [])

boot_cases : (rs : List Record) (n : ℕ) → cases_in (rs ++ Opened n ∷ []) ≡ cases_in rs
unfolding cases_in
boot_cases rs n = fold-append _ _ rs (Opened n ∷ [])

pub boot_resumes : (me p : ProcessId) (rs : List Record) (n : ℕ)
    → resumes (AtLeaf p) me (rs ++ Opened n ∷ []) ≡ flat_map (manager_resumes me p rs) (cases_in rs)
boot_resumes me p rs n =
    ap (flat_map (manager_resumes me p (rs ++ Opened n ∷ []))) (boot_cases rs n)
    ∙ same_flat (manager_resumes me p (rs ++ Opened n ∷ [])) (manager_resumes me p rs)
    (λ c. ap (λ v. inquires_by me p c v v.standing) (boot_branch rs n c)) (cases_in rs)

alone : (me p : ProcessId) (tree : List TreeProcess) (n : ℕ)
    → own_records (leaf_place me p tree) (record { entry = Opened n; parent = None } ∷ []) ≡ Opened n ∷ []
unfolding own_records
alone me p tree n = refl

pub boot_read : (me p : ProcessId) (tree : List TreeProcess) (ls : List LogRecord) (n : ℕ)
    → own_records (leaf_place me p tree) (ls ++ record { entry = Opened n; parent = None } ∷ [])
    ≡ own_records (leaf_place me p tree) ls ++ Opened n ∷ []
boot_read me p tree ls n =
    own_append (leaf_place me p tree) ls (record { entry = Opened n; parent = None } ∷ [])
    ∙ ap (λ rs. own_records (leaf_place me p tree) ls ++ rs) (alone me p tree n)
