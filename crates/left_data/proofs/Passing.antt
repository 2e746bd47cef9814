-- The lines of processes, one after another.
use Rattle.std.proofs.Common.{◌≡◌, ◌∙◌, ◌++◌, ℕ, List, [], ◌∷◌, append_assoc, ap, sym}
use Rattle.std.proofs.lemmas.List.{append-nil}
use Rattle.protocol.specs.declared.records.LogRecord.{LogRecord}
use Rattle.protocol.specs.declared.trees.TreeProcess.{TreeProcess}
use Rattle.left_data.specs.Texts.{data_lines, process_lines}

-- what stands, with the lines of the rest, is the whole
abbrev pub IsSoFar : List ℕ → List TreeProcess → List (List LogRecord) → List ℕ → Type 0
IsSoFar out rest logs whole = whole ≡ out ++ data_lines rest logs

parted : (a b c : List ℕ) → a ++ (b ++ c) ≡ (a ++ b) ++ c
parted a b c = simp append_assoc

with_none : (a : List ℕ) → a ++ [] ≡ a
with_none a = append-nil a

-- one process more
pub goes_on : (out new whole : List ℕ) (e : TreeProcess) (es : List TreeProcess) (ls : List LogRecord)
    (logs : List (List LogRecord)) → IsSoFar out (e ∷ es) (ls ∷ logs) whole → new ≡ out ++ process_lines e ls
    → IsSoFar new es logs whole
unfolding data_lines
goes_on out new whole e es ls logs so_far is =
    so_far ∙ parted out (process_lines e ls) (data_lines es logs) ∙ ap (λ x. x ++ data_lines es logs) (sym is)

-- no log is left
pub ends : (out whole : List ℕ) (rest : List TreeProcess) → IsSoFar out rest [] whole → out ≡ whole
unfolding data_lines
ends out whole [] so_far = sym (so_far ∙ with_none out)
ends out whole (e ∷ es) so_far = sym (so_far ∙ with_none out)

-- no process is left
pub ends_early : (out whole : List ℕ) (logs : List (List LogRecord)) → IsSoFar out [] logs whole → out ≡ whole
unfolding data_lines
ends_early out whole logs so_far = sym (so_far ∙ with_none out)
