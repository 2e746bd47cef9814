-- What is found of a group of steps.
use Rattle.std.proofs.Common.{◌≡◌, ◌∙◌, ◌<◌, ◌^◌, ◌⊎◌, inl, inr, ℕ, List, [], ◌∷◌, ◌++◌, length, take, None, Some, false, refl, sym, ap, subst, arith, le_refl, append-nil}
use Rattle.std.specs.List.{concat}
use Rattle.protocol.specs.declared.names.ProcessId.{ProcessId}
use Rattle.process_state.specs.States.{CoreState}
use Rattle.tree_state.specs.Worlds.{WorldState}
use Rattle.file_blocks.specs.Blocks.{behind_all, block_text, blocks_text, first_block, is_damaged}
use Rattle.file_blocks.specs.Files.{Holds, IsFile, file_head, file_text}
use Rattle.file_blocks.specs.Laws.{IsFileLeft}
use Rattle.file_blocks.proofs.Begun.{concat_more}
use Rattle.file_blocks.proofs.Kept.{kept, parts}
use Rattle.file_blocks.proofs.Reading.{block_size, front_of}
use Rattle.file_blocks.proofs.Tails.{tails}
use Rattle.proof_nodes.specs.Files.{FindsLog, LeavesFile}
use Rattle.proof_nodes.specs.Groups.{FindsBetween, GroupsGoOn, IsChosen, after_a_file, before_a_file, in_a_force}
use Rattle.proof_nodes.specs.Nodes.{NodeStep, NodeSteps, more, none}

-- Files to which nothing is being written.

no_block : (number place : ℕ) → (first_block number place [] ≡ None) × (is_damaged number place [] ≡ false)
no_block number place =
    tails number place 0 [] (omega arith) (omega (arith, block_size number place []))

clean_holds : (number : ℕ) (first : List ℕ) (others : List (List ℕ)) (bytes : List ℕ)
    → bytes ≡ concat (first ∷ others)
    → Holds (file_text number (first ∷ others)) number bytes
clean_holds number first others bytes e =
    let nothing = no_block number (behind_all 48 (first ∷ others)) in
    record {
      first = first;
      others = others;
      tail = [];
      is = record {
        text = ap (λ t. file_head number ++ t) (sym (append-nil (blocks_text number 48 (first ∷ others))));
        ends = nothing.0;
      };
      torn = nothing.1;
      held_are = e;
    }

clean_left : (number : ℕ) (first : List ℕ) (others : List (List ℕ)) (p : List ℕ)
    → IsFileLeft number first others p (file_text number (first ∷ others))
clean_left number first others p = record {
  keep = length (file_text number (first ∷ others));
  safe = le_refl (length (file_text number (first ∷ others)));
  is = sym (ap (take (length (file_text number (first ∷ others)))) (parts number (first ∷ others) p)
      ∙ front_of (length (file_text number (first ∷ others))) (file_text number (first ∷ others))
      (block_text number (behind_all 48 (first ∷ others)) p) refl);
}

-- what was on the disk is found
clean_found : (c : CoreState) (text : List ℕ) (forced number : ℕ) (first : List ℕ) (others : List (List ℕ))
    (bytes : List ℕ)
    → LeavesFile c text forced number first others → bytes ≡ concat (first ∷ others) → FindsLog c bytes
clean_found c text forced number first others bytes leaves e = record {
  text = text;
  forced = forced;
  number = number;
  first = first;
  others = others;
  leaves = leaves;
  file = file_text number (first ∷ others);
  left = clean_left number first others _;
  read_as = number;
  read_told = leaves.told;
  held = clean_holds number first others bytes e;
}

-- so is a file that has the name, read under whatever number
whole_found : (c : CoreState) (text : List ℕ) (forced number : ℕ) (first : List ℕ) (others : List (List ℕ))
    (bytes : List ℕ)
    → LeavesFile c text forced number first others → (read_as : ℕ) → read_as < 2 ^ 64
    → Holds (file_text number (first ∷ others)) read_as bytes → FindsLog c bytes
whole_found c text forced number first others bytes leaves read_as told holds = record {
  text = text;
  forced = forced;
  number = number;
  first = first;
  others = others;
  leaves = leaves;
  file = file_text number (first ∷ others);
  left = clean_left number first others _;
  read_as = read_as;
  read_told = told;
  held = holds;
}

found_between : (a b : CoreState) (bytes : List ℕ) → FindsBetween a b bytes → FindsLog a bytes
    ⊎ FindsLog b bytes
found_between a b bytes
    (in_a_force text later forced later_forced number first others added before after short file left
    read_as told holds) =
    by_case ((kept number first others added file before.told short left).1 read_as bytes told holds)
  where
    by_case : (bytes ≡ concat (first ∷ others)) ⊎ (bytes ≡ concat (first ∷ others) ++ added)
        → FindsLog a bytes ⊎ FindsLog b bytes
    by_case (inl e) = inl (clean_found a text forced number first others bytes before e)
    by_case (inr e) = inr (clean_found b later later_forced number first (others ++ added ∷ []) bytes after
        (e ∙ sym (concat_more (first ∷ others) added)))
found_between a b bytes (before_a_file text forced number first others leaves read_as told holds) =
    inl (whole_found a text forced number first others bytes leaves read_as told holds)
found_between a b bytes (after_a_file text forced number first leaves read_as told holds) =
    inr (whole_found b text forced number first [] bytes leaves read_as told holds)

-- Steps.

steps_on : (start s t : WorldState) → NodeSteps start s → NodeSteps s t → NodeSteps start t
steps_on start s t h none = h
steps_on start s t h (more u v k step) = more u v (steps_on start s u h k) step

pub groups_go_on : GroupsGoOn
groups_go_on start s t q a b h k at_s at_t bytes found = by_case (found_between a b bytes found)
  where
    by_case : FindsLog a bytes ⊎ FindsLog b bytes → IsChosen start q bytes
    by_case (inl finds) = record { chosen = s; steps = h; core = a; is_at = at_s; finds = finds }
    by_case (inr finds) =
        record { chosen = t; steps = steps_on start s t h k; core = b; is_at = at_t; finds = finds }
