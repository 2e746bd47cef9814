-- What the disk has of a store's file.
use Rattle.std.proofs.Common.{◌≡◌, ◌≤◌, ◌+◌, ◌∙◌, ◌⊎◌, inl, inr, ℕ, List, [], ◌∷◌, ◌++◌, length, take, sym, ap, arith, append-nil, length-append, take-append-drop}
use Rattle.std.specs.List.{concat}
use Rattle.std.proofs.lemmas.List.{take_all}
use Rattle.file_blocks.specs.Blocks.{behind, behind_all, block_text, blocks_text}
use Rattle.file_blocks.specs.Files.{file_head, file_text}
use Rattle.file_blocks.proofs.Reading.{block_size}
use Rattle.file_blocks.proofs.OneWay.{file_head_size}
use Rattle.file_blocks.proofs.Begun.{behind_more, concat_more}
use Rattle.file_blocks.proofs.Kept.{kept, parts}
use Rattle.log_file.specs.declared.store.FileStore.{FileStore}
use Rattle.log_file.specs.Stores.{WritesBlock, file_bytes, file_forced}
use Rattle.log_file.specs.Disks.{BlocksStandAfterThem, ForcesAreOnDisk, KeepsWhatWasForced, OnDisk, PutsAreOnDisk, unforced}

pub puts_on_disk : {F : Type 0} (replaces : F → F → List ℕ → Type 0) (new : FileStore F)
    → PutsAreOnDisk replaces new
puts_on_disk replaces new old text put is all = record {
  fresh = put.fresh;
  end = put.end;
  safe = append-nil text ∙ sym is ∙ sym (take_all new.forced new.bytes.items
      (omega (arith, all, ap length is)));
}

pub forces_on_disk : {F : Type 0} (writes : F → F → ℕ → List ℕ → Type 0) (syncs : F → F → Type 0)
    (new : FileStore F)
    → ForcesAreOnDisk writes syncs new
forces_on_disk writes syncs new old first others within there adds forces = by_case adds.by
  where
    all : take new.forced new.bytes.items ≡ old.bytes.items
    all = take_all new.forced new.bytes.items (omega (arith, forces.all, ap length forces.text)) ∙ forces.text

    by_case : ((length old.bytes.items ≡ old.forced) × (new.file ≡ old.file) × (new.end ≡ old.end))
        ⊎ WritesBlock writes syncs old new new.end
        → (more : List (List ℕ)) × OnDisk new first (others ++ more)
    by_case (inl none) = (
      [],
      record {
        fresh = adds.stays;
        end = none.2 ∙ there.end ∙ ap (λ t. behind_all 48 (first ∷ t)) (sym (append-nil others));
        safe = ap (λ t. concat (first ∷ t)) (append-nil others) ∙ there.safe
            ∙ take_all old.forced old.bytes.items (omega (arith, none.0)) ∙ sym all;
      },
    )
    by_case (inr block) = (
      unforced old ∷ [],
      record {
        fresh = adds.stays;
        end = block.behind_it ∙ ap (λ n. behind n (unforced old)) there.end
            ∙ sym (behind_more 48 (first ∷ others) (unforced old));
        safe = concat_more (first ∷ others) (unforced old) ∙ ap (λ t. t ++ unforced old) there.safe
            ∙ take-append-drop old.forced old.bytes.items ∙ sym all;
      },
    )

-- where the blocks of a file end
blocks_size : (n place : ℕ) (ps : List (List ℕ)) → behind_all place ps
    ≡ place + length (blocks_text n place ps)
blocks_size n place [] = omega arith
blocks_size n place (p ∷ ps) = omega (
  arith,
  blocks_size n (behind place p) ps,
  length-append (block_text n place p) (blocks_text n (behind place p) ps),
  block_size n place p,
)

pub stand_after : {F : Type 0} (s : FileStore F) → BlocksStandAfterThem s
stand_after s first others there = (
  omega (
    arith,
    there.end,
    blocks_size s.number 48 (first ∷ others),
    length-append (file_head s.number) (blocks_text s.number 48 (first ∷ others)),
    file_head_size s.number,
  ),
  ap (λ n. file_text s.number (first ∷ others) ++ block_text s.number n (unforced s)) there.end
      ∙ sym (parts s.number (first ∷ others) (unforced s)),
)

pub files_keep : {F : Type 0} (s : FileStore F) → KeepsWhatWasForced s
files_keep s first others bytes h few within there left =
    let found = kept s.number first others (unforced s) bytes h few left in
    (found.0, λ m held k is. by_case held (found.1 m held k is))
  where
    by_case : (held : List ℕ) → (held ≡ concat (first ∷ others))
        ⊎ (held ≡ concat (first ∷ others) ++ unforced s)
        → (k : ℕ) × (file_forced s ≤ k) × (held ≡ take k (file_bytes s))
    by_case held (inl e) = (s.forced, omega arith, e ∙ there.safe)
    by_case held (inr e) = (
      length s.bytes.items,
      within,
      e ∙ ap (λ t. t ++ unforced s) there.safe ∙ take-append-drop s.forced s.bytes.items
          ∙ sym (take_all (length s.bytes.items) s.bytes.items (omega arith)),
    )
