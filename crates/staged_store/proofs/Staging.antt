-- Stores go on, and a file that is brought up holds what was promised.
use Rattle.std.proofs.Common.{◌≡◌, ◌∙◌, ◌⊎◌, inl, inr, ℕ, List, ◌∷◌, ◌++◌, Result, Ok, Err, OnOk, length, take, drop, refl, sym, ap, subst, arith, le_refl, take-append-drop, length-take-le, take_all, take-take}
use Rattle.std.specs.List.{concat}
use Rattle.file_blocks.proofs.Kept.{kept}
use Rattle.log_file.specs.declared.store.FileStore.{FileStore}
use Rattle.log_file.specs.Disks.{unforced}
use Rattle.log_file.specs.Stores.{file_bytes, file_forced}
use Rattle.staged_store.specs.declared.backing.FileBacking.{FileBacking}
use Rattle.staged_store.specs.declared.staged.StagedStore.{StagedStore}
use Rattle.staged_store.specs.Staged.{Continues, Grows, StoresContinue, promised}
use Rattle.staged_store.specs.Crashes.{GroupsStandOrNot}
use Rattle.staged_store.specs.Backings.{AddsPromised, Asks, Holds, asks_block, asks_file, asks_nothing}

-- two facts of an Ok
pub both_on_ok : {A E : Type 0} (r : Result A E) (P Q R : Type 0) → (P → Q → R) → OnOk r P → OnOk r Q
    → OnOk r R
both_on_ok (Ok a) P Q R f p q = f p q
both_on_ok (Err e) P Q R f p q = tt

-- Stores.

grown : (old s new : StagedStore) → Grows old s → Grows s new → Grows old new
grown old s new a b = record {
  no_less = omega (arith, a.no_less, b.no_less);
  front = sym (take-take old.forced s.forced new.bytes.items a.no_less) ∙ ap (take old.forced) b.front
      ∙ take-take old.forced s.forced s.bytes.items a.no_less ∙ a.front;
}

pub stores_go_on : (s : StagedStore) → StoresContinue s
stores_go_on s = record {
  stays = record {
    rewrites = le_refl s.rewrites;
    grows = λ same. record { no_less = le_refl s.forced; front = refl };
  };
  goes_on = λ old new h k. record {
    rewrites = omega (arith, h.rewrites, k.rewrites);
    grows = λ same.
        let first : s.rewrites ≡ old.rewrites = omega (arith, h.rewrites, k.rewrites, same) in
        let second : new.rewrites ≡ s.rewrites = omega (arith, h.rewrites, k.rewrites, same) in
        grown old s new (h.grows first) (k.grows second);
  };
}

-- Files.

module _ {F : Type 0} (b : FileBacking F) (before s : StagedStore) (h : Holds b before)
    (k : Continues before s) where
  -- if nothing took the place of what stood, what is in the file is a front of what is promised
  front_stands : b.rewrites ≡ s.rewrites → take (length (file_bytes b.file)) (promised s) ≡ file_bytes b.file
  front_stands same =
      let grows = k.grows (sym same ∙ h.rewrites) in
      let long : length (file_bytes b.file) ≡ before.forced =
      ap length h.text ∙ length-take-le before.forced before.bytes.items before.within in
      ap (λ n. take n (promised s)) long ∙ take-take before.forced s.forced s.bytes.items grows.no_less
      ∙ grows.front ∙ sym h.text

  -- nothing was asked
  all_stands : b.rewrites ≡ s.rewrites → file_forced b.file ≡ length (promised s) → Holds b s
  all_stands same forced =
      let long : length (promised s) ≡ length (file_bytes b.file) = sym forced ∙ h.all
      ∙ ap length (sym h.text) in
      record {
        text = sym (front_stands same) ∙ ap (λ n. take n (promised s)) (sym long)
            ∙ take_all (length (promised s)) (promised s) (le_refl (length (promised s)));
        all = forced;
        rewrites = same;
      }

module _ {F : Type 0} (writes : F → F → ℕ → List ℕ → Type 0) (syncs : F → F → Type 0)
    (replaces : F → F → List ℕ → Type 0)
    (b new : FileBacking F) (before s : StagedStore) (h : Holds b before) (k : Continues before s) where
  block_stands : b.rewrites ≡ s.rewrites
      → AddsPromised writes syncs replaces b new (drop (length (file_bytes b.file)) (promised s))
      → Holds new s
  block_stands same adds =
      let text : file_bytes adds.mid ≡ promised s =
      adds.appends.text
      ∙ ap (λ xs. xs ++ drop (length (file_bytes b.file)) (promised s))
      (sym (front_stands b before s h k same))
      ∙ take-append-drop (length (file_bytes b.file)) (promised s) in
      record {
        text = adds.forces.text ∙ text;
        all = adds.forces.all ∙ ap length text;
        rewrites = adds.rewrites ∙ same;
      }

  pub brought_up : Asks writes syncs replaces b new (promised s) s.rewrites → Holds new s
  brought_up (asks_nothing stays same forced) =
      subst (λ x. Holds x s) (sym stays) (all_stands b before s h k same forced)
  brought_up (asks_block same adds) = block_stands same adds
  brought_up (asks_file puts) =
      record { text = puts.puts.text_stands; all = puts.puts.all; rewrites = puts.counted }

-- Crashes.

pub stand_or_not : {F : Type 0} (f : FileStore F) → GroupsStandOrNot f
stand_or_not f a b first others bytes h few is left =
    let found = kept f.number first others (unforced f) bytes h few left in
    (found.0, λ m held k there. by_case held (found.1 m held k there))
  where
    by_case : (held : List ℕ) → (held ≡ concat (first ∷ others))
        ⊎ (held ≡ concat (first ∷ others) ++ unforced f)
        → (held ≡ promised a) ⊎ (held ≡ promised b)
    by_case held (inl e) = inl (e ∙ is.disk.safe ∙ is.before)
    by_case held (inr e) =
        inr (e ∙ ap (λ t. t ++ unforced f) is.disk.safe ∙ take-append-drop f.forced f.bytes.items ∙ is.after)
