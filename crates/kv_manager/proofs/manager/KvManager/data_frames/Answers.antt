use Rattle.std.proofs.Common.{◌≡◌, ◌<◌, ◌^◌, ◌∙◌, ◌∷◌, ℕ, List, false, map, refl, sym, ap, subst}
use Rattle.protocol.specs.declared.records.LogRecord.{LogRecord}
use Rattle.protocol.specs.declared.records.Record.TheVariants.{Base}
use Rattle.protocol.specs.LogNames.{unnamed}
use Rattle.protocol.specs.Store.{base_records, data_of, pair_record}
use Rattle.log_text.specs.Made.{frame_record}
use Rattle.log_records.specs.Sights.{records_of}
use Rattle.kv_store.specs.Pairs.{ArePairsOf}
use Rattle.kv_state.specs.Stores.{KeySight}
use Rattle.kv_state.proofs.Counting.{counted_whole}
use Rattle.kv_manager.specs.Sights.{IsKvManager, IsLogged, KvSight, logged}
use Rattle.kv_manager.proofs.Keeping.{map_ok}
use Rattle.kv_manager.proofs.SoundData.{AreSoundPairs, pairs_sound}
use Rattle.kv_manager.proofs.Trimmed.{of_data, pairs_are_data}
use Rattle.kv_manager.proofs.manager.KvManager.data_frames.Goals as goal

module _ (s : KvSight) (ps : List (List ℕ × List ℕ)) (kept : IsKvManager s)
    (works : s.log.sight.failed ≡ false)
    (pairs : ArePairsOf s.store.versions ps) where
  pairs_are : ps ≡ (logged s).pairs
  pairs_are = pairs_are_data s.store.versions (logged s) ps (kept.stands works).are_data
      (kept.stands works).rise pairs

pub base_frames-requires-clause-base : goal.base_frames-requires-clause-base
base_frames-requires-clause-base g c =
    let s : KvSight = c.args.self.now in
    let kept : IsKvManager s = subst IsKvManager c.self.view_is c.self.invariant in
    let counted : c.count.result ≡ (logged s).count =
    c.count.ensures ∙ ap (λ (v : KvSight). v.store.versions.count) c.self.view_is
    ∙ (kept.stands c.requires).are_data.count in
    (refl, subst (λ n. n < 2 ^ 63) (sym counted) (counted_whole (records_of s.log.sight.kept) kept.counted))

pub base_frames-requires-clause-pairs : goal.base_frames-requires-clause-pairs
base_frames-requires-clause-pairs g c =
    let s : KvSight = c.args.self.now in
    let kept : IsKvManager s = subst IsKvManager c.self.view_is c.self.invariant in
    let store : c.self.inside.store ≡ s.store = ap (λ (v : KvSight). v.store) c.self.view_is in
    let pairs : ArePairsOf s.store.versions c.deref.result.now =
    subst (ArePairsOf s.store.versions) (sym c.deref.ensures.value)
    (subst (λ (k : KeySight). ArePairsOf k.versions c.in_ok-pairs.pairs.items) store c.in_ok-pairs.ensures) in
    subst AreSoundPairs (sym (pairs_are s c.deref.result.now kept c.requires pairs))
    (pairs_sound (records_of s.log.sight.kept) c.records_are_sound.ensures)

pub returns-clause-frames : goal.returns-clause-frames
returns-clause-frames g c =
    let s : KvSight = c.args.self.now in
    let ls : List LogRecord = records_of s.log.sight.kept in
    let kept : IsKvManager s = subst IsKvManager c.self.view_is c.self.invariant in
    let stands : IsLogged s = kept.stands c.requires in
    let store : c.self.inside.store ≡ s.store = ap (λ (v : KvSight). v.store) c.self.view_is in
    let pairs : ArePairsOf s.store.versions c.deref.result.now =
    subst (ArePairsOf s.store.versions) (sym c.deref.ensures.value)
    (subst (λ (k : KeySight). ArePairsOf k.versions c.in_ok-pairs.pairs.items) store c.in_ok-pairs.ensures) in
    let is : c.deref.result.now ≡ (data_of ls).pairs = pairs_are s c.deref.result.now kept c.requires pairs in
    let counted : c.count.result ≡ s.store.versions.count =
    c.count.ensures ∙ ap (λ (k : KeySight). k.versions.count) store in
    map_ok (λ frames. map frame_record frames.items ≡ unnamed (Base c.count.result)
    ∷ map (λ p. unnamed (pair_record p)) c.deref.result.now)
    (λ frames. map frame_record frames.items ≡ map unnamed (base_records (data_of ls))) c.base_frames.result
    c.base_frames.ensures.frames
    (λ frames made. of_data ls (map frame_record frames.items) s.store.versions c.count.result
    c.deref.result.now stands.are_data counted is made)
