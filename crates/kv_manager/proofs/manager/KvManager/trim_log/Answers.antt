use Rattle.std.proofs.Common.{◌≡◌, ◌∙◌, rules, false, map, sym, ap, subst}
use Rattle.std.specs.List.{AllByRecursion}
use Rattle.protocol.specs.declared.names.Kind.TheVariants.{Manager}
use Rattle.protocol.specs.Store.{base_records}
use Rattle.log_text.specs.Made.{frame_record}
use Rattle.log_rules.specs.sound.Sound.{IsSound}
use Rattle.log_records.specs.Sights.{NotRewritten, records_of}
use Rattle.log_records.specs.Trimming.{LogTrimmed, trim_of}
use Rattle.protocol.specs.LogNames.{unnamed}
use Rattle.kv_manager.specs.Sights.{KvSight, logged}
use Rattle.kv_manager.proofs.Trimmed.{AreOfData, kept_again, kept_trimmed, kept_untrimmed, own_is_data}
use Rattle.kv_manager.proofs.manager.KvManager.trim_log.Goals as goal

pub trim_again-requires-clause-managers : goal.trim_again-requires-clause-managers
trim_again-requires-clause-managers g c = c.self.invariant.kind

pub invariant_of-self : goal.invariant_of-self
invariant_of-self g c =
    let s : KvSight = record {
      store = c.self.inside.store;
      log = c.self.inside.log;
      boot = c.self.inside.boot;
    } in
    let works : s.log.sight.failed ≡ false = search rules in
    let sound : AllByRecursion (IsSound Manager) (records_of s.log.sight.kept) =
    subst (λ (v : KvSight). AllByRecursion (IsSound Manager) (records_of v.log.sight.kept))
    (sym c.self.view_is) c.records_are_sound.ensures in
    kept_again c.trim_again.result s c.trim_again.new.log c.in-Some.count c.self.invariant works sound
    c.trim_again.ensures.ok c.trim_again.ensures.err

pub trim-requires-clause-own : goal.trim-requires-clause-own
trim-requires-clause-own g c =
    ap (map frame_record) c.deref.ensures.value ∙ c.in_ok-frames.ensures.frames
    ∙ ap (λ (v : KvSight). map unnamed (base_records (logged v))) (sym c.self.view_is)
    ∙ sym (own_is_data c.self.inside.log.sight c.self.invariant.kind)

pub invariant_of-self-in-Ok-trim : goal.invariant_of-self-in-Ok-trim
invariant_of-self-in-Ok-trim g c =
    let s : KvSight = record {
      store = c.self.inside.store;
      log = c.self.inside.log;
      boot = c.self.inside.boot;
    } in
    let works : s.log.sight.failed ≡ false = search rules in
    let made : LogTrimmed s.log c.trim.new.self (map frame_record c.deref.result.now)
    c.in-Ok-trim.count = search rules in
    let sound : AllByRecursion (IsSound Manager) (records_of s.log.sight.kept) =
    subst (λ (v : KvSight). AllByRecursion (IsSound Manager) (records_of v.log.sight.kept))
    (sym c.self.view_is) c.records_are_sound.ensures in
    let spell : AreOfData s (map frame_record c.deref.result.now) =
    ap (map frame_record) c.deref.ensures.value ∙ c.in_ok-frames.ensures.frames
    ∙ ap (λ (v : KvSight). map unnamed (base_records (logged v))) (sym c.self.view_is) in
    kept_trimmed s c.trim.new.self (map frame_record c.deref.result.now) c.in-Ok-trim.count
    c.self.invariant works sound spell made

pub invariant_of-self-2 : goal.invariant_of-self-2
invariant_of-self-2 g c =
    let s : KvSight = record {
      store = c.self.inside.store;
      log = c.self.inside.log;
      boot = c.self.inside.boot;
    } in
    let works : s.log.sight.failed ≡ false = search rules in
    let why : NotRewritten s.log c.trim.new.self
    (trim_of s.log (map frame_record c.deref.result.now)) c.in-Err-trim.error = search rules in
    let sound : AllByRecursion (IsSound Manager) (records_of s.log.sight.kept) =
    subst (λ (v : KvSight). AllByRecursion (IsSound Manager) (records_of v.log.sight.kept))
    (sym c.self.view_is) c.records_are_sound.ensures in
    let spell : AreOfData s (map frame_record c.deref.result.now) =
    ap (map frame_record) c.deref.ensures.value ∙ c.in_ok-frames.ensures.frames
    ∙ ap (λ (v : KvSight). map unnamed (base_records (logged v))) (sym c.self.view_is) in
    kept_untrimmed s c.trim.new.self (map frame_record c.deref.result.now) c.in-Err-trim.error
    c.self.invariant works sound spell why
