-- The frames of a base and its pairs.
use Rattle.std.proofs.Common.{◌≡◌, ◌++◌, ◌+◌, ◌<◌, arith, ℕ, zero, suc, List, [], ◌∷◌, None, length, map, take, get_or, sym, subst, ap, ◌∙◌}
use Rattle.std.proofs.lemmas.List.{map-append, take_more}
use Rattle.std.specs.List.{AllByRecursion}
use Rattle.protocol.specs.declared.names.Kind.TheVariants.{Manager}
use Rattle.protocol.specs.declared.records.LogRecord.{LogRecord}
use Rattle.protocol.specs.declared.records.Record.TheVariants.{Pair}
use Rattle.log_text.specs.Payloads.{FitsFrame}
use Rattle.log_rules.specs.sound.Sound.{IsSound}
use Rattle.log_rules.proofs.sound.Sizes.{sound_fits}
use Rattle.log_records.proofs.SoundRecords.{sound_is_record}
use Rattle.log_records.specs.Sights.{AreRecords, IsRecord}
use Rattle.protocol.specs.LogNames.{unnamed}

pub pair_fits : (k v j u : List ℕ) → IsSound Manager (unnamed (Pair k v)) → j ≡ k → u ≡ v
    → FitsFrame (record { entry = Pair j u; parent = None })
pair_fits k v j u sound is value =
    sound_fits Manager (unnamed (Pair j u))
    (subst (λ a. IsSound Manager (unnamed (Pair a u))) (sym is)
    (subst (λ b. IsSound Manager (unnamed (Pair k b))) (sym value) sound))

-- what holds of each holds of the one at an index
pub each_at : {A : Type 0} (P : A → Type 0) (xs : List A) (i : ℕ) (x : A) → AllByRecursion P xs
    → i < length xs
    → x ≡ get_or xs i x → P x
each_at P [] i x all within at = absurd (omega (arith, within))
each_at P (y ∷ xs) zero x all within at = subst P (sym at) all.0
each_at P (y ∷ xs) (suc i) x all within at = each_at P xs i x all.1 (omega (arith, within)) at

-- a sound record can be in a log
pub is_record : (l : LogRecord) → IsSound Manager l → IsRecord Manager l
is_record l h = sound_is_record Manager l h

-- one more record that can be in a log
pub one_more : (ls : List LogRecord) (l : LogRecord) → AreRecords Manager ls → IsSound Manager l
    → AreRecords Manager (ls ++ l ∷ [])
one_more [] l h sound = (is_record l sound, tt)
one_more (m ∷ ls) l h sound = (h.0, one_more ls l h.1 sound)

-- the frame of a base stands alone
pub begun : {F : Type 0} (f : F → LogRecord) (new old : List F) (x : F) (l : LogRecord)
    → new ≡ old ++ x ∷ [] → old ≡ []
    → f x ≡ l → IsSound Manager l → (map f new ≡ l ∷ []) × AreRecords Manager (map f new)
begun f new old x l is none reads sound =
    let one : new ≡ x ∷ [] = is ∙ ap (λ fs. fs ++ x ∷ []) none in
    let spelt : map f new ≡ l ∷ [] = ap (map f) one ∙ ap (λ m. m ∷ []) reads in
    (spelt, subst (AreRecords Manager) (sym spelt) (is_record l sound, tt))

-- a pair more after those of a base
pub followed : {F P : Type 0} (f : F → LogRecord) (g : P → LogRecord) (new old : List F) (x : F)
    (b : LogRecord) (ps : List P) (i : ℕ) (p : P)
    → new ≡ old ++ x ∷ [] → f x ≡ g p → IsSound Manager (g p) → i < length ps → p ≡ get_or ps i p
    → (map f old ≡ b ∷ map g (take i ps)) × AreRecords Manager (map f old)
    → (map f new ≡ b ∷ map g (take (i + 1) ps)) × AreRecords Manager (map f new)
followed f g new old x b ps i p is reads sound within at h =
    let own : map f new ≡ map f old ++ g p ∷ [] = ap (map f) is ∙ map-append f old (x ∷ [])
    ∙ ap (λ m. map f old ++ m ∷ []) reads in
    let more : take (i + 1) ps ≡ take i ps ++ p ∷ [] = take_more ps i p within
    ∙ ap (λ q. take i ps ++ q ∷ []) (sym at) in
    let all : map g (take (i + 1) ps) ≡ map g (take i ps) ++ g p ∷ [] = ap (map g) more
    ∙ map-append g (take i ps) (p ∷ []) in (
      own ∙ ap (λ ls. ls ++ g p ∷ []) h.0 ∙ ap (λ ls. b ∷ ls) (sym all),
      subst (AreRecords Manager) (sym own) (one_more (map f old) (g p) h.1 sound),
    )
