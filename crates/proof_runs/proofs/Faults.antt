-- What a refusal and a fault leave of a process stands for what they leave of the model's.
use Rattle.std.proofs.Common.{◌≡◌, ◌∙◌, ◌≤◌, ◌+◌, ◌-◌, ℕ, zero, suc, false, Option, List, [], ◌∷◌, ◌++◌, append_assoc, map, take, drop, refl, sym, ap, subst, arith}
use Rattle.std.specs.Prelude.{length}
use Rattle.protocol.specs.declared.names.ProcessId.{ProcessId}
use Rattle.protocol.specs.declared.events.Input.{Input}
use Rattle.protocol.specs.declared.events.StepError.{StepError}
use Rattle.protocol.specs.declared.records.Record.{Record}
use Rattle.protocol.specs.LogNames.{in_log}
use Rattle.protocol.specs.Nodes.{DataAnswer, Effect, Node, entries_written, fails_in}
use Rattle.protocol.specs.Reactions.{Refused, reacts}
use Rattle.log_records.specs.Sights.{LogSight, records_of}
use Rattle.process_state.specs.States.{CoreState, SameCore, logged, parent}
use Rattle.process_state.specs.Makes.{IsBroken, IsRefusedInput}
use Rattle.process_state.specs.Turns.{reacted, heard_now}
use Rattle.proof_runs.specs.Laws.{BrokenAs}
use Rattle.protocol.specs.Standings.{ManagerView}
use Rattle.tree_state.specs.StandsFor.{ChildrenFit, StandsFor, StandsUp, view_at}
use Rattle.proof_runs.proofs.Managers.{same_view-trans}
use Rattle.proof_runs.proofs.Records.{map_append}
use Rattle.proof_runs.proofs.SameKept.{SameKept, same_kept}
use Rattle.proof_runs.proofs.Turns.{meets_as}

-- Nothing is otherwise.

up_same : (n : Node) (old new : CoreState) → SameKept old new → StandsUp n old
    → StandsUp n (record new { place = old.place })
up_same n old new same up =
    record {
      boot = same.boot ∙ up.boot;
      begun = λ c. same.begun ∙ up.begun c;
      given = λ c. same.given ∙ up.given c;
      tickets = λ d. same.tickets d ∙ up.tickets d;
      views = λ c. same_view-trans (new.view_of c) (old.view_of c) (view_at old.place.role old.place n c)
          (same.views c) (up.views c);
      branches = λ c. same.branches c ∙ up.branches c;
      decided = λ c is. same.decided c is
          ∙ up.decided c (ap (λ (v : ManagerView). v.standing) (sym (same.branches c)) ∙ is);
    }

pub kept_stands : (n : Node) (old new : CoreState) → SameKept old new → StandsFor n old → StandsFor n new
kept_stands n old new same stands =
    subst (λ p. StandsFor n (record new { place = p })) (sym same.place)
    (record {
      forced = ap (λ (l : LogSight). l.kept.forced) same.log ∙ stands.forced;
      unforced = ap (λ (l : LogSight). l.kept.unforced) same.log ∙ stands.unforced;
      failed = ap (λ (l : LogSight). l.failed) same.log ∙ stands.failed;
      up = λ runs. up_same n old new same (stands.up runs);
    })

pub same_stands : (n : Node) (old new : CoreState) → SameCore old new → StandsFor n old → StandsFor n new
same_stands n old new same = kept_stands n old new (same_kept old new same)

-- A refusal.

pub refuses_so : (n : Node) (old new : CoreState) (a : DataAnswer) (i : Input) (e : StepError)
    → StandsFor n old
    → (n.failed ≡ false → ChildrenFit old.place n)
    → IsRefusedInput old new a i e → (reacts old.place n (heard_now a i) ≡ Refused e)
    × StandsFor n new
refuses_so n old new a i e stands fit refused = (
  meets_as n old a refused.found i fit refused.finds stands
      ∙ ap reacted refused.refuses,
  same_stands n old new refused.same stands,
)

-- A fault.

module _ {X : Type 0} where
  take_more : (xs ys : List X) (k m : ℕ) → m ≡ length xs + k → take m (xs ++ ys) ≡ xs ++ take k ys
  take_more [] ys k m e = ap (λ z. take z ys) (omega (arith, e))
  take_more (x ∷ xs) ys k zero e = absurd (omega (arith, e))
  take_more (x ∷ xs) ys k (suc m) e = ap (λ zs. x ∷ zs) (take_more xs ys k m (omega (arith, e)))

  drop_more : (xs ys : List X) (k m : ℕ) → m ≡ length xs + k → drop m (xs ++ ys) ≡ drop k ys
  drop_more [] ys k m e = ap (λ z. drop z ys) (omega (arith, e))
  drop_more (x ∷ xs) ys k zero e = absurd (omega (arith, e))
  drop_more (x ∷ xs) ys k (suc m) e = drop_more xs ys k m (omega (arith, e))

  take_front : (xs ys : List X) → take (length xs) (xs ++ ys) ≡ xs
  take_front [] ys = refl
  take_front (x ∷ xs) ys = ap (λ zs. x ∷ zs) (take_front xs ys)

  pub drop_front : (xs ys : List X) → drop (length xs) (xs ++ ys) ≡ ys
  drop_front [] ys = refl
  drop_front (x ∷ xs) ys = drop_front xs ys

module _ {X Y : Type 0} (f : X → Y) where
  pub map_take : (k : ℕ) (xs : List X) → map f (take k xs) ≡ take k (map f xs)
  map_take zero xs = refl
  map_take (suc k) [] = refl
  map_take (suc k) (x ∷ xs) = ap (λ ys. f x ∷ ys) (map_take k xs)

  pub map_drop : (k : ℕ) (xs : List X) → map f (drop k xs) ≡ drop k (map f xs)
  map_drop zero xs = refl
  map_drop (suc k) [] = refl
  map_drop (suc k) (x ∷ xs) = map_drop k xs

-- a front of the lists stands, and some of it is forced
pub record Split {X : Type 0} (old_forced behind forced unforced : List X) : Type 0 where
  pub more : ℕ
  pub forced_is : forced ≡ old_forced ++ take more behind
  pub unforced_is : unforced ≡ drop more behind

pub split : {X : Type 0} (old_forced behind forced unforced : List X)
    → forced ++ unforced ≡ old_forced ++ behind
    → length old_forced ≤ length forced
    → Split old_forced behind forced unforced
split old_forced behind forced unforced same less =
    let k = length forced - length old_forced in
    let whole : length forced ≡ length old_forced + k = omega (arith, less) in
    record {
      more = k;
      forced_is = sym (take_front forced unforced) ∙ ap (take (length forced)) same
          ∙ take_more old_forced behind k (length forced) whole;
      unforced_is = sym (drop_front forced unforced) ∙ ap (drop (length forced)) same
          ∙ drop_more old_forced behind k (length forced) whole;
    }

module _ (n : Node) (old new : CoreState) (a : DataAnswer) (i : Input) (stands : StandsFor n old)
    (broken : IsBroken old new a i) where
  abbrev effect : Effect
  effect = broken.breaks.0

  abbrev rs : List Record
  rs = entries_written effect.written

  abbrev q : Option ProcessId
  q = parent old

  abbrev appended : ℕ
  appended = broken.breaks.2.log.appended

  abbrev behind : List Record
  behind = n.unforced ++ take appended rs

  records : records_of new.log.kept ≡ old.log.kept.forced ++ map (in_log q) behind
  records =
      broken.breaks.2.log.stand
      ∙ append_assoc old.log.kept.forced old.log.kept.unforced (take appended (logged old rs))
      ∙ ap (λ ls. old.log.kept.forced ++ ls)
      ((λ j. stands.unforced j ++ sym (map_take (in_log q) appended rs) j)
      ∙ sym (map_append (in_log q) n.unforced (take appended rs)))

  parts : Split old.log.kept.forced (map (in_log q) behind) new.log.kept.forced new.log.kept.unforced
  parts = split _ _ _ _ records broken.breaks.2.log.no_less

  left_so : StandsFor (fails_in n (heard_now a i) effect appended parts.more)
      (record new { place = old.place })
  left_so =
      record {
        forced = parts.forced_is
            ∙ (λ j. stands.forced j ++ sym (map_take (in_log q) parts.more behind) j)
            ∙ sym (map_append (in_log q) n.forced (take parts.more behind));
        unforced = parts.unforced_is ∙ sym (map_drop (in_log q) parts.more behind);
        failed = broken.breaks.2.log.failed;
        up = λ runs. absurd (cc);
      }

  pub breaks_so : (n.failed ≡ false → ChildrenFit old.place n)
      → BrokenAs n (heard_now a i) old new
  breaks_so fit =
      record {
        effect = effect;
        does = meets_as n old a broken.found i fit broken.finds stands ∙ broken.breaks.1;
        appended = appended;
        forced = parts.more;
        stands =
            subst (λ p. StandsFor (fails_in n (heard_now a i) effect appended parts.more)
            (record new { place = p }))
            (sym broken.breaks.2.place) left_so;
      }
