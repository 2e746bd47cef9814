-- A log that takes a row's records stands for the model's lists that take them.
use Rattle.std.proofs.Common.{◌≡◌, ℕ, Bool, true, false, if◌then◌else◌, Option, List, [], ◌∷◌, ◌++◌, map, refl, sym, ap, ◌∙◌}
use Rattle.std.specs.Prelude.{fold, reverse}
use Rattle.protocol.specs.declared.names.ProcessId.{ProcessId}
use Rattle.protocol.specs.declared.records.Record.{Record}
use Rattle.protocol.specs.LogNames.{in_log}
use Rattle.protocol.specs.Records.{boot_after, boot_of}
use Rattle.protocol.specs.Nodes.{Effect, Heard, Node, after, appends, entries_written, is_any_forced, kept}
use Rattle.protocol.proofs.ListLaws.{kept-after}
use Rattle.proof_model.proofs.ManagerViewLaws.{boot_of-append}
use Rattle.log_records.specs.Sights.{LogSight}
use Rattle.process_state.specs.States.{wrote}

-- the log has the records of the lists, under their whole names
pub record Holds (q : Option ProcessId) (n : Node) (l : LogSight) : Type 0 where
  pub forced : l.kept.forced ≡ map (in_log q) n.forced
  pub unforced : l.kept.unforced ≡ map (in_log q) n.unforced
  pub failed : l.failed ≡ n.failed

pub map_append : {X Y : Type 0} (f : X → Y) (xs ys : List X) → map f (xs ++ ys) ≡ map f xs ++ map f ys
map_append f [] ys = refl
map_append f (x ∷ xs) ys = ap (λ zs. f x ∷ zs) (map_append f xs ys)

module _ (q : Option ProcessId) (n : Node) (l : LogSight) (rs : List Record) (held : Holds q n l) where
  all_forced : (l.kept.forced ++ l.kept.unforced) ++ map (in_log q) rs ≡ map (in_log q) (kept n ++ rs)
  all_forced =
      (λ i. (held.forced i ++ held.unforced i) ++ map (in_log q) rs)
      ∙ sym (ap (λ ls. ls ++ map (in_log q) rs) (map_append (in_log q) n.forced n.unforced))
      ∙ sym (map_append (in_log q) (kept n) rs)

  more_unforced : l.kept.unforced ++ map (in_log q) rs ≡ map (in_log q) (n.unforced ++ rs)
  more_unforced = ap (λ ls. ls ++ map (in_log q) rs) held.unforced ∙ sym (map_append (in_log q) n.unforced rs)

held_by : (q : Option ProcessId) (n : Node) (l : LogSight)
    (rs life durable : List Record) (b : Bool) → Holds q n l
    → Holds q
    (if b
    then record n { forced = kept n ++ rs; unforced = []; life = life; durable = durable }
    else record n { unforced = n.unforced ++ rs; life = life })
    (if b
    then record l {
      kept = record {
        forced = (l.kept.forced ++ l.kept.unforced)
            ++ map (in_log q) rs;
        unforced = [];
      };
      behind = 0;
    }
    else record l {
      kept = record {
        forced = l.kept.forced;
        unforced = l.kept.unforced ++ map (in_log q) rs;
      };
    })
held_by q n l rs life durable true held = record {
  forced = all_forced q n l rs held;
  unforced = refl;
  failed = held.failed;
}
held_by q n l rs life durable false held = record {
  forced = held.forced;
  unforced = more_unforced q n l rs
      held;
  failed = held.failed;
}

pub held_after : (q : Option ProcessId) (n : Node) (h : Heard) (e : Effect) (l : LogSight) → Holds q n l
    → Holds q (after n h e) (wrote l e.written (map (in_log q) (entries_written e.written)))
held_after q n h e l held =
    let rs = entries_written e.written in
    let by : Holds q (appends n e.written) (wrote l e.written (map (in_log q) rs)) =
    held_by q n l rs (reverse rs ++ n.life) (rs ++ (kept n ++ n.durable)) (is_any_forced e.written) held in
    record { forced = by.forced; unforced = by.unforced; failed = by.failed }

failed_by : (b : Bool) (whole part : Node) (f : Bool) → whole.failed ≡ f → part.failed ≡ f
    → (if b then whole else part).failed ≡ f
failed_by true whole part f w p = w
failed_by false whole part f w p = p

pub failed-after : (n : Node) (h : Heard) (e : Effect) → (after n h e).failed ≡ n.failed
failed-after n h e = failed_by (is_any_forced e.written) _ _ n.failed refl refl

-- these records are none of a boot
abbrev pub NoBoot : List Record → Type 0
NoBoot rs = (b : ℕ) → fold boot_after b rs ≡ b

pub same_boot : (n : Node) (rs : List Record) → NoBoot rs → boot_of (kept n ++ rs) ≡ boot_of (kept n)
same_boot n rs quiet = boot_of-append (kept n) rs ∙ quiet (boot_of (kept n))

pub boot-after : (n : Node) (h : Heard) (e : Effect) → NoBoot (entries_written e.written)
    → boot_of (kept (after n h e)) ≡ boot_of (kept n)
boot-after n h e quiet = ap boot_of (kept-after n h e) ∙ same_boot n (entries_written e.written) quiet
