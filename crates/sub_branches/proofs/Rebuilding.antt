-- What the cases of a log leave of a subordinate.
use Rattle.std.proofs.Common.{◌≡◌, ◌∙◌, ◌≤◌, ◌<◌, ◌+◌, ◌^◌, List, [], ◌∷◌, ◌++◌, refl, sym, ap}
use Rattle.std.specs.List.{flat_map}
use Rattle.protocol.specs.declared.names.Case.{Case}
use Rattle.protocol.specs.declared.names.ProcessId.{ProcessId}
use Rattle.protocol.specs.declared.messages.Envelope.{Envelope}
use Rattle.protocol_words.specs.Variants.{CaseBranch}
use Rattle.protocol.specs.declared.records.LogRecord.{LogRecord}
use Rattle.protocol.specs.LogNames.{own_records}
use Rattle.protocol.specs.Memory.{fresh_memory}
use Rattle.protocol.specs.Nodes.{Place}
use Rattle.protocol.specs.Restarts.{inquires_by, manager_resumes, recorded_branch}
use Rattle.protocol.specs.Standings.{Decided, Finished, Mark, Promised, ToldOf, Unmarked, mark_of, marked_branch}
use Rattle.sub_branches.specs.Tables.{kept_view, view_in}
use Rattle.sub_branches.specs.declared.cases.ReplayedCases.{ReplayedCases}
use Rattle.sub_branches.specs.Rebuilt.{RecordsLeave, RebuildsBranches, asks, asks_by, branch_left}
use Rattle.sub_branches.proofs.Steps.{more_own, reached_later}

-- how a case stands
view_left : (p : ProcessId) (c : Case) (m : Mark)
    → kept_view (branch_left p c m) ≡ marked_branch fresh_memory m
view_left p c Unmarked = refl
view_left p c Promised = refl
view_left p c Finished = refl
view_left p c Decided = refl
view_left p c (ToldOf o) = refl

-- what is asked about it
asked_left : (me p : ProcessId) (c : Case) (m : Mark)
    → asks_by me p c (branch_left p c m) ≡ inquires_by me p c (marked_branch fresh_memory m)
    (marked_branch fresh_memory m).standing
asked_left me p c Unmarked = refl
asked_left me p c Promised = refl
asked_left me p c Finished = refl
asked_left me p c Decided = refl
asked_left me p c (ToldOf o) = refl

pub same_flat : (f g : Case → List Envelope) → ((c : Case) → f c ≡ g c) → (cs : List Case)
    → flat_map f cs ≡ flat_map g cs
same_flat f g same [] = refl
same_flat f g same (c ∷ cs) = λ i. same c i ++ same_flat f g same cs i

module _ (place : Place) (p : ProcessId) (ls : List LogRecord) (s : ReplayedCases)
    (left : RecordsLeave place p ls s) where
  view_of : (c : Case) → view_in s.branches c ≡ recorded_branch (own_records place ls) c
  unfolding recorded_branch
  view_of c = ap kept_view (left.branches c) ∙ view_left p c (mark_of (CaseBranch c) (own_records place ls))

  asked : (c : Case) → asks place.me p s.branches c ≡ manager_resumes place.me p (own_records place ls) c
  unfolding recorded_branch
  asked c = ap (asks_by place.me p c) (left.branches c)
      ∙ asked_left place.me p c (mark_of (CaseBranch c) (own_records place ls))

  pub rebuilds : (messages : List Envelope) → messages ≡ flat_map (asks place.me p s.branches) s.order.keys
      → s.newest ≤ s.boot → s.boot + 1 < 2 ^ 63
      → RebuildsBranches place p ls (record { branches = s.branches; messages = messages; boot = s.boot })
  rebuilds messages sent within room = record {
    reads = left.reads;
    boot = left.boot;
    room = room;
    tickets = left.tickets;
    views = view_of;
    live = λ c b e. record {
      own = more_own place p s.newest s.boot c within (left.live c b e);
      kept = sym (left.branches c) ∙ e;
    };
    reached = reached_later place s.newest s.boot ls within left.reached;
    recalls = left.recalls;
    messages = sent ∙ same_flat (asks place.me p s.branches)
        (manager_resumes place.me p (own_records place ls)) asked s.order.keys
        ∙ ap (flat_map (manager_resumes place.me p (own_records place ls))) left.order;
  }
