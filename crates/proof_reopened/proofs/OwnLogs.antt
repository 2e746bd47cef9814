-- What a crash leaves of a tree's own logs is left by the run that the tree stands for.
use Rattle.std.proofs.Common.{◌≡◌, ◌∙◌, ◌+◌, ◌-◌, ap, sym, refl, ℕ, Bool, true, false, if◌then◌else◌, nat_le, Option, Some, None, is_some, List, [], ◌∷◌, ◌++◌, map, take, length}
use Rattle.std.proofs.lemmas.List.{map-append, take-map}
use Rattle.protocol.specs.declared.names.ProcessId.{ProcessId}
use Rattle.protocol.specs.declared.records.LogRecord.{LogRecord}
use Rattle.protocol.specs.LogNames.{in_log, parent_of}
use Rattle.protocol.specs.Nodes.{Node, Place, is_listed, role_of}
use Rattle.protocol.specs.Restarts.{left_of}
use Rattle.protocol.specs.World.{World}
use Rattle.log_records.specs.Sights.{left_by, record_size, whole_within}
use Rattle.process_state.specs.States.{CoreState}
use Rattle.tree_state.specs.Steps.{records_kept}
use Rattle.tree_state.specs.StandsFor.{StandsFor}
use Rattle.tree_state.specs.Worlds.{WorldState}
use Rattle.proof_runs.specs.worlds.Follows.{StandsAt}
use Rattle.proof_reopened.specs.Reopened.{AreLogsLeft}
use Rattle.proof_reopened.specs.Laws.{AreCut, OwnLogsAreLeft, OwnLogsSinceAreLeft}

within_is_front : (m : ℕ) (ls : List LogRecord) → whole_within m ls ≡ take (length (whole_within m ls)) ls
unfolding whole_within
within_is_front m [] = refl
within_is_front m (l ∷ ls) = by_test (nat_le (record_size l) m) (within_is_front (m - record_size l) ls)
  where
    by_test : (b : Bool)
        → whole_within (m - record_size l) ls ≡ take (length (whole_within (m - record_size l) ls)) ls
        → (if b then l ∷ whole_within (m - record_size l) ls else [])
        ≡ take (length (if b then l ∷ whole_within (m - record_size l) ls else [])) (l ∷ ls)
    by_test true e = ap (λ t. l ∷ t) e
    by_test false e = refl

-- what a crash leaves of a process that stands for the model's is what one leaves of that
left_so : (n : Node) (c : CoreState) (keep : ℕ) → StandsFor n c
    → left_by c.log keep ≡ map (in_log (parent_of c.place.role)) (left_of n (records_kept c keep))
left_so n c keep h =
    let q = parent_of c.place.role in
    let k = records_kept c keep in
    ap (λ xs. xs ++ whole_within (c.log.behind + keep) c.log.kept.unforced) h.forced
    ∙ (ap (λ xs. map (in_log q) n.forced ++ xs)
    (within_is_front (c.log.behind + keep) c.log.kept.unforced
    ∙ (ap (take k) h.unforced ∙ take-map (in_log q) k n.unforced))
    ∙ sym (map-append (in_log q) n.forced (take k n.unforced)))

module _ (s : WorldState) (w : World) (keep : ProcessId → ℕ) (logs : ProcessId → List LogRecord)
    (nodes : (q : ProcessId) (c : CoreState) → s.node_at q ≡ Some c → StandsAt w s q c)
    (listed : (q : ProcessId) → is_some (s.node_at q) ≡ is_listed s.tree q) (cut : AreCut s keep logs) where
  kept_of : Option CoreState → ℕ → ℕ
  kept_of None k = 0
  kept_of (Some c) k = records_kept c k

  left_at : (q : ProcessId) (o : Option CoreState) → s.node_at q ≡ o → is_some o ≡ true
      → logs q ≡ map (in_log (parent_of (role_of s.tree q))) (left_of (w.at q) (kept_of o (keep q)))
  unfolding kept_of
  left_at q None is there = absurd (cc)
  left_at q (Some c) is there =
      let h = nodes q c is in
      cut q c is ∙ (left_so (w.at q) c (keep q) h.stands
      ∙ ap (λ (p : Place). map (in_log (parent_of p.role)) (left_of (w.at q) (records_kept c (keep q))))
      h.place)

  pub are_left : AreLogsLeft s.tree w logs
  are_left = record {
    keep = λ q. kept_of (s.node_at q) (keep q);
    left = λ q there. left_at q (s.node_at q) refl (listed q ∙ there);
  }

pub own_logs_left : OwnLogsAreLeft
own_logs_left s keep logs es w f cut =
    are_left s w keep logs
    (λ q c there.
    let h = f.follows.nodes q c there in record { place = h.place; stands = h.stands }) f.follows.listed cut

pub own_logs_since_left : OwnLogsSinceAreLeft
own_logs_since_left o s keep logs es w f cut = are_left s w keep logs f.nodes f.listed cut
