-- That a report was seen to says nothing of where a case stands.
use Rattle.std.proofs.Common.{◌≡◌, ◌∙◌, List, [], ◌∷◌, ◌++◌, append-nil, refl, ap}
use Rattle.std.specs.List.{flat_map}
use Rattle.protocol.specs.declared.names.Case.{Case}
use Rattle.protocol.specs.declared.names.Ticket.{Ticket}
use Rattle.protocol.specs.declared.records.Record.{Record}
use Rattle.protocol.specs.declared.records.Record.TheVariants.{Cleared}
use Rattle.protocol.specs.Records.{is_abort, is_collecting, is_commit, is_end, is_prepare, named_by, named_in, owing_by, owing_in, promised_by, promised_in}
use Rattle.protocol.specs.Memory.{Memory}
use Rattle.protocol.specs.Standings.{CoordinatorView, coordinator_standing, view_at}
use Rattle.protocol.specs.CoordinatorRows.{Seat, unknown_forget}
use Rattle.protocol.specs.SameViews.{SameRow, SameView}
use Rattle.proof_model.proofs.RootViewLaws.{IsRowOfCase}
use Rattle.proof_processes.proofs.Phases.{not_found}
use Rattle.proof_runs.proofs.TrimmedViews.{SaysSame, view_same}

listed : (f : Record → List Ticket) (rs : List Record) (d : Case) → f (Cleared d) ≡ []
    → flat_map f (rs ++ Cleared d ∷ []) ≡ flat_map f rs
listed f [] d e = append-nil (f (Cleared d)) ∙ e
listed f (r ∷ rs) d e = ap (λ ts. f r ++ ts) (listed f rs d e)

says_nothing : (c d : Case) (rs : List Record) → SaysSame c (rs ++ Cleared d ∷ []) rs
unfolding promised_by named_by owing_by
says_nothing c d rs = record {
  ended = not_found (is_end c) rs (Cleared d) refl;
  committed = not_found (is_commit c) rs (Cleared d) refl;
  aborted = not_found (is_abort c) rs (Cleared d) refl;
  prepared = not_found (is_prepare c) rs (Cleared d) refl;
  collecting = not_found (is_collecting c) rs (Cleared d) refl;
  promised = listed (promised_in c) rs d refl;
  named = listed (named_in c) rs d refl;
  owing = listed (owing_in c) rs d refl;
}

-- a case reads as before after a report that was seen to
pub cleared_read : (c d : Case) (rs : List Record) (m : Memory)
    → view_at (coordinator_standing (rs ++ Cleared d ∷ []) c m) (rs ++ Cleared d ∷ []) c m
    ≡ view_at (coordinator_standing rs c m) rs c m
cleared_read c d rs m = view_same c m (rs ++ Cleared d ∷ []) rs (says_nothing c d rs)

module _ (s : Seat) where
  -- the row is of its case
  pub unknown_forget_of : (v : CoordinatorView) → IsRowOfCase s.own (unknown_forget s v)
  unknown_forget_of v = record { boot = λ b. refl; others = λ d rs m o. cleared_read d s.own rs m }

  -- views that are alike make rows that are
  pub unknown_forget-same : (v w : CoordinatorView) → SameView v w
      → SameRow (unknown_forget s v) (unknown_forget s w)
  unknown_forget-same v w same = record {
    written = refl;
    told = refl;
    messages = refl;
    accepts = refl;
    counts = refl;
    view = same;
  }
