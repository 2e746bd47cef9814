-- What is told of texts of logs, without a node.
use Rattle.std.specs.Prelude.{◌≡◌, ℕ, List, length, ◌==◌, if◌then◌else◌}
use Rattle.audit_engine.specs.declared.detail.Detail.{Detail}
use Rattle.audit_engine.specs.declared.detail.Detail.TheVariants.{Lines, Explained}
use Rattle.audit_engine.specs.declared.ending.AuditStatus.{AuditStatus}
use Rattle.audit_engine.specs.Audits.{IsAuditReport, IsTrueReport, ending_number}
use Rattle.audit_engine.specs.logs.Reports.{IsLogReport}
use Rattle.report_io.specs.declared.status.Status.{Status}
use Rattle.report_io.specs.Streams.{status_number}
use Rattle.linked_node.specs.Turns.{Fills}

-- this text is in the room, if it fits, and this is its size
abbrev pub Told : (text old new : List ℕ) → ℕ → Type 0
Told text old new size = (size ≡ length text) × Fills text old new

-- whether an audit is explained
abbrev pub detail_by : ℕ → Detail
detail_by number = if number == 0 then Lines else Explained

-- the report of an audit of these logs, true of each run that left them, and the status by which the program
-- ends
pub record AuditsAs (detail : Detail) (logs old new : List ℕ) (size status : ℕ) : Type 0 where
  pub ending : AuditStatus
  pub text : List ℕ
  pub reports : IsAuditReport detail ending logs text
  pub is_true : IsTrueReport detail ending logs text
  pub told : Told text old new size
  pub ends : status ≡ ending_number ending

-- what the logs hold, and the status by which the program ends
pub record ShowsAs (logs old new : List ℕ) (size status : ℕ) : Type 0 where
  pub ending : Status
  pub text : List ℕ
  pub reports : IsLogReport ending logs text
  pub told : Told text old new size
  pub ends : status ≡ status_number ending

-- nothing is told, since memory was refused
pub record TellsNone (old new : List ℕ) (size ending status : ℕ) : Type 0 where
  pub why : status ≡ 21
  pub room : new ≡ old
  pub nothing : size ≡ 0
  pub ends : ending ≡ 4

-- logs are audited, or memory was refused
pub data Audits (detail : Detail) (logs old new : List ℕ) (size ending status : ℕ) : Type 0 where
  audited : status ≡ 0 → AuditsAs detail logs old new size ending
      → Audits detail logs old new size ending status
  refused : TellsNone old new size ending status → Audits detail logs old new size ending status

-- logs are shown, or memory was refused
pub data Logs (logs old new : List ℕ) (size ending status : ℕ) : Type 0 where
  shown : status ≡ 0 → ShowsAs logs old new size ending → Logs logs old new size ending status
  refused : TellsNone old new size ending status → Logs logs old new size ending status
