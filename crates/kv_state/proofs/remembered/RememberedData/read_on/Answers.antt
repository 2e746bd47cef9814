use Rattle.std.proofs.Common.{◌≡◌, ◌++◌, true, List, refl, sym, subst}
use Rattle.protocol.specs.declared.records.LogRecord.{LogRecord}
use Rattle.kv_store.specs.Pairs.{ArePairsOf, keys_rise}
use Rattle.kv_state.specs.Decisions.{KnowDecided}
use Rattle.kv_state.specs.Remembered.{LogMemory, ReadsNow, RemembersData}
use Rattle.kv_state.specs.Replays.{ReplayFails}
use Rattle.kv_state.specs.declared.fault.ReplayError.TheVariants.{Memory}
use Rattle.kv_state.proofs.Holding.{restore_fails}
use Rattle.kv_state.proofs.Lawful.{lawful_of}
use Rattle.kv_state.proofs.Passes.{passed_on}
use Rattle.kv_state.proofs.Remembering.{know_copied, remembered_data, remembers_read}
use Rattle.kv_state.proofs.remembered.RememberedData.read_on.Goals as goal

pub read_on-requires : goal.read_on-requires
read_on-requires c =
    let m : LogMemory = record {
      seen = c.self.inside.seen;
      decisions = c.self.inside.decisions;
      count = c.self.inside.count;
      pairs = c.self.inside.pairs.items;
    } in (
      c.requires.0,
      remembered_data c.requires.0 m c.in_ok-data.data c.deref.result.now c.deref.ensures.value
          (subst (RemembersData c.requires.0) (sym c.self.view_is) c.requires.1) c.in_ok-data.ensures.set
          c.in_ok-data.ensures.pairs,
    )

pub in_doubt-requires : goal.in_doubt-requires
in_doubt-requires c =
    let m : LogMemory = record {
      seen = c.self.inside.seen;
      decisions = c.self.inside.decisions;
      count = c.self.inside.count;
      pairs = c.self.inside.pairs.items;
    } in
    let reads : ReadsNow c.requires.0 m.seen c.in_ok-data.data =
    remembered_data c.requires.0 m c.in_ok-data.data c.deref.result.now c.deref.ensures.value
    (subst (RemembersData c.requires.0) (sym c.self.view_is) c.requires.1) c.in_ok-data.ensures.set
    c.in_ok-data.ensures.pairs in
    (lawful_of (c.requires.0 ++ c.args.records.items) c.in_ok-reading.reading.seen
    (c.in_ok-reading.ensures.ok c.requires.0 reads).read).orderly

pub returns-clause-leaves : goal.returns-clause-leaves
returns-clause-leaves c = λ ls is.
    let m : LogMemory = record {
      seen = c.self.inside.seen;
      decisions = c.self.inside.decisions;
      count = c.self.inside.count;
      pairs = c.self.inside.pairs.items;
    } in
    let inside : RemembersData ls m = subst (RemembersData ls) (sym c.self.view_is) is in
    let reads : ReadsNow ls m.seen c.in_ok-data.data =
    remembered_data ls m c.in_ok-data.data c.deref.result.now c.deref.ensures.value inside
    c.in_ok-data.ensures.set
    c.in_ok-data.ensures.pairs in
    let now : ReadsNow (ls ++ c.args.records.items) c.in_ok-reading.reading.seen
    c.in_ok-reading.reading.data =
    c.in_ok-reading.ensures.ok ls reads in
    let decided : KnowDecided (ls ++ c.args.records.items) c.in_ok-decisions.decisions =
    subst (λ ks. KnowDecided (ls ++ ks) c.in_ok-decisions.decisions) c.deref-2.ensures.value
    (c.in_ok-decisions.ensures {u = tt} ls inside.decided) in
    record {
      seen = c.in_ok-reading.reading.seen;
      read = now.read;
      boots = c.boot-boot.ensures;
      in_doubt = c.in_ok-held.ensures.left;
      stored = now.stored;
      counted = now.counted;
      promises = c.in_ok-held.ensures.held.promises;
      locks_held = c.in_ok-held.ensures.held.locks_held;
      decided = know_copied (ls ++ c.args.records.items) c.in_ok-decisions.decisions c.in_ok-given.given
          (c.in_ok-given.ensures {u = tt}) decided;
    }

pub returns-clause-remembers : goal.returns-clause-remembers
returns-clause-remembers c = λ ls is.
    let m : LogMemory = record {
      seen = c.self.inside.seen;
      decisions = c.self.inside.decisions;
      count = c.self.inside.count;
      pairs = c.self.inside.pairs.items;
    } in
    let inside : RemembersData ls m = subst (RemembersData ls) (sym c.self.view_is) is in
    let reads : ReadsNow ls m.seen c.in_ok-data.data =
    remembered_data ls m c.in_ok-data.data c.deref.result.now c.deref.ensures.value inside
    c.in_ok-data.ensures.set
    c.in_ok-data.ensures.pairs in
    let now : ReadsNow (ls ++ c.args.records.items) c.in_ok-reading.reading.seen
    c.in_ok-reading.reading.data =
    c.in_ok-reading.ensures.ok ls reads in
    let decided : KnowDecided (ls ++ c.args.records.items) c.in_ok-decisions.decisions =
    subst (λ ks. KnowDecided (ls ++ ks) c.in_ok-decisions.decisions) c.deref-2.ensures.value
    (c.in_ok-decisions.ensures {u = tt} ls inside.decided) in
    remembers_read (ls ++ c.args.records.items) c.in_ok-reading.reading.seen
    c.in_ok-reading.reading.data _ now refl
    decided c.count-count.ensures (c.in_ok-pairs.ensures {u = tt})

pub returns-in_err-data-clause-err : goal.returns-in_err-data-clause-err
returns-in_err-data-clause-err c =
    passed_on c.from_residual.result Memory
    (λ e. (ls : List LogRecord) → RemembersData ls c.args.self → ReplayFails (ls ++ c.args.records.items) e)
    c.from_residual.ensures.1 (λ ls is. tt)

pub returns-in_err-decisions-clause-err : goal.returns-in_err-decisions-clause-err
returns-in_err-decisions-clause-err c =
    passed_on c.from_residual-in_err-decisions.result Memory
    (λ e. (ls : List LogRecord) → RemembersData ls c.args.self → ReplayFails (ls ++ c.args.records.items) e)
    c.from_residual-in_err-decisions.ensures.1 (λ ls is. tt)

pub returns-in_err-given-clause-err : goal.returns-in_err-given-clause-err
returns-in_err-given-clause-err c =
    passed_on c.from_residual-in_err-given.result Memory
    (λ e. (ls : List LogRecord) → RemembersData ls c.args.self → ReplayFails (ls ++ c.args.records.items) e)
    c.from_residual-in_err-given.ensures.1 (λ ls is. tt)

pub returns-in_err-pairs-clause-err : goal.returns-in_err-pairs-clause-err
returns-in_err-pairs-clause-err c =
    passed_on c.from_residual-in_err-pairs.result Memory
    (λ e. (ls : List LogRecord) → RemembersData ls c.args.self → ReplayFails (ls ++ c.args.records.items) e)
    c.from_residual-in_err-pairs.ensures.1 (λ ls is. tt)

pub returns-in_err-reading-clause-err : goal.returns-in_err-reading-clause-err
returns-in_err-reading-clause-err c =
    let m : LogMemory = record {
      seen = c.self.inside.seen;
      decisions = c.self.inside.decisions;
      count = c.self.inside.count;
      pairs = c.self.inside.pairs.items;
    } in
    passed_on c.from_residual-in_err-reading.result c.in_err-reading.field-0.0
    (λ e. (ls : List LogRecord) → RemembersData ls c.args.self → ReplayFails (ls ++ c.args.records.items) e)
    c.from_residual-in_err-reading.ensures.1
    (λ ls is. c.in_err-reading.ensures.err ls
    (remembered_data ls m c.in_ok-data.data c.deref.result.now c.deref.ensures.value
    (subst (RemembersData ls) (sym c.self.view_is) is) c.in_ok-data.ensures.set c.in_ok-data.ensures.pairs))

pub returns-in_err-held-clause-err : goal.returns-in_err-held-clause-err
returns-in_err-held-clause-err c =
    let m : LogMemory = record {
      seen = c.self.inside.seen;
      decisions = c.self.inside.decisions;
      count = c.self.inside.count;
      pairs = c.self.inside.pairs.items;
    } in
    passed_on c.from_residual-in_err-held.result c.in_err-held.field-0.0
    (λ e. (ls : List LogRecord) → RemembersData ls c.args.self → ReplayFails (ls ++ c.args.records.items) e)
    c.from_residual-in_err-held.ensures.1
    (λ ls is. restore_fails (ls ++ c.args.records.items) c.in_ok-reading.reading.seen
    (c.in_ok-reading.ensures.ok ls
    (remembered_data ls m c.in_ok-data.data c.deref.result.now c.deref.ensures.value
    (subst (RemembersData ls) (sym c.self.view_is) is) c.in_ok-data.ensures.set
    c.in_ok-data.ensures.pairs)).read
    c.in_err-held.field-0.0 c.in_err-held.ensures.err)
