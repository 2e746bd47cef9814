use Rattle.std.proofs.Common.{◌∙◌, sym, ap, length}
use Rattle.log_file.proofs.store.FileStore.close.Goals as goal

pub returns-in-Some-clause-file : goal.returns-in-Some-clause-file
returns-in-Some-clause-file g c =
    let empty = c.in-Some.ensures.written in
    record {
      mid = c.force.new.self;
      forced = c.in_ok-force.ensures.file;
      all = c.in_ok-force.ensures.ok.all ∙ ap length (sym c.in_ok-force.ensures.ok.text);
      empty = record {
        mid = empty.mid;
        written = empty.written;
        synced = empty.synced;
        behind_it = empty.behind_it;
      };
      number = c.in-Some.ensures.rest.number;
    }
