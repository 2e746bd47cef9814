use Rattle.log_script.proofs.spelling.Written.{written_is_read}
use Rattle.log_script.proofs.spelling.Read.{read_can_be_written}
use Rattle.log_script.proofs.spelling.OneWay.{read_has_no_fault, read_in_one_way}
use Rattle.log_script.proofs.spelling.law.logs_are_read_back.Goals as goal

pub returns : goal.returns
returns c =
    record {
      written_is_read = written_is_read;
      read_can_be_written = read_can_be_written;
      read_in_one_way = read_in_one_way;
      read_has_no_fault = read_has_no_fault;
    }
