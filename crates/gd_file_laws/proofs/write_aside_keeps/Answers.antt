use Rattle.gd_file_laws.proofs.Frame.{write_still, values_still}
use Rattle.gd_file_laws.proofs.write_aside_keeps.Goals as goal

pub returns : goal.returns
returns c =
    record {
      part = λ file h i at bs dir_in parts li. write_still file h i at bs parts li dir_in;
      values = λ file h i at bs parts li. values_still file h i at bs parts li;
    }
