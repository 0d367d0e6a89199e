use Rattle.std.proofs.Common.{refl}
use Rattle.byteorder.specs.Endian.{little_bytes}
use Rattle.byteorder.specs.Numbers.{length-bytes_low_first}
use Rattle.gd_create.proofs.Begins.{put_begun}
use Rattle.gd_create.proofs.puts.put_u32.Goals as goal

pub returns : goal.returns
returns c = λ front b. put_begun front (little_bytes 4 c.args.n) c.args.block.now c.write_u32.new.buf c.args.at 4 _ c.requires refl (length-bytes_low_first 0 4 c.args.n) c.write_u32.ensures b
