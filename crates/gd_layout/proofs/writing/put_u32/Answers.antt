use Rattle.std.proofs.Common.{◌-◌, ◌≤◌, length, take, drop, refl, ap, arith}
use Rattle.byteorder.specs.Endian.{little_bytes}
use Rattle.byteorder.specs.Numbers.{length-bytes_low_first}
use Rattle.gd_layout.proofs.Pieces.{put_4, put-back}
use Rattle.gd_layout.proofs.writing.put_u32.Goals as goal

pub returns-clause-reads : goal.returns-clause-reads
returns-clause-reads c =
    let xs = c.args.block.now in
    let at = c.args.at in
    let buf = c.write_u32.new.buf in
    let long : 4 ≤ length c.write_u32.new.buf = omega (arith, ap length c.write_u32.ensures) in
    put_4 c.args.at _ c.args.n c.args.block.now c.write_u32.new.buf (drop 4 (take (length c.args.block.now - c.args.at) (drop c.args.at c.args.block.now))) (omega arith) long c.write_u32.ensures (omega arith)

pub returns-clause-back : goal.returns-clause-back
returns-clause-back c = put-back c.args.at _ 4 c.args.block.now c.write_u32.new.buf (little_bytes 4 c.args.n) (omega arith) refl (length-bytes_low_first 0 4 c.args.n) c.write_u32.ensures
