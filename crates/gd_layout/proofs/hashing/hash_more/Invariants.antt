use Rattle.std.proofs.Common.{◌≡◌, ◌+◌, ◌*◌, ◌%◌, ◌^◌, ◌<◌, drop}
use Rattle.gd_format.specs.Hash.{mixed_all}
use Rattle.gd_layout.proofs.hashing.hash_more.Given as goal

abbrev pub invariant-loop-byte : goal.invariant-loop-byte
invariant-loop-byte l = record {
  fits : l.all < 2 ^ 32;
  shift : l.shift ≡ 5 * (l.place + l.byte-index) % 24;
  same : mixed_all (l.place + l.byte-index) l.all (drop l.byte-index l.bytes) ≡ mixed_all l.place l.v l.bytes;
}
