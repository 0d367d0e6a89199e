-- What a header that no test refuses says of sizes.
use Rattle.std.proofs.Common.{ℕ, ◌-◌, ◌/◌, ◌^◌, ◌≤◌, ◌&&◌, arith}
use Rattle.std.specs.Prelude.{nat_le}
use Rattle.std.specs.Int.{is_power_of_two}
use Rattle.std.proofs.lemmas.Bool.{leb-true}
use Rattle.gd_format.specs.declared.Header.{Header}
use Rattle.gd_format.specs.HeaderFault.{is_block_size, table_room}
use Rattle.gd_format.specs.Headers.{IsHeader}
use Rattle.gd_format.specs.Sound.{most_of}
use Rattle.gd_format.proofs.Firsts.{and-true}

pub record Bounds (h : Header) : Type 0 where
  pub least : 512 ≤ h.block
  pub most : h.block ≤ 1048576
  pub capacity : h.avail_size ≤ most_of h
  pub two : 2 ≤ h.avail_size
  pub next : h.next_block ≤ 2 ^ 46
  pub room : table_room h.magic h.block ≤ most_of h

pub room-most : (magic block : ℕ) → table_room magic block ≤ (block - 56) / 16
room-most magic block = grind arith

pub bounds : (h : Header) → IsHeader h → Bounds h
unfolding is_block_size
bounds h is =
    let both = and-true (nat_le 512 h.block && nat_le h.block 1048576) (is_power_of_two h.block) is.block in
    let size = and-true (nat_le 512 h.block) (nat_le h.block 1048576) both.0 in
    let room = room-most h.magic h.block in
    let most = is.most in
    record {
      least = leb-true 512 h.block size.0;
      most = leb-true h.block 1048576 size.1;
      capacity = omega (arith, room, most);
      two = is.least;
      next = is.next_block;
      room = room;
    }
