use Rattle.std.proofs.Common.{◌≡◌, ◌-◌, ◌≤◌, ℕ, List, length, replicate, ap, ◌∙◌, arith, length-drop}
use Rattle.std.proofs.lemmas.List.{take_rest}
use Rattle.gd_format.specs.Sound.{place_of}
use Rattle.gd_layout.proofs.PutHeaders.{header_reads, no_fault, table_is, is_written, front_is, beyond_is}
use Rattle.gd_layout.proofs.front.Layout+8+0.write_header.Goals as goal

pub returns : goal.returns
returns c =
    let place = c.place_of_table-place.ensures.is in
    let room = c.requires.room in
    let at_most : place_of c.args.header.now ≤ c.args.header.now.block = omega (arith, room) in
    let size : length c.put_words.new.block ≡ c.args.header.now.block = c.put_words.auto.block ∙ c.put_fields.auto.block ∙ c.fill.ensures.len ∙ c.requires.block in
    let long : length c.write_avail.new.into ≡ c.args.header.now.block - place_of c.args.header.now =
    rw place at (c.write_avail.auto.into ∙ ap (λ (xs : List ℕ). length xs) (take_rest c.put_words.new.block c.place_of_table-place.result) ∙ length-drop c.place_of_table-place.result c.put_words.new.block ∙ ap (λ (n : ℕ). n - c.place_of_table-place.result) size) in
    let zeros : c.fill.new.self ≡ replicate {A = ℕ} c.args.header.now.block 0 = c.fill.ensures.after (λ y e. e) ∙ ap (λ (n : ℕ). replicate n 0) c.requires.block in
    let written =
    is_written c.put_fields.new.block c.put_words.new.block c.write_avail.new.into c.args.header.now c.args.avail.now c.put_fields.ensures.reads c.put_words.ensures.reads c.put_words.ensures.front size long at_most c.write_avail.ensures.head in
    let front =
    front_is c.put_fields.new.block c.put_words.new.block c.write_avail.new.into c.args.header.now c.args.avail.now c.put_fields.ensures.reads c.put_words.ensures.reads c.put_words.ensures.front size long at_most c.write_avail.ensures.head c.requires.least in
    let table =
    table_is c.put_fields.new.block c.put_words.new.block c.write_avail.new.into c.args.header.now c.args.avail.now c.put_fields.ensures.reads c.put_words.ensures.reads c.put_words.ensures.front size long at_most c.write_avail.ensures.head in
    let after = rw place at c.write_avail.ensures.beyond in
    rw place
    (record {
      reads = header_reads _ c.args.header.now written c.requires.fits;
      front = header_reads _ c.args.header.now front c.requires.fits;
      fault = no_fault _ c.args.header.now front;
      head = rw table c.write_avail.ensures.head;
      table = rw table c.write_avail.ensures.reads;
      right = rw table c.write_avail.ensures.right;
      padding = rw table c.write_avail.ensures.padding;
      beyond =
          beyond_is c.put_fields.new.block c.put_words.new.block c.write_avail.new.into c.args.header.now c.args.avail.now c.put_fields.ensures.reads c.put_words.ensures.reads c.put_words.ensures.front size long at_most c.write_avail.ensures.head c.fill.new.self _ room after c.put_words.ensures.back c.put_fields.ensures.back zeros;
    })
