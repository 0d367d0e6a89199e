use Rattle.std.proofs.Common.{◌≡◌, ◌+◌, ℕ, List, length, sym, ap, subst, ◌∙◌, arith}
use Rattle.gd_format.specs.declared.Header.{Header}
use Rattle.gd_format.specs.declared.Slot.{Slot}
use Rattle.gd_vault.specs.Effects.{written}
use Rattle.gd_vault.proofs.Writes.{writes_trans}
use Rattle.gd_open.specs.Open.{OpenParts}
use Rattle.gd_open.specs.Spells.{SpellsBucket, SpellsHeader}
use Rattle.gd_open.proofs.Files.{becomes_for, writes_for}
use Rattle.gd_update.proofs.Files.{told_first}
use Rattle.gd_update.proofs.last.finish.Goals as goal

pub write_bucket-requires-clause-place : goal.write_bucket-requires-clause-place
write_bucket-requires-clause-place g c = λ k told x there.
    let old = told_first (g.V.Vault.view_of c.args.vault.now) (g.V.Vault.view_of c.give_back.new.vault) k c.in_ok-give_back.ensures.frame.within told in
    let file = c.requires.file old.0 old.1 in
    let low = c.requires.place old.0 old.1 file.0 file.1 in
    omega (arith, low)

pub write_bucket-requires-clause-elems : goal.write_bucket-requires-clause-elems
write_bucket-requires-clause-elems g c = ap (λ (xs : List Slot). length xs) c.in_ok-give_back.ensures.slots ∙ c.requires.elems ∙ sym (ap (λ (h : Header). h.elems) c.in_ok-give_back.ensures.header)

pub returns-clause-done : goal.returns-clause-done
returns-clause-done g c = λ k x blocks told there side may.
    let a = c.in_ok-give_back.ensures.back k x blocks told there side may in
    let one = c.in_ok-give_back.ensures.id in
    let two = ap (λ (p : OpenParts). p.id) c.in_ok-write_bucket.ensures.same ∙ one in
    let w = becomes_for (g.V.Vault.view_of c.give_back.new.vault) (g.V.Vault.view_of c.write_bucket.new.vault) (λ xs ys. ys ≡ written xs c.args.at c.write_bucket.new.self.block) one c.in_ok-write_bucket.ensures.becomes a.content a.file a.told a.there in
    let v = becomes_for (g.V.Vault.view_of c.write_bucket.new.vault) (g.V.Vault.view_of c.write_header.new.vault) (λ xs ys. ys ≡ written xs 0 c.write_header.new.self.block) two c.in_ok-write_header.ensures.becomes w.content w.file w.told w.there in
    let h1 = ap (λ (p : OpenParts). p.header) c.in_ok-write_bucket.ensures.same in
    let h2 : c.write_header.new.self.header ≡ c.give_back.new.file.header = ap (λ (p : OpenParts). p.header) c.in_ok-write_header.ensures.same ∙ h1 in
    let t1 = ap (λ (p : OpenParts). p.table) c.in_ok-write_bucket.ensures.same in
    let t2 : c.write_header.new.self.table ≡ c.give_back.new.file.table = ap (λ (p : OpenParts). p.table) c.in_ok-write_header.ensures.same ∙ t1 in
    let same = ap (λ (xs : List Slot). length xs) c.in_ok-give_back.ensures.slots in
    let elems : length c.give_back.new.bucket.slots ≡ c.write_header.new.self.header.elems = same ∙ c.requires.elems ∙ sym (ap (λ (h : Header). h.elems) c.in_ok-give_back.ensures.header) ∙ sym (ap (λ (h : Header). h.elems) h2) in
    let spells : SpellsHeader c.write_header.new.self.header c.write_header.new.self.table c.write_header.new.self.block =
    subst (λ (p : OpenParts). SpellsHeader p.header p.table c.write_header.new.self.block) (sym c.in_ok-write_header.ensures.same) c.in_ok-write_header.ensures.spells in
    record {
      content = v.content;
      file = v.file;
      mid = a.file.bytes;
      blocks = a.blocks;
      told = v.told;
      there = v.there;
      back = rw (h2, t2) a.back;
      last = record {
        block = c.write_bucket.new.self.block;
        front = c.write_header.new.self.block;
        is = v.holds ∙ ap (λ (z : List ℕ). written z 0 c.write_header.new.self.block) w.holds;
        block_size = c.in_ok-write_bucket.ensures.fit.block_size ∙ sym (ap (λ (p : OpenParts). p.header.block) c.in_ok-write_header.ensures.same);
        front_size = c.in_ok-write_header.ensures.fit.block_size;
        bucket_is = subst (λ (n : ℕ). SpellsBucket c.give_back.new.bucket n c.write_bucket.new.self.block) elems c.in_ok-write_bucket.ensures.spells;
        header_is = spells;
      };
    }

pub returns-in_err-write_bucket-clause-frame : goal.returns-in_err-write_bucket-clause-frame
returns-in_err-write_bucket-clause-frame g c = writes_trans c.give_back.ensures.frame (writes_for c.give_back.ensures.id c.write_bucket.ensures.frame)

pub returns-in_err-write_header-clause-frame : goal.returns-in_err-write_header-clause-frame
returns-in_err-write_header-clause-frame g c =
    let two = ap (λ (p : OpenParts). p.id) c.write_bucket.ensures.same ∙ c.give_back.ensures.id in
    writes_trans (writes_trans c.give_back.ensures.frame (writes_for c.give_back.ensures.id c.write_bucket.ensures.frame)) (writes_for two c.write_header.ensures.frame)

pub returns-clause-frame : goal.returns-clause-frame
returns-clause-frame g c =
    let two = ap (λ (p : OpenParts). p.id) c.write_bucket.ensures.same ∙ c.give_back.ensures.id in
    writes_trans (writes_trans c.give_back.ensures.frame (writes_for c.give_back.ensures.id c.write_bucket.ensures.frame)) (writes_for two c.write_header.ensures.frame)
