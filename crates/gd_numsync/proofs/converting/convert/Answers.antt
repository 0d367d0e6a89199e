use Rattle.std.proofs.Common.{◌≤◌, ℕ, sym, subst}
use Rattle.gd_format.specs.Avail.{Avail}
use Rattle.gd_space.specs.Effect.{recut_loses}
use Rattle.gd_space.proofs.Fits.{bounds}
use Rattle.gd_vault.specs.Content.{File}
use Rattle.gd_vault.proofs.OneFile.{same_file}
use Rattle.gd_numsync.specs.Converted.{room_in}
use Rattle.gd_numsync.specs.Numbered.{IsKept}
use Rattle.gd_numsync.specs.Open.{IsOpenOn}
use Rattle.gd_numsync.specs.Recut.{IsRecut}
use Rattle.gd_numsync.proofs.Files.{told_before}
use Rattle.gd_numsync.proofs.Shrunk.{recut_none, recut_then}
use Rattle.gd_numsync.proofs.Turned.{room_least}
use Rattle.gd_numsync.proofs.converting.convert.Goals as goal

pub room_in-capacity-requires : goal.room_in-capacity-requires
room_in-capacity-requires g c = (bounds c.args.header.now c.requires.fit.header).least

pub make_fit-requires-clause-least : goal.make_fit-requires-clause-least
make_fit-requires-clause-least g c = subst (λ (n : ℕ). 2 ≤ n) (sym c.room_in-capacity.ensures) (room_least c.args.wanted c.args.header.now (bounds c.args.header.now c.requires.fit.header).least)

pub turn-requires-clause-open : goal.turn-requires-clause-open
turn-requires-clause-open g c = λ k y told there.
    let b = told_before (g.V.Vault.view_of c.args.vault.now) (g.V.Vault.view_of c.make_fit.new.vault) c.in-Ok.ensures.frame c.requires.file k told in
    let t = c.in-Ok.ensures.recut b.0 b.1 b.2 b.3 in
    let same = same_file (g.V.Vault.view_of c.make_fit.new.vault) c.args.f.0 t.content k t.file y t.told told t.there there in
    subst (λ (a : Avail). IsOpenOn c.make_fit.new.header a y.bytes) (sym c.table.ensures) (subst (λ (z : File). IsOpenOn c.make_fit.new.header c.make_fit.new.space.table z.bytes) same t.holds.is_open)

pub returns-then-eq-clause-converted : goal.returns-then-eq-clause-converted
returns-then-eq-clause-converted g c = λ k x told there.
    record {
      content = k;
      file = x;
      told = told;
      there = there;
      holds = recut_none x.bytes c.args.header.now c.args.space.now.table (recut_loses (room_in c.args.wanted c.args.header.now) c.args.header.now c.args.space.now.table.extents) (c.requires.open k x told there);
    }

pub returns-in-Ok-turn-clause-converted : goal.returns-in-Ok-turn-clause-converted
returns-in-Ok-turn-clause-converted g c = λ k x told there.
    let t = c.in-Ok.ensures.recut k x told there in
    let u = c.in-Ok-turn.ensures.kept t.content t.file t.told t.there in
    record {
      content = u.content;
      file = u.file;
      told = u.told;
      there = u.there;
      holds =
          subst (λ (n : ℕ). IsRecut c.turn.new.header c.make_fit.new.space.table (recut_loses n c.args.header.now c.args.space.now.table.extents) x.bytes u.file.bytes) c.room_in-capacity.ensures
          (recut_then x.bytes t.file.bytes u.file.bytes c.make_fit.new.header c.turn.new.header c.make_fit.new.space.table c.make_fit.new.space.table (recut_loses c.room_in-capacity.result c.args.header.now c.args.space.now.table.extents) t.holds
          (subst (λ (a : Avail). IsKept c.turn.new.header a t.file.bytes u.file.bytes) c.table.ensures u.holds));
    }
