use Rattle.std.proofs.Common.{◌≡◌, ◌∙◌, ◌+◌, ◌*◌, ◌≤◌, length, refl, sym, ap, arith}
use Rattle.gd_vault.proofs.Within.{within_refl, within_trans}
use Rattle.gd_session.specs.Texts.{fill_pair, next_x, tally}
use Rattle.gd_session.specs.declared.counts.Counts.{Counts}
use Rattle.gd_session.proofs.Fillings.{adds_at, calm_db, calm_has, ended_so_far, fill_content, fill_key, first_so_far, later_caused, next_so_far, stopped_so_far, tally_bytes, tally_few}
use Rattle.gd_session.proofs.Counting.{counts_from}
use Rattle.gd_session.proofs.session.Session.put_pairs.Goals as goal

pub pairs-init : goal.pairs-init
pairs-init g c =
    let u = g.V.Vault.view_of c.args.vault.now in
    let calm = calm_db c.args.self.now.phase c.requires.opened c.requires.calm in
    record {
      ready = c.requires.ready;
      opened = c.requires.opened;
      calm = c.requires.calm;
      grows = within_refl u;
      so_far = λ clock out d told. first_so_far c.args.start c.args.count c.args.self.now u calm (calm_has u c.args.self.now calm c.requires.ready) clock out d told;
      few = refl;
      bytes = omega arith;
      answered = refl;
    }

pub returns-in-Err-clause-grows : goal.returns-in-Err-clause-grows
returns-in-Err-clause-grows g c = within_trans c.pairs.invariant.grows c.put_pair.ensures.grows

pub returns-in-Err-clause-filled : goal.returns-in-Err-clause-filled
returns-in-Err-clause-filled g c = λ clock out d told.
    let key = fill_key c.pairs.x c.next_number-x.result c.as_slice.result.now c.next_number-x.ensures (c.as_slice.ensures.value ∙ c.number_key-key.ensures) in
    let content = fill_content c.pairs.x c.next_number-x.result c.as_slice-in-pairs.result.now c.next_number-x.ensures (c.as_slice-in-pairs.ensures.value ∙ c.number_content-content.ensures) in
    stopped_so_far c.args.start c.args.count c.pairs.x c.pairs._i c.pairs.counts c.args.self.now c.pairs.self c.put_pair.new.self _ _ _ c.in-Err.reply c.pairs-test.true c.put_pair.ensures.grows.faults
    (adds_at (fill_pair (next_x c.pairs.x)) _ _ c.pairs.self c.put_pair.new.self _ _ _ key content c.in-Err.ensures.adds) clock out d (c.pairs.invariant.so_far clock out d told)

pub returns-in-Err-clause-cause : goal.returns-in-Err-clause-cause
returns-in-Err-clause-cause g c = later_caused c.args.self.now c.pairs.self c.put_pair.new.self _ _ _ c.in-Err.reply c.pairs.invariant.grows.faults c.in-Err.ensures.cause

pub pairs-preserved : goal.pairs-preserved
pairs-preserved g c =
    let old = c.pairs.invariant in
    let key = fill_key c.pairs.x c.next_number-x.result c.as_slice.result.now c.next_number-x.ensures (c.as_slice.ensures.value ∙ c.number_key-key.ensures) in
    let content = fill_content c.pairs.x c.next_number-x.result c.as_slice-in-pairs.result.now c.next_number-x.ensures (c.as_slice-in-pairs.ensures.value ∙ c.number_content-content.ensures) in
    let size = c.len.result + c.len-in-Ok.result in
    let size_is : size ≡ length (fill_pair (next_x c.pairs.x)).0 + length (fill_pair (next_x c.pairs.x)).1 =
    ap (λ n. n + c.len-in-Ok.result) (c.len.ensures.value ∙ (ap length (sym c.as_slice.ensures.value) ∙ ap length key))
    ∙ ap (λ n. length (fill_pair (next_x c.pairs.x)).0 + n) (c.len-in-Ok.ensures.value ∙ (ap length (sym c.as_slice-in-pairs.ensures.value) ∙ ap length content)) in
    let counts : c.add.new.self ≡ tally c.in-Ok.replaced size c.pairs.counts = c.add.ensures in
    let few = ap (λ (n : Counts). n.added + n.replaced) counts ∙ tally_few c.in-Ok.replaced size c.pairs.counts in
    let bytes = ap (λ (n : Counts). n.bytes) counts ∙ tally_bytes c.in-Ok.replaced size c.pairs.counts in
    record {
      ready = c.put_pair.ensures.ready;
      opened = c.put_pair.ensures.opened;
      calm = c.in-Ok.ensures.calm;
      grows = within_trans old.grows c.put_pair.ensures.grows;
      so_far = λ clock out d told.
          next_so_far c.args.start c.args.count c.pairs.x c.pairs._i c.next_number-x.result size c.pairs.counts c.add.new.self c.args.self.now c.pairs.self c.put_pair.new.self _ _ _ c.in-Ok.replaced c.pairs-test.true c.next_number-x.ensures c.put_pair.ensures.grows.faults
          (adds_at (fill_pair (next_x c.pairs.x)) _ _ c.pairs.self c.put_pair.new.self _ _ _ key content c.in-Ok.ensures.adds) size_is counts clock out d (old.so_far clock out d told);
      few = few ∙ ap (λ n. n + 1) old.few;
      bytes = omega (arith, bytes, old.bytes, c.len.ensures.fits, c.len-in-Ok.ensures.fits);
      answered = c.in-Ok.ensures.answered ∙ old.answered;
    }

pub returns-clause-filled : goal.returns-clause-filled
returns-clause-filled g c = λ clock out d told.
    ended_so_far c.args.start c.args.count c.pairs.x c.pairs._i c.pairs.counts c.args.self.now c.pairs.self _ _ c.pairs-test.false clock out d (c.pairs.invariant.so_far clock out d told)

pub returns-clause-grows : goal.returns-clause-grows
returns-clause-grows g c = c.pairs.invariant.grows

pub returns-in-Err-clause-counted : goal.returns-in-Err-clause-counted
returns-in-Err-clause-counted g c = counts_from c.in-Err.reply _ _ _ c.pairs.invariant.answered c.in-Err.ensures.counted

pub returns-clause-answered : goal.returns-clause-answered
returns-clause-answered g c = c.pairs.invariant.answered
