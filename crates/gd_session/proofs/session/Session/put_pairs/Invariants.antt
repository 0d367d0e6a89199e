use Rattle.std.proofs.Common.{◌≡◌, ◌+◌, ◌-◌, ◌*◌, ◌≤◌, ℕ, false, None, Some}
use Rattle.gd_vault.specs.Content.{Content}
use Rattle.gd_vault.specs.Frame.{Within}
use Rattle.gd_vault.specs.Views.{content_of}
use Rattle.gd_session.specs.Calls.{AnyFile, AnyName, IsReady, is_fresh}
use Rattle.gd_session.specs.Due.{phase_due, write_due}
use Rattle.gd_session.specs.Filling.{SoFar}
use Rattle.gd_session.specs.State.{seen}
use Rattle.gd_session.proofs.session.Session.put_pairs.Given as goal

-- what comes behind the pairs that were stored makes the steps over all, and their counts those of all
abbrev pub invariant-pairs : goal.invariant-pairs
invariant-pairs g l =
    let before = g.V.Vault.view_of l.fn.vault in
    let view = g.V.Vault.view_of l.vault in
    record {
      ready : IsReady view l.self;
      opened : is_fresh l.self.phase ≡ false;
      calm : phase_due write_due (seen l.self).phase ≡ None;
      grows : Within AnyFile AnyName before view;
      so_far : (clock out : ℕ) (c : Content) → content_of before.told ≡ Some c → SoFar l.start l.count l.x (l.count - l._i) l.counts l.fn.self l.self before view clock out c;
      few : l.counts.added + l.counts.replaced ≡ l._i;
      bytes : l.counts.bytes ≤ 128 * l._i;
      answered : view.faults ≡ before.faults;
    }
