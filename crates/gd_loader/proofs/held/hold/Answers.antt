use Rattle.std.proofs.Common.{◌∙◌, ap, sym, subst, Bool, Ok}
use Rattle.gd_vault.specs.Views.{content_of}
use Rattle.gd_loader.specs.Held.{ReadsOn}
use Rattle.gd_loader.proofs.Fronts.{asks_on}
use Rattle.gd_loader.proofs.held.hold.Goals as goal

pub loop-bytes-preserved : goal.loop-bytes-preserved
loop-bytes-preserved g c =
    let old = c.loop-bytes.invariant in
    let read = c.in_ok-read_on.ensures in
    let told_now = read.asks.told ∙ old.asks.told in
    record {
      there = λ d told. c.requires d (sym (ap content_of told_now) ∙ told);
      asks = asks_on _ _ _ old.asks read.asks;
      faults = read.answered ∙ old.faults;
      few = read.few;
      front =
          λ d told x is.
          subst (λ (more : Bool). ReadsOn (Ok more) c.read_on.new.bytes.items x.bytes) c.if-branch.true
          (read.reads d (ap content_of old.asks.told ∙ told) x is (old.front d told x is));
    }

pub returns-clause-holds : goal.returns-clause-holds
returns-clause-holds g c =
    λ d told x is.
    let old = c.loop-bytes.invariant in
    subst (λ (more : Bool). ReadsOn (Ok more) c.read_on.new.bytes.items x.bytes) c.if-branch.false
    (c.in_ok-read_on.ensures.reads d (ap content_of old.asks.told ∙ told) x is (old.front d told x is))
