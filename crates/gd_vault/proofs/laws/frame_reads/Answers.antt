use Rattle.std.proofs.Common.{IsTrue}
use Rattle.gd_vault.proofs.FrameLeft.{frame_reads}
use Rattle.gd_vault.proofs.laws.frame_reads.Goals as goal

pub returns : goal.returns
returns c = λ mine named. frame_reads (λ f. IsTrue (mine f)) (λ n. IsTrue (named n))
