use Rattle.std.proofs.Common.{IsTrue}
use Rattle.gd_vault.proofs.FrameLeft.{frame_images}
use Rattle.gd_vault.proofs.laws.frame_images.Goals as goal

pub returns : goal.returns
returns c = λ mine named. frame_images (λ f. IsTrue (mine f)) (λ n. IsTrue (named n))
