use Rattle.std.proofs.Common.{IsTrue}
use Rattle.gd_store.proofs.Frames.{fits_still}
use Rattle.gd_store.proofs.laws.fits_stays.Goals as goal

pub returns : goal.returns
returns c = λ mine named u v s other frame has fits. fits_still (λ f. IsTrue (mine f)) (λ n. IsTrue (named n)) u v s other frame has fits
